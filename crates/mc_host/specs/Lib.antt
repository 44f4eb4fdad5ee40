pub mod Clocks
pub mod Covers
pub mod Ends
pub mod Levels
pub mod Quits
pub mod Stacks

pub mod Indexes
pub mod Parts
pub mod Adding
pub mod Moving
pub mod Strays

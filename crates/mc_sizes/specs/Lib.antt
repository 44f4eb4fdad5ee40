pub mod Classes
pub mod Needs
pub mod Ranges

pub mod Asked
pub mod Flags

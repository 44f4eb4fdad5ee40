pub mod Death
pub mod Readings
pub mod Stored
pub mod Chains

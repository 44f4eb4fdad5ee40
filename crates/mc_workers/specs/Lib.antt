pub mod Tending
pub mod Room
pub mod Rounds
pub mod Came
pub mod Moments
pub mod Gone

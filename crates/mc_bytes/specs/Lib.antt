pub mod Queues
pub mod Sources
pub mod Parts

pub mod Connections
pub mod Worlds
pub mod Refusals
pub mod Sessions
pub mod Laws
pub mod Serving
pub mod Rounds

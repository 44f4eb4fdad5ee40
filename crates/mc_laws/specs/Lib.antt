pub mod Laws
pub mod Together

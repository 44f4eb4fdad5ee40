pub mod Items
pub mod Layout

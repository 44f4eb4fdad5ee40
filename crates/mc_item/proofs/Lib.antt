pub mod LayoutLemmas
pub mod RunLemmas
pub mod PartLemmas

pub mod Words
pub mod MoveLemmas
pub mod StrayLemmas
pub mod PartLemmas
pub mod CellLemmas
pub mod ChangeLemmas
pub mod IndexLemmas
pub mod OrderLemmas

pub mod ListLemmas
pub mod LinkLemmas
pub mod TableLemmas
pub mod ContentLemmas
pub mod LawLemmas

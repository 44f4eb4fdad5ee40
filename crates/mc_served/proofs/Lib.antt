pub mod GrownLemmas
pub mod SameLemmas
pub mod RunLemmas
pub mod ShortLemmas
pub mod EndLemmas

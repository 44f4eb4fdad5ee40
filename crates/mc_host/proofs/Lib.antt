pub mod CoverLemmas
pub mod EndLemmas

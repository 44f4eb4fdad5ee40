pub mod LabelLemmas
pub mod ListingLemmas
pub mod WordsLemmas
pub mod ScrapeLemmas

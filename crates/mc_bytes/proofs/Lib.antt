pub mod LentLemmas
mod MatchLemmas
mod PartLemmas

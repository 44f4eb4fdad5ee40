pub mod ClassLemmas
pub mod NeedLemmas
pub mod RangeLemmas

pub mod NumberLemmas
pub mod WordLemmas
pub mod ItemLemmas
pub mod LawLemmas
pub mod CountLemmas
pub mod PageLemmas
pub mod RefusalLemmas

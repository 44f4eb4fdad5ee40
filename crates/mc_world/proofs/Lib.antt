pub mod Words
pub mod ConnectionLemmas
pub mod EventLemmas
pub mod AnswerLemmas
pub mod WorldLemmas
pub mod TurnLemmas
pub mod ServeLemmas

mod NameLemmas
pub mod LineLemmas
pub mod LineWords
pub mod UnitLemmas
pub mod SearchLemmas
pub mod NoteLemmas
pub mod AheadLemmas
pub mod BeginLemmas
pub mod StreamLemmas
pub mod KeyLemmas
pub mod CursorLemmas
pub mod FeedLemmas
pub mod SourceLemmas
pub mod FoundLemmas
pub mod AnnouncingLemmas

pub mod CountLemmas
pub mod ItemLemmas
pub mod PlainLemmas
pub mod RoomLemmas
pub mod WriteLemmas

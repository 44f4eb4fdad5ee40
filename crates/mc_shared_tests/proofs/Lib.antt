pub mod LawUses

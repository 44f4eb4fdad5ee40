-- What a guest reads from a link. The other words of a link are those of `mc_links`.
use Rattle.std.specs.Prelude.{◌≡◌, ◌<◌, ◌≤◌, ℕ, true, List, [], length}
use Rattle.mc_session.specs.Exchanges.{longest_piece}
pub use Rattle.mc_links.specs.Links.{LinkState, asked, grown, gave, took, failed, ended, Gives, IsWrite, OffersFront, OffersFirst, TakesWithin, Pauses}
use Rattle.mc_guests.specs.declared.link_source.SourceAnswer.{SourceAnswer}
use Rattle.mc_guests.specs.declared.link_source.SourceAnswer.TheVariants.{Bytes as TappedBytes, Later as TappedNone, End as TappedEnd, Broken, NoRoom}

-- a read of a guest is lent room for 1 to `longest_piece` bytes
abbrev pub IsRoom : (bytes : ℕ) → Type 0
IsRoom bytes = (0 < bytes) × (bytes ≤ longest_piece)

-- what a read through a tap does, by the bytes that it gives: it was lent room, or wasn't asked
abbrev pub GivesPiece : LinkState → List ℕ → SourceAnswer → LinkState → Type 0
GivesPiece old piece (TappedBytes n) new =
    (n ≡ length piece) × (new ≡ gave (asked true new.requested old) piece) × IsRoom new.requested
GivesPiece old piece TappedNone new =
    (piece ≡ []) × (new ≡ asked true new.requested old) × IsRoom new.requested
GivesPiece old piece TappedEnd new =
    (piece ≡ []) × (new ≡ ended (asked true new.requested old)) × IsRoom new.requested
GivesPiece old piece Broken new =
    (piece ≡ []) × (new ≡ failed (asked true new.requested old)) × IsRoom new.requested
GivesPiece old piece NoRoom new = (piece ≡ []) × (new ≡ old)

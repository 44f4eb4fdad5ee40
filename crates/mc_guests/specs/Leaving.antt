-- Which links are let go: those of guests that have ended, and those that are refused at the door.
use Rattle.std.specs.Prelude.{◌≡◌, ℕ, List, [], ◌∷◌, ◌++◌, if◌then◌else◌}
use Rattle.mc_guests.specs.Links.{LinkState}
use Rattle.mc_guests.specs.Guests.{has_ended}
use Rattle.mc_guests.specs.Books.{BooksState, Settles, SettlesBefore}
use Rattle.mc_guests.specs.Admissions.{LetsIn}
use Rattle.mc_guests.specs.Arrivals.{is_first}
use Rattle.mc_time.specs.Chains.{Repeats, none_yet, one_more}
use Rattle.mc_guests.specs.declared.guests.WorkEnd.{WorkEnd}

-- the link of a guest that was settled, if the guest has ended
abbrev pub gone_at : {at : ℕ} {old new : BooksState} {before after : WorkEnd} → Settles at old new before after → List LinkState
gone_at settles = if has_ended settles.guest.guest.last then settles.guest.guest.link ∷ [] else []

-- the links of the guests that were settled and have ended, in order
abbrev pub all_gone : {count : ℕ} {old new : ℕ × BooksState × WorkEnd} → Repeats SettlesBefore count old new → List LinkState
all_gone none_yet = []
all_gone (one_more front one) = all_gone front ++ gone_at one.settles

-- the link that came, if it was refused
abbrev pub refused_of : {greatest number : ℕ} {old new : BooksState} {before after : WorkEnd} → LetsIn greatest number old new before after → List LinkState
refused_of lets = if is_first lets.either then [] else lets.link ∷ []

-- These links were let go in this order, and no other. A number stands before and behind each.
abbrev pub AreLetGo : (leaves : LinkState → (before after : ℕ) → Type 0) → List LinkState → (before after : ℕ) → Type 0
AreLetGo leaves [] before after = after ≡ before
AreLetGo leaves (link ∷ links) before after = (mid : ℕ) × leaves link before mid × AreLetGo leaves links mid after

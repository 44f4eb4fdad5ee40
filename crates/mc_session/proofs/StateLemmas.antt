-- A session as contracts see it, by its parts.
use Rattle.std.proofs.Common.{ℕ, List, Bool}
use Rattle.mc_parse.specs.Feeds.{Unread}
use Rattle.mc_session.specs.Turns.{SessionState}

-- the session with these parts
abbrev pub seen : Unread → (taken : ℕ) → (out : List ℕ) → (is_open : Bool) → SessionState
seen unread taken out is_open = record { unread = unread; taken = taken; out = out; is_open = is_open }

-- What a link leaves lingers at its place.
use Rattle.std.proofs.Common.{◌≡◌, ℕ, Result, Ok, Err, sym, subst}
use Rattle.std.specs.declared.alloc.AllocError.{AllocError}
use Rattle.mc_sockets.specs.Yards.{Stays}
use Rattle.mc_sockets.specs.declared.yard.Yard.{Yard}

-- what is kept as it is, after it was noted that it lingers
pub stays_left : {L : Type 0} (leaves : L → L → Type 0) (place : ℕ) (seen kept : L) (result : Result (Unit {0}) AllocError) (old new : Yard L)
    → leaves seen kept → Stays (λ a b. b ≡ a) place kept result old new → Stays leaves place seen result old new
stays_left leaves place seen kept (Ok done) old new noted stays = (stays.0, subst (leaves seen) (sym stays.1) noted, stays.2, stays.3)
stays_left leaves place seen kept (Err refused) old new noted stays = stays

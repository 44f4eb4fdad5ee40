-- The words of a text that are left behind its first.
use Rattle.std.proofs.Common.{◌≡◌, ap, ℕ, suc, ◌+◌, ◌-◌, ◌<◌, List, ◌∷◌, arith}
use Rattle.std.specs.Prelude.{slice_get}

-- behind the first, each stands one place sooner
pub one_sooner : {X : Type 0} (x : X) (xs : List X) (n m : ℕ) → m < n
    → slice_get (x ∷ xs) (n - m) ≡ slice_get xs (n - (m + 1))
one_sooner x xs n m within =
    let more : n - m ≡ suc (n - (m + 1)) = omega (arith, within) in
    ap (slice_get (x ∷ xs)) more

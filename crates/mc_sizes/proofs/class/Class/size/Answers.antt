use Rattle.std.proofs.Common.{◌≡◌, ℕ, ap}
use Rattle.mc_sizes.specs.Classes.{size_of}
use Rattle.mc_sizes.proofs.ClassLemmas.{chunk_sizes-is, size_of-least, size_of-most}
use Rattle.mc_sizes.proofs.class.Class.size.Goals as goal

pub returns-clause-value : goal.returns-clause-value
returns-clause-value c =
    let place : c.from.result ≡ c.args.self = cc in
    rw (← chunk_sizes-is) (ap (λ (n : ℕ). size_of n) place)

pub returns-clause-range : goal.returns-clause-range
returns-clause-range c =
    let place : c.from.result ≡ c.self.inside.number = cc in
    rw (← chunk_sizes-is, place) (size_of-least _ c.self.invariant, size_of-most _ c.self.invariant)

use Rattle.std.specs.Prelude.{nat_eq}
use Rattle.std.specs.HashMap.{get}
use Rattle.std.proofs.Common.{ℕ, arith}
use Rattle.mc_guests.proofs.PlaceLemmas.{tells_pushed}
use Rattle.mc_guests.proofs.numbers.NumberList.push.Goals as goal

pub invariant_of-self-then-is_ok : goal.invariant_of-self-then-is_ok
invariant_of-self-then-is_ok c =
    tells_pushed (λ (q : ℕ). get nat_eq c.self.inside.places q) (λ (q : ℕ). get nat_eq c.add_place.new.places q)
    c.self.inside.row.items c.push.new.self.items c.args.number c.len.result c.contains_key.result c.add_place.result c.is_ok.result
    c.contains_key.ensures (cc) (omega (arith, c.len.ensures, c.self.inside.row.ok.0)) c.add_place.ensures.noted (cc) (cc) (cc) c.self.invariant

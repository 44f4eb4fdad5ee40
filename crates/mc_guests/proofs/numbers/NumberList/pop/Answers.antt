use Rattle.std.specs.Prelude.{nat_eq}
use Rattle.std.specs.HashMap.{get}
use Rattle.std.proofs.Common.{ℕ, subst}
use Rattle.mc_guests.specs.Books.{TellsPlaces}
use Rattle.mc_guests.proofs.PlaceLemmas.{tells_cut}
use Rattle.mc_guests.proofs.numbers.NumberList.pop.Goals as goal

pub invariant_of-self-2 : goal.invariant_of-self-2
invariant_of-self-2 c =
    let before = λ (q : ℕ). get nat_eq c.self.inside.places q in
    tells_cut before (λ (q : ℕ). get nat_eq c.drop_place.new.places q) c.pop.new.self.items c.in-Some.number c.drop_place.ensures
    (subst (TellsPlaces before) c.in-Some.ensures.items c.self.invariant)

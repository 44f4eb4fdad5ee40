use Rattle.std.specs.Prelude.{nat_eq, swap}
use Rattle.std.specs.HashMap.{get}
use Rattle.std.proofs.Common.{ℕ, ◌<◌, List, length, refl, sym, ap, ◌∙◌, subst, arith}
use Rattle.std.proofs.lemmas.Option.{slice_get_read}
use Rattle.mc_guests.proofs.PlaceLemmas.{still_there, lent_back, tells_swapped}
use Rattle.mc_guests.proofs.numbers.NumberList.swap.Goals as goal

pub set_place-requires-2 : goal.set_place-requires-2
set_place-requires-2 c =
    let within : c.args.other < length c.self.inside.row.items = subst (λ (l : List ℕ). c.args.other < length l) (sym c.self.view_is) c.requires.other in
    still_there (λ (q : ℕ). get nat_eq c.self.inside.places q) (λ (q : ℕ). get nat_eq c.set_place.new.places q) c.self.inside.row.items
    c.index-first.result.now c.index-second.result.now c.args.other c.args.other c.set_place.ensures c.self.invariant
    (slice_get_read c.self.inside.row.items _ c.args.other c.index-second.result.now refl within c.index-second.ensures)

pub invariant_of-self : goal.invariant_of-self
invariant_of-self c =
    let first : c.args.one < length c.self.inside.row.items = subst (λ (l : List ℕ). c.args.one < length l) (sym c.self.view_is) c.requires.one in
    let second : c.args.other < length c.self.inside.row.items = subst (λ (l : List ℕ). c.args.other < length l) (sym c.self.view_is) c.requires.other in
    tells_swapped (λ (q : ℕ). get nat_eq c.self.inside.places q) (λ (q : ℕ). get nat_eq c.set_place.new.places q) (λ (q : ℕ). get nat_eq c.set_place-2.new.places q)
    c.self.inside.row.items _ c.args.one c.args.other c.index-first.result.now c.index-second.result.now c.requires.apart first second
    (slice_get_read c.self.inside.row.items _ c.args.one c.index-first.result.now refl first c.index-first.ensures)
    (slice_get_read c.self.inside.row.items _ c.args.other c.index-second.result.now refl second c.index-second.ensures)
    (lent_back c.self.inside.row.items c.swap.new.self c.self.inside.row.len (omega (arith, c.self.inside.row.ok.0)) (cc (c.swap.ensures.len, c.as_mut_slice.ensures.value))
    ∙ c.swap.ensures.after ∙ ap (λ (l : List ℕ). swap l c.args.one c.args.other) c.as_mut_slice.ensures.value) c.set_place.ensures c.set_place-2.ensures c.self.invariant

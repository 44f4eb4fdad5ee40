use Rattle.mc_grow.proofs.Words.{ap, length, ◌<◌, arith, StraysState, swapped}
use Rattle.mc_grow.proofs.OrderLemmas.{goes, hashes_less, many_hashes}
use Rattle.mc_grow.proofs.strays.Strays.try_in.Goals as goal

pub swap_remove-requires : goal.swap_remove-requires
swap_remove-requires g c =
    omega (arith, c.requires.inside, ap (λ (s : StraysState g.row.T.Denot). length s.items) c.self.view_is, c.self.inside.hashes.ok.0, many_hashes g.T.Keyed.hash_of g.T.Keyed.key_of c.self.invariant)

pub invariant_of-self : goal.invariant_of-self
invariant_of-self g c =
    let i = c.self.inside in
    let inside : c.args.at < length i.items.items = omega (arith, c.requires.inside, ap (λ (s : StraysState g.row.T.Denot). length s.items) c.self.view_is) in
    let swap = c.try_item-went.ensures.went c.if-went.true in
    record {
      hashes = hashes_less g.T.Keyed.hash_of g.T.Keyed.key_of c.self.invariant c.try_item-went.ensures.tried.entry inside swap
          (swapped i.hashes.ok.0 c.swap_remove.new.self.ok.0 c.swap_remove.ensures.len c.swap_remove.ensures.by_index);
      sorted = goes g.T.Keyed.hash_of g.T.Keyed.key_of i.items.items c.self.invariant.sorted c.try_item-went.ensures.tried.entry swap inside
          c.place_of-place.ensures.inside c.place_of-place.ensures.there c.place_of-last.ensures.inside (omega (arith, c.place_of-last.ensures.there, c.len.ensures, i.items.ok.0)) c.forget.ensures.order;
    }

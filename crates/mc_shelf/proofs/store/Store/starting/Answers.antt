use Rattle.mc_shelf.proofs.Common.{refl}
use Rattle.mc_shelf.proofs.PartLemmas.{are_kept, plain_is}
use Rattle.mc_sizes.proofs.RangeLemmas.{some_shelf, divides_numbers}
use Rattle.mc_shelf.proofs.StoreLemmas.{new_parts}
use Rattle.mc_shelf.proofs.store.Store.starting.Goals as goal

pub invariant_of-result : goal.invariant_of-result
invariant_of-result g c =
    record {
      parts = are_kept c.args.settings refl refl
          (new_parts (some_shelf c.args.settings.shelves c.args.settings.shelves_fit) c.in_ok-shelves.ensures.content c.in_ok-desk.ensures);
      divides = divides_numbers c.args.settings.shelves c.args.settings.shelves_fit;
    }

pub returns-clause-plain : goal.returns-clause-plain
returns-clause-plain g c =
    plain_is c.args.settings refl refl
    (new_parts {hash_of = g.K.KeyHash.hash_of c.args.hasher}
    (some_shelf c.args.settings.shelves c.args.settings.shelves_fit) c.in_ok-shelves.ensures.content c.in_ok-desk.ensures)

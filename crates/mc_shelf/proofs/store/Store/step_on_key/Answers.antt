use Rattle.mc_shelf.proofs.Common.{◌%◌, ◌<◌, ◌∙◌, ◌≡◌, ap, arith, counts_of, FewMoveAt, inr, key_of, lefts, plain_of, refl, shelf_of, slice_set, Some, subst, sym, ℕ}
use Rattle.std.proofs.Common.{slice_get}
use Rattle.mc_shelf.proofs.LeftLemmas.{few_at, few_left, step_moves}
use Rattle.mc_shelf.proofs.PartLemmas.{is_at}
use Rattle.mc_shelf.proofs.StoreLemmas.{shelf_here, goes_nowhere, plain_after, parts_stepped, took_step, spent_there}
use Rattle.std.proofs.lemmas.Result.{IfOk-weaker, on_err_weaker}
use Rattle.mc_shelf.proofs.store.Store.step_on_key.Goals.{After-index_mut-shelf}
use Rattle.mc_shelf.proofs.store.Store.step_on_key.Goals as goal

hashed : (g : _) → (c : After-index_mut-shelf g) → c.hash-hash.result ≡ g.K.KeyHash.hash_of c.self.inside.parts.hasher (key_of c.args.step.now)
hashed g c = c.hash-hash.ensures ∙ ap (g.K.KeyHash.hash_of c.self.inside.parts.hasher) c.key.ensures

-- the shelf at the place is the key's
mine : (g : _) → (c : After-index_mut-shelf g)
    → shelf_of (g.K.KeyHash.hash_of c.self.inside.parts.hasher) c.self.inside.parts.settings.shelves (key_of c.args.step.now) ≡ c.hash-hash.result % c.from.result
mine g c = λ i. sym (hashed g c) i % sym c.from.ensures i

here : (g : _) → (c : After-index_mut-shelf g) → slice_get c.self.inside.parts.shelves.items (c.hash-hash.result % c.from.result) ≡ Some c.index_mut-shelf.result.now
here g c =
    let parts = c.self.invariant.parts in
    let inside : c.hash-hash.result % c.from.result < c.self.inside.parts.settings.shelves = omega (arith, c.from.ensures, parts.some_shelf) in
    shelf_here c.self.inside.parts.settings parts inside c.index_mut-shelf.ensures.value

pub step-requires-clause-stands : goal.step-requires-clause-stands
step-requires-clause-stands g c =
    let at = (goal.at.step-requires-clause-stands g c).After-index_mut-shelf in
    let parts = c.self.invariant.parts in
    let s = c.self.inside.parts in
    record { plain = plain_of s.settings s.shelves.items s.desk; stands = is_at c.args.step.now (mine g at) (parts.each _ _ (here g at)) parts.account }

pub invariant_of-self : goal.invariant_of-self
invariant_of-self g c =
    let at = (goal.at.invariant_of-self g c).After-index_mut-shelf in
    record {
      parts = parts_stepped c.self.inside.parts.settings c.self.invariant.parts (here g at) c.args.step.now c.args.now c.step.new.self c.step.new.desk (mine g at) (hashed g at)
          c.requires.on_key c.step.result c.step.ensures.took c.step.ensures.err;
      divides = c.self.invariant.divides;
    }

pub returns : goal.returns
returns g c =
    let at = (goal.at.returns g c).After-index_mut-shelf in
    let parts = c.self.invariant.parts in
    let s = c.self.inside.parts in
    let step = c.args.step.now in
    let place = c.hash-hash.result % c.from.result in
    let state = plain_of s.settings s.shelves.items s.desk in
    let stands = is_at step (mine g at) (parts.each _ _ (here g at)) parts.account in
    let few = few_at s.shelves.items place c.step.new.self (here g at) (few_left (counts_of c.index_mut-shelf.result.now) (counts_of c.step.new.self) c.step.ensures.moves) in
    rw (← c.self.view_is)
    (record {
      took = IfOk-weaker c.step.result _ _
          (λ reply took. (
            took_step s.settings parts (here g at) step c.args.now c.step.new.self c.step.new.desk (mine g at) (hashed g at) c.requires.on_key took,
            (refl, refl),
            step_moves step c.requires.on_key (inr (place, few)),
          )) c.step.ensures.took;
      spent = (λ e. c.step.ensures.spent.0 e state stands, λ e. c.step.ensures.spent.1 (spent_there step c.args.now c.requires.on_key stands e));
      err = on_err_weaker c.step.result
          (λ same. record { plain = plain_after s.settings parts c.step.new.self (goes_nowhere s.settings parts (here g at) same.0 same.1); settings = refl; hasher = refl; moves = inr (place, few) })
          c.step.ensures.err;
      refused = λ e. c.step.ensures.refused e state stands;
      moves = subst (λ (n : ℕ). FewMoveAt n (lefts s.shelves.items) (lefts (slice_set s.shelves.items place c.step.new.self))) (sym (mine g at)) few;
    })

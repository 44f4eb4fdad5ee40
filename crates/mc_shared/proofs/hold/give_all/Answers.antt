use Rattle.mc_shared.proofs.Words.{rules, arith, ◌≡◌, ◌∷◌, ◌++◌, [], ap, ◌∙◌, holds_all}
use Rattle.mc_shared.proofs.Stacked.{held_top, without_top}
use Rattle.mc_shared.proofs.hold.give_all.Goals as goal

pub give-requires-clause-held : goal.give-requires-clause-held
give-requires-clause-held g c = let inv = c.loop-shelf.invariant in let p = c.args.seat.now.me.0.past in
    let rest = c.pop.new.self.items in
    let popped : c.loop-shelf.held.items ≡ rest ++ c.in-Some.shelf ∷ [] = c.in-Some.ensures.items in
    held_top _ p rest c.in-Some.shelf c.len-at.result (inv.3 ∙ ap (holds_all p) popped) (search rules)

pub loop-shelf-preserved : goal.loop-shelf-preserved
loop-shelf-preserved g c = let inv = c.loop-shelf.invariant in let cases = c.in-Some.ensures.cases in let p = c.args.seat.now.me.0.past in
    let rest = c.pop.new.self.items in
    let popped : c.loop-shelf.held.items ≡ rest ++ c.in-Some.shelf ∷ [] = c.in-Some.ensures.items in (
      c.give.ensures.seat.0 ∙ inv.0,
      c.give.ensures.seat.1 ∙ inv.1,
      omega (arith, cases, inv.2),
      c.give.ensures.view.0 ∙ without_top _ p rest c.in-Some.shelf (inv.3 ∙ ap (holds_all p) popped),
    )

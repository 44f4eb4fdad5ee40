use Rattle.mc_shelf.proofs.Common.{DeskState, get, GivesBack, IsOut, key_of, subst, sym}
use Rattle.mc_shelf.proofs.ExchangeLemmas.{gives_alike}
use Rattle.mc_shelf.proofs.shelf.Shelf.exchange_drawn.Goals as goal

pub give-requires : goal.give-requires
give-requires c =
    (gives_alike c.key.ensures c.args.self.now.content c.draw-unique.new.self c.in-Some.chunks
    (subst (λ (d : DeskState). IsOut (key_of c.args.step.now) c.args.self.now.content d) (sym c.draw-unique.ensures.drawn) c.requires.out) c.need.ensures.are c.need.ensures.value
    c.entry-item.ensures.item (c.has_need.ensures c.key.result.now c.entry-item.ensures.key) c.if-not-has_need.false).0

pub returns-clause-given : goal.returns-clause-given
returns-clause-given c =
    let key = key_of c.args.step.now in
    let shelf = c.args.self.now.content in
    let given = (gives_alike c.key.ensures shelf c.draw-unique.new.self c.in-Some.chunks
    (subst (λ (d : DeskState). IsOut key shelf d) (sym c.draw-unique.ensures.drawn) c.requires.out) c.need.ensures.are c.need.ensures.value c.entry-item.ensures.item
    (c.has_need.ensures c.key.result.now c.entry-item.ensures.key) c.if-not-has_need.false).1 c.give.new.self c.give.ensures.slab c.give.ensures.given in
    (c.draw-unique.ensures.number, subst (λ (d : DeskState). GivesBack key (get shelf.items key) d c.give.new.self) c.draw-unique.ensures.drawn given)

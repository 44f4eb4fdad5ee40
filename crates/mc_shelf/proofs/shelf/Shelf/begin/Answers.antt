use Rattle.mc_shelf.proofs.Common.{◌∙◌, key_of, sym}
use Rattle.mc_shelf.proofs.ShelfLemmas.{others_same}
use Rattle.mc_shelf.proofs.TakesLemmas.{begun_never, discarded_is, expired_is, is_out, puts_at, taken_as, takes_answer, takes_discard, takes_expire}
use Rattle.mc_shelf.proofs.shelf.Shelf.begin.Goals as goal

pub discard-requires-clause-out : goal.discard-requires-clause-out
discard-requires-clause-out c = is_out (key_of c.args.step.now) c.args.self.now.content c.args.desk.now c.requires.stands

pub returns-in-Answer-clause-took : goal.returns-in-Answer-clause-took
returns-in-Answer-clause-took c =
    let plan = c.args.plan.now in
    let old = c.args.self.now.content in
    taken_as plan c.in-Answer.is c.args.step.now old c.args.desk.now old c.args.desk.now (record {
      takes = takes_answer c.args.step.now plan.moment old c.args.desk.now c.requires.plan.on_key c.in-Answer.field-0 (sym c.in-Answer.is ∙ c.requires.plan.next);
      others = others_same (key_of c.args.step.now) old;
      hash = c.requires.plan.known.hash;
    })

pub returns-in-Expire-clause-took : goal.returns-in-Expire-clause-took
returns-in-Expire-clause-took c =
    let plan = c.args.plan.now in
    let old = c.args.self.now.content in
    let new = c.expire.new.self.content in
    let step = c.args.step.now in
    let next = sym c.in-Expire.is ∙ c.requires.plan.next in
    let puts = puts_at plan.hash old new c.in-Expire.expiry c.key.ensures c.expire.ensures.put in
    let there = expired_is old step plan.moment c.in-Expire.expiry c.in-Expire.field-1 next in
    let put = puts there.0 there.1 in
    taken_as plan c.in-Expire.is step old c.args.desk.now new c.args.desk.now (record {
      takes = takes_expire step plan.moment old c.args.desk.now c.requires.plan.on_key c.in-Expire.expiry c.in-Expire.field-1 plan.hash new puts next;
      others = put.others;
      hash = put.hash;
    })

pub returns-in-Discard-clause-took : goal.returns-in-Discard-clause-took
returns-in-Discard-clause-took c =
    let plan = c.args.plan.now in
    let next = sym c.in-Discard.is ∙ c.requires.plan.next in
    let old = c.args.self.now.content in
    let new = c.discard.new.self.content in
    let there = discarded_is old c.args.step.now plan.moment c.in-Discard.field-0 next in
    let dropped = c.discard.ensures.dropped there.0 there.1 in
    taken_as plan c.in-Discard.is c.args.step.now old c.args.desk.now new c.discard.new.desk (record {
      takes = takes_discard c.args.step.now plan.moment old c.args.desk.now c.requires.plan.on_key c.in-Discard.field-0
          plan.hash new c.discard.new.desk c.discard.ensures.dropped c.discard.ensures.given next;
      others = dropped.others;
      hash = dropped.hash;
    })

pub unreachable-requires : goal.unreachable-requires
unreachable-requires c =
    begun_never c.args.self.now.content c.args.step.now c.args.plan.now.moment c.in-Left.unique c.in-Left.chunks c.in-Left.flags c.in-Left.expiry c.in-Left.body (sym c.in-Left.is ∙ c.requires.plan.next)

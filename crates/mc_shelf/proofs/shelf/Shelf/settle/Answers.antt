use Rattle.mc_shelf.proofs.Common.{◌∙◌, ap, is_some, key_of, refl, sym}
use Rattle.mc_shelf.proofs.ShelfLemmas.{others_same}
use Rattle.mc_shelf.proofs.TakesLemmas.{expired_is, puts_at, takes_answer, takes_expire}
use Rattle.mc_shelf.proofs.shelf.Shelf.settle.Goals as goal

pub returns-in-Answer-clause-told : goal.returns-in-Answer-clause-told
returns-in-Answer-clause-told c step now plan = record {
  takes = λ desk. takes_answer step now c.args.self.now.content desk plan.on_key c.in-Answer.reply (sym c.in-Answer.is ∙ plan.next);
  stands = refl;
  others = others_same (key_of step) c.args.self.now.content;
  hash = plan.known.hash;
}

pub returns-in-Expire-clause-told : goal.returns-in-Expire-clause-told
returns-in-Expire-clause-told c step now plan =
    let old = c.args.self.now.content in
    let new = c.expire.new.self.content in
    let next = sym c.in-Expire.is ∙ plan.next in
    let puts = puts_at c.args.plan.hash old new c.in-Expire.expiry (c.as_slice.ensures ∙ plan.key) c.expire.ensures.put in
    let there = expired_is old step now c.in-Expire.expiry c.in-Expire.reply next in
    let put = puts there.0 there.1 in
    record {
      takes = λ desk. takes_expire step now old desk plan.on_key c.in-Expire.expiry c.in-Expire.reply c.args.plan.hash new puts next;
      stands = ap is_some put.item ∙ sym (ap is_some there.1);
      others = put.others;
      hash = put.hash;
    }

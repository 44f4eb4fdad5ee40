use Rattle.std.proofs.Common.{◌≡◌, ◌-◌, ℕ, List, ap, sym, subst, ◌∙◌, arith, rules}
use Rattle.std.specs.Map.Iter.{deref_pair}
use Rattle.std.proofs.lemmas.Map.Iter.{rest_more, rest_all}
use Rattle.mc_protocol.specs.Plain.{chunks_in, item_need}
use Rattle.mc_command.proofs.ItemLemmas.{Entries}
use Rattle.mc_command.proofs.CountLemmas.{count-entries}
use Rattle.mc_command.proofs.RoomLemmas.{IsLeft, left-more}
use Rattle.mc_command.proofs.plain.room.chunks_but.Goals as goal

pub loop-key-init : goal.loop-key-init
loop-key-init c =
    let gives = c.into_iter-key-iterator.ensures.into_iter_gives in
    rw (gives.0) (omega arith)

pub loop-key-preserved : goal.loop-key-preserved
loop-key-preserved c =
    let all = c.args.items.now.entries in
    let class = c.args.class in
    let chunks = c.args.chunks in
    let left = c.loop-key.left in
    let rest = rest_more deref_pair c.loop-key.key-iterator c.next.new.self c.next.result (c.in-Some.key, c.in-Some.item) c.in-Some.is c.next.ensures.steps in
    let so_far = subst (λ (r : Entries). IsLeft class chunks all r left) rest c.loop-key.invariant in
    let has : c.chunks_in.result ≡ chunks_in (item_need c.in-Some.key.now.items c.in-Some.item.now) class =
    c.chunks_in.ensures.value ∙ ap (λ (q : List ℕ). chunks_in (item_need q c.in-Some.item.now) class) c.deref.ensures.value in
    let told : c.saturating_sub-left.result ≡ left - c.chunks_in.result = search rules in
    subst (λ (n : ℕ). IsLeft class chunks all c.next.new.self n) (sym (told ∙ ap (λ (n : ℕ). left - n) has))
    (left-more class chunks left all c.next.new.self (c.in-Some.key.now, c.in-Some.item.now) so_far)

pub returns : goal.returns
returns c =
    let all = c.args.items.now.entries in
    let class = c.args.class in
    let rest = rest_all deref_pair c.loop-key.key-iterator c.next.new.self c.next.result c.in-None.is c.next.ensures.steps in
    let counted = subst (λ (r : Entries). IsLeft class c.args.chunks all r c.loop-key.left) rest c.loop-key.invariant in
    let same = count-entries all class c.into_iter-key-iterator.ensures.into_iter_gives.5 in
    omega arith

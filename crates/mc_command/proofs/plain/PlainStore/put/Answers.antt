use Rattle.std.proofs.Common.{◌≤◌, ◌-◌, ℕ, List, sum, ap, sym, subst, ◌∙◌}
use Rattle.mc_sizes.specs.Needs.{NeedState}
use Rattle.mc_protocol.specs.Plain.{Plain, standing, unused, with_chunk}
use Rattle.mc_command.specs.Steps.{found, paged, rewritten}
use Rattle.mc_protocol.proofs.PageLemmas.{pages-left}
use Rattle.mc_command.proofs.RoomLemmas.{found-room, put-by}
use Rattle.mc_command.proofs.plain.PlainStore.put.Goals as goal

pub add_pages-requires : goal.add_pages-requires
add_pages-requires c =
    let old = c.args.self.now in
    let key = c.args.key.now in
    let need = c.args.need in
    let left =
    pages-left need (unused (found key old c.args.now) need.class) (old.limit - sum old.pages) c.requires.is_need.pages
    (sym (found-room (standing old key c.args.now) old key need) ∙ c.requires.room) in
    rw c.in_ok-insert.ensures.ok (subst (λ (n : ℕ). n ≤ old.limit - sum old.pages) (sym c.pages_wanted-wanted.ensures) left)

pub returns-clause-placed : goal.returns-clause-placed
returns-clause-placed c =
    let old = c.args.self.now in
    let key = c.args.key.now in
    let w = c.args.written in
    let need = c.args.need in
    let mid = found key old c.args.now in
    c.add_pages.ensures
    ∙ ap (λ (p : Plain). paged c.pages_wanted-wanted.result p c.class.result) (c.in_ok-insert.ensures.ok ∙ ap (λ (k : List ℕ). rewritten w k old c.args.now) c.in_ok-bytes.ensures.items)
    ∙ put-by (standing old key c.args.now) c.pages_wanted-wanted.result old key c.class.result w c.args.now
    ∙ ap (λ (class : ℕ). rewritten w key (paged c.pages_wanted-wanted.result mid class) c.args.now) c.class.ensures.value
    ∙ ap (λ (n : ℕ). rewritten w key (paged n mid need.class) c.args.now) c.pages_wanted-wanted.ensures
    ∙ ap (λ (need : NeedState). rewritten w key (with_chunk mid need) c.args.now) c.requires.need

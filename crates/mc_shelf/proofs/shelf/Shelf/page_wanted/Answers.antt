use Rattle.mc_shelf.proofs.Common.{◌∙◌, ◌≡◌, ap, arith, back_at, IfSome_then, NeedState, pages_wanted, subst, sym, WantsPages, ℕ}
use Rattle.mc_shelf.proofs.TakesLemmas.{sized}
use Rattle.mc_shelf.proofs.shelf.Shelf.page_wanted.Goals as goal

pub need_for-need-requires : goal.need_for-need-requires
need_for-need-requires c =
    let plan = c.requires.2 in
    (sized c.args.self.now.content c.requires.0 c.requires.1 c.in-Write.charge c.in-Write.flags c.in-Write.expiry c.in-Write.body (sym c.in-Write.is ∙ plan.next)).fits

pub returns-clause-wanted : goal.returns-clause-wanted
returns-clause-wanted c =
    let plan = c.args.plan.now in
    let shelf = c.args.self.now.content in
    let slab = c.args.desk.now.slab in
    let need = c.need_for-need.result in
    let need_is = c.need_for-need.ensures.value in
    let back = c.back.ensures.value in
    IfSome_then c.wanted_pages.result c.wanted_pages.ensures.wanted (λ wanted is.
    let wants = subst (λ (n : ℕ). WantsPages slab need n) back is.0 in
    let same = is.1 ∙ ap (λ (n : ℕ). record { class = need.class; pages = pages_wanted slab need n }) back in (
      record {
        size = c.in-Write.charge;
        flags = c.in-Write.flags;
        expiry = c.in-Write.expiry;
        body = c.in-Write.body;
        writes_it = c.in-Write.is;
        number = λ spent. let less = c.is_spent.ensures.left c.if-is_spent.false in omega (arith, less, spent);
        pages = subst (λ (n : NeedState). WantsPages slab n (back_at shelf plan.key plan.moment n)) need_is wants;
      },
      subst (λ (n : NeedState). wanted ≡ record { class = n.class; pages = pages_wanted slab n (back_at shelf plan.key plan.moment n) }) need_is same,
    ))

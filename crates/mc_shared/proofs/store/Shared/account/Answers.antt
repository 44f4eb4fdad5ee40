use Rattle.mc_shared.proofs.Words.{ap, sym, ◌∙◌, subst, IsClass, pages_of, out_of, IsAccountAfter, DeskState, Past, start_of}
use Rattle.mc_sizes.specs.declared.account.Account.{Account}
use Rattle.mc_shared.proofs.Surveyed.{account_after}
use Rattle.mc_shared.proofs.store.Shared.account.Goals as goal

pub give_desk-requires : goal.give_desk-requires
give_desk-requires g c =
    let shelf = c.wait_for_shelf-held.result.value.content in
    (0, shelf, c.wait_for_desk-desk.ensures.holds 0 shelf c.wait_for_shelf-held.ensures.holds)

pub give_shelf-requires : goal.give_shelf-requires
give_shelf-requires g c =
    let shelf = c.wait_for_shelf-held.result.value.content in
    c.give_desk.ensures.holds 0 shelf (c.wait_for_desk-desk.ensures.holds 0 shelf c.wait_for_shelf-held.ensures.holds)

pub returns-clause-after : goal.returns-clause-after
returns-clause-after g c =
    let shelf = c.wait_for_shelf-held.result.value.content in
    let desk = c.wait_for_desk-desk in
    let past = c.give_shelf.ensures.past ∙ c.give_desk.ensures.past in
    let is = c.account-account.ensures ∙ ap (λ (d : DeskState). record { pages = pages_of d.slab c.args.class; out = out_of d.slab c.args.class }) c.deref-2.ensures in
    subst (λ (t : Past × Account). IsAccountAfter (start_of g.K.KeyHash.hash_of c.args.self.now.began) t.0 c.args.class t.1) (λ i. (sym past i, sym is i))
    (account_after g.K.KeyHash.hash_of c.args.self.now desk.new.seat 0 shelf desk.result.value (desk.ensures.holds 0 shelf c.wait_for_shelf-held.ensures.holds) c.args.class
    (subst IsClass c.number.ensures.value c.number.ensures.is_class))

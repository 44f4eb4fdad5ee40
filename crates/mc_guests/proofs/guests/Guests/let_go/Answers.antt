use Rattle.std.proofs.Common.{◌<◌, ◌-◌, refl, sym, ap, subst}
use Rattle.mc_guests.specs.Links.{LinkState}
use Rattle.mc_guests.specs.Books.{RowState, BooksState, StandsAt, LetsGo}
use Rattle.mc_guests.proofs.BookLemmas.{some_stand, awake_stand, row_gone, counts_moved}
use Rattle.mc_guests.proofs.LeavingLemmas.{stood_there}
use Rattle.mc_guests.proofs.guests.Guests.let_go.Goals as goal

pub pop-link-requires : goal.pop-link-requires
pop-link-requires g c =
    let within : c.args.at < c.self.inside.awake = subst (λ (b : BooksState). c.args.at < b.awake) (sym c.self.view_is) c.requires in
    some_stand c.args.at c.self.inside.awake c.len-end.result _ c.self.inside.row c.swap.new.self c.swap-2.new.self
    c.swap-2.new.self within c.self.invariant.0 c.swap.ensures c.len-end.ensures refl c.swap-2.ensures

pub invariant_of-self : goal.invariant_of-self
invariant_of-self g c =
    let within : c.args.at < c.self.inside.awake = subst (λ (b : BooksState). c.args.at < b.awake) (sym c.self.view_is) c.requires in (
      awake_stand c.args.at c.self.inside.awake c.len-end.result _ c.self.inside.row c.swap.new.self c.swap-2.new.self c.pop-link.new.self
          within c.self.invariant.0 c.swap.ensures c.len-end.ensures refl c.swap-2.ensures c.pop-link.ensures.cut,
      c.pop-link.ensures.counts (counts_moved c.args.at c.self.inside.awake c.len-end.result _ c.self.inside.row c.swap.new.self c.swap-2.new.self
          c.swap-2.new.self within c.self.invariant.0 c.swap.ensures c.len-end.ensures refl c.swap-2.ensures _ _ _ _ c.self.invariant.1),
    )

pub returns-clause-goes : goal.returns-clause-goes
returns-clause-goes g c =
    let within : c.args.at < c.self.inside.awake = subst (λ (b : BooksState). c.args.at < b.awake) (sym c.self.view_is) c.requires in
    subst (λ (b : BooksState). LetsGo c.args.at b (record {
      row = c.pop-link.new.self;
      awake = c.self.inside.awake - 1;
      budget = c.pop-link.new.budget;
      queue = c.self.inside.queue.items;
      is_last = c.self.inside.is_last;
      has_strays = c.self.inside.has_strays;
      gone = c.let_go-self-inside.result;
    })) c.self.view_is (record {
      books = ap (λ (r : RowState). record {
        row = r;
        awake = c.self.inside.awake - 1;
        budget = c.pop-link.new.budget;
        queue = c.self.inside.queue.items;
        is_last = c.self.inside.is_last;
        has_strays = c.self.inside.has_strays;
        gone = c.let_go-self-inside.result;
      }) (sym (row_gone c.args.at c.self.inside.awake c.len-end.result _ c.self.inside.row c.swap.new.self c.swap-2.new.self c.pop-link.new.self
          within c.self.invariant.0 c.swap.ensures c.len-end.ensures refl c.swap-2.ensures c.pop-link.ensures.cut));
      rest = c.pop-link.ensures.rest;
      eased = c.pop-link.ensures.eased;
    })

pub returns-clause-leaves : goal.returns-clause-leaves
returns-clause-leaves g c =
    let within : c.args.at < c.self.inside.awake = subst (λ (b : BooksState). c.args.at < b.awake) (sym c.self.view_is) c.requires in
    let last = c.pop-link.ensures.link in
    let stood = stood_there c.args.at c.self.inside.awake c.len-end.result _ c.self.inside.row c.swap.new.self c.swap-2.new.self
    within c.self.invariant.0 c.swap.ensures c.len-end.ensures refl c.swap-2.ensures last.0 last.1 in (
      last.0,
      subst (λ (b : BooksState). StandsAt c.args.at b.row last.0) c.self.view_is stood,
      subst (λ (b : BooksState). g.L.LeavingLink.leaves last.0.guest.link b.gone c.let_go-self-inside.result) c.self.view_is
          (subst (λ (l : LinkState). g.L.LeavingLink.leaves l c.self.inside.gone c.let_go-self-inside.result) last.2 c.let_go-self-inside.ensures),
    )

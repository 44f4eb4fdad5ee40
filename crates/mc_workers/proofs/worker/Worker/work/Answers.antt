use Rattle.std.proofs.Common.{refl, sym, ap, ◌∙◌, subst}
use Rattle.mc_guests.specs.Arrivals.{seen_by}
use Rattle.mc_shared.specs.Asking.{AskingState}
use Rattle.mc_shared.specs.Past.{Past}
use Rattle.mc_guests.specs.Books.{BooksState, no_books}
use Rattle.mc_guests.specs.declared.budget.Budget.{Budget}
use Rattle.mc_workers.specs.Room.{MakesRoom}
use Rattle.mc_workers.specs.Tending.{Further}
use Rattle.mc_workers.proofs.WorkLemmas.{goes_same, goes_both, goes_at}
use Rattle.mc_workers.proofs.WorksLemmas.{works_from, opens_from, once_so, works_on, works_over}
use Rattle.mc_workers.proofs.worker.Worker.work.Goals as goal

pub loop-init : goal.loop-init
loop-init g c = (
  goes_same _ _ _ (c.new-counting.ensures ∙ c.new-tending.ensures),
  works_from _ (g.C.RereadClock.may_follow c.args.self.now.clock.now) c.now-before.result c.new-counting.result c.new-guests.result c.new-door.result _ _ c.now-before.ensures (c.new-counting.ensures ∙ c.new-tending.ensures)
      c.greatest-2.result (c.new-guests.ensures ∙ ap (λ (b : Budget). no_books b) c.new.ensures) c.greatest-2.ensures
      c.greatest.result c.new-door.ensures c.greatest.ensures refl,
)

pub loop-preserved : goal.loop-preserved
loop-preserved g c = (
  goes_both _ _ _ _ (goes_both _ _ _ _ c.loop.invariant.0 (goes_at _ _ c.now_after-now.ensures.given _ _ c.tidy_in_turn-turn.ensures.further))
      (goes_at _ _ c.now_after-now.ensures.given _ _ c.make_rounds.ensures.further),
  works_on _ (g.C.RereadClock.may_follow c.args.self.now.clock.now) (seen_by g.L.Link.shown (g.Q.Links.coming c.args.links.now)) (seen_by g.L.Link.shown (g.Q.Links.coming c.loop.links))
      (seen_by g.L.Link.shown (g.Q.Links.coming c.open_for_all.new.links)) c.loop.invariant.1 c.now_after-now.ensures.follows (once_so _ c.now_after-now.ensures.given c.tidy_in_turn-turn.ensures.tidies c.make_rounds.ensures.rounds
      (subst (λ (b : BooksState). MakesRoom b c.make_room.new.guests) c.report.ensures c.make_room.ensures.room)
      (opens_from _ (ap (seen_by _) (c.make_room.ensures.same ∙ c.look_if_busy.ensures)) c.open_for_all.ensures) (cc)),
)

pub returns-then-not-open_for_all-clause-calls : goal.returns-then-not-open_for_all-clause-calls
returns-then-not-open_for_all-clause-calls g c =
    subst (λ (p : Past). Further (g.C.Clock.may_give c.args.self.now.clock.now) c.args.caller.past p)
    (sym (c.into_caller.ensures.same.1 ∙ ap (λ (s : AskingState g.row.K.Denot). s.past) c.into_steps.ensures))
    (goes_both _ _ _ _ (goes_both _ _ _ _ c.loop.invariant.0 (goes_at _ _ c.now_after-now.ensures.given _ _ c.tidy_in_turn-turn.ensures.further))
    (goes_at _ _ c.now_after-now.ensures.given _ _ c.make_rounds.ensures.further)).calls

pub returns-then-not-open_for_all-clause-works : goal.returns-then-not-open_for_all-clause-works
returns-then-not-open_for_all-clause-works g c =
    works_over _ (g.C.RereadClock.may_follow c.args.self.now.clock.now) {new = record {
      asking = c.make_rounds.new.counting;
      books = c.open_for_all.new.guests;
      door = c.open_for_all.new.self;
      end = c.open_for_all.new.end;
      turn = c.tidy_in_turn-turn.result;
      moment = c.now_after-now.result;
    }} c.loop.invariant.1 c.now_after-now.ensures.follows (once_so _ c.now_after-now.ensures.given c.tidy_in_turn-turn.ensures.tidies c.make_rounds.ensures.rounds
    (subst (λ (b : BooksState). MakesRoom b c.make_room.new.guests) c.report.ensures c.make_room.ensures.room)
    (opens_from _ (ap (seen_by _) (c.make_room.ensures.same ∙ c.look_if_busy.ensures)) c.open_for_all.ensures) (cc))
    (c.into_caller.ensures.same.1 ∙ ap (λ (s : AskingState g.row.K.Denot). s.past) c.into_steps.ensures)

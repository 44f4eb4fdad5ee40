use Rattle.std.specs.Prelude.{slice_set}
use Rattle.std.proofs.Common.{List, refl, sym, ap, ◌∙◌, subst}
use Rattle.std.proofs.lemmas.List.{length-set}
use Rattle.std.proofs.lemmas.Option.{slice_get_read}
use Rattle.mc_guests.specs.Books.{RowState}
use Rattle.mc_guests.specs.Guests.{RowGuest}
use Rattle.mc_guests.specs.Judging.{JudgesAt, judged, verdict}
use Rattle.mc_guests.proofs.JudgeLemmas.{within_shown, set_changed}
use Rattle.mc_guests.proofs.row.GuestRow.judge_at.Goals as goal

pub invariant_of-self : goal.invariant_of-self
invariant_of-self g c = c.self.invariant ∙ sym (length-set c.self.inside.guests.items c.args.at c.judge.new.self)

pub returns : goal.returns
returns g c =
    let items = c.self.inside.guests.items in
    let within = within_shown c.args.at _ c.args.self.now c.self.view_is c.requires in
    let stands = slice_get_read items _ c.args.at c.index_mut.result.now refl within c.index_mut.ensures.value in
    let same = ◌∙◌ {b = c.behind-self.inside.inner.value} c.deref_mut.ensures.value c.behind-self.view_is in
    subst (λ (r : RowState). JudgesAt c.args.ticks c.args.at c.judge.result r (record {
      guests = slice_set items c.args.at c.judge.new.self;
      numbers = c.self.inside.numbers;
    })) c.self.view_is (record {
      guest = c.index_mut.result.now;
      stands = stands;
      number = c.at-number.result;
      has_it = c.at-number.ensures;
      says = ◌∙◌ {b = verdict c.args.ticks c.at-number.result c.deref_mut.result.now} c.judge.ensures.says
          (ap (λ (w : RowGuest). verdict c.args.ticks c.at-number.result w) same);
      row = ap (λ (l : List RowGuest). record { guests = l; numbers = c.self.inside.numbers })
          (set_changed (judged c.args.ticks) c.args.at items c.index_mut.result.now c.judge.new.self stands
          (◌∙◌ {b = judged c.args.ticks c.deref_mut.result.now} c.judge.ensures.notes (ap (judged c.args.ticks) same)));
    })

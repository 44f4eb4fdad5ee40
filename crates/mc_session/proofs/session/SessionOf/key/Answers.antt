use Rattle.std.proofs.Common.{◌≡◌, refl, sym, ap, ◌∙◌, subst, inl, inr, Some, None}
use Rattle.mc_parse.specs.Peeks.{unit_of}
use Rattle.mc_parse.specs.Units.{Request}
use Rattle.mc_parse.specs.declared.peek.Peek.{Peek}
use Rattle.mc_parse.proofs.UnitLemmas.{same_spelling}
use Rattle.mc_session.specs.Turns.{SessionState}
use Rattle.mc_session.specs.Reading.{ReadsNext}
use Rattle.mc_session.proofs.StateLemmas.{seen}
use Rattle.mc_session.proofs.KeyLemmas.{found_key, lends_next, next_is_found}
use Rattle.mc_session.proofs.session.SessionOf.key.Goals as goal

pub first_key-requires : goal.first_key-requires
first_key-requires g c = c.in-Whole.ensures.keys c.in-Whole.command _ refl

pub returns-in-Whole-clause-some : goal.returns-in-Whole-clause-some
returns-in-Whole-clause-some g c =
    rw (← c.self.view_is)
    (lends_next same_spelling (seen c.self.inside.feed c.self.inside.taken (g.O.Outgoing.bytes c.self.inside.out) c.self.inside.is_open) (Some (Request c.in-Whole.command, _)) c.in-Whole.ensures.found (Request c.in-Whole.command) _
    c.first_key.result c.if-not-self.false refl c.first_key.ensures.first)

pub returns-in-Whole-clause-all : goal.returns-in-Whole-clause-all
returns-in-Whole-clause-all g c = λ key next.
    c.first_key.ensures.first
    ∙ next_is_found same_spelling (seen c.self.inside.feed c.self.inside.taken (g.O.Outgoing.bytes c.self.inside.out) c.self.inside.is_open) (Some (Request c.in-Whole.command, _)) c.in-Whole.ensures.found key c.in-Whole.ensures.none
    (subst (λ (s : SessionState). ReadsNext s key) (sym c.self.view_is) next)

pub returns-in-More : goal.returns-in-More
returns-in-More g c =
    let none : found_key (unit_of c.peek_after.result) ≡ None = elim c.in-More.is [
      | inl more ↦ ap (λ (p : Peek). found_key (unit_of p)) more
      | inr other ↦ elim other [ inl bad ↦ ap (λ (p : Peek). found_key (unit_of p)) bad.2 | inr long ↦ ap (λ (p : Peek). found_key (unit_of p)) long ]
    ] in record {
      some = tt;
      all = λ key next. sym none ∙ next_is_found same_spelling (seen c.self.inside.feed c.self.inside.taken (g.O.Outgoing.bytes c.self.inside.out) c.self.inside.is_open) (unit_of c.peek_after.result) c.peek_after.ensures.found key c.peek_after.ensures.none
          (subst (λ (s : SessionState). ReadsNext s key) (sym c.self.view_is) next);
      short = tt;
    }

-- Visits tell the texts of their turns.
use Rattle.std.specs.Prelude.{slice_get}
use Rattle.std.proofs.Common.{◌≡◌, inl, inr, ℕ, zero, suc, ◌+◌, ◌==◌, Bool, true, false, List, [], ◌∷◌}
use Rattle.std.proofs.Common.{◌++◌, Option, Some, refl, sym, ap, ◌∙◌, subst, arith, append_assoc, append-nil, if◌then◌else◌}
use Rattle.std.proofs.lemmas.Option.{same_Some}
use Rattle.mc_protocol.specs.declared.step.Steps.{Ghosts as Relations}
use Rattle.mc_parse.specs.Units.{ProtocolUnit}
use Rattle.mc_parse.specs.Streams.{is_last}
use Rattle.mc_session.specs.Turns.{SessionState, TakesTurn, moved, fed, turn_count}
use Rattle.mc_guests.specs.Links.{LinkState, grown}
use Rattle.mc_guests.specs.Guests.{GuestState, welcomed, told}
use Rattle.mc_links.proofs.LinkLemmas.{grown_nothing, grown_twice}
use Rattle.mc_guests.specs.Visits.{Does, Visited, GoesRound, WritesFront}
use Rattle.mc_guests.specs.Telling.{TakenTurn, Visits, nothing, visit, texts, turns_of}
use Rattle.mc_guests.specs.declared.guest.Visit.{Visit}
use Rattle.mc_guests.specs.declared.guest.Visit.TheVariants.{Wrote, Turned, Read, Later, Served, Broken, Refused}

-- where the link took nothing and the output is the same, the same is told
told_same : (old new : GuestState) → new.link.taken ≡ old.link.taken → new.session.out ≡ old.session.out
    → told new ≡ grown (told old) []
told_same old new link out =
    ap (λ known. grown known new.session.out) link ∙ ap (grown old.link.taken) out ∙ sym (grown_nothing (told old))

-- a front of the output that goes to the link leaves what is told
told_front : (old new : GuestState) → WritesFront old new → told new ≡ grown (told old) []
told_front old new writes =
    ap (λ (l : LinkState). grown l.taken new.session.out) writes.link
    ∙ grown_twice old.link.taken writes.part new.session.out
    ∙ ap (grown old.link.taken) (sym writes.parts) ∙ sym (grown_nothing (told old))

out_of : (last whole : Bool) (x y z : SessionState) (out : List ℕ) → x.out ≡ out → y.out ≡ out → z.out ≡ out
    → (if last then x else if whole then y else z).out ≡ out
out_of true whole x y z out a b c = a
out_of false true x y z out a b c = b
out_of false false x y z out a b c = c

pub moved_out : (s : SessionState) (unit : ProtocolUnit) (rest text : List ℕ) → (moved s unit rest text).out ≡ s.out ++ text
moved_out s unit rest text = out_of (is_last unit) (s.taken + 1 == turn_count unit) _ _ _ (s.out ++ text) refl refl refl

fed_by : (is_open : Bool) (x y : SessionState) (out : List ℕ) → x.out ≡ out → y.out ≡ out
    → (if is_open then x else y).out ≡ out
fed_by true x y out a b = a
fed_by false x y out a b = b

pub fed_out : (s : SessionState) (piece : List ℕ) → (fed s piece).out ≡ s.out
fed_out s piece = fed_by s.is_open _ _ s.out refl refl

module _ {S : Type 0} (relations : Relations S) where
  pub texts_append : (turns later : List (TakenTurn relations))
      → texts relations (turns ++ later) ≡ texts relations turns ++ texts relations later
  texts_append [] later = refl
  texts_append (turn ∷ turns) later =
      ap (λ l. turn.takes.text ++ l) (texts_append turns later)
      ∙ sym (append_assoc turn.takes.text (texts relations turns) (texts relations later))

  told_turn : (now : ℕ) (old new : GuestState) (before after : S)
      → (takes : TakesTurn relations now old.session new.session before after) → new.link ≡ old.link
      → told new ≡ grown (told old) (takes.text ++ [])
  told_turn now old new before after takes link =
      let out : new.session.out ≡ old.session.out ++ takes.text =
      ap (λ (s : SessionState). s.out) takes.moves ∙ moved_out old.session takes.unit takes.rest takes.text in
      ap (λ (l : LinkState). grown l.taken new.session.out) link ∙ ap (grown old.link.taken) out
      ∙ sym (grown_twice old.link.taken old.session.out takes.text)
      ∙ ap (grown (told old)) (sym (append-nil takes.text))

  pub visit_tells : (now : ℕ) (answer : Visit) (old new : GuestState) (before after : S)
      → (visited : Visited relations now answer old new before after)
      → told new ≡ grown (told old) (texts relations (turns_of relations now answer old new before after visited))
  visit_tells now answer old new before after (inl ended) =
      ap told ended.guest ∙ sym (grown_nothing (told old))
  visit_tells now Wrote old new before after (inr due) = told_front old new due.does.0
  visit_tells now Turned old new before after (inr due) =
      told_turn now old new before after due.does.takes due.does.link
  visit_tells now Read old new before after (inr due) =
      let does = due.does.0 in
      told_same old new (ap (λ (l : LinkState). l.taken) does.link)
      (ap (λ (s : SessionState). s.out) does.session ∙ fed_out old.session does.piece)
  visit_tells now Later old new before after (inr due) =
      let does = due.does.0 in
      told_same old new (ap (λ (l : LinkState). l.taken) does.link) (ap (λ (s : SessionState). s.out) does.session)
  visit_tells now Served old new before after (inr due) =
      let does = due.does.0 in
      let taken : new.link.taken ≡ old.link.taken = elim does.over [
        | inl closed_before ↦ ap (λ (l : LinkState). l.taken) closed_before.1
        | inr waits ↦ ap (λ (l : LinkState). l.taken) waits.1
      ] in
      told_same old new taken (ap (λ (s : SessionState). s.out) does.session)
  visit_tells now Broken old new before after (inr due) =
      let does = due.does.0 in
      told_same old new (ap (λ (l : LinkState). l.taken) does.link) (ap (λ (s : SessionState). s.out) does.session)
  visit_tells now Refused old new before after (inr due) =
      elim due.does [
        | inl turn ↦ told_same old new (ap (λ (l : LinkState). l.taken) turn.link) (ap (λ (s : SessionState). s.out) turn.session)
        | inr piece ↦ told_same old new (ap (λ (l : LinkState). l.taken) piece.0.link) (ap (λ (s : SessionState). s.out) piece.0.session)
      ]

  pub visits_tell : (turns : List (TakenTurn relations)) (old new : GuestState)
      → Visits relations turns old new → told new ≡ grown (told old) (texts relations turns)
  visits_tell turns old new nothing = sym (grown_nothing (told old))
  visits_tell turns old new (visit {turns = earlier} {old = mid} {before = before} {after = after} now answer visits visited) =
      let more = turns_of relations now answer mid new before after visited in
      visit_tells now answer mid new before after visited
      ∙ ap (λ known. grown known (texts relations more)) (visits_tell earlier old mid visits)
      ∙ grown_twice (told old) (texts relations earlier) (texts relations more)
      ∙ ap (grown (told old)) (sym (texts_append earlier more))

  pub visits_front : (turns : List (TakenTurn relations)) (greatest : ℕ) (link : LinkState) (new : GuestState)
      (taken : List ℕ) → link.taken ≡ Some [] → Visits relations turns (welcomed greatest link) new
      → new.link.taken ≡ Some taken → texts relations turns ≡ taken ++ new.session.out
  visits_front turns greatest link new taken none visits is =
      let tells = visits_tell turns (welcomed greatest link) new visits in
      let first : told (welcomed greatest link) ≡ Some [] = ap (λ known. grown known []) none in
      let now : told new ≡ Some (taken ++ new.session.out) = ap (λ known. grown known new.session.out) is in
      let all : Some (taken ++ new.session.out) ≡ Some (texts relations turns) =
      sym now ∙ tells ∙ ap (λ known. grown known (texts relations turns)) first in
      sym (cc all)

  -- a visit that answers Served leaves no output
  serves_written : (now : ℕ) (answer : Visit) (old new : GuestState) (before after : S)
      → Does relations now answer old new before after → answer ≡ Served → new.session.out ≡ []
  serves_written now Wrote old new before after does is = absurd (cc)
  serves_written now Turned old new before after does is = absurd (cc)
  serves_written now Read old new before after does is = absurd (cc)
  serves_written now Later old new before after does is = absurd (cc)
  serves_written now Served old new before after does is =
      ap (λ (s : SessionState). s.out) does.0.session ∙ does.0.written
  serves_written now Broken old new before after does is = absurd (cc)
  serves_written now Refused old new before after does is = absurd (cc)

  pub served_written : (turns : List (TakenTurn relations)) (greatest : ℕ) (link : LinkState) (new : GuestState)
      → Visits relations turns (welcomed greatest link) new → new.last ≡ Some Served → new.session.out ≡ []
  served_written turns greatest link new nothing served = refl
  served_written turns greatest link new (visit {turns = earlier} {old = mid} now answer visits (inl ended)) served =
      ap (λ (g : GuestState). g.session.out) ended.guest
      ∙ served_written earlier greatest link mid visits (ap (λ (g : GuestState). g.last) (sym ended.guest) ∙ served)
  served_written turns greatest link new (visit {old = mid} {before = before} {after = after} now answer visits (inr due)) served =
      let is : Some answer ≡ Some Served = sym due.last ∙ served in
      serves_written now answer mid new before after due.does (cc is)

  known_taken : (known : Option (List ℕ)) (out all : List ℕ) → out ≡ [] → grown known out ≡ Some all → known ≡ Some all
  known_taken known out all none is = sym (grown_nothing known) ∙ ap (grown known) (sym none) ∙ is

  pub visits_all : (turns : List (TakenTurn relations)) (greatest : ℕ) (link : LinkState) (new : GuestState)
      → link.taken ≡ Some [] → Visits relations turns (welcomed greatest link) new → new.last ≡ Some Served
      → new.link.taken ≡ Some (texts relations turns)
  visits_all turns greatest link new none visits served =
      let first : told (welcomed greatest link) ≡ Some [] = ap (λ known. grown known []) none in
      known_taken new.link.taken new.session.out (texts relations turns)
      (served_written turns greatest link new visits served)
      (visits_tell turns (welcomed greatest link) new visits ∙ ap (λ known. grown known (texts relations turns)) first)

  pub visits_go_on : (turns later : List (TakenTurn relations)) (first mid last : GuestState)
      → Visits relations turns first mid → Visits relations later mid last
      → Visits relations (turns ++ later) first last
  visits_go_on turns later first mid last visits nothing =
      subst (λ l. Visits relations l first mid) (sym (append-nil turns)) visits
  visits_go_on turns later first mid last visits (visit {turns = earlier} {old = old} {before = before} {after = after} now answer rest visited) =
      subst (λ l. Visits relations l first last)
      (append_assoc turns earlier (turns_of relations now answer old last before after visited))
      (visit now answer (visits_go_on turns earlier first mid old visits rest) visited)

module _ {S : Type 0} (relations : Relations S) (now : ℕ) where
  one_visit : (answer : Visit) (old new x y : GuestState) (before after : S)
      → Visited relations now answer old new before after → old ≡ x → new ≡ y
      → (turns : List (TakenTurn relations)) × Visits relations turns x y
  one_visit answer old new x y before after visited this that =
      let turns : List (TakenTurn relations) = turns_of relations now answer old new before after visited in
      let once : Visits relations turns old new = visit now answer nothing visited in
      (turns, subst (λ (g : GuestState). Visits relations turns g y) this (subst (λ (g : GuestState). Visits relations turns old g) that once))

  pub round_visits : (at : ℕ) (olds news : List GuestState) (before after : S) (old new : GuestState)
      → GoesRound relations now olds news before after → slice_get olds at ≡ Some old → slice_get news at ≡ Some new
      → (turns : List (TakenTurn relations)) × Visits relations turns old new
  round_visits at [] news before after x y goes i j = absurd (cc)
  round_visits at (o ∷ olds) [] before after x y goes i j = absurd (cc)
  round_visits zero (o ∷ olds) (n ∷ news) before after x y (long, (mid, once, goes)) i j =
      one_visit once.0 o n x y before mid once.1 (same_Some o x i) (same_Some n y j)
  round_visits (suc at) (o ∷ olds) (n ∷ news) before after x y (long, (mid, once, goes)) i j =
      round_visits at olds news mid after x y (omega (arith, long), goes) i j

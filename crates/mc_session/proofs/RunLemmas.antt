-- A run goes on the same where more bytes come, and with earlier output in front.
use Rattle.std.proofs.Common.{◌≡◌, ◌+◌, ◌==◌, ℕ, Bool, true, false, List, [], ◌++◌, refl, sym, ap, ◌∙◌, subst, append_assoc, if◌then◌else◌, IsTrue}
use Rattle.mc_protocol.specs.declared.step.Steps.{Ghosts as Relations}
use Rattle.mc_parse.specs.Units.{ProtocolUnit}
use Rattle.mc_parse.specs.Streams.{is_last, passed_after}
use Rattle.mc_parse.specs.Feeds.{Unread, pushed, settled}
use Rattle.mc_session.specs.Turns.{SessionState, TakesTurn, turn_count, closed, fed, opened}
use Rattle.mc_session.specs.Serving.{with_written, Run, RunTurn}
use Rattle.mc_session.proofs.ChainLemmas as chain
use Rattle.mc_parse.proofs.FeedLemmas.{pushed_settled, pushed_twice}
use Rattle.mc_session.proofs.FeedLemmas.{spells_bytes, front_stays}

-- a session with more bytes of its stream
abbrev grown : SessionState → List ℕ → SessionState
grown s more = record s { unread = pushed s.unread more }

-- a session that is open takes them
fed_open : (s : SessionState) (more : List ℕ) → IsTrue s.is_open → fed s more ≡ grown s more
fed_open s more opens = ap (λ is_open. if is_open then grown s more else s) opens

-- the session after a turn of an open session takes more bytes as the session before it does
moved_more : (s : SessionState) (unit : ProtocolUnit) (rest text more : List ℕ) (last whole : Bool) → IsTrue s.is_open
    → fed (if last then closed (record s { out = s.out ++ text })
    else if whole then record s { unread = settled (record { greatest = s.unread.greatest; passed = passed_after unit; bytes = rest }); taken = 0; out = s.out ++ text }
    else record s { taken = s.taken + 1; out = s.out ++ text }) more
    ≡ (if last then closed (record s { out = s.out ++ text })
    else if whole then record s { unread = settled (record { greatest = s.unread.greatest; passed = passed_after unit; bytes = rest ++ more }); taken = 0; out = s.out ++ text }
    else record s { unread = pushed s.unread more; taken = s.taken + 1; out = s.out ++ text })
moved_more s unit rest text more true whole opens = refl
moved_more s unit rest text more false true opens =
    let left : Unread = record { greatest = s.unread.greatest; passed = passed_after unit; bytes = rest } in
    fed_open (record s { unread = settled left; taken = 0; out = s.out ++ text }) more opens
    ∙ ap (λ u. record s { unread = u; taken = 0; out = s.out ++ text }) (pushed_settled left more)
moved_more s unit rest text more false false opens = fed_open (record s { taken = s.taken + 1; out = s.out ++ text }) more opens

-- earlier output stays in front
pub moved_written : (s : SessionState) (unit : ProtocolUnit) (rest text written : List ℕ) (last whole : Bool)
    → with_written written (if last then closed (record s { out = s.out ++ text })
    else if whole then record s { unread = settled (record { greatest = s.unread.greatest; passed = passed_after unit; bytes = rest }); taken = 0; out = s.out ++ text }
    else record s { taken = s.taken + 1; out = s.out ++ text })
    ≡ (if last then closed (record s { out = (written ++ s.out) ++ text })
    else if whole then record s { unread = settled (record { greatest = s.unread.greatest; passed = passed_after unit; bytes = rest }); taken = 0; out = (written ++ s.out) ++ text }
    else record s { taken = s.taken + 1; out = (written ++ s.out) ++ text })
moved_written s unit rest text written true whole = ap (λ out. closed (record s { out = out })) (sym (append_assoc written s.out text))
moved_written s unit rest text written false true =
    ap (λ out. record s { unread = settled (record { greatest = s.unread.greatest; passed = passed_after unit; bytes = rest }); taken = 0; out = out }) (sym (append_assoc written s.out text))
moved_written s unit rest text written false false = ap (λ out. record s { taken = s.taken + 1; out = out }) (sym (append_assoc written s.out text))

-- pieces that come one after another are fed as they are joined
pub fed-fed : (greatest : ℕ) (read more : List ℕ) → fed (fed (opened greatest) read) more ≡ fed (opened greatest) (read ++ more)
fed-fed greatest read more = ap (λ u. record (opened greatest) { unread = u }) (pushed_twice (record { greatest = greatest; passed = 0; bytes = [] }) read more)

-- more bytes and earlier output don't mix
pub fed-with_written : (s : SessionState) (written more : List ℕ) → fed (with_written written s) more ≡ with_written written (fed s more)
fed-with_written s written more =
    elim s.is_open as
    (λ opens. (if opens then record (with_written written s) { unread = pushed s.unread more } else with_written written s) ≡ with_written written
    (if opens then record s { unread = pushed s.unread more } else s)) [
      | true ↦ refl
      | false ↦ refl
    ]

module _ {S : Type 0} (relations : Relations S) where
  -- a turn is the turn of the longer stream
  turn_more : (now : ℕ) (old new : SessionState) (before after : S) (more : List ℕ) → TakesTurn relations now old new before after
      → TakesTurn relations now (grown old more) (fed new more) before after
  turn_more now old new before after more taken_turn = record {
    unit = taken_turn.unit;
    front = taken_turn.front;
    rest = taken_turn.rest ++ more;
    text = taken_turn.text;
    opens = taken_turn.opens;
    parts = front_stays old.unread taken_turn.front taken_turn.rest more (spells_bytes old.unread.greatest taken_turn.unit taken_turn.front taken_turn.spelled) taken_turn.parts;
    spelled = taken_turn.spelled;
    due = taken_turn.due;
    answers = taken_turn.answers;
    moves = ap (λ s. fed s more) taken_turn.moves
        ∙ moved_more old taken_turn.unit taken_turn.rest taken_turn.text more (is_last taken_turn.unit) (old.taken + 1 == turn_count taken_turn.unit) taken_turn.opens;
  }

  -- and with earlier output in front
  unfoldable pub turn_written : (now : ℕ) (old new : SessionState) (before after : S) (written : List ℕ) → TakesTurn relations now old new before after
      → TakesTurn relations now (with_written written old) (with_written written new) before after
  turn_written now old new before after written t =
      let moves = ap (with_written written) t.moves ∙ moved_written old t.unit t.rest t.text written (is_last t.unit) (old.taken + 1 == turn_count t.unit) in
      record { unit = t.unit; front = t.front; rest = t.rest; text = t.text; opens = t.opens; parts = t.parts; spelled = t.spelled; due = t.due; answers = t.answers; moves = moves }

  module _ (may_give : ℕ → Type 0) where
    -- a turn of a run is one of the longer stream
    run_turn_more : (more : List ℕ) (old new : SessionState × S) (turn : ProtocolUnit × ℕ) → RunTurn relations may_give old turn new → Unit {0}
        → Unit {0} × RunTurn relations may_give (fed old.0 more, old.1) turn (fed new.0 more, new.1)
    unfolding turn_more
    run_turn_more more old new turn one _ = (
      tt,
      subst (λ (s : SessionState). RunTurn relations may_give (s, old.1) turn (fed new.0 more, new.1)) (sym (fed_open old.0 more one.takes.opens))
          (record { now = one.now; gives = one.gives; takes = turn_more one.now old.0 new.0 old.1 new.1 more one.takes; is = one.is }),
    )

    -- a run is a run of the longer stream
    pub run_more : (first last : SessionState) (before after : S) (turns : List (ProtocolUnit × ℕ)) (more : List ℕ) → Run relations may_give first before turns last after
        → Run relations may_give (fed first more) before turns (fed last more) after
    run_more first last before after turns more run =
        chain.along (RunTurn relations may_give) (RunTurn relations may_give) (λ s. (fed s.0 more, s.1)) (λ _. Unit {0}) (run_turn_more more) turns (first, before) (last, after) tt run

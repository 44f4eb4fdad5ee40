-- The law of wake-ups.
use Rattle.std.specs.Prelude.{nat_lt}
use Rattle.std.proofs.Common.{◌≡◌, ◌⊎◌, ℕ, Bool, true, false, not, ◌&&◌, ◌||◌, refl, ◌∙◌, inl, inr}
use Rattle.mc_time.specs.Chains.{Repeats, none_yet, one_more}
use Rattle.mc_sockets.specs.declared.readiness.Readiness.{Readiness}
use Rattle.mc_sockets.specs.declared.readiness.Report.{Report}
use Rattle.mc_sockets.specs.declared.stream.NoBytes.TheVariants.{WouldBlock, Interrupted, Fault}
use Rattle.mc_sockets.specs.declared.stream.Received.{Received}
use Rattle.mc_sockets.specs.declared.stream.Received.TheVariants as received
use Rattle.mc_sockets.specs.declared.stream.Sent.{Sent}
use Rattle.mc_sockets.specs.declared.stream.Sent.TheVariants as sent
use Rattle.mc_sockets.specs.Readiness.{Happening, Read, Wrote, Paused, Reported, AskedAgain, Ended, after, names}
use Rattle.mc_sockets.specs.Wakeups.{Watched, Step, MissesNothing, IsCall, LeavesInput, LeavesRoom}
use Rattle.mc_sockets.specs.Wakeups.{input_comes, room_comes, end_comes, urgent_comes, reads, reads_nothing, writes, writes_nothing}
use Rattle.mc_sockets.specs.Wakeups.{pauses, asks_again, ends, pays, drops, reports_beside}

-- what is owed stays owed if more is
still : (owed more : Bool) → owed ≡ true → (owed || more) ≡ true
still true more is = refl
still false more is = cc

-- what comes is owed: it was owed before where it was there
rises : (owed there : Bool) → (there ≡ true → owed ≡ true) → (owed || not there) ≡ true
rises true there heard = refl
rises false true heard = heard refl
rises false false heard = refl

-- the same for either of two that come
rises_first : (owed one other : Bool) → (one ≡ true → owed ≡ true) → (owed || (not one || not other)) ≡ true
rises_first true one other heard = refl
rises_first false true other heard = let no : false ≡ true = heard refl in cc
rises_first false false other heard = refl

rises_second : (owed one other : Bool) → (other ≡ true → owed ≡ true) → (owed || (not one || not other)) ≡ true
rises_second true one other heard = refl
rises_second false true true heard = heard refl
rises_second false true false heard = refl
rises_second false false other heard = refl

-- a flag that was up and is up or lowered no more
both : (one other : Bool) → (one && other) ≡ false → (one ≡ false) ⊎ (other ≡ false)
both true other is = inr is
both false other is = inl refl

-- a read took all there is
took_all : (short final marked : Bool) → not (short && (not final && not marked)) ≡ false
    → (short ≡ true) × (final ≡ false) × (marked ≡ false)
took_all true false false is = (refl, refl, refl)
took_all true true marked is = cc
took_all true false true is = cc
took_all false final marked is = cc

-- none of two
neither : (one other : Bool) → (one || other) ≡ false → (one ≡ false) × (other ≡ false)
neither true other is = cc
neither false other is = (refl, is)

not_both : (b : Bool) {P : Type 0} → b ≡ true → b ≡ false → P
not_both true up down = cc
not_both false up down = cc

misses_read : (old : Watched) (answer : Received) (piece : ℕ) (input urgent : Bool) → old.known.reads ≡ true
    → LeavesInput old answer piece input → (urgent ≡ true → old.urgent ≡ true) → MissesNothing old
    → MissesNothing (record old { known = after old.known (Read answer piece); input = input; urgent = urgent })
misses_read old (received.Bytes n) piece input urgent up leaves less missed = record {
  input = λ low there. elim (both _ _ low) [
    | inl down ↦ not_both _ up down
    | inr all ↦
        let took = took_all (nat_lt n piece) old.known.is_final old.known.is_marked all in
        elim (leaves took.0 there) [
          | inl came ↦ missed.end took.1 came
          | inr came ↦ missed.urgent took.2 came
        ]
  ];
  room = missed.room;
  end = missed.end;
  urgent = λ low there. missed.urgent low (less there);
}
misses_read old received.End piece input urgent up leaves less missed = record {
  input = λ low there. not_both _ up low;
  room = missed.room;
  end = missed.end;
  urgent = λ low there. missed.urgent low (less there);
}
misses_read old (received.Hindered WouldBlock) piece input urgent up leaves less missed = record {
  input = λ low there. not_both _ there leaves.1;
  room = missed.room;
  end = missed.end;
  urgent = λ low there. missed.urgent low (less there);
}
misses_read old (received.Hindered Interrupted) piece input urgent up leaves less missed = record {
  input = λ low there. not_both _ up low;
  room = missed.room;
  end = missed.end;
  urgent = λ low there. missed.urgent low (less there);
}
misses_read old (received.Hindered Fault) piece input urgent up leaves less missed = record {
  input = λ low there. not_both _ up low;
  room = missed.room;
  end = missed.end;
  urgent = λ low there. missed.urgent low (less there);
}

-- a write that left a rest left no room
left_room : (short : Bool) → not short ≡ false → short ≡ true
left_room true is = refl
left_room false is = cc

misses_write : (old : Watched) (answer : Sent) (offered : ℕ) (room : Bool) → old.known.writes ≡ true
    → LeavesRoom old answer offered room → MissesNothing old
    → MissesNothing (record old { known = after old.known (Wrote answer offered); room = room })
misses_write old (sent.Bytes n) offered room up leaves missed = record {
  input = missed.input;
  room = λ low there. elim (both _ _ low) [
    | inl down ↦ not_both _ up down
    | inr all ↦ not_both _ there (leaves (left_room _ all))
  ];
  end = missed.end;
  urgent = missed.urgent;
}
misses_write old (sent.Hindered WouldBlock) offered room up leaves missed = record {
  input = missed.input;
  room = λ low there. not_both _ there leaves.1;
  end = missed.end;
  urgent = missed.urgent;
}
misses_write old (sent.Hindered Interrupted) offered room up leaves missed = record {
  input = missed.input;
  room = λ low there. not_both _ up low;
  end = missed.end;
  urgent = missed.urgent;
}
misses_write old (sent.Hindered Fault) offered room up leaves missed = record {
  input = missed.input;
  room = λ low there. not_both _ up low;
  end = missed.end;
  urgent = missed.urgent;
}

-- the poll reports what there is
misses_none : (old : Watched) (report : Report) → report.input ≡ old.input → report.room ≡ old.room
    → report.end ≡ old.end → report.urgent ≡ old.urgent
    → MissesNothing (record old { known = after old.known (Reported report); owed = false })
misses_none old report input room end urgent = record {
  input = λ low there. not_both _ (input ∙ there) ((neither _ _ ((neither _ _ low).1)).0);
  room = λ low there. not_both _ (room ∙ there) ((neither _ _ ((neither _ _ low).1)).0);
  end = λ low there. not_both _ (end ∙ there) ((neither _ _ low).1);
  urgent = λ low there. not_both _ (urgent ∙ there) ((neither _ _ low).1);
}

-- a step misses nothing
misses_step : (old new : Watched) → Step old new → MissesNothing old → MissesNothing new
misses_step old _ (input_comes _) missed = record {
  input = λ low there. rises _ _ (missed.input low);
  room = λ low there. still _ _ (missed.room low there);
  end = λ low there. still _ _ (missed.end low there);
  urgent = λ low there. still _ _ (missed.urgent low there);
}
misses_step old _ (room_comes _) missed = record {
  input = λ low there. still _ _ (missed.input low there);
  room = λ low there. rises _ _ (missed.room low);
  end = λ low there. still _ _ (missed.end low there);
  urgent = λ low there. still _ _ (missed.urgent low there);
}
misses_step old _ (end_comes _) missed = record {
  input = λ low there. rises_first _ _ _ (missed.input low);
  room = λ low there. still _ _ (missed.room low there);
  end = λ low there. rises_second _ _ _ (missed.end low);
  urgent = λ low there. still _ _ (missed.urgent low there);
}
misses_step old _ (urgent_comes _) missed = record {
  input = λ low there. rises_first _ _ _ (missed.input low);
  room = λ low there. still _ _ (missed.room low there);
  end = λ low there. still _ _ (missed.end low there);
  urgent = λ low there. rises_second _ _ _ (missed.urgent low);
}
misses_step old _ (reads _ answer piece input urgent up leaves less) missed =
    misses_read old answer piece input urgent up leaves less missed
misses_step old _ (reads_nothing _ piece low) missed = record {
  input = λ _ there. missed.input low there;
  room = missed.room;
  end = missed.end;
  urgent = missed.urgent;
}
misses_step old _ (writes _ answer offered room up leaves) missed =
    misses_write old answer offered room up leaves missed
misses_step old _ (writes_nothing _ offered low) missed = record {
  input = missed.input;
  room = λ _ there. missed.room low there;
  end = missed.end;
  urgent = missed.urgent;
}
misses_step old _ (pauses _) missed =
    record { input = missed.input; room = missed.room; end = missed.end; urgent = missed.urgent }
misses_step old _ (asks_again _) missed = record {
  input = λ low there. missed.input ((neither _ _ low).0) there;
  room = λ low there. missed.room ((neither _ _ low).0) there;
  end = missed.end;
  urgent = missed.urgent;
}
misses_step old _ (ends _ parting) missed =
    record { input = missed.input; room = missed.room; end = missed.end; urgent = missed.urgent }
misses_step old _ (pays _ report is) missed = misses_none old report is.input is.room is.end is.urgent
misses_step old _ (drops _ input room end urgent) missed = record {
  input = λ low there. not_both _ there input;
  room = λ low there. not_both _ there room;
  end = λ low there. not_both _ there end;
  urgent = λ low there. not_both _ there urgent;
}
misses_step old _ (reports_beside _ report) missed = record {
  input = λ low there. missed.input ((neither _ _ low).0) there;
  room = λ low there. missed.room ((neither _ _ low).0) there;
  end = λ low there. missed.end ((neither _ _ low).0) there;
  urgent = λ low there. missed.urgent ((neither _ _ low).0) there;
}

-- nothing is missed after any steps from the registration
pub misses_never : (count : ℕ) (first last : Watched) → first.owed ≡ true → Repeats Step count first last → MissesNothing last
misses_never _ first _ owed none_yet =
    record { input = λ _ _. owed; room = λ _ _. owed; end = λ _ _. owed; urgent = λ _ _. owed }
misses_never _ first last owed (one_more {count = n} {mid = mid} steps step) =
    misses_step mid last step (misses_never n first mid owed steps)

-- a link that waits does so until it is named or called
pub waits_until : (known : Readiness) (happening : Happening) → known.waits ≡ true → (IsCall happening → ⊥)
    → ((after known happening).waits ≡ true) ⊎ (names known happening ≡ true)
waits_until known (Read answer room) waits other = absurd (other tt)
waits_until known (Wrote answer offered) waits other = absurd (other tt)
waits_until known Paused waits other = inl refl
waits_until known (Reported report) waits other = inr waits
waits_until known AskedAgain waits other = inr waits
waits_until known (Ended parting) waits other = inr waits

-- only a link that waits is named
pub names_waiting : (known : Readiness) (happening : Happening) → names known happening ≡ true → known.waits ≡ true
names_waiting known (Read answer room) is = cc
names_waiting known (Wrote answer offered) is = cc
names_waiting known Paused is = cc
names_waiting known (Reported report) is = is
names_waiting known AskedAgain is = is
names_waiting known (Ended parting) is = is

pub ruleset wakeups = (misses_never, waits_until, names_waiting)

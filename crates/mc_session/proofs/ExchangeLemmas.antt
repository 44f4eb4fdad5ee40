-- What was done with an endpoint until now, and a write, a turn or a read more.
use Rattle.std.proofs.Common.{◌≡◌, ℕ, ◌+◌, ◌^◌, ◌<◌, ◌≤◌, List, [], ◌++◌, length, take, refl, sym, subst, arith, append-nil, Option, Some, None}
use Rattle.std.specs.Io.KnownBytes.{Appends, Consumes, Keeps}
use Rattle.std.proofs.KnownBytes.{Consumes-nil, Appends-nil, Consumes-trans, Appends-trans, Appends-kept}
use Rattle.mc_time.specs.Chains.{none_yet, one_more}
use Rattle.mc_session.specs.declared.endpoint.Endpoint.{Ghosts as Relations}
use Rattle.mc_session.specs.Exchanges.{most_waiting, Scene, scene, Wrote, turn, piece, write, Exchanges, no_turn, no_piece, FallsShort}
use Rattle.mc_session.specs.Rounds.{Reads, read_piece, read_nothing, LosesPiece}

-- known bytes that stay lose none
pub Consumes-kept : (old new : Option (List ℕ)) → Keeps old new → Consumes old new []
Consumes-kept None new kept = tt
Consumes-kept (Some xs) None kept = absurd kept
Consumes-kept (Some xs) (Some ys) kept = sym kept

-- what was written until now, and that an idle endpoint is idle still
abbrev pub Goes : {E S : Type 0} (relations : Relations E S) (first : E) (before : S) (last : E) (after : S) (writer_old writer_new : Option (List ℕ)) → Type 0
Goes relations first before last after writer_old writer_new = Wrote relations first before last after writer_old writer_new × (relations.is_idle first before → relations.is_idle last after)

module _ {E S : Type 0} {relations : Relations E S} where
  -- no part
  pub wrote_nothing : (endpoint : E) (store : S) (writer : Option (List ℕ)) → Wrote relations endpoint store endpoint store writer writer
  wrote_nothing endpoint store writer = record { written = []; writes = (0, none_yet); appends = Appends-nil writer }

  -- a front of the output more
  pub goes_front : {first mid new last : E} {before between after end : S} {a b c : Option (List ℕ)} {out : List ℕ} (n : ℕ) → last ≡ new → end ≡ after
      → Goes relations first before mid between a b → relations.sends n mid between new after
      → (relations.is_idle mid between → relations.is_idle new after) → out ≡ relations.waits mid between → Appends b c (take n out) → Goes relations first before last end a c
  goes_front {first = first} {mid = mid} {new = new} {last = last} {before = before} {between = between} {after = after} {end = end} {a = a} {b = b} {c =
      c} {out = out} n same same_store (wrote, idle) sends idle_still is appends =
      subst (λ e. Goes relations first before e end a c) (sym same)
      (subst (λ s. Goes relations first before new s a c) (sym same_store) (
        record {
          written = wrote.written ++ take n (relations.waits mid between);
          writes = (wrote.writes.0 + 1, one_more wrote.writes.1 (record { count = n; sends = sends; written = refl }));
          appends = Appends-trans a b c wrote.written (take n (relations.waits mid between)) wrote.appends (subst (λ o. Appends b c (take n o)) is appends);
        },
        λ first_idle. idle_still (idle first_idle),
      ))

  -- a write that failed
  pub goes_kept : {first mid last : E} {before between end : S} {a b c : Option (List ℕ)} → last ≡ mid → end ≡ between
      → Goes relations first before mid between a b → Keeps b c → Goes relations first before last end a c
  goes_kept {first = first} {mid = mid} {last = last} {before = before} {between = between} {end = end} {a = a} {b = b} {c = c} same same_store (wrote, idle) kept =
      subst (λ e. Goes relations first before e end a c) (sym same)
      (subst (λ s. Goes relations first before mid s a c) (sym same_store)
      (record { written = wrote.written; writes = wrote.writes; appends = Appends-kept a b c wrote.written wrote.appends kept }, idle))

module _ {E S : Type 0} {relations : Relations E S} {may_give : ℕ → Type 0} where
  -- before the first round
  abbrev pub exchanges_nothing : (here : Scene E S) → Exchanges relations may_give 0 here here
  exchanges_nothing here = record { turns = 0; few = omega arith; read = []; written = []; exchange = (0, none_yet); consumes = Consumes-nil here.reader; appends = Appends-nil here.writer }

  abbrev pub at_most : {most more : ℕ} {old new : Scene E S} → most ≤ more → Exchanges relations may_give most old new → Exchanges relations may_give more old new
  at_most less so_far = record {
    turns = so_far.turns;
    few = omega (arith, less, so_far.few);
    read = so_far.read;
    written = so_far.written;
    exchange = so_far.exchange;
    consumes = so_far.consumes;
    appends = so_far.appends;
  }

  -- a write
  pub then_wrote : {most : ℕ} {first : Scene E S} {old new : E} {before after : S} {reader a b : Option (List ℕ)} → Wrote relations old before new after a b
      → Exchanges relations may_give most first (scene old before reader a)
      → Exchanges relations may_give most first (scene new after reader b)
  then_wrote {first = first} {a = a} {b = b} wrote so_far = record {
    turns = so_far.turns;
    few = so_far.few;
    read = so_far.read;
    written = so_far.written ++ wrote.written;
    exchange = (so_far.exchange.0 + 1, one_more so_far.exchange.1 (write wrote.written wrote.writes));
    consumes = so_far.consumes;
    appends = Appends-trans first.writer a b so_far.written wrote.written so_far.appends wrote.appends;
  }

  -- a turn
  pub then_turned : {most : ℕ} {first : Scene E S} {old new : E} {before after : S} {reader writer : Option (List ℕ)} (now : ℕ) → may_give now
      → length (relations.waits old before) < most_waiting → relations.turns now old before new after
      → Exchanges relations may_give most first (scene old before reader writer) → Exchanges relations may_give (most + 1) first (scene new after reader writer)
  then_turned now gives small turns so_far = record {
    turns = so_far.turns + 1;
    few = omega (arith, so_far.few);
    read = so_far.read;
    written = so_far.written;
    exchange = (so_far.exchange.0 + 1, one_more so_far.exchange.1 (turn now gives small turns));
    consumes = so_far.consumes;
    appends = so_far.appends;
  }

  -- a read
  pub then_read : {most : ℕ} {first : Scene E S} {old new : E} {before after : S} {a b writer : Option (List ℕ)} → relations.is_idle old before → relations.waits old before ≡ []
      → Reads relations old before a b new after → Exchanges relations may_give most first (scene old before a writer)
      → Exchanges relations may_give most first (scene new after b writer)
  then_read {first = first} {a = a} {b = b} idle all_written (read_piece bytes short consumes takes) so_far = record {
    turns = so_far.turns;
    few = so_far.few;
    read = so_far.read ++ bytes;
    written = so_far.written;
    exchange = (so_far.exchange.0 + 1, one_more so_far.exchange.1 (piece bytes short idle all_written takes));
    consumes = Consumes-trans first.reader a b so_far.read bytes so_far.consumes consumes;
    appends = so_far.appends;
  }
  then_read {first = first} {a = a} {b = b} idle all_written (read_nothing consumes) so_far = record {
    turns = so_far.turns;
    few = so_far.few;
    read = so_far.read;
    written = so_far.written;
    exchange = so_far.exchange;
    consumes = subst (Consumes first.reader b) (append-nil so_far.read) (Consumes-trans first.reader a b so_far.read [] so_far.consumes consumes);
    appends = so_far.appends;
  }

  -- a turn that memory ran out in
  pub short_turn : {most : ℕ} {first : Scene E S} {old new : E} {before after : S} {reader writer : Option (List ℕ)} (now : ℕ) → may_give now
      → length (relations.waits old before) < most_waiting → relations.loses_turn now old before new after → most < 2 ^ 40
      → Exchanges relations may_give most first (scene old before reader writer) → FallsShort relations may_give first (scene new after reader writer)
  short_turn {old = old} {before = before} {reader = reader} now gives small loses few so_far = record {
    last = old;
    between = before;
    reader = reader;
    lost = [];
    exchanges = at_most (omega (arith, few)) so_far;
    refusal = no_turn now (omega (arith, few, so_far.few)) small gives loses;
    consumes = Consumes-nil reader;
  }

  -- a piece that was read and found no memory
  pub short_read : {most : ℕ} {first : Scene E S} {old new : E} {before after : S} {a b writer : Option (List ℕ)} → relations.is_idle old before
      → LosesPiece relations old before a b new after → most ≤ 2 ^ 40
      → Exchanges relations may_give most first (scene old before a writer) → FallsShort relations may_give first (scene new after b writer)
  short_read {old = old} {before = before} {a = a} idle loses few so_far = record {
    last = old;
    between = before;
    reader = a;
    lost = loses.piece;
    exchanges = at_most few so_far;
    refusal = no_piece loses.piece loses.some loses.short idle loses.loses;
    consumes = loses.consumes;
  }

-- The connection of a session that is served: its output is the transcript of its turns.
use Rattle.mc_world.proofs.Words.{◌≡◌, inl, inr, ℕ, ◌+◌, Bool, true, false, List, [], ◌∷◌, ◌++◌, length, Option, Some, None, refl, sym, ap, ◌∙◌, subst, arith, option_map, if◌then◌else◌, not}
use Rattle.mc_world.proofs.Words.{append_assoc, append-nil, slice_get, MatchOption, Plain, ProtocolUnit, AreUnits, is_last, turns, same_units, some_units, Connection, with_piece, after_turn}
use Rattle.mc_world.proofs.Words.{PlainWorld}
use Rattle.mc_world.proofs.Words.{numbered, if_open, open_connection, at_connection, IsNextTurn, Turns, Happens, Runs, turn_events}
use Rattle.mc_world.specs.declared.event.Event.TheVariants.{Turn}
use Rattle.mc_time.specs.Chains.{Chain}
use Rattle.mc_world.proofs.EventLemmas.{changed_open, if_opened, opens, number_get, put_get}
use Rattle.mc_served.specs.Transcripts.{Transcript}
use Rattle.mc_served.proofs.GrownLemmas.{grown, turns_both, last_ends, next_later}
use Rattle.mc_served.proofs.SameLemmas.{transcript_more}

-- a chain in two parts
pub split : {S L : Type 0} (Step : S → L → S → Type 0) (front rest : List L) (old new : S) → Chain Step old (front ++ rest) new → (mid : S) × Chain Step old front mid × Chain Step mid rest new
split Step [] rest old new c = (old, refl, c)
split Step (l ∷ front) rest old new c = let more = split Step front rest c.0 new c.2 in (more.0, (c.0, c.1, more.1), more.2)

-- What was read, and which of its turns are done, by whether the connection is open. If it is closed,
-- its last unit is done, and more bytes have no turn.
abbrev pub SoFar : (g : ℕ) (read : List ℕ) (done : List (ProtocolUnit × ℕ)) (c : Connection) → Bool → Type 0
SoFar g read done c true = (c.greatest ≡ g) × (c.passed ≡ 0) × (c.stream ≡ read)
    × ((units : List ProtocolUnit) → AreUnits g 0 read units → (later : List (ProtocolUnit × ℕ)) × (turns units ≡ done ++ later))
SoFar g read done c false = (more : List ℕ) (units : List ProtocolUnit) → AreUnits g 0 (read ++ more) units → turns units ≡ done

-- Session n is served: from a state, with these bytes read, until this world.
pub record IsServed (may_give : ℕ → Type 0) (g : ℕ) (state : Plain) (n : ℕ) (read : List ℕ) (w : PlainWorld) : Type 0 where
  pub c : Connection
  pub here : numbered n w.connections ≡ Some c
  pub done : List (ProtocolUnit × ℕ)
  pub taken : c.taken ≡ length done
  pub transcript : Transcript may_give state done c.out w.state
  pub so : SoFar g read done c c.is_open

module _ (may_give : ℕ → Type 0) (g : ℕ) (state : Plain) (n : ℕ) where
  abbrev Is : (read : List ℕ) → PlainWorld → Type 0
  Is read w = IsServed may_give g state n read w

  pub is_same : (read : List ℕ) (old new : PlainWorld) → new.connections ≡ old.connections → new.state ≡ old.state → Is read old → Is read new
  is_same read old new cs st is = record {
    c = is.c;
    here = ap (numbered n) cs ∙ is.here;
    done = is.done;
    taken = is.taken;
    transcript = subst (λ (s : Plain). Transcript may_give state is.done is.c.out s) (sym st) is.transcript;
    so = is.so;
  }

  pub changed_at : (w : PlainWorld) (f : Connection → Connection) (c : Connection) (b : Bool) → numbered n w.connections ≡ Some c → c.is_open ≡ b
      → numbered n (at_connection w n f).connections ≡ Some (if b then f c else c)
  changed_at w f c b here is =
      ap (numbered n) (changed_open n w.connections f) ∙ number_get w.connections n (if_opened opens f) ∙ ap (option_map (if_opened opens f)) here ∙ ap (λ (k : Bool). Some (if k then f c else c)) is

  -- a piece more
  pub grown_so : (read bytes : List ℕ) (done : List (ProtocolUnit × ℕ)) → ((units : List ProtocolUnit) → AreUnits g 0 read units → (later : List (ProtocolUnit × ℕ)) × (turns units ≡ done ++ later))
      → (units : List ProtocolUnit) → AreUnits g 0 (read ++ bytes) units → (later : List (ProtocolUnit × ℕ)) × (turns units ≡ done ++ later)
  grown_so read bytes done so units are =
      let us = some_units g 0 read in
      let was = so us.0 us.1 in
      let more = grown g 0 read bytes us.0 units us.1 are in
      (was.0 ++ turns more.0, ap turns more.1 ∙ turns_both us.0 more.0 ∙ ap (λ ts. ts ++ turns more.0) was.1 ∙ append_assoc done was.0 (turns more.0))

  piece_by : (read bytes : List ℕ) (w : PlainWorld) (is : Is read w) (b : Bool) → is.c.is_open ≡ b → SoFar g read is.done is.c b → Is (read ++ bytes) (at_connection w n (with_piece bytes))
  piece_by read bytes w is true is_open so = record {
    c = with_piece bytes is.c;
    here = changed_at w (with_piece bytes) is.c true is.here is_open;
    done = is.done;
    taken = is.taken;
    transcript = is.transcript;
    so = subst (SoFar g (read ++ bytes) is.done (with_piece bytes is.c)) (sym is_open) (so.0, so.1, ap (λ s. s ++ bytes) so.2, grown_so read bytes is.done so.3);
  }
  piece_by read bytes w is false shut so = record {
    c = is.c;
    here = changed_at w (with_piece bytes) is.c false is.here shut;
    done = is.done;
    taken = is.taken;
    transcript = is.transcript;
    so = subst (SoFar g (read ++ bytes) is.done is.c) (sym shut) (λ more units are. so (bytes ++ more) units (subst (λ s. AreUnits g 0 s units) (append_assoc read bytes more) are));
  }

  pub served_piece : (read bytes : List ℕ) (old new : PlainWorld) → Is read old → new ≡ at_connection old n (with_piece bytes) → Is (read ++ bytes) new
  served_piece read bytes old new is h = subst (Is (read ++ bytes)) (sym h) (piece_by read bytes old is is.c.is_open refl is.so)

  -- a turn more
  after_so : (read : List ℕ) (done : List (ProtocolUnit × ℕ)) (c : Connection) (unit : ProtocolUnit) (at : ℕ) (text : List ℕ) (units : List ProtocolUnit) → AreUnits g 0 read units
      → (rest : List (ProtocolUnit × ℕ)) → turns units ≡ (done ++ (unit, at) ∷ []) ++ rest → turns units ≡ done ++ (unit, at) ∷ rest → c.greatest ≡ g → c.passed ≡ 0 → c.stream ≡ read
      → (b : Bool) → is_last unit ≡ b → SoFar g read (done ++ (unit, at) ∷ []) (after_turn unit text c) (not b)
  after_so read done c unit at text units are rest parts whole greatest passed stream true last = λ more vs are_more.
      let ends = last_ends g 0 read units done rest (unit, at) are whole last in
      let longer = grown g 0 read more units vs are are_more in
      ap turns (longer.1 ∙ ap (λ us. units ++ us) (longer.2 ends.1) ∙ append-nil units) ∙ parts ∙ ap (λ ts. (done ++ (unit, at) ∷ []) ++ ts) ends.0 ∙ append-nil (done ++ (unit, at) ∷ [])
  after_so read done c unit at text units are rest parts whole greatest passed stream false goes_on =
      (greatest, passed, stream, λ vs are_vs. (rest, ap turns (same_units g 0 read vs units are_vs are) ∙ parts))

  one_longer : (done : List (ProtocolUnit × ℕ)) (t : ProtocolUnit × ℕ) (k : ℕ) → k ≡ length done → k + 1 ≡ length (done ++ t ∷ [])
  one_longer [] t k is = omega (arith, is)
  one_longer (d ∷ done) t k is = let more = one_longer done t (length done) refl in omega (arith, is, more)

  -- the turn that is next, among those of what was read
  pub next_of : (read : List ℕ) (done : List (ProtocolUnit × ℕ)) (c : Connection) (unit : ProtocolUnit) (at : ℕ) → SoFar g read done c true → c.taken ≡ length done → (next : IsNextTurn c unit at)
      → AreUnits g 0 read next.units × (rest : List (ProtocolUnit × ℕ)) × (turns next.units ≡ done ++ (unit, at) ∷ rest)
  next_of read done c unit at so taken next =
      let us = next.units in
      let are : AreUnits g 0 read us =
      subst (λ k. AreUnits k 0 read us) so.0 (subst (λ p. AreUnits c.greatest p read us) so.1 (subst (λ s. AreUnits c.greatest c.passed s us) so.2 next.are)) in
      let was = so.3 us are in
      let found : slice_get (done ++ was.0) (length done) ≡ Some (unit, at) = sym (λ i. slice_get (was.1 i) (taken i)) ∙ next.next in
      let rest = next_later done was.0 (unit, at) found in
      (are, rest.0, was.1 ∙ ap (λ ts. done ++ ts) rest.1)

  turn_taken : (read : List ℕ) (old : PlainWorld) (now : ℕ) (is : Is read old) → may_give now → SoFar g read is.done is.c true
      → (new : PlainWorld) → Turns (record old { now = now }) n is.c new → Is read new
  turn_taken read old now is gives so new (inl (none, same)) = is_same read old new (ap (λ (w : PlainWorld). w.connections) same) (ap (λ (w : PlainWorld). w.state) same) is
  turn_taken read old now is gives so new (inr (left, t, same)) =
      let c = is.c in
      let next = next_of read is.done c t.unit t.at so is.taken t.next in
      let parts : turns t.next.units ≡ (is.done ++ (t.unit, t.at) ∷ []) ++ next.1 = next.2 ∙ sym (append_assoc is.done ((t.unit, t.at) ∷ []) next.1) in
      subst (Is read) (sym same) record {
        c = after_turn t.unit t.text c;
        here = put_get old.connections n c (after_turn t.unit t.text c) is.here;
        done = is.done ++ (t.unit, t.at) ∷ [];
        taken = one_longer is.done (t.unit, t.at) c.taken is.taken;
        transcript = transcript_more may_give is.done (t.unit, t.at) state old.state left c.out t.text now is.transcript gives t.answers;
        so = after_so read is.done c t.unit t.at t.text t.next.units next.0 next.1 parts next.2 so.0 so.1 so.2 (is_last t.unit) refl;
      }

  turn_by : (read : List ℕ) (old : PlainWorld) (now : ℕ) (is : Is read old) → may_give now → (b : Bool) → is.c.is_open ≡ b → SoFar g read is.done is.c b → (new : PlainWorld)
      → MatchOption (if b then Some is.c else None) (new ≡ record old { now = now }) (λ c. Turns (record old { now = now }) n c new) → Is read new
  turn_by read old now is gives true is_open so new h = turn_taken read old now is gives so new h
  turn_by read old now is gives false shut so new h = is_same read old new (ap (λ (w : PlainWorld). w.connections) h) (ap (λ (w : PlainWorld). w.state) h) is

  pub served_turn : (hash : List ℕ → ℕ) (shelves shelf now : ℕ) (read : List ℕ) (old new : PlainWorld) → Is read old → may_give now → Runs hash shelves old (turn_events n shelf now) new → Is read new
  served_turn hash shelves shelf now read old new is gives h =
      let moved : PlainWorld = record old { now = now } in
      let happens : Happens hash shelves moved (Turn n) h.2.0 = subst (λ (w : PlainWorld). Happens hash shelves w (Turn n) h.2.0) h.1 h.2.1 in
      let found : open_connection n old.connections ≡ (if is.c.is_open then Some is.c else None) = ap (if_open (λ c. c.is_open)) is.here in
      let took : Is read h.2.0 = turn_by read old now is gives is.c.is_open refl is.so h.2.0
      (subst (λ (o : Option Connection). MatchOption o (h.2.0 ≡ moved) (λ c. Turns moved n c h.2.0)) found happens) in
      subst (Is read) (sym (h.2.2.2 ∙ h.2.2.1)) took

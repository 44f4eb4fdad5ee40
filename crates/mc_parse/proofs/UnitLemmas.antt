-- No spelling begins another.
use Rattle.std.proofs.Common.{◌≡◌, ◌≢◌, ◌<◌, ◌≤◌, ◌+◌, ℕ, List, [], ◌∷◌, ◌++◌, length, take, drop, refl, sym, ap, ◌∙◌, subst, arith, Result, Ok, Err, append_assoc, length-append}
use Rattle.std.proofs.Common.{Option, Some, None, IfSome}
use Rattle.std.proofs.lemmas.List.{append-nil, take-append-drop, length-drop, length-take-le}
use Rattle.std.proofs.Math.Seq.{take-add}
use Rattle.std.specs.List.{AllByRecursion}
use Rattle.std.specs.Str.Lines.{strip_carriage_return}
use Rattle.mc_protocol.specs.Words.{words}
use Rattle.mc_protocol.specs.declared.fault.LineFault.{LineFault}
use Rattle.std.proofs.Common.{true, false, if◌then◌else◌}
use Rattle.std.specs.Str.{bytes_eq}
use Rattle.mc_protocol.specs.declared.fault.LineFault.TheVariants.{BadChunk}
use Rattle.mc_protocol.specs.Commands.{block_in}
use Rattle.mc_parse.specs.Lines.{Line, meaning}
use Rattle.mc_parse.specs.Units.{ProtocolUnit, Request, Fault, LongLine, IsLine, CompletesBy, Completes, with_block, stored, SpellsLine, Spells}
use Rattle.mc_parse.specs.Peeks.{BeginsWithNone, IsSpelled}

abbrev pub NoFeed : List ℕ → Type 0
NoFeed bytes = AllByRecursion (λ b. b ≢ 10) bytes

-- bytes begin with one line at most
pub same_text : (s t x y : List ℕ) → NoFeed s → NoFeed t → s ++ 10 ∷ x ≡ t ++ 10 ∷ y → (s ≡ t) × (x ≡ y)
same_text [] [] x y g h e = (refl, cc)
same_text [] (c ∷ t) x y g h e = absurd (h.0 (cc))
same_text (b ∷ s) [] x y g h e = absurd (g.0 (cc))
same_text (b ∷ s) (c ∷ t) x y g h e =
    let tails : s ++ 10 ∷ x ≡ t ++ 10 ∷ y = cc in
    let r = same_text s t x y g.1 h.1 tails in
    (let heads : b ≡ c = cc in let q = r.0 in cc, r.1)

-- where the first part ends before any line feed of the second begins
pub long_text : (s t x y : List ℕ) → NoFeed s → NoFeed t → length s < length t → s ++ 10 ∷ x ≡ t ++ y → ⊥
long_text [] [] x y g h l e = omega arith
long_text [] (c ∷ t) x y g h l e = h.0 (cc)
long_text (b ∷ s) [] x y g h l e = omega arith
long_text (b ∷ s) (c ∷ t) x y g h l e = long_text s t x y g.1 h.1 (omega arith) (cc)

same_parts : (a b x y : List ℕ) → length a ≡ length b → a ++ x ≡ b ++ y → (a ≡ b) × (x ≡ y)
same_parts [] [] x y l e = (refl, e)
same_parts [] (c ∷ b) x y l e = absurd (omega arith)
same_parts (c ∷ a) [] x y l e = absurd (omega arith)
same_parts (c ∷ a) (d ∷ b) x y l e =
    let r = same_parts a b x y (omega arith) (cc) in
    (let heads : c ≡ d = cc in let q = r.0 in cc, r.1)

-- and what follows a line completes one unit
same_by : (its : Option ℕ) (line : Line) (q r x y : List ℕ) (u v : ProtocolUnit) → CompletesBy its line q u → CompletesBy its line r v → q ++ x ≡ r ++ y → (u ≡ v) × (q ≡ r)
same_by None line q r x y u v g h e = (g.1 ∙ sym h.1, g.0 ∙ sym h.0)
same_by (Some len) line q r x y u v (b, c, qe, bl, cl, ue) (b', c', re, bl', cl', ve) e =
    let joined : (b ++ c) ++ x ≡ (b' ++ c') ++ y = ap (λ k. k ++ x) (sym qe) ∙ e ∙ ap (λ k. k ++ y) re in
    let first = same_parts (b ++ c) (b' ++ c') x y (omega (arith, length-append b c, length-append b' c')) joined in
    let second = same_parts b b' c c' (omega arith) first.0 in
    let bs = second.0 in
    let cs = second.1 in
    (cc, cc)

same_completion : (m : Result Line LineFault) (q r x y : List ℕ) (u v : ProtocolUnit) → Completes m q u → Completes m r v → q ++ x ≡ r ++ y → (u ≡ v) × (q ≡ r)
same_completion (Err f) q r x y u v g h e = (g.1 ∙ sym h.1, g.0 ∙ sym h.0)
same_completion (Ok line) q r x y u v g h e = same_by (block_in line) line q r x y u v g h e

-- the bytes of a line and what follows it, at the line feed
parted : (front line text rest more : List ℕ) → front ≡ line ++ rest → line ≡ text ++ 10 ∷ [] → front ++ more ≡ text ++ 10 ∷ (rest ++ more)
parted front line text rest more f l = rw (f, l) (simp append_assoc)

-- two units that the same bytes begin with are one
lines_agree : (greatest : ℕ) (u v : ProtocolUnit) (a b x y : List ℕ) → SpellsLine greatest u a → SpellsLine greatest v b → a ++ x ≡ b ++ y → (u ≡ v) × (a ≡ b)
lines_agree greatest u v a b x y g h e =
    let both = sym (parted a g.line g.text g.rest x g.parts g.is_line.ended) ∙ e ∙ parted b h.line h.text h.rest y h.parts h.is_line.ended in
    let t = same_text g.text h.text (g.rest ++ x) (h.rest ++ y) g.is_line.one_line h.is_line.one_line both in
    let meant = ap (λ s. meaning greatest (words (strip_carriage_return s))) t.0 in
    let c = same_completion _ g.rest h.rest x y u v g.completes (subst (λ m. Completes m h.rest v) (sym meant) h.completes) t.1 in
    let rests = c.1 in
    let texts = t.0 in
    let ga = g.parts in
    let gl = g.is_line.ended in
    let ha = h.parts in
    let hl = h.is_line.ended in
    (c.0, cc)

long_alone : (greatest : ℕ) (u : ProtocolUnit) (a b x y : List ℕ) → SpellsLine greatest u a → length b ≡ 65537 → NoFeed b → a ++ x ≡ b ++ y → ⊥
long_alone greatest u a b x y g l h e =
    long_text g.text b (g.rest ++ x) y g.is_line.one_line h (omega (arith, g.is_line.short)) (sym (parted a g.line g.text g.rest x g.parts g.is_line.ended) ∙ e)

-- no spelling begins another
pub same_spelling : (greatest : ℕ) (u v : ProtocolUnit) (a b x y : List ℕ) → Spells greatest u a → Spells greatest v b → a ++ x ≡ b ++ y → (u ≡ v) × (a ≡ b)
same_spelling greatest (Request c) (Request d) a b x y g h e = lines_agree greatest (Request c) (Request d) a b x y g h e
same_spelling greatest (Request c) (Fault d) a b x y g h e = lines_agree greatest (Request c) (Fault d) a b x y g h e
same_spelling greatest (Fault c) (Request d) a b x y g h e = lines_agree greatest (Fault c) (Request d) a b x y g h e
same_spelling greatest (Fault c) (Fault d) a b x y g h e = lines_agree greatest (Fault c) (Fault d) a b x y g h e
same_spelling greatest (Request c) LongLine a b x y g h e = absurd (long_alone greatest (Request c) a b x y g h.0 h.1 e)
same_spelling greatest (Fault c) LongLine a b x y g h e = absurd (long_alone greatest (Fault c) a b x y g h.0 h.1 e)
same_spelling greatest LongLine (Request c) a b x y g h e = absurd (long_alone greatest (Request c) b a y x h g.0 g.1 (sym e))
same_spelling greatest LongLine (Fault c) a b x y g h e = absurd (long_alone greatest (Fault c) b a y x h g.0 g.1 (sym e))
same_spelling greatest LongLine LongLine a b x y g h e = (refl, (same_parts a b x y (omega arith) e).0)

-- a block that CR LF follows
pub stored_whole : (head : Line) (block ended : List ℕ) → bytes_eq ended (13 ∷ 10 ∷ []) ≡ true → Request (with_block head block) ≡ stored head block ended
stored_whole head block ended is = rw is refl

-- a block that something else follows
pub stored_fault : (head : Line) (block ended : List ℕ) → bytes_eq ended (13 ∷ 10 ∷ []) ≡ false → Fault BadChunk ≡ stored head block ended
stored_fault head block ended isnt = rw isnt refl

-- what a line with its block spells is a set or a fault
Spells_stored : (greatest : ℕ) (head : Line) (block ended front : List ℕ) → SpellsLine greatest (stored head block ended) front → Spells greatest (stored head block ended) front
Spells_stored greatest head block ended front = elim (bytes_eq ended (13 ∷ 10 ∷ [])) as (λ b. SpellsLine greatest (if b then Request (with_block head block) else Fault BadChunk) front
    → Spells greatest (if b then Request (with_block head block) else Fault BadChunk) front) [ true ↦ λ s. s | false ↦ λ s. s ]

-- The bytes begin with a line whose line feed is at end.
module _ (greatest : ℕ) (bytes : List ℕ) (end : ℕ) (line : IsLine (take (end + 1) bytes) (take end bytes)) where
  abbrev meant : Result Line LineFault
  meant = meaning greatest (words (strip_carriage_return (take end bytes)))

  pub at_feed : bytes ≡ take end bytes ++ 10 ∷ drop (end + 1) bytes
  at_feed = sym (take-append-drop (end + 1) bytes) ∙ ap (λ l. l ++ drop (end + 1) bytes) line.ended ∙ append_assoc (take end bytes) (10 ∷ []) (drop (end + 1) bytes)

  -- with so many bytes behind it, it spells what they complete
  pub spells_line : (unit : ProtocolUnit) (n : ℕ) → Completes meant (take n (drop (end + 1) bytes)) unit → SpellsLine greatest unit (take (end + 1 + n) bytes)
  spells_line unit n completes = record {
    line = take (end + 1) bytes;
    text = take end bytes;
    rest = take n (drop (end + 1) bytes);
    parts = take-add (end + 1) n bytes;
    is_line = line;
    completes = completes;
  }

  pub spells_bare : (unit : ProtocolUnit) → Completes meant [] unit → SpellsLine greatest unit (take (end + 1) bytes)
  spells_bare unit completes = record {
    line = take (end + 1) bytes;
    text = take end bytes;
    rest = [];
    parts = sym (append-nil (take (end + 1) bytes));
    is_line = line;
    completes = completes;
  }

  -- with a block and two bytes more it spells a set or a fault
  pub spells_block : (head : Line) (len : ℕ) (rest block ended : List ℕ) (unit : ProtocolUnit) → meant ≡ Ok head → block_in head ≡ Some len
      → rest ≡ drop (end + 1) bytes → len + 2 ≤ length rest → block ≡ take len rest → ended ≡ take 2 (drop len rest) → unit ≡ stored head block ended
      → SpellsLine greatest unit (take (end + 1 + (len + 2)) bytes)
  spells_block head len rest block ended unit is its r enough b e u =
      spells_line unit (len + 2)
      (subst (λ m. Completes m (take (len + 2) (drop (end + 1) bytes)) unit) (sym is) (subst (λ n. CompletesBy n head (take (len + 2) (drop (end + 1) bytes)) unit) (sym its) (
        block,
        ended,
        ap (take (len + 2)) (sym r) ∙ take-add len 2 rest ∙ ap (λ k. k ++ take 2 (drop len rest)) (sym b) ∙ ap (λ k. block ++ k) (sym e),
        ap length b ∙ length-take-le len rest (omega arith),
        ap length e ∙ length-take-le 2 (drop len rest) (omega (arith, length-drop len rest)),
        u,
      )))

  -- so it is found
  pub finds_block : (head : Line) (len : ℕ) (rest block ended : List ℕ) (unit : ProtocolUnit) → meant ≡ Ok head → block_in head ≡ Some len
      → rest ≡ drop (end + 1) bytes → len + 2 ≤ length rest → block ≡ take len rest → ended ≡ take 2 (drop len rest) → unit ≡ stored head block ended
      → IsSpelled greatest (unit, end + 1 + (len + 2)) bytes
  finds_block head len rest block ended unit is its r enough b e u =
      let front : List ℕ = take (end + 1 + (len + 2)) bytes in
      let line_is : SpellsLine greatest (stored head block ended) front = spells_block head len rest block ended (stored head block ended) is its r enough b e refl in
      record {
        within = omega (arith, ap length r, length-drop (end + 1) bytes);
        spelled = subst (λ v. Spells greatest v front) (sym u) (Spells_stored greatest head block ended front line_is);
      }

  none_of : (unit : ProtocolUnit) (front more : List ℕ) (head : Line) (len : ℕ) → meant ≡ Ok head → block_in head ≡ Some len
      → length (drop (end + 1) bytes) < len + 2 → bytes ≡ front ++ more → SpellsLine greatest unit front → ⊥
  none_of unit front more head len is its few e h =
      let both = sym at_feed ∙ e ∙ parted front h.line h.text h.rest more h.parts h.is_line.ended in
      let t = same_text (take end bytes) h.text (drop (end + 1) bytes) (h.rest ++ more) line.one_line h.is_line.one_line both in
      let said = sym (ap (λ s. meaning greatest (words (strip_carriage_return s))) t.0) ∙ is in
      let c = subst (λ n. CompletesBy n head h.rest unit) its (subst (λ m. Completes m h.rest unit) said h.completes) in
      omega (arith, ap length t.1, length-append h.rest more, ap length c.2, length-append c.0 c.1, c.3, c.4)

  -- whatever a front spells, the line completes it
  pub completed : (unit : ProtocolUnit) (front more : List ℕ) → bytes ≡ front ++ more → SpellsLine greatest unit front → (rest : List ℕ) × Completes meant rest unit
  completed unit front more e h =
      let both = sym at_feed ∙ e ∙ parted front h.line h.text h.rest more h.parts h.is_line.ended in
      let t = same_text (take end bytes) h.text (drop (end + 1) bytes) (h.rest ++ more) line.one_line h.is_line.one_line both in
      (h.rest, subst (λ s. Completes (meaning greatest (words (strip_carriage_return s))) h.rest unit) (sym t.0) h.completes)

  -- where a block is still to come, no front spells anything
  none_at : (head : Line) (len : ℕ) → meant ≡ Ok head → block_in head ≡ Some len → length (drop (end + 1) bytes) < len + 2
      → (unit : ProtocolUnit) (front more : List ℕ) → bytes ≡ front ++ more → Spells greatest unit front → ⊥
  none_at head len is its few LongLine front more e h =
      long_text (take end bytes) front (drop (end + 1) bytes) more line.one_line h.1 (omega (arith, line.short, h.0)) (sym at_feed ∙ e)
  none_at head len is its few (Request c) front more e h = none_of (Request c) front more head len is its few e h
  none_at head len is its few (Fault f) front more e h = none_of (Fault f) front more head len is its few e h

  pub none_line : (head : Line) (len : ℕ) → meant ≡ Ok head → block_in head ≡ Some len → length (drop (end + 1) bytes) < len + 2 → BeginsWithNone greatest bytes
  none_line head len is its few = record { none = none_at head len is its few }

-- where no line feed is there is no line
no_line : (bytes t y : List ℕ) → NoFeed bytes → bytes ≡ t ++ 10 ∷ y → ⊥
no_line [] [] y h e = cc
no_line [] (c ∷ t) y h e = cc
no_line (b ∷ bytes) [] y h e = h.0 (cc)
no_line (b ∷ bytes) (c ∷ t) y h e = no_line bytes t y h.1 (cc)

-- so few bytes without a line feed spell nothing
pub none_in : (greatest : ℕ) (bytes : List ℕ) → NoFeed bytes → length bytes ≤ 65536 → (unit : ProtocolUnit) (front more : List ℕ) → bytes ≡ front ++ more → Spells greatest unit front → ⊥
none_in greatest bytes none short LongLine front more e h = omega (arith, ap length e, length-append front more, h.0)
none_in greatest bytes none short (Request c) front more e h = no_line bytes h.text (h.rest ++ more) none (e ∙ parted front h.line h.text h.rest more h.parts h.is_line.ended)
none_in greatest bytes none short (Fault f) front more e h = no_line bytes h.text (h.rest ++ more) none (e ∙ parted front h.line h.text h.rest more h.parts h.is_line.ended)

-- whatever else a front spells is what was found
pub found_only : (greatest : ℕ) (bytes : List ℕ) (found : Option (ProtocolUnit × ℕ)) → IfSome found (λ p. IsSpelled greatest p bytes)
    → (found ≡ None → BeginsWithNone greatest bytes) → (unit : ProtocolUnit) (len : ℕ) → IsSpelled greatest (unit, len) bytes → found ≡ Some (unit, len)
found_only greatest bytes None is none unit len h = absurd ((none refl).none unit (take len bytes) (drop len bytes) (sym (take-append-drop len bytes)) h.spelled)
found_only greatest bytes (Some (u, n)) is none unit len h =
    let q = same_spelling greatest u unit (take n bytes) (take len bytes) (drop n bytes) (drop len bytes) is.spelled h.spelled (take-append-drop n bytes ∙ sym (take-append-drop len bytes)) in
    let same : n ≡ len = sym (length-take-le n bytes is.within) ∙ ap length q.1 ∙ length-take-le len bytes h.within in
    let units = q.0 in
    cc

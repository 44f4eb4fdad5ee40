-- A note of the turns that were taken fits the bytes: before the first turn, one turn on, and behind the last key.
use Rattle.std.proofs.Common.{◌≡◌, ◌==◌, ◌≤◌, ◌+◌, ◌-◌, if◌then◌else◌, ℕ, Bool, true, false, List, [], ◌∷◌, ◌++◌, length, take, drop, refl, sym, ap, ◌∙◌, arith, ℤ, Option, Some}
use Rattle.std.proofs.Common.{None, Result, Ok, Err, length-append, length-drop}
use Rattle.std.proofs.Math.Seq.{take-append_seam}
use Rattle.std.proofs.lemmas.List.{append-nil, drop-drop, take-take, take-append-le, length-take, length-take-le, take_all}
use Rattle.std.specs.Str.Lines.{strip_carriage_return}
use Rattle.std.specs.List.{slice_index}
use Rattle.mc_protocol.specs.Words.{words}
use Rattle.mc_protocol.specs.Commands.{Shape, Single, Retrieval, Alone, shape, retrieval, after_by, after_steps, retrieval-shape}
use Rattle.mc_protocol.specs.Commands.{Command}
use Rattle.mc_parse.specs.declared.cursor.Cursor.{Cursor}
use Rattle.mc_parse.specs.Units.{ProtocolUnit, Request, Fault, LongLine}
use Rattle.mc_parse.specs.Peeks.{left_of}
use Rattle.mc_parse.specs.Cursors.{text_left, IsWithin, PointsInto}

-- turns after turns
more_by : (its : Shape) (command : Command) (taken more : ℕ) → shape command ≡ its → after_steps (after_by its command taken) more ≡ after_by its command (taken + more)
more_by (Single step has_block quiet) command taken more is = ap (λ s. after_by s command more) is
more_by (Retrieval exptime keys with_unique) command taken more is =
    let left : Command = retrieval exptime (drop taken keys) with_unique in
    ap (λ s. after_by s left more) (retrieval-shape exptime (drop taken keys) with_unique)
    ∙ ap (λ ks. retrieval exptime ks with_unique) (drop-drop more taken keys)
more_by (Alone lone) command taken more is = ap (λ s. after_by s command more) is

step_more : (command : Command) (taken more : ℕ) → after_steps (after_steps command taken) more ≡ after_steps command (taken + more)
step_more command taken more = more_by (shape command) command taken more refl

turn_more : (unit : ProtocolUnit) (taken more : ℕ) → left_of (left_of unit taken) more ≡ left_of unit (taken + more)
turn_more (Request command) taken more = ap Request (step_more command taken more)
turn_more (Fault fault) taken more = refl
turn_more LongLine taken more = refl

-- turns of a retrieval
retrieval_more : (exptime : Option ℤ) (keys : List (List ℕ)) (with_unique : Bool) (more : ℕ) → after_steps (retrieval exptime keys with_unique) more ≡ retrieval exptime (drop more keys) with_unique
retrieval_more None keys with_unique more = refl
retrieval_more (Some exptime) keys with_unique more = refl

-- none of them
pub retrieval_whole : (exptime : Option ℤ) (keys : List (List ℕ)) (with_unique : Bool) → after_steps (retrieval exptime keys with_unique) 0 ≡ retrieval exptime keys with_unique
retrieval_whole None keys with_unique = refl
retrieval_whole (Some exptime) keys with_unique = refl

-- one turn further, where the first word of the text and what is before it take n bytes
module _ (cursor : Cursor) (bytes text : List ℕ) (n left : ℕ) (is_text : text ≡ text_left cursor bytes) (inside : n ≤ length text)
    (rest : words (drop n text) ≡ drop 1 (words text)) (one_less : left ≡ cursor.left - 1) where
  abbrev next : Cursor
  next = record cursor { taken = cursor.taken + 1; from = cursor.from + n; left = left }

  next_words : words (text_left next bytes) ≡ drop 1 (words (text_left cursor bytes))
  next_words =
      ap words (sym (drop-drop n cursor.from (take cursor.to bytes)) ∙ ap (drop n) (sym is_text)) ∙ rest ∙ ap (λ t. drop 1 (words t)) is_text

  pub within_next : IsWithin cursor bytes → IsWithin next bytes
  within_next h = record {
    ordered = omega (arith, ap length is_text, length-drop cursor.from (take cursor.to bytes), length-take-le cursor.to bytes h.inside, h.ordered);
    inside = h.inside;
    counted = omega (arith, h.counted, ap length next_words, length-drop 1 (words (text_left cursor bytes)));
  }

  pub points_next : (greatest : ℕ) → PointsInto greatest cursor bytes → PointsInto greatest next bytes
  points_next greatest h = record {
    within = within_next h.within;
    left = record {
      unit = h.left.unit;
      spelled = h.left.spelled;
      left =
          ap (λ ws. Request (retrieval cursor.exptime ws cursor.with_unique)) next_words
          ∙ sym (ap Request (retrieval_more cursor.exptime (words (text_left cursor bytes)) cursor.with_unique 1))
          ∙ ap (λ u. left_of u 1) h.left.left
          ∙ turn_more h.left.unit cursor.taken 1;
    };
  }

-- a text without its carriage return is a front of it
pub stripped_is : (text : List ℕ) → take (length (strip_carriage_return text)) text ≡ strip_carriage_return text
stripped_is text =
    elim (slice_index text (length text - 1) == 13) as (λ b. take (length (if b then take (length text - 1) text else text)) text ≡ (if b then take (length text - 1) text else text)) [
      | true ↦ ap (λ n. take n text) (length-take-le (length text - 1) text (omega arith))
      | false ↦ take_all (length text) text (omega arith)
    ]

-- it stays when more come
pub points_more : (greatest : ℕ) (cursor : Cursor) (bytes more : List ℕ) → PointsInto greatest cursor bytes → PointsInto greatest cursor (bytes ++ more)
points_more greatest cursor bytes more is =
    let text : take cursor.to (bytes ++ more) ≡ take cursor.to bytes = take-append-le cursor.to bytes more (is.within.inside) in
    let front : take cursor.len (bytes ++ more) ≡ take cursor.len bytes = take-append-le cursor.len bytes more is.left.spelled.within in
    record {
      within = record {
        ordered = is.within.ordered;
        inside = omega (arith, is.within.inside, length-append bytes more);
        counted = rw text is.within.counted;
      };
      left = record {
        unit = is.left.unit;
        spelled = record { within = omega (arith, is.left.spelled.within, length-append bytes more); spelled = rw front is.left.spelled.spelled };
        left = rw text is.left.left;
      };
    }

-- What is noted of a line is what it says.
use Rattle.std.proofs.Common.{◌≡◌, ◌<◌, ◌≤◌, ◌+◌, ◌-◌, ℕ, ℤ, Bool, List, [], ◌∷◌, ◌++◌, length, take, drop, refl, sym, ap, ◌∙◌, subst, arith, Result, Ok, Err, Option, Some, None}
use Rattle.std.proofs.Common.{IfSome, length-drop, length-append}
use Rattle.std.proofs.lemmas.List.{drop-drop, take-take, take-append-le, length-take, length-take-le, take-append-drop}
use Rattle.std.specs.Result.{IfOk}
use Rattle.std.specs.Str.Lines.{strip_carriage_return}
use Rattle.mc_protocol.specs.Words.{words, EndsIn}
use Rattle.mc_protocol.specs.Commands.{Command, retrieval_in, block_in, retrieval, after_steps}
use Rattle.mc_protocol.specs.declared.command.CommandOf.TheVariants.{Store, Get, GetTouch}
use Rattle.mc_protocol.specs.declared.fault.LineFault.{LineFault}
use Rattle.mc_parse.specs.declared.note.KeySpan.{KeySpan}
use Rattle.mc_parse.specs.declared.note.Note.{Note}
use Rattle.mc_parse.specs.Lines.{Line, meaning}
use Rattle.mc_parse.specs.Units.{ProtocolUnit, Request, Fault, LongLine, IsLine, CompletesBy, Completes, with_block}
use Rattle.mc_parse.specs.Peeks.{IsSpelled, left_of}
use Rattle.mc_parse.specs.Cursors.{IsFirst, first_cursor}
use Rattle.mc_parse.specs.Notes.{Noted, keys_at, read, said, FitIn, Fits, Says, IsNoted}
use Rattle.mc_parse.proofs.UnitLemmas.{completed, spells_bare}
use Rattle.mc_parse.proofs.KeyLemmas.{command_is}
use Rattle.mc_parse.proofs.CursorLemmas.{stripped_is, retrieval_whole}

-- what a text ends in is no longer
pub end_short : (text end : List ℕ) → EndsIn text end → length end ≤ length text
end_short text end is = omega (arith, ap length is, length-drop (length text - length end) text)

-- a word that stands in the end of a text stands in the text
pub word_in : (text end word : List ℕ) (n : ℕ) → EndsIn text end → word ≡ take (length word) (drop n end) → take (length word) (drop (length text - length end + n) text) ≡ word
word_in text end word n is here =
    sym (here ∙ ap (λ e. take (length word) (drop n e)) is ∙ ap (take (length word)) (drop-drop n (length text - length end) text))

-- what the end of a text ends in, the text ends in
pub ends_further : (text end last : List ℕ) → EndsIn text end → EndsIn end last → EndsIn text last
ends_further text end last is then =
    let less = end_short text end is in
    let few = end_short end last then in
    let count : length text - length end + (length end - length last) ≡ length text - length last = omega arith in
    then ∙ ap (drop (length end - length last)) is ∙ drop-drop (length end - length last) (length text - length end) text ∙ ap (λ n. drop n text) count

-- what a line says, by its text
pub says_text : (greatest : ℕ) (note : Note) (bytes : List ℕ) → IsNoted greatest note bytes → Says greatest bytes note.end (said (take note.to bytes) note.said)
says_text greatest note bytes is = ap (λ t. meaning greatest (words t)) (sym is.text) ∙ sym is.says

-- a line that is read is noted
pub noted : (greatest : ℕ) (bytes line text : List ℕ) (end : ℕ) (found : Result Noted LineFault) → end < length bytes
    → IsLine (take (end + 1) bytes) (take end bytes) → line ≡ take end bytes → text ≡ strip_carriage_return line
    → said text found ≡ meaning greatest (words text) → IfOk found (λ noted. Fits noted text) → IsNoted greatest (record { to = length text; end = end; said = found }) bytes
noted greatest bytes line text end found inside is_line line_is text_is says fits =
    let short : length text ≤ end =
    omega (arith, ap length text_is, ap length (stripped_is line), length-take (length (strip_carriage_return line)) line, ap length line_is, length-take-le end bytes (omega arith)) in
    let front : take (length text) bytes ≡ text =
    sym (take-take (length text) end bytes short) ∙ ap (take (length text)) (sym line_is) ∙ ap (λ n. take n line) (ap length text_is) ∙ stripped_is line ∙ sym text_is in
    record {
      inside = inside;
      within = short;
      line = is_line;
      text = front ∙ text_is ∙ ap strip_carriage_return line_is;
      says = rw front says;
      fits = rw front fits;
    }

-- a block is as long as it was noted
pub block_stays : (text : List ℕ) (noted : Noted) → block_in (read text noted) ≡ block_in noted
block_stays text (Store verb key flags exptime len quiet) = refl
block_stays text noted = refl

-- it stays when more come
pub noted_more : (greatest : ℕ) (note : Note) (bytes more : List ℕ) → IsNoted greatest note bytes → IsNoted greatest note (bytes ++ more)
noted_more greatest note bytes more is =
    let line : take note.end (bytes ++ more) ≡ take note.end bytes = take-append-le note.end bytes more (omega (arith, is.inside)) in
    let whole : take (note.end + 1) (bytes ++ more) ≡ take (note.end + 1) bytes = take-append-le (note.end + 1) bytes more (omega (arith, is.inside)) in
    let text : take note.to (bytes ++ more) ≡ take note.to bytes = take-append-le note.to bytes more (omega (arith, is.inside, is.within)) in
    record {
      inside = omega (arith, is.inside, length-append bytes more);
      within = is.within;
      line = rw (whole, line) is.line;
      text = rw (text, line) is.text;
      says = rw text is.says;
      fits = rw text is.fits;
    }

-- turns leave a command that isn't a retrieval whole
whole_line : (noted : Noted) (text block : List ℕ) (taken : ℕ) → retrieval_in noted ≡ None → after_steps (with_block (read text noted) block) taken ≡ with_block (read text noted) block
whole_line (Get keys with_unique) text block taken none = absurd (cc)
whole_line (GetTouch exptime keys with_unique) text block taken none = absurd (cc)
whole_line noted text block taken none = refl

-- a line says no retrieval
abbrev pub SaysNoKeys : Result Noted LineFault → Type 0
SaysNoKeys (Ok noted) = retrieval_in noted ≡ None
SaysNoKeys (Err fault) = Unit {0}

whole_said : (found : Result Noted LineFault) (text : List ℕ) (line : Line) (block : List ℕ) (taken : ℕ) → said text found ≡ Ok line → SaysNoKeys found
    → after_steps (with_block line block) taken ≡ with_block line block
whole_said (Err fault) text line block taken is none = absurd (cc)
whole_said (Ok noted) text line block taken is none =
    let same : read text noted ≡ line = cc in
    subst (λ l. after_steps (with_block l block) taken ≡ with_block l block) same (whole_line noted text block taken none)

pub noted_whole : (greatest : ℕ) (note : Note) (bytes : List ℕ) (unit : ProtocolUnit) (len taken : ℕ) → IsNoted greatest note bytes → SaysNoKeys note.said
    → IsSpelled greatest (unit, len) bytes → left_of unit taken ≡ unit
noted_whole greatest note bytes (Fault fault) len taken is none h = refl
noted_whole greatest note bytes LongLine len taken is none h = refl
noted_whole greatest note bytes (Request command) len taken is none h =
    let done = completed greatest bytes note.end is.line (Request command) (take len bytes) (drop len bytes) (sym (take-append-drop len bytes)) h.spelled in
    let its = command_is (said (take note.to bytes) note.said) done.0 command (subst (λ m. Completes m done.0 (Request command)) (says_text greatest note bytes is) done.1) in
    ap Request (subst (λ k. after_steps k taken ≡ k) (sym its.3) (whole_said note.said (take note.to bytes) its.0 its.2 taken its.1 none))

-- a line without a block is all of its command
pub spells_alone : (greatest : ℕ) (bytes : List ℕ) (end : ℕ) (line : Line) → end < length bytes → IsLine (take (end + 1) bytes) (take end bytes)
    → Says greatest bytes end (Ok line) → block_in line ≡ None → IsSpelled greatest (Request (with_block line []), end + 1) bytes
spells_alone greatest bytes end line inside is_line says none =
    let whole : CompletesBy (block_in line) line [] (Request (with_block line [])) = subst (λ n. CompletesBy n line [] (Request (with_block line []))) (sym none) (refl, refl) in
    record { within = omega arith; spelled = spells_bare greatest bytes end is_line (Request (with_block line [])) (subst (λ m. Completes m [] (Request (with_block line []))) (sym says) whole) }

-- the cursor before the first turn of a retrieval
first_at : (greatest : ℕ) (note : Note) (bytes : List ℕ) (exptime : Option ℤ) (keys : KeySpan) (with_unique : Bool) → IsNoted greatest note bytes → FitIn keys (take note.to bytes)
    → IsSpelled greatest (Request (retrieval exptime (keys_at (take note.to bytes) keys) with_unique), note.end + 1) bytes
    → IsFirst greatest (first_cursor keys note.to (note.end + 1) with_unique exptime) bytes
first_at greatest note bytes exptime keys with_unique is fits h = (
  record {
    within = record { ordered = omega (arith, fits.0, length-take note.to bytes); inside = omega (arith, is.inside, is.within); counted = fits.1 };
    left = record {
      unit = Request (retrieval exptime (keys_at (take note.to bytes) keys) with_unique);
      spelled = h;
      left = ap Request (sym (retrieval_whole exptime (keys_at (take note.to bytes) keys) with_unique));
    };
  },
  refl,
)

-- so it is of what a retrieval asks
cursor_of : (greatest : ℕ) (note : Note) (bytes : List ℕ) (noted : Noted) → note.said ≡ Ok noted → IsNoted greatest note bytes
    → IfSome (retrieval_in noted) (λ asked. IsFirst greatest (first_cursor asked.1 note.to (note.end + 1) asked.2 asked.0) bytes)
cursor_of greatest note bytes (Get keys with_unique) its is =
    let text = take note.to bytes in
    let line : Line = read text (Get keys with_unique) in
    first_at greatest note bytes None keys with_unique is (subst (λ r. IfOk r (λ noted. Fits noted text)) its is.fits)
    (spells_alone greatest bytes note.end line is.inside is.line (says_text greatest note bytes is ∙ ap (said text) its) refl)
cursor_of greatest note bytes (GetTouch exptime keys with_unique) its is =
    let text = take note.to bytes in
    let line : Line = read text (GetTouch exptime keys with_unique) in
    first_at greatest note bytes (Some exptime) keys with_unique is (subst (λ r. IfOk r (λ noted. Fits noted text)) its is.fits)
    (spells_alone greatest bytes note.end line is.inside is.line (says_text greatest note bytes is ∙ ap (said text) its) refl)
cursor_of greatest note bytes noted its is = tt

pub first_noted : (greatest : ℕ) (note : Note) (bytes : List ℕ) (noted : Noted) (asked : Option ℤ × KeySpan × Bool) → note.said ≡ Ok noted
    → retrieval_in noted ≡ Some asked → IsNoted greatest note bytes
    → IsFirst greatest (first_cursor asked.1 note.to (note.end + 1) asked.2 asked.0) bytes
first_noted greatest note bytes noted asked its is_asked is =
    subst (λ o. IfSome o (λ asked. IsFirst greatest (first_cursor asked.1 note.to (note.end + 1) asked.2 asked.0) bytes)) is_asked (cursor_of greatest note bytes noted its is)

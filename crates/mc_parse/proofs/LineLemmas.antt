-- The keys of a command that a line spells are keys.
use Rattle.std.proofs.Common.{◌≡◌, ◌≢◌, ◌≤◌, ℕ, Bool, true, false, cond, ◌&&◌, List, [], ◌∷◌, Result, Ok, Err, Some, None, length, arith, leb, ◌+◌, ◌-◌, ◌^◌, refl, sym, subst}
use Rattle.std.specs.Prelude.{codes}
use Rattle.std.specs.Result.{IfOk}
use Rattle.std.specs.List.{All, AllByRecursion, list_all}
use Rattle.std.specs.Str.{bytes_eq}
use Rattle.std.specs.Str.Parse.{digits_value}
use Rattle.std.proofs.lemmas.Bool.{leb-true}
use Rattle.std.proofs.lemmas.List.Elements.{All-nil, All-cons, All-map, recursion_from_All}
use Rattle.std.proofs.lemmas.Result.{IfOk-at_ok}
use Rattle.mc_protocol.specs.Words.{words, is_nonempty}
use Rattle.mc_protocol.specs.Numbers.{number_up_to, is_numeral}
use Rattle.mc_protocol.specs.Commands.{HasShortKeys, key_of}
use Rattle.mc_protocol.specs.declared.step.KeyStep.{KeyStep}
use Rattle.mc_protocol.specs.declared.step.KeyStep.TheVariants.{Read as ReadStep, ReadTouch as ReadTouchStep, Flush as FlushStep}
use Rattle.mc_protocol.specs.declared.lone.Lone.{Lone}
use Rattle.mc_protocol.specs.Commands.{Command, Keyless, View, OnKey, OnAll, Shape, Single, Retrieval, Alone, IsOnOrAll, AsksOnly, asks-only, mapped-twice, shape, steps_by, view, with_key}
use Rattle.mc_protocol.specs.declared.command.CommandOf.TheVariants.{FlushAll}
use Rattle.mc_protocol.specs.declared.fault.LineFault.{LineFault}
use Rattle.mc_protocol.specs.declared.fault.LineFault.TheVariants.{Unknown, BadFormat, BadDelta, TooLarge}
use Rattle.mc_parse.specs.Exptimes.{exptime_of, delay_of}
use Rattle.mc_parse.specs.Lines.{Line, ◌>>=◌, formed, is_key, key_formed, keys_formed, ending, delayed, name_of, Behind, keyed_line, get_line, get_touch_line}
use Rattle.mc_parse.specs.Lines.{flush_line, lone_line, Form, OfKey, OfKeys, OfTouchedKeys, OfAll, OfName, form_of, formed_line, meaning, IsWord, IsKey, IsKeyed, IsKeyedSeen, HasKeys}
use Rattle.mc_parse.specs.Units.{with_block}
use Rattle.mc_parse.proofs.LineWords.{words_are_words}

-- what holds at the end of two steps
next : {A B : Type 0} (P : A → Type 0) (Q : B → Type 0) (r : Result A LineFault) (f : A → Result B LineFault) → IfOk r P → ((x : A) → P x → IfOk (f x) Q) → IfOk (r >>= f) Q
next P Q (Ok x) f held more = more x held
next P Q (Err fault) f held more = tt

-- the same where nothing is known of the first
after : {A B : Type 0} (Q : B → Type 0) (r : Result A LineFault) (f : A → Result B LineFault) → ((x : A) → IfOk (f x) Q) → IfOk (r >>= f) Q
after Q (Ok x) f more = more x
after Q (Err fault) f more = tt

first_true : (a b : Bool) → (a && b) ≡ true → a ≡ true
first_true true b h = refl
first_true false b h = absurd (cc)

both_true : (a b : Bool) → (a && b) ≡ true → b ≡ true
both_true true b h = h
both_true false b h = absurd (cc)

-- a choice by a test
chosen : {A : Type 0} (P : A → Type 0) (b : Bool) (x y : A) → (b ≡ true → P x) → (b ≡ false → P y) → P (cond b x y)
chosen P true x y when_true when_false = when_true refl
chosen P false x y when_true when_false = when_false refl

-- a word that passes as a key is at most 250 bytes long
is_key-short : (word : List ℕ) → is_key word ≡ true → length word ≤ 250
is_key-short word h = leb-true (length word) 250 (both_true (is_nonempty word) (leb (length word) 250) h)

-- What holds of each word that passes as a key holds of each key of what the line says.
module _ (P : List ℕ → Type 0) where
  -- it holds of each of these words that passes as a key
  abbrev pub Holds : List (List ℕ) → Type 0
  Holds ws = AllByRecursion (λ w. is_key w ≡ true → P w) ws

  -- it holds of the keys of the line's command, whatever its block
  abbrev pub IsLineOf : Line → Type 0
  IsLineOf line = (block : List ℕ) → HasKeys P (with_block line block)

  key-of : (word : List ℕ) → (is_key word ≡ true → P word) → IfOk (key_formed word) P
  key-of word held = chosen (λ r. IfOk r P) (is_key word) (Ok word) (Err BadFormat) held (λ _. tt)

  all-of : (ws : List (List ℕ)) → Holds ws → list_all is_key ws ≡ true → All P ws
  all-of [] held h = All-nil P
  all-of (w ∷ ws) held h =
      All-cons P w ws (held.0 (first_true (is_key w) (list_all is_key ws) h)) (all-of ws held.1 (both_true (is_key w) (list_all is_key ws) h))

  keys-of : (ws : List (List ℕ)) → Holds ws → IfOk (keys_formed ws) (All P)
  keys-of [] held = tt
  keys-of (key ∷ keys) held = chosen (λ r. IfOk r (All P)) (list_all is_key (key ∷ keys)) (Ok (key ∷ keys)) (Err BadFormat) (all-of (key ∷ keys) held) (λ _. tt)

  -- a command of one step
  single : (step : KeyStep) → IsKeyed P step → All (IsKeyed P) (step ∷ [])
  single step held = All-cons (IsKeyed P) step [] held (All-nil (IsKeyed P))

  -- a command that asks of one key
  seen-of : (key : List ℕ) (seen : View) → IsOnOrAll key seen → P key → IsKeyedSeen P seen
  seen-of key (OnKey own block) is held = subst P (sym is) held
  seen-of key (OnAll delay) is held = tt

  asked-of : (key : List ℕ) (its : Shape) → AsksOnly key its → P key → All (IsKeyed P) (steps_by its)
  asked-of key (Single step has_block quiet) only held = single step (seen-of key (view step) only held)
  asked-of key (Retrieval exptime keys with_unique) only held = absurd only
  asked-of key (Alone lone) only held = All-nil (IsKeyed P)

  command-of : (key : List ℕ) (command : Keyless ℕ) → P key → IsLineOf (with_key key (λ len. len) command)
  command-of key command held = λ block.
      subst (HasKeys P)
      (sym (mapped-twice (λ _. key) (λ none. absurd none) (λ len. len) (λ k. k) (λ keys. keys) (λ _. block) command))
      (asked-of key (shape (with_key key (λ _. block) command)) (asks-only key block command) held)

  keyed_line-of : (behind : List ℕ → List (List ℕ) → Behind) (args : List (List ℕ)) → Holds args → IfOk (keyed_line behind args) IsLineOf
  keyed_line-of behind [] held = tt
  keyed_line-of behind (key ∷ rest) held =
      after IsLineOf (behind key rest).0 _ (λ quiet.
      next P IsLineOf (key_formed key) _ (key-of key held.0) (λ k keyed.
      after IsLineOf ((behind key rest).1 quiet) _ (λ command. command-of k command keyed)))

  get_line-of : (with_unique : Bool) (args : List (List ℕ)) → Holds args → IfOk (get_line with_unique args) IsLineOf
  get_line-of with_unique args held = next (All P) IsLineOf (keys_formed args) _ (keys-of args held) (λ keys keyed block. All-map (IsKeyed P) ReadStep keys keyed)

  get_touch_line-of : (with_unique : Bool) (args : List (List ℕ)) → Holds args → IfOk (get_touch_line with_unique args) IsLineOf
  get_touch_line-of with_unique [] held = tt
  get_touch_line-of with_unique (exptime ∷ args) held =
      next (All P) IsLineOf (keys_formed args) _ (keys-of args held.1) (λ keys keyed.
      after IsLineOf (formed BadFormat (exptime_of exptime)) _ (λ e block.
      All-map (IsKeyed P) (λ key. ReadTouchStep key e) keys keyed))

  -- a flush has no key
  flush-of : (delay : ℕ) (quiet : Bool) → IsLineOf (FlushAll delay quiet)
  flush-of delay quiet block = single (FlushStep delay) tt

  delayed-of : (word : List ℕ) (quiet : Bool) → IfOk (delayed word quiet) IsLineOf
  delayed-of word quiet = after IsLineOf (formed BadFormat (delay_of word)) _ (λ delay. flush-of delay quiet)

  flush_line-of : (args : List (List ℕ)) → IfOk (flush_line args) IsLineOf
  flush_line-of [] = flush-of 0 false
  flush_line-of (word ∷ []) =
      chosen (λ r. IfOk r IsLineOf) (bytes_eq word (codes "noreply")) (Ok (FlushAll 0 true)) (delayed word false) (λ _. flush-of 0 true) (λ _. delayed-of word false)
  flush_line-of (delay ∷ word ∷ rest) = after IsLineOf (ending (word ∷ rest)) _ (λ quiet. delayed-of delay quiet)

  lone_line-of : (lone : Lone) (args : List (List ℕ)) → IfOk (lone_line lone args) IsLineOf
  lone_line-of lone [] = λ block. All-nil (IsKeyed P)
  lone_line-of lone (word ∷ args) = tt

  formed_line-of : (form : Form) (args : List (List ℕ)) → Holds args → IfOk (formed_line form args) IsLineOf
  formed_line-of (OfKey behind) args held = keyed_line-of behind args held
  formed_line-of (OfKeys with_unique) args held = get_line-of with_unique args held
  formed_line-of (OfTouchedKeys with_unique) args held = get_touch_line-of with_unique args held
  formed_line-of OfAll args held = flush_line-of args
  formed_line-of (OfName lone) args held = lone_line-of lone args

  -- what any line says
  pub meaning-of : (greatest : ℕ) (ws : List (List ℕ)) → Holds ws → IfOk (meaning greatest ws) IsLineOf
  meaning-of greatest [] held = tt
  meaning-of greatest (word ∷ args) held = after IsLineOf (formed Unknown (name_of word)) _ (λ name. formed_line-of (form_of greatest name) args held.1)

abbrev IsShort : List ℕ → Type 0
IsShort key = length key ≤ 250

-- words that pass as keys are short
short_words : (ws : List (List ℕ)) → Holds IsShort ws
short_words [] = tt
short_words (w ∷ ws) = (is_key-short w, short_words ws)

-- a step's key that is short, said of `key_of`
key_of-short : (step : KeyStep) → IsKeyed IsShort step → length (key_of step) ≤ 250
key_of-short (FlushStep delay) short = omega arith
key_of-short step short = short

HasShortKeys-from : (command : Command) → HasKeys IsShort command → HasShortKeys command
HasShortKeys-from command keyed k d inside = key_of-short _ (keyed k d inside)

-- no key of a command that a line and its block spell is longer than 250 bytes
pub short_keys : (greatest : ℕ) (ws : List (List ℕ)) (line : Line) (block : List ℕ) → meaning greatest ws ≡ Ok line → HasShortKeys (with_block line block)
short_keys greatest ws line block meant = HasShortKeys-from (with_block line block) (IfOk-at_ok (IsLineOf IsShort) meant (meaning-of IsShort greatest ws (short_words ws)) block)

-- words of a text without a line feed that pass as keys are keys
key_words : (ws : List (List ℕ)) → AllByRecursion IsWord ws → Holds IsKey ws
key_words [] held = tt
key_words (w ∷ ws) held = ((λ h. (held.0, is_key-short w h)), key_words ws held.1)

text_words : (text : List ℕ) → All (λ b. b ≢ 10) text → Holds IsKey (words text)
text_words text one_line = key_words (words text) (recursion_from_All IsWord (words text) (words_are_words text one_line))

-- the keys of a command that a line of a text without a line feed spells, with its block, are keys
pub keys_are_keys : (greatest : ℕ) (text : List ℕ) (line : Line) (block : List ℕ) → All (λ b. b ≢ 10) text → meaning greatest (words text) ≡ Ok line → HasKeys IsKey (with_block line block)
keys_are_keys greatest text line block one_line meant = IfOk-at_ok (IsLineOf IsKey) meant (meaning-of IsKey greatest (words text) (text_words text one_line)) block

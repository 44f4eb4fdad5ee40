-- The meaning of a line's words, or the first fault of the line; and its words and keys.
use Rattle.std.specs.Prelude.{◌≢◌, ◌<◌, ◌≤◌, ℕ, ◌+◌, ◌-◌, ◌^◌, ◌&&◌, Bool, true, false, List, [], ◌∷◌, length, All, Result, Ok, Err, Option, Some, None, nat_le, if◌then◌else◌, codes}
use Rattle.std.specs.Str.{bytes_eq}
use Rattle.std.specs.List.{list_all}
use Rattle.mc_protocol.specs.Words.{is_nonempty}
use Rattle.mc_protocol.specs.Numbers.{number_up_to}
use Rattle.mc_protocol.specs.Commands.{Command, Keyless, View, OnKey, OnAll, longest_key, steps, view, with_key}
use Rattle.mc_protocol.specs.Plain.{chunk_head}
use Rattle.mc_protocol.specs.declared.command.CommandOf.{CommandOf}
use Rattle.mc_protocol.specs.declared.command.CommandOf.TheVariants.{Store, Cas, Get, GetTouch, Touch, Delete, Count, FlushAll, Lone as LoneCommand}
use Rattle.mc_protocol.specs.declared.lone.Lone.{Lone}
use Rattle.mc_protocol.specs.declared.step.Verb.{Verb}
use Rattle.mc_protocol.specs.declared.step.KeyStep.{KeyStep}
use Rattle.mc_protocol.specs.declared.fault.LineFault.{LineFault}
use Rattle.mc_protocol.specs.declared.fault.LineFault.TheVariants.{Unknown, BadFormat, BadDelta, TooLarge}
use Rattle.mc_parse.specs.declared.name.Name.{Name}
use Rattle.mc_parse.specs.declared.name.Name.TheVariants.{Store as StoreName, Cas as CasName, Get as GetName, GetTouch as GetTouchName, Touch as TouchName, Delete as DeleteName, Count as CountName, FlushAll as FlushName, Lone as LoneName}
use Rattle.mc_parse.specs.declared.name.TheConstants.{NAMES}
use Rattle.mc_parse.specs.Exptimes.{exptime_of, delay_of}

-- the meaning of a line: a command whose block, of a given length, is still to come
abbrev pub Line : Type 0
Line = CommandOf (List ℕ) (List (List ℕ)) ℕ

-- the command of the first row with this word
abbrev pub named : {R : Type 0} → (bytes_of : R → List ℕ) → List (R × Name) → List ℕ → Option Name
named bytes_of [] word = None
named bytes_of (row ∷ rows) word = if bytes_eq (bytes_of row.0) word then Some row.1 else named bytes_of rows word

-- the command that a word names
abbrev pub name_of : List ℕ → Option Name
name_of word = named (λ name. name.now) NAMES word

-- the first fault comes
infixl 10 ◌>>=◌
abbrev pub ◌>>=◌ : {A B : Type 0} → Result A LineFault → (A → Result B LineFault) → Result B LineFault
Ok x >>= f = f x
Err fault >>= f = Err fault

-- a malformed word is this fault
abbrev pub formed : {A : Type 0} → LineFault → Option A → Result A LineFault
formed fault None = Err fault
formed fault (Some x) = Ok x

-- a key has 1 to 250 bytes; as a word of a line it has no space and no line feed
abbrev pub is_key : List ℕ → Bool
is_key word = is_nonempty word && nat_le (length word) longest_key

-- the word, which is malformed if it isn't a key
abbrev pub key_formed : List ℕ → Result (List ℕ) LineFault
key_formed word = if is_key word then Ok word else Err BadFormat

-- [noreply]
abbrev pub ending : List (List ℕ) → Result Bool LineFault
ending [] = Ok false
ending (word ∷ []) = if bytes_eq word (codes "noreply") then Ok true else Err Unknown
ending (word ∷ more ∷ rest) = Err Unknown

-- the length of a block; if the item is too large, the line is skipped with its block and the two
-- bytes behind it
abbrev pub fitting : ℕ → List ℕ → ℕ → Result ℕ LineFault
fitting greatest key len = if nat_le (chunk_head + length key + len) greatest then Ok len else Err (TooLarge (len + 2))

-- What comes behind a line's key: whether it ends in noreply, and the command by that. Where a word
-- is missing, the ending is at fault.
abbrev pub Behind : Type 0
Behind = Result Bool LineFault × (Bool → Result (Keyless ℕ) LineFault)

-- a word is missing
abbrev pub too_few : Behind
too_few = (Err Unknown, λ quiet. Err Unknown)

-- <key> and what comes behind it; the ending's fault comes first, and then the key's
abbrev pub keyed_line : (behind : List ℕ → List (List ℕ) → Behind) → List (List ℕ)
    → Result Line LineFault
keyed_line behind [] = Err Unknown
keyed_line behind (key ∷ rest) = do
  quiet ← (behind key rest).0
  k ← key_formed key
  command ← (behind key rest).1 quiet
  Ok (with_key k (λ len. len) command)

-- <flags> <exptime> <bytes> [noreply]
abbrev pub store_behind : ℕ → Verb → List ℕ → List (List ℕ) → Behind
store_behind greatest verb key (flags ∷ exptime ∷ bytes ∷ rest) = (
  ending rest,
  λ quiet. do
    f ← formed BadFormat (number_up_to (2 ^ 32 - 1) flags)
    e ← formed BadFormat (exptime_of exptime)
    n ← formed BadFormat (number_up_to 2147483645 bytes)
    len ← fitting greatest key n
    Ok (Store verb tt f e len quiet),
)
store_behind greatest verb key words = too_few

-- <key> <flags> <exptime> <bytes> [noreply]
abbrev pub store_line : ℕ → Verb → List (List ℕ) → Result Line LineFault
store_line greatest verb args = keyed_line (store_behind greatest verb) args

-- <flags> <exptime> <bytes> <cas unique> [noreply]
abbrev pub cas_behind : ℕ → List ℕ → List (List ℕ) → Behind
cas_behind greatest key (flags ∷ exptime ∷ bytes ∷ unique ∷ rest) = (
  ending rest,
  λ quiet. do
    f ← formed BadFormat (number_up_to (2 ^ 32 - 1) flags)
    e ← formed BadFormat (exptime_of exptime)
    n ← formed BadFormat (number_up_to 2147483645 bytes)
    u ← formed BadFormat (number_up_to (2 ^ 64 - 1) unique)
    len ← fitting greatest key n
    Ok (Cas tt f e len u quiet),
)
cas_behind greatest key words = too_few

-- <key> <flags> <exptime> <bytes> <cas unique> [noreply]
abbrev pub cas_line : ℕ → List (List ℕ) → Result Line LineFault
cas_line greatest args = keyed_line (cas_behind greatest) args

-- <key>*, at least one
abbrev pub keys_formed : List (List ℕ) → Result (List (List ℕ)) LineFault
keys_formed [] = Err Unknown
keys_formed (key ∷ keys) = if list_all is_key (key ∷ keys) then Ok (key ∷ keys) else Err BadFormat

-- <key>*
abbrev pub get_line : Bool → List (List ℕ) → Result Line LineFault
get_line with_unique args = do
  keys ← keys_formed args
  Ok (Get keys with_unique)

-- <exptime> <key>*
abbrev pub get_touch_line : Bool → List (List ℕ) → Result Line LineFault
get_touch_line with_unique [] = Err Unknown
get_touch_line with_unique (exptime ∷ args) = do
  keys ← keys_formed args
  e ← formed BadFormat (exptime_of exptime)
  Ok (GetTouch e keys with_unique)

-- <exptime> [noreply]
abbrev pub touch_behind : List ℕ → List (List ℕ) → Behind
touch_behind key (exptime ∷ rest) = (
  ending rest,
  λ quiet. do
    e ← formed BadFormat (exptime_of exptime)
    Ok (Touch tt e quiet),
)
touch_behind key words = too_few

-- <key> <exptime> [noreply]
abbrev pub touch_line : List (List ℕ) → Result Line LineFault
touch_line args = keyed_line touch_behind args

-- [0] [noreply]
abbrev pub delete_ending : List (List ℕ) → Result Bool LineFault
delete_ending [] = Ok false
delete_ending (word ∷ rest) = if bytes_eq word (codes "0") then ending rest else ending (word ∷ rest)

-- [0] [noreply]
abbrev pub delete_behind : List ℕ → List (List ℕ) → Behind
delete_behind key rest = (delete_ending rest, λ quiet. Ok (Delete tt quiet))

-- <key> [0] [noreply]
abbrev pub delete_line : List (List ℕ) → Result Line LineFault
delete_line args = keyed_line delete_behind args

-- <value> [noreply]
abbrev pub count_behind : Bool → List ℕ → List (List ℕ) → Behind
count_behind up key (value ∷ rest) = (
  ending rest,
  λ quiet. do
    by ← formed BadDelta (number_up_to (2 ^ 64 - 1) value)
    Ok (Count tt up by quiet),
)
count_behind up key words = too_few

-- <key> <value> [noreply]
abbrev pub count_line : Bool → List (List ℕ) → Result Line LineFault
count_line up args = keyed_line (count_behind up) args

-- flush_all with the delay of a word, which is malformed if it isn't a delay
abbrev pub delayed : List ℕ → Bool → Result Line LineFault
delayed word quiet = do
  delay ← formed BadFormat (delay_of word)
  Ok (FlushAll delay quiet)

-- [delay] [noreply]; a lone word other than noreply is the delay
abbrev pub flush_line : List (List ℕ) → Result Line LineFault
flush_line [] = Ok (FlushAll 0 false)
flush_line (word ∷ []) = if bytes_eq word (codes "noreply") then Ok (FlushAll 0 true) else delayed word false
flush_line (delay ∷ word ∷ rest) = do
  quiet ← ending (word ∷ rest)
  delayed delay quiet

-- a command that is only a name
abbrev pub lone_line : Lone → List (List ℕ) → Result Line LineFault
lone_line lone [] = Ok (LoneCommand lone)
lone_line lone (word ∷ args) = Err Unknown

-- The form of a line: it begins with its key, has several keys, with an exptime before them or not,
-- is on all keys, or is only a name.
pub data Form : Type 0 where
  OfKey : (List ℕ → List (List ℕ) → Behind) → Form
  OfKeys : (with_unique : Bool) → Form
  OfTouchedKeys : (with_unique : Bool) → Form
  OfAll : Form
  OfName : Lone → Form

-- the form of a line with this name
abbrev pub form_of : ℕ → Name → Form
form_of greatest (StoreName verb) = OfKey (store_behind greatest verb)
form_of greatest CasName = OfKey (cas_behind greatest)
form_of greatest (GetName with_unique) = OfKeys with_unique
form_of greatest (GetTouchName with_unique) = OfTouchedKeys with_unique
form_of greatest TouchName = OfKey touch_behind
form_of greatest DeleteName = OfKey delete_behind
form_of greatest (CountName up) = OfKey (count_behind up)
form_of greatest FlushName = OfAll
form_of greatest (LoneName lone) = OfName lone

-- the meaning of a line of this form
abbrev pub formed_line : Form → List (List ℕ) → Result Line LineFault
formed_line (OfKey behind) args = keyed_line behind args
formed_line (OfKeys with_unique) args = get_line with_unique args
formed_line (OfTouchedKeys with_unique) args = get_touch_line with_unique args
formed_line OfAll args = flush_line args
formed_line (OfName lone) args = lone_line lone args

-- the meaning of a line's words; a charge is at most greatest
abbrev pub meaning : ℕ → List (List ℕ) → Result Line LineFault
meaning greatest [] = Err Unknown
meaning greatest (word ∷ args) = do
  name ← formed Unknown (name_of word)
  formed_line (form_of greatest name) args

-- a run of bytes other than the space and the line feed
abbrev pub IsWord : List ℕ → Type 0
IsWord word = (0 < length word) × All (λ b. (b ≢ 32) × (b ≢ 10)) word

-- such a run of at most 250 bytes
abbrev pub IsKey : List ℕ → Type 0
IsKey key = IsWord key × (length key ≤ longest_key)

-- this holds for the key of a step with this view
abbrev pub IsKeyedSeen : (List ℕ → Type 0) → View → Type 0
IsKeyedSeen P (OnKey key block) = P key
IsKeyedSeen P (OnAll delay) = Unit {0}

-- this holds for the step's key; a flush has none
abbrev pub IsKeyed : (List ℕ → Type 0) → KeyStep → Type 0
IsKeyed P step = IsKeyedSeen P (view step)

-- this holds for each key of the command
abbrev pub HasKeys : (List ℕ → Type 0) → Command → Type 0
HasKeys P command = All (IsKeyed P) (steps command)

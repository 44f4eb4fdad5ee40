-- The shape of a command, and its steps.
use Rattle.std.specs.Prelude.{◌≡◌, refl, ℕ, ℤ, Bool, true, false, IsTrue, List, [], ◌∷◌, map, length, drop, Option, Some, None, ◌≤◌, All}
use Rattle.mc_protocol.specs.declared.command.CommandOf.{CommandOf}
use Rattle.mc_protocol.specs.declared.command.CommandOf.TheVariants.{Store, Cas, Get, GetTouch, Touch, Delete, Count, FlushAll, Lone as LoneCommand}
use Rattle.mc_protocol.specs.declared.limits.TheConstants.{LONGEST_KEY}
use Rattle.mc_protocol.specs.declared.lone.Lone.{Lone}
use Rattle.mc_protocol.specs.declared.step.KeyStep.{KeyStep}
use Rattle.mc_protocol.specs.declared.step.StepKind.{StepKind}
use Rattle.mc_protocol.specs.declared.step.StepKind.TheVariants as kind
use Rattle.mc_protocol.specs.declared.step.KeyStep.TheVariants.{Store as StoreStep, Cas as CasStep, Read as ReadStep, ReadTouch as ReadTouchStep, Touch as TouchStep, Delete as DeleteStep, Count as CountStep, Flush as FlushStep}

-- a command as it is lent
abbrev pub Command : Type 0
Command = CommandOf (List ℕ) (List (List ℕ)) (List ℕ)

-- the same command with its key, its keys and its block kept otherwise
abbrev pub mapped : {K L B M N C : Type 0} → (K → M) → (L → N) → (B → C) → CommandOf K L B
    → CommandOf M N C
mapped f g h (Store verb key flags exptime block quiet) =
    Store verb (f key) flags exptime (h block) quiet
mapped f g h (Cas key flags exptime block unique quiet) =
    Cas (f key) flags exptime (h block) unique quiet
mapped f g h (Get keys with_unique) = Get (g keys) with_unique
mapped f g h (GetTouch exptime keys with_unique) = GetTouch exptime (g keys) with_unique
mapped f g h (Touch key exptime quiet) = Touch (f key) exptime quiet
mapped f g h (Delete key quiet) = Delete (f key) quiet
mapped f g h (Count key up by quiet) = Count (f key) up by quiet
mapped f g h (FlushAll delay quiet) = FlushAll delay quiet
mapped f g h (LoneCommand lone) = LoneCommand lone

-- a command that is kept otherwise twice
pub mapped-twice : {K L B M N C P Q D : Type 0} (f : K → M) (g : L → N) (h : B → C)
    (i : M → P) (j : N → Q) (k : C → D) (command : CommandOf K L B)
    → mapped i j k (mapped f g h command)
    ≡ mapped (λ x. i (f x)) (λ x. j (g x)) (λ x. k (h x)) command
mapped-twice f g h i j k (Store verb key flags exptime block quiet) = refl
mapped-twice f g h i j k (Cas key flags exptime block unique quiet) = refl
mapped-twice f g h i j k (Get keys with_unique) = refl
mapped-twice f g h i j k (GetTouch exptime keys with_unique) = refl
mapped-twice f g h i j k (Touch key exptime quiet) = refl
mapped-twice f g h i j k (Delete key quiet) = refl
mapped-twice f g h i j k (Count key up by quiet) = refl
mapped-twice f g h i j k (FlushAll delay quiet) = refl
mapped-twice f g h i j k (LoneCommand lone) = refl

-- the block of a command that brings one
abbrev pub block_in : {K L B : Type 0} → CommandOf K L B → Option B
block_in (Store verb key flags exptime block quiet) = Some block
block_in (Cas key flags exptime block unique quiet) = Some block
block_in command = None

-- a retrieval's exptime, if it may set one, its keys, and whether it returns the unique number
abbrev pub retrieval_in : {K L B : Type 0} → CommandOf K L B → Option (Option ℤ × L × Bool)
retrieval_in (Get keys with_unique) = Some (None, keys, with_unique)
retrieval_in (GetTouch exptime keys with_unique) = Some (Some exptime, keys, with_unique)
retrieval_in command = None

-- the step that a retrieval takes of a key: where it has an exptime it sets the item's expiry too
abbrev pub read_step : Option ℤ → (key : List ℕ) → KeyStep
read_step None key = ReadStep key
read_step (Some exptime) key = ReadTouchStep key exptime

-- the retrieval of these keys
abbrev pub retrieval : Option ℤ → (keys : List (List ℕ)) → (with_unique : Bool) → Command
retrieval None keys with_unique = Get keys with_unique
retrieval (Some exptime) keys with_unique = GetTouch exptime keys with_unique

-- The shape of a command: one step, with a block behind its line or without, quiet (without a
-- reply) or not; a step for each key of a retrieval; or no step.
pub data Shape : Type 0 where
  Single : KeyStep → (has_block quiet : Bool) → Shape
  Retrieval : (exptime : Option ℤ) → (keys : List (List ℕ)) → (with_unique : Bool) → Shape
  Alone : Lone → Shape

-- a command's shape
abbrev pub shape : Command → Shape
shape (Store verb key flags exptime block quiet) =
    Single (StoreStep verb key flags exptime block) true quiet
shape (Cas key flags exptime block unique quiet) =
    Single (CasStep key flags exptime block unique) true quiet
shape (Get keys with_unique) = Retrieval None keys with_unique
shape (GetTouch exptime keys with_unique) = Retrieval (Some exptime) keys with_unique
shape (Touch key exptime quiet) = Single (TouchStep key exptime) false quiet
shape (Delete key quiet) = Single (DeleteStep key) false quiet
shape (Count key up by quiet) = Single (CountStep key up by) false quiet
shape (FlushAll delay quiet) = Single (FlushStep delay) false quiet
shape (LoneCommand lone) = Alone lone

-- what a command of a shape asks of keys, in order
abbrev pub steps_by : Shape → List KeyStep
steps_by (Single step has_block quiet) = step ∷ []
steps_by (Retrieval exptime keys with_unique) = map (λ key. read_step exptime key) keys
steps_by (Alone lone) = []

-- what a command asks of keys, in order
abbrev pub steps : Command → List KeyStep
steps command = steps_by (shape command)

-- a command of a shape asks one step
abbrev pub IsSingleBy : Shape → Type 0
IsSingleBy (Single step has_block quiet) = Unit {0}
IsSingleBy (Retrieval exptime keys with_unique) = ⊥
IsSingleBy (Alone lone) = ⊥

-- a command that asks one step of one key, or of all
abbrev pub IsSingle : Command → Type 0
IsSingle command = IsSingleBy (shape command)

-- a block comes after the line of a command of a shape
abbrev pub HasBlockBy : Shape → Type 0
HasBlockBy (Single step has_block quiet) = IsTrue has_block
HasBlockBy (Retrieval exptime keys with_unique) = ⊥
HasBlockBy (Alone lone) = ⊥

-- a block comes after its line
abbrev pub HasBlock : Command → Type 0
HasBlock command = HasBlockBy (shape command)

-- a command of a shape ended in noreply
abbrev pub is_quiet_by : Shape → Bool
is_quiet_by (Single step has_block quiet) = quiet
is_quiet_by (Retrieval exptime keys with_unique) = false
is_quiet_by (Alone lone) = false

-- it ended in noreply
abbrev pub is_quiet : Command → Bool
is_quiet command = is_quiet_by (shape command)

-- what is left of a command of a shape: a retrieval of the keys that are left
abbrev pub after_by : Shape → Command → ℕ → Command
after_by (Single step has_block quiet) command taken = command
after_by (Retrieval exptime keys with_unique) command taken =
    retrieval exptime (drop taken keys) with_unique
after_by (Alone lone) command taken = command

-- what is left of a command after a number of its steps
abbrev pub after_steps : Command → ℕ → Command
after_steps command taken = after_by (shape command) command taken

-- the shape of what is left after a number of steps
abbrev pub shape_left : Shape → ℕ → Shape
shape_left (Single step has_block quiet) taken = Single step has_block quiet
shape_left (Retrieval exptime keys with_unique) taken =
    Retrieval exptime (drop taken keys) with_unique
shape_left (Alone lone) taken = Alone lone

-- a retrieval has the shape of one
pub retrieval-shape : (exptime : Option ℤ) (keys : List (List ℕ)) (with_unique : Bool)
    → shape (retrieval exptime keys with_unique) ≡ Retrieval exptime keys with_unique
retrieval-shape None keys with_unique = refl
retrieval-shape (Some exptime) keys with_unique = refl

after_by-shape : (its : Shape) (command : Command) (taken : ℕ) → shape command ≡ its
    → shape (after_by its command taken) ≡ shape_left its taken
after_by-shape (Single step has_block quiet) command taken is = is
after_by-shape (Retrieval exptime keys with_unique) command taken is =
    retrieval-shape exptime (drop taken keys) with_unique
after_by-shape (Alone lone) command taken is = is

-- what is left of a command has that shape
pub after_steps-shape : (command : Command) (taken : ℕ)
    → shape (after_steps command taken) ≡ shape_left (shape command) taken
after_steps-shape command taken = after_by-shape (shape command) command taken refl

-- A step as a store sees it: on a key, with the block that it brings or no bytes; or a flush of all
-- keys.
pub data View : Type 0 where
  OnKey : (key block : List ℕ) → View
  OnAll : (delay : ℕ) → View

-- a step's view
abbrev pub view : KeyStep → View
view (StoreStep verb key flags exptime block) = OnKey key block
view (CasStep key flags exptime block unique) = OnKey key block
view (ReadStep key) = OnKey key []
view (ReadTouchStep key exptime) = OnKey key []
view (TouchStep key exptime) = OnKey key []
view (DeleteStep key) = OnKey key []
view (CountStep key up by) = OnKey key []
view (FlushStep delay) = OnAll delay

-- the key of a step with this view; a flush has the empty list
abbrev pub key_seen : View → List ℕ
key_seen (OnKey key block) = key
key_seen (OnAll delay) = []

-- the key of a step
abbrev pub key_of : KeyStep → List ℕ
key_of step = key_seen (view step)

-- the command that a step is counted as
abbrev pub kind_of : KeyStep → StepKind
kind_of (StoreStep verb key flags exptime block) = kind.Set
kind_of (CasStep key flags exptime block unique) = kind.Cas
kind_of (ReadStep key) = kind.Get
kind_of (ReadTouchStep key exptime) = kind.Touch
kind_of (TouchStep key exptime) = kind.Touch
kind_of (DeleteStep key) = kind.Delete
kind_of (CountStep key true by) = kind.Incr
kind_of (CountStep key false by) = kind.Decr
kind_of (FlushStep delay) = kind.Flush

-- a step with this view is on this key, or on all
abbrev pub IsOnOrAll : List ℕ → View → Type 0
IsOnOrAll key (OnKey own block) = own ≡ key
IsOnOrAll key (OnAll delay) = Unit {0}

-- a command of a shape asks of this key alone, or of none
abbrev pub AsksOnly : List ℕ → Shape → Type 0
AsksOnly key (Single step has_block quiet) = IsOnOrAll key (view step)
AsksOnly key (Retrieval exptime keys with_unique) = ⊥
AsksOnly key (Alone lone) = Unit {0}

-- a command whose key is still to come; no retrieval is one
abbrev pub Keyless : Type 0 → Type 0
Keyless B = CommandOf (Unit {0}) ⊥ B

-- the command of this key
abbrev pub with_key : {L B C : Type 0} → (key : List ℕ) → (B → C) → Keyless B
    → CommandOf (List ℕ) L C
with_key key block_of command = mapped (λ _. key) (λ none. absurd none) block_of command

-- it asks of that key alone
pub asks-only : {B : Type 0} (key block : List ℕ) (command : Keyless B)
    → AsksOnly key (shape (with_key key (λ _. block) command))
asks-only key block (Store verb none flags exptime brought quiet) = refl
asks-only key block (Cas none flags exptime brought unique quiet) = refl
asks-only key block (Get none with_unique) = absurd none
asks-only key block (GetTouch exptime none with_unique) = absurd none
asks-only key block (Touch none exptime quiet) = refl
asks-only key block (Delete none quiet) = refl
asks-only key block (Count none up by quiet) = refl
asks-only key block (FlushAll delay quiet) = tt
asks-only key block (LoneCommand lone) = tt

-- how many bytes a key has at most
abbrev pub longest_key : ℕ
longest_key = LONGEST_KEY

-- no key of the command's steps is longer than that
abbrev pub HasShortKeys : Command → Type 0
HasShortKeys command = All (λ step. length (key_of step) ≤ longest_key) (steps command)

-- What contracts see of a store.
use Rattle.std.specs.Prelude.{◌≡◌, ◌⊎◌, ℕ, ◌+◌, ◌*◌, ◌/◌, ◌≤◌, ◌==◌, List, nat_lt, refl, slice_index, slice_set, if◌then◌else◌}
use Rattle.std.specs.Coded.{Coded, code_by, coded×, coded_ℕ, coded_list}
use Rattle.mc_protocol.specs.Plain.{Plain, coded_plain, plain, Answered}
use Rattle.mc_protocol.specs.Purge.{purged}
use Rattle.mc_protocol.specs.declared.step.KeyStep.{KeyStep}
use Rattle.mc_protocol.specs.declared.step.KeyStep.TheVariants.{Flush}
use Rattle.mc_protocol.specs.declared.reply.Reply.{Reply}
use Rattle.mc_shelf.specs.States.{ShelfState, DeskState}
use Rattle.mc_shelf.specs.Parts.{ArePartsOf, shelf_of}
use Rattle.mc_shelf.specs.Unions.{plain_of}
use Rattle.mc_shelf.specs.Numbers.{numbers}
use Rattle.mc_sizes.specs.declared.settings.Settings.{Settings}
use Rattle.mc_sizes.specs.contracts.settings.Settings as settings

-- A store: how it was set up, what hashes its keys, and the plain machine's state; and beside
-- these, of each shelf how many entries of an old table are left to move.
pub record StoreState (K : Type 0) : Type 0 where
  pub settings : Settings
  pub hasher : K
  pub plain : Plain
  pub left : List ℕ

abbrev pub coded_settings : Coded Settings
coded_settings = settings.the_row.coded

abbrev pub coded_store : {K : Type 0} → Coded K → Coded (StoreState K)
coded_store {K} coded_hasher =
    code_by (Settings × (K × (Plain × List ℕ)))
    (coded× coded_settings (coded× coded_hasher (coded× coded_plain (coded_list coded_ℕ))))
    (λ s. (s.settings, (s.hasher, (s.plain, s.left))))
    (λ p. record { settings = p.0; hasher = p.1.0; plain = p.1.1.0; left = p.1.1.1 })
    (λ _. refl)

-- The state's greatest charge and its limit of pages are those of the settings. The number of
-- shelves divides that of numbers, so that keys of one number are on one shelf.
pub record IsSetUp (settings : Settings) (state : Plain) : Type 0 where
  pub greatest : state.greatest ≡ settings.greatest
  pub limit : state.limit ≡ settings.pages
  pub divides : numbers / settings.shelves * settings.shelves ≡ numbers

-- shelves and their desk keep the state that they are together, and the settings fit it
pub record IsStore (hash_of : List ℕ → ℕ) (settings : Settings) (shelves : List ShelfState)
    (desk : DeskState) : Type 0 where
  pub parts : ArePartsOf hash_of (plain_of settings shelves desk) shelves settings.shelves desk
  pub divides : numbers / settings.shelves * settings.shelves ≡ numbers

-- two stores were set up alike
abbrev pub AreAlike : {K : Type 0} → (old new : StoreState K) → Type 0
AreAlike old new = (new.settings ≡ old.settings) × (new.hasher ≡ old.hasher)

-- A step on a key leaves this many entries of its shelf's old table to move: at most 8 were moved,
-- and the key's own may be gone. More are left than before only if a growth began, and none begins
-- while more than 8 are left.
pub record FewMove (old new : ℕ) : Type 0 where
  pub few : old ≤ new + 9
  pub begins : (new ≤ old) ⊎ (old ≤ 8)

-- the shelves' numbers are as before, except perhaps that of the shelf at this place
abbrev pub OthersKeep : (at : ℕ) → (old new : List ℕ) → Type 0
OthersKeep at old new = new ≡ slice_set old at (slice_index new at)

-- what a step on a key of the shelf at this place leaves to move, of each shelf
abbrev pub FewMoveAt : (at : ℕ) → (old new : List ℕ) → Type 0
FewMoveAt at old new =
    OthersKeep at old new × FewMove (slice_index old at) (slice_index new at)

-- the shelf at this place has no more entries left to move than before, and the others as many
abbrev pub FallsAt : (at : ℕ) → (old new : List ℕ) → Type 0
FallsAt at old new = OthersKeep at old new × (slice_index new at ≤ slice_index old at)

-- no shelf has more entries left to move than before
abbrev pub NoneRises : (old new : List ℕ) → Type 0
NoneRises old new = (at : ℕ) → slice_index new at ≤ slice_index old at

-- what a step on some key leaves to move, or one that isn't taken
abbrev pub FewMoveSomewhere : (old new : List ℕ) → Type 0
FewMoveSomewhere old new = (new ≡ old) ⊎ ((at : ℕ) × FewMoveAt at old new)

-- what a step leaves to move: a flush moves nothing, and what it drops is no longer left
abbrev pub StepMoves : KeyStep → (old new : List ℕ) → Type 0
StepMoves (Flush delay) old new = NoneRises old new
StepMoves step old new = FewMoveSomewhere old new

-- Two stores hold the same: they were set up alike, and the plain machine's state is the same. Few
-- entries may have moved.
pub record HoldSame {K : Type 0} (old new : StoreState K) : Type 0 where
  pub plain : new.plain ≡ old.plain
  pub settings : new.settings ≡ old.settings
  pub hasher : new.hasher ≡ old.hasher
  pub moves : FewMoveSomewhere old.left new.left

-- a store took a step as the plain machine does, with that reply, and few entries moved
abbrev pub TookStep
    : {K : Type 0} → (old : StoreState K) → KeyStep → (now : ℕ) → Reply → (new : StoreState K)
    → Type 0
TookStep old step now reply new =
    (plain old.plain step now ≡ Answered reply new.plain) × AreAlike old new
    × StepMoves step old.left new.left

-- the state without the dead of one shelf, if the shelf is there
abbrev pub shelf_purged : (hash_of : List ℕ → ℕ) → (shelves shelf now : ℕ) → Plain → Plain
shelf_purged hash_of shelves shelf now state =
    if nat_lt shelf shelves
    then purged (λ key. shelf_of hash_of shelves key == shelf) now state
    else state

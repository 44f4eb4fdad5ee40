-- A seat of the table before and after calls, and the result of a step.
use Rattle.std.specs.Prelude.{◌≡◌, ℕ, ◌+◌, ◌*◌, ◌/◌, ◌<◌, ◌≤◌, List, [], length, Result, IfOk, IfErr, OnErr}
use Rattle.std.specs.declared.snapshot.Snapshot.{Snapshot}
use Rattle.atomic_table.specs.declared.owned.Table.{Table}
use Rattle.atomic_table.specs.declared.shared.Seat.{Seat}
use Rattle.atomic_table.specs.Seated.{TableId}
use Rattle.atomic_table.specs.Table.{Allows, Step, step}
use mathlib.Core.Option.{none}
use Rattle.mc_protocol.specs.declared.step.KeyStep.{KeyStep}
use Rattle.mc_protocol.specs.declared.reply.Reply.{Reply}
use Rattle.mc_protocol.specs.Commands.{key_of, longest_key}
use Rattle.mc_shelf.specs.Stores.{StoreState}
use Rattle.mc_shared.specs.Bays.{Content, place}
use Rattle.mc_shared.specs.History.{Beginning, Operation, start_of}
use Rattle.mc_shared.specs.Past.{Past, Lives}
use Rattle.mc_shared.specs.View.{SeatView}
use Rattle.mc_shared.specs.Presence.{words_with}
use Rattle.mc_shared.specs.Rule.{KeptFrom}
use Rattle.mc_shared.specs.Steps.{Slot, Mine, HoldsLast, Decides, Counts, decided_by, Agrees}
use Rattle.mc_shared.specs.Store.{resting, HasCalled}
use Rattle.mc_shared.specs.Shown.{SharedState, CallerState}
use Rattle.mc_shelf.specs.Numbers.{numbers}

abbrev pub Sitter : Type 0
Sitter = Seat Slot SeatView

-- it is the same seat of the same table
abbrev pub SameSeat : (old new : Sitter) → Type 0
SameSeat old new = (new.table_id ≡ old.table_id) × (new.id ≡ old.id)

-- a caller between calls: it is alive, holds nothing, and no word counts too many
abbrev pub Rests : Mine → Type 0
Rests m = (m.1 ≡ []) × (m.0.bays ≡ []) × Lives m.0.past × (m.0.surplus ≡ [])

-- A table for a store. The desk is behind the shelves, and then come the words of all numbers; each
-- shelf has equally many numbers.
pub record IsTableOf {K : Type 0} (table : TableId) (began : StoreState K) : Type 0 where
  pub wide : table.words ≡ words_with began.settings.shelves
  pub bays : place (began.settings.shelves + 1) ≤ table.words
  pub divides : numbers / began.settings.shelves * began.settings.shelves ≡ numbers

-- a seat of this table, which is a table for the store
pub record IsSeatOf {K : Type 0} (table : TableId) (began : StoreState K) (seat : Sitter) : Type 0
  where
    pub own : seat.table_id ≡ table
    pub fit : IsTableOf table began

-- the same, and its caller is alive
pub record IsAlive {K : Type 0} (table : TableId) (began : StoreState K) (seat : Sitter) : Type 0
  where
    pub seated : IsSeatOf table began seat
    pub lives : Lives seat.me.0.past

-- the same, and it holds nothing
pub record IsFree {K : Type 0} (table : TableId) (began : StoreState K) (seat : Sitter) : Type 0
  where
    pub alive : IsAlive table began seat
    pub free : seat.me ≡ resting seat.me.0.past

-- It is alive, took this bay last, and may give it back with this content and this decision. Then
-- these bays are still held, and these words count too many keys.
pub record MayDecide {K : Type 0} (table : TableId) (began : StoreState K) (seat : Sitter) (b : ℕ)
    (start : Beginning) (y : Content) (what : Operation) (still : List (ℕ × Content))
    (surplus : List ℕ) : Type 0
  where
    pub alive : IsAlive table began seat
    pub bay : b ≤ began.settings.shelves
    pub held : HoldsLast seat.me b
    pub right : Decides start seat.me.0.bays b y what still
    pub counts : Counts start seat.me.0 what (decided_by seat.me what still surplus).0

-- the table of a store, as contracts see it
abbrev pub BoardOf : (K P A : Type 0) → Type 0
BoardOf K P A = Table Slot SeatView (Snapshot (StoreState K)) P A

-- what its store began with
abbrev pub start_at : {K P A : Type 0} → (K → List ℕ → ℕ) → BoardOf K P A → Beginning
start_at hash_of board = start_of hash_of board.shared.key.value

-- a seat may take an atomic step by which a word becomes this of what it was: it keeps the rule, and
-- then this holds of the word as it was and of the seat
abbrev pub MayPlay : {K P A : Type 0} → (K → List ℕ → ℕ) → BoardOf K P A → Sitter → (word : ℕ)
    → (becomes : ℕ → ℕ) → (then : ℕ → Mine → Type 0) → Type 0
MayPlay hash_of board seat word becomes then =
    (seat.table_id ≡ board.shared.table_id) × (word < board.shared.table_id.words)
    × Allows (KeptFrom hash_of board.shared.key.value) board.shared.table_id.slots seat.id seat.me
    word becomes then

module _ {K P A : Type 0} (board : BoardOf K P A) where
  -- an atomic step on a word, with its operands
  abbrev pub step_at : (word first second : ℕ) → Step Slot
  step_at word first second = step board.shared.table_id.slots word first second none

  -- the number of its store's shelves, which is the desk's bay
  abbrev pub shelves_at : ℕ
  shelves_at = board.shared.key.value.settings.shelves

  -- it is a table for its store
  abbrev pub IsBoard : Type 0
  IsBoard = IsTableOf board.shared.table_id board.shared.key.value

  -- one of its words
  abbrev pub IsWord : (word : ℕ) → Type 0
  IsWord word = word < board.shared.table_id.words

  -- one of its seats
  abbrev pub SitsAt : Sitter → Type 0
  SitsAt seat = IsSeatOf board.shared.table_id board.shared.key.value seat

  -- one whose caller is alive
  abbrev pub LivesAt : Sitter → Type 0
  LivesAt seat = IsAlive board.shared.table_id board.shared.key.value seat

  -- one that holds nothing
  abbrev pub RestsAt : Sitter → Type 0
  RestsAt seat = IsFree board.shared.table_id board.shared.key.value seat

  -- one that may give this bay back with this content and this decision
  abbrev pub MayDecideAt : Sitter → (b : ℕ) → Beginning → Content → Operation → List (ℕ × Content)
      → (surplus : List ℕ) → Type 0
  MayDecideAt seat b start y what still surplus =
      MayDecide board.shared.table_id board.shared.key.value seat b start y what still surplus

-- A step that a caller may take on a store: the caller is the store's own, and the key has at most
-- 250 bytes.
pub record MayAsk {K : Type 0} (shared : SharedState K) (caller : CallerState) (step : KeyStep)
    : Type 0 where
  pub own : caller.table ≡ shared.table
  pub short : length (key_of step) ≤ longest_key

-- The result of a call: what always holds, what holds if it was answered, and if not, what is
-- unchanged and why.
pub record CameOut {E : Type 0} (always : Type 0) (answered : Reply → Type 0) (stays : Type 0)
    (why : E → Type 0) (result : Result Reply E) : Type 0 where
  pub same : always
  pub ok : IfOk result answered
  pub err : OnErr result stays
  pub fault : IfErr result why

-- The result of a step for a caller. If it was taken, its past has it as one more call; otherwise
-- the past is unchanged, and the error is possible. A legal history keeps the past in both cases.
abbrev pub IsAnswered : {E : Type 0} → Beginning → (old : CallerState) → KeyStep → (now : ℕ)
    → (may : Beginning → Past → KeyStep → ℕ → E → Type 0) → Result Reply E → (new : CallerState)
    → Type 0
IsAnswered start old step now may result new =
    CameOut ((new.table ≡ old.table) × Agrees start new.past) (λ reply. HasCalled start old.past step now reply new.past)
    (new.past ≡ old.past) (may start old.past step now) result

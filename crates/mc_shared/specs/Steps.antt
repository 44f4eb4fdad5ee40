-- The meaning of each atomic step.
use Rattle.std.specs.Prelude.{◌≡◌, ◌≢◌, ℕ, ◌+◌, ◌%◌, ◌^◌, ◌<◌, ◌≤◌, List, [], ◌∷◌, drop, Option, Some, None}
use Rattle.mc_protocol.specs.Plain.{Plain}
use Rattle.mc_protocol.specs.declared.step.KeyStep.TheVariants.{Read}
use Rattle.mc_protocol.specs.declared.reply.Reply.TheVariants.{Miss}
use Rattle.mc_shelf.specs.Numbers.{keys_with, numbers}
use Rattle.atomic_table.specs.Table.{Me, Step, rest}
use Rattle.mc_shared.specs.declared.bay.Bay.{Bay}
use Rattle.mc_shared.specs.declared.bay.Bay.TheVariants.{Shelf, Desk}
use Rattle.mc_shared.specs.Bays.{Content, content_of, place}
use Rattle.mc_shared.specs.Sums.{total}
use Rattle.mc_shared.specs.History.{Beginning, Name, HistoryEntry, Operation, Stepped, next, IsRight, after, IsLegal}
use Rattle.mc_shared.specs.Past.{Past, spent, start, call, made, both, name_of, held, makes, count_calls, count_made, KeptBy, Whole}
use Rattle.mc_shared.specs.View.{SeatView}
use Rattle.mc_shared.specs.Presence.{word_of}
use Rattle.mc_shared.specs.Rule.{FitsBay, AllFit, KeepsLimits, holds_bay, times, named, IsHeldWord}

abbrev pub Slot : Type 0
Slot = Option Bay

abbrev pub Mine : Type 0
Mine = Me Slot SeatView

-- the content that belongs in bay b, given the number of shelves
abbrev pub BelongsAt : ℕ → ℕ → Bay → Type 0
BelongsAt shelves b (Shelf shelf) = b < shelves
BelongsAt shelves b (Desk desk) = b ≡ shelves

abbrev pub holding : SeatView → ℕ → Content → SeatView
holding v b x = record v { bays = (b, x) ∷ v.bays }

-- the entry of the next operation of a past's caller, with that caller's next number
abbrev pub entry_of : Past → Operation → HistoryEntry
entry_of p what = record { by = name_of p; number = count_calls (name_of p) (held p); what = what }

-- the seat took this bay last, and has its content; its slot is empty, and no word counts too many
abbrev pub HoldsThis : Mine → ℕ → Content → Type 0
HoldsThis m b x =
    (m.0.bays ≡ (b, x) ∷ rest m.0.bays) × (m.1 ≡ (place b, None) ∷ rest m.1) × (m.0.surplus ≡ [])

-- the seat took this bay last
abbrev pub HoldsLast : Mine → ℕ → Type 0
HoldsLast m b =
    ((x : Content) × (m.0.bays ≡ (b, x) ∷ rest m.0.bays)) × (m.1 ≡ (place b, None) ∷ rest m.1)

-- the seat after the last bay taken was given back
abbrev pub without : Mine → Mine
without m = (record m.0 { bays = rest m.0.bays }, rest m.1)

-- the same with a decision, after which these bays are still held, with this content, and these
-- words count too many keys
abbrev pub decided_by : Mine → Operation → List (ℕ × Content) → (surplus : List ℕ) → Mine
decided_by m what bays surplus = (
  record { past = call m.0.past (entry_of m.0.past what); bays = bays; surplus = surplus },
  rest m.1,
)

-- with a decision, and no other change
abbrev pub called : Mine → Operation → Mine
called m what = (record m.0 { past = call m.0.past (entry_of m.0.past what) }, m.1)

-- with these words counting too many keys
abbrev pub loaded : Mine → (surplus : List ℕ) → Mine
loaded m surplus = (record m.0 { surplus = surplus }, m.1)

-- there is a legal history that keeps the past
pub record Agrees (start : Beginning) (p : Past) : Type 0 where
  pub log : List HistoryEntry
  pub legal : IsLegal start start.plain log
  pub keeps : KeptBy log p

-- the same, and what is held fits the state after that history
pub record Fitted (start : Beginning) (v : SeatView) : Type 0 where
  pub log : List HistoryEntry
  pub legal : IsLegal start start.plain log
  pub keeps : KeptBy log v.past
  pub limits : KeepsLimits start (after start start.plain log)
  pub fits : AllFit start (after start start.plain log) v.bays

-- another caller holds the bay, since its word was 1: not this seat, nor any if its past is whole
abbrev pub IsBusy : Beginning → Mine → ℕ → (word : ℕ) → Mine → Type 0
IsBusy began m b word m' =
    (word ≡ 1) × (m' ≡ m) × (Whole m.0.past → 1 ≤ times b m.0) × Agrees began m'.0.past

-- the word was 0, and the bay is held from then on; or the word was 1
abbrev pub took : Beginning → (bay : ℕ) → Step Slot → Mine → ℕ → Mine → Type 0
took began b st m n m' = (n ≡ 0 → (x : Bay) × BelongsAt began.shelves b x
    × (m' ≡ (holding m.0 b (content_of x), (st.word, Some x) ∷ m.1))
    × Fitted began (holding m.0 b (content_of x)))
    × (n ≢ 0 → IsBusy began m b n m')

abbrev pub gave : Beginning → Step Slot → Mine → ℕ → Mine → Type 0
gave began st m n m' = (m' ≡ without m) × Fitted began m.0

abbrev pub decided
    : Beginning → Operation → List (ℕ × Content) → (surplus : List ℕ) → Step Slot → Mine → ℕ → Mine
    → Type 0
decided began what bays surplus st m n m' =
    (m' ≡ decided_by m what bays surplus) × Agrees began m'.0.past × Fitted began m'.0

-- the bay is held from then on with its content, and all that is held fits such a history
abbrev pub HasTaken : Beginning → Mine → ℕ → Bay → Mine → Type 0
HasTaken began m b x m' =
    BelongsAt began.shelves b x × (m' ≡ (holding m.0 b (content_of x), (place b, None) ∷ m.1))
    × Fitted began (holding m.0 b (content_of x))

-- the last bay taken was given back with a decision, and these bays are still held, which fit such
-- a history
abbrev pub HasDecided
    : Beginning → Mine → Operation → List (ℕ × Content) → (surplus : List ℕ) → Mine → Type 0
HasDecided began m what still surplus m' =
    (m' ≡ decided_by m what still surplus) × Agrees began m'.0.past × Fitted began m'.0

-- In any state that fits what is held, the decision is the plain machine's. What is given back and
-- what is still held fit the state after it, and so does each bay that isn't held.
pub record Decides (start : Beginning) (bays : List (ℕ × Content)) (b : ℕ) (y : Content) (what : Operation)
    (still : List (ℕ × Content)) : Type 0 where
  pub places : (c : ℕ) → total (holds_bay c) still ≡ total (holds_bay c) (rest bays)
  pub right : (m : Plain) → AllFit start m bays → IsRight m what
  pub limits : (m : Plain) → AllFit start m bays → KeepsLimits start m
      → KeepsLimits start (next start m what)
  pub given : (m : Plain) → AllFit start m bays → FitsBay start (next start m what) b y
  pub kept : (m : Plain) → AllFit start m bays → AllFit start (next start m what) still
  pub others : (m : Plain) → AllFit start m bays → (c : ℕ) (z : Content)
      → total (holds_bay c) bays ≡ 0 → FitsBay start m c z → FitsBay start (next start m what) c z

-- In any state that fits what is held, the words count the keys after the decision, with those
-- counted too many before and after it; each such word is of a shelf that is still held.
pub record Counts (start : Beginning) (v : SeatView) (what : Operation) (w : SeatView) : Type 0 where
  pub weighs : (m : Plain) → AllFit start m v.bays → (number : ℕ) → number < numbers
      → keys_with start.hash_of number m.items + named (word_of start.shelves number) v
      ≡ keys_with start.hash_of number (next start m what).items
      + named (word_of start.shelves number) w
  pub owned : (word : ℕ) → 1 ≤ named word w → IsHeldWord start w word

-- A seat holds a number's shelf, and no word counts too many. So the number's word is the count of
-- its keys, and stays so.
pub record MayCount (start : Beginning) (v : SeatView) (number : ℕ) : Type 0 where
  pub below : number < numbers
  pub inside : number % start.shelves < start.shelves
  pub held : 1 ≤ times (number % start.shelves) v
  pub bare : v.surplus ≡ []

-- It may add one to the word: in any state that fits what is held, fewer keys have the number than
-- a word can count.
pub record MayAdd (start : Beginning) (v : SeatView) (number : ℕ) : Type 0 where
  pub own : MayCount start v number
  pub few : (m : Plain) → AllFit start m v.bays → keys_with start.hash_of number m.items + 1 < 2 ^ 64

-- this many keys have the number, in any state that fits what is held
abbrev pub AreKeys : Beginning → SeatView → (number count : ℕ) → Type 0
AreKeys began v number count =
    (m : Plain) → AllFit began m v.bays → count ≡ keys_with began.hash_of number m.items

-- one was added to the word
abbrev pub added : Step Slot → Mine → ℕ → Mine → Type 0
added st m n m' = m' ≡ loaded m (st.word ∷ m.0.surplus)

-- `count` was subtracted from the word, with which the surplus began `count` times
abbrev pub lowered : Step Slot → Mine → ℕ → Mine → Type 0
lowered st m n m' = m' ≡ loaded m (drop st.first m.0.surplus)

-- a word was read, and is the count of the keys of its number, where the seat may count them
abbrev pub counted : Beginning → Step Slot → Mine → ℕ → Mine → Type 0
counted began st m n m' = (m' ≡ m) × ((number : ℕ) → st.word ≡ word_of began.shelves number
    → MayCount began m.0 number → AreKeys began m.0 number n)

-- What a number's word proves to a seat. If it is 0, no key has the number, after some legal
-- history that keeps its past. If the past is whole, the seat holds nothing and no key has the
-- number, then the word is 0.
pub record Shows (start : Beginning) (v : SeatView) (number word : ℕ) : Type 0 where
  pub log : List HistoryEntry
  pub legal : IsLegal start start.plain log
  pub keeps : KeptBy log v.past
  pub gone : word ≡ 0 → keys_with start.hash_of number (after start start.plain log).items ≡ 0
  pub zero : Whole v.past → v.bays ≡ []
      → keys_with start.hash_of number (after start start.plain log).items ≡ 0 → word ≡ 0

-- a key was searched by its number's word: if that is 0, a miss of the key is decided
abbrev pub sought : Beginning → List ℕ → (now number : ℕ) → Step Slot → Mine → ℕ → Mine → Type 0
sought began key now number st m n m' =
    (n ≡ 0 → (m' ≡ called m (Stepped (Read key) now Miss)) × Agrees began m'.0.past)
    × (n ≢ 0 → m' ≡ m) × Shows began m.0 number n

-- the next name that a caller gives: the number of callers it has made, before its own name
abbrev pub next_name : Past → Name
next_name p = count_made (name_of p) (makes p) ∷ name_of p

abbrev pub maker : SeatView → SeatView
maker v = record v { past = made v.past (next_name v.past) }

abbrev pub newcomer : SeatView → SeatView
newcomer v = record { past = start (next_name v.past) v.past; bays = []; surplus = [] }

abbrev pub met : SeatView → SeatView → SeatView
met v o = record v { past = both v.past o.past }

abbrev pub gone : SeatView
gone = record { past = spent; bays = []; surplus = [] }

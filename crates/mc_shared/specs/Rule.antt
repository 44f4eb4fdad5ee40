-- The rule of the table, which every atomic step keeps.
use Rattle.std.specs.Prelude.{◌≡◌, ℕ, ◌+◌, ◌*◌, ◌/◌, ◌%◌, ◌≤◌, ◌<◌, List, [], ◌∷◌, cond, eqb, length, slice_index, ◌⊎◌, Option, Some}
use mathlib.Core.Option.{some}
use lib.ListN.{get_elem?}
use Rattle.atomic_table.specs.Table.{State}
use Rattle.mc_protocol.specs.Plain.{Plain}
use Rattle.mc_shelf.specs.Parts.{IsShelfOf, IsDeskOf}
use Rattle.mc_shelf.specs.Stores.{StoreState}
use Rattle.mc_shared.specs.Sums.{total}
use Rattle.mc_shared.specs.declared.bay.Bay.{Bay}
use Rattle.mc_shared.specs.Bays.{Content, OfShelf, OfDesk, content_of, place}
use Rattle.mc_shared.specs.History.{Beginning, start_of, Name, HistoryEntry, after, IsLegal}
use Rattle.mc_shared.specs.Past.{held, callers, makes, numbered, Ordered, Sound, Lives}
use Rattle.mc_shared.specs.Past as past
use Rattle.mc_shared.specs.View.{SeatView}
use Rattle.mc_shelf.specs.Numbers.{keys_with, numbers}
use Rattle.mc_shared.specs.Presence.{word_of, words_with}

-- the content of bay b fits the state
abbrev pub FitsBay : Beginning → Plain → ℕ → Content → Type 0
FitsBay start m b (OfShelf shelf) =
    (b < start.shelves) × IsShelfOf start.hash_of start.shelves m b shelf
FitsBay start m b (OfDesk desk) = (b ≡ start.shelves) × IsDeskOf m desk

-- the greatest charge and the limit of pages are as at the beginning
pub record KeepsLimits (start : Beginning) (m : Plain) : Type 0 where
  pub greatest : m.greatest ≡ start.plain.greatest
  pub limit : m.limit ≡ start.plain.limit

abbrev pub AllFit : Beginning → Plain → List (ℕ × Content) → Type 0
AllFit start m [] = Unit {0}
AllFit start m (x ∷ xs) = FitsBay start m x.0 x.1 × AllFit start m xs

-- how often bay b is held
abbrev pub holds_bay : ℕ → ℕ × Content → ℕ
holds_bay b x = cond (eqb b x.0) 1 0

abbrev pub times : ℕ → SeatView → ℕ
times b v = total (holds_bay b) v.bays

-- how often a view lists a word as counting one key too many
abbrev pub named : ℕ → SeatView → ℕ
named word v = total (λ x. cond (eqb word x) 1 0) v.surplus

-- the word is that of a number whose shelf the view holds
pub record IsHeldWord (start : Beginning) (v : SeatView) (word : ℕ) : Type 0 where
  pub number : ℕ
  pub below : number < numbers
  pub is : word ≡ word_of start.shelves number
  pub held : 1 ≤ times (number % start.shelves) v

-- the pasts of all seats fit the history
pub record Story (start : Beginning) (log : List HistoryEntry) (views : List SeatView) : Type 0 where
  pub legal : IsLegal start start.plain log
  pub ordered : (id : ℕ) (v : SeatView) → get_elem? views id ≡ some v → Ordered log v.past
  pub balanced : (h : HistoryEntry → ℕ) → total h log ≡ total (λ v. total h (held v.past)) views
  pub known : (g : Name → ℕ) → total (λ v. total g (callers v.past)) views ≡ g [] + total
      (λ v. total g (makes v.past)) views

-- the names: each caller is held by one past, and only a living caller holds a bay
pub record Named (log : List HistoryEntry) (views : List SeatView) : Type 0 where
  pub sound : (id : ℕ) (v : SeatView) → get_elem? views id ≡ some v → Sound v.past
  pub once : (c : Name) → total (λ v. past.times c (callers v.past)) views ≤ 1
  pub numbers : (c : Name) (n : ℕ) → total (numbered c n) log ≤ 1
  pub idle : (id : ℕ) (v : SeatView) → get_elem? views id ≡ some v → Lives v.past ⊎ (v.bays ≡ [])

-- the bays fit the state: those of the shelves, and the desk's
pub record Stocked (start : Beginning) (m : Plain) (words : List ℕ)
    (homes : List (mathlib.Core.Option.Option (Option Bay))) (views : List SeatView) : Type 0 where
  pub wide : length words ≡ words_with start.shelves
  pub deep : length homes ≡ place (start.shelves + 1)
  pub low : (b : ℕ) → b < start.shelves + 1 → slice_index words (place b) ≤ 1
  pub taken : (b : ℕ) → b < start.shelves + 1 → total (times b) views ≡ slice_index words (place b)
  pub home : (b : ℕ) → b < start.shelves + 1 → slice_index words (place b) ≡ 0 → (x : Bay)
      × (get_elem? homes (place b) ≡ some (some (Some x))) × FitsBay start m b (content_of x)
  pub limits : KeepsLimits start m
  pub out : (id : ℕ) (v : SeatView) → get_elem? views id ≡ some v → AllFit start m v.bays

-- the presence words fit the keys: a word is the number of keys with its number, plus how often the
-- views list it as counting too many, which only a view does that holds the number's shelf; each
-- shelf has equally many numbers
pub record Present (start : Beginning) (m : Plain) (words : List ℕ) (views : List SeatView) : Type 0
  where
    pub divides : numbers / start.shelves * start.shelves ≡ numbers
    pub counts : (number : ℕ) → number < numbers → slice_index words (word_of start.shelves number)
        ≡ keys_with start.hash_of number m.items + total (named (word_of start.shelves number)) views
    pub owned : (id : ℕ) (v : SeatView) (word : ℕ) → get_elem? views id ≡ some v → 1 ≤ named word v
        → IsHeldWord start v word

-- the words of a new table: a bay's word is 0, and a number's word counts its keys
pub record AreFirst (start : Beginning) (words : List ℕ) : Type 0 where
  pub divides : numbers / start.shelves * start.shelves ≡ numbers
  pub long : length words ≡ words_with start.shelves
  pub free : (b : ℕ) → b < start.shelves + 1 → slice_index words (place b) ≡ 0
  pub counts : (number : ℕ) → number < numbers → slice_index words (word_of start.shelves number)
      ≡ keys_with start.hash_of number start.plain.items

pub record Kept (start : Beginning) (s : State (Option Bay) SeatView) : Type 0 where
  pub log : List HistoryEntry
  pub story : Story start log s.views
  pub named : Named log s.views
  pub stocked : Stocked start (after start start.plain log) s.words s.homes s.views
  pub present : Present start (after start start.plain log) s.words s.views

-- the rule of a table; its key is what the store began with
abbrev pub KeptFrom : {K : Type 0} → (K → List ℕ → ℕ) → StoreState K → State (Option Bay) SeatView
    → Type 0
KeptFrom hash_of store = Kept (start_of hash_of store)

-- An index of entries: what contracts see of it.
use Rattle.std.specs.Prelude.{◌≡◌, ℕ, zero, suc, ◌+◌, ◌*◌, ◌-◌, ◌/◌, ◌^◌, ◌<◌, ◌≤◌, ◌&&◌, ◌||◌, Bool, true, false, not, List, [], ◌∷◌, ◌++◌, Option, Some, None, map, drop, length, replicate, nat_lt, if◌then◌else◌, slice_index_or, slice_set, refl}
use Rattle.std.specs.Coded.{Coded, code_by, coded×, coded_ℕ, coded_bool, coded_list, coded_option}
use Rattle.std.specs.Ordering.{nat_cmp}
use Rattle.std.specs.Cmp.Lexicographic.{slice_cmp}
use Rattle.std.specs.FinMap.{FinMap, get, insert, remove}
use Rattle.std.specs.List.{swap_remove}
use Rattle.mc_hop.specs.Cells.{filled}
use Rattle.mc_hop.specs.Contents.{content}
use Rattle.mc_grow.specs.declared.index.Place.{Place}

-- The exponent of the homes of the table that new entries go to, the buckets of the old table, which is drained while a growth
-- runs, those of that table, the strays, whether a growth runs, and how many entries more may come before memory is asked for.
pub record IndexState (X : Type 0) : Type 0 where
  pub k : ℕ
  pub draining : List (Option X)
  pub table : List (Option X)
  pub strays : List X
  pub growing : Bool
  pub spare : ℕ

abbrev pub coded_index : {X : Type 0} → Coded X → Coded (IndexState X)
coded_index {X} item =
    code_by (ℕ × (List (Option X) × (List (Option X) × (List X × (Bool × ℕ)))))
    (coded× coded_ℕ (coded× (coded_list (coded_option item)) (coded× (coded_list (coded_option item))
    (coded× (coded_list item) (coded× coded_bool coded_ℕ)))))
    (λ s. (s.k, (s.draining, (s.table, (s.strays, (s.growing, s.spare))))))
    (λ p. record {
      k = p.0;
      draining = p.1.0;
      table = p.1.1.0;
      strays = p.1.1.1.0;
      growing = p.1.1.1.1.0;
      spare = p.1.1.1.1.1;
    })
    (λ _. refl)

-- an index of one table of 2^k homes with no entry
abbrev pub IsNew : {X : Type 0} → ℕ → IndexState X → Type 0
IsNew k index =
    index ≡ record {
      k = k;
      draining = [];
      table = replicate (2 ^ k + 255) None;
      strays = [];
      growing = false;
      spare = index.spare;
    }

-- all places of an index in the order of their numbers: the old table's buckets, the table's, and the strays
abbrev pub cells : {X : Type 0} → IndexState X → List (Option X)
cells index = index.draining ++ (index.table ++ map Some index.strays)

-- how many entries it has
abbrev pub count : {X : Type 0} → IndexState X → ℕ
count index = filled (cells index)

-- how many of its entries are left in the old table
abbrev pub left : {X : Type 0} → IndexState X → ℕ
left index = filled index.draining

-- the entry at a place
abbrev pub entry_at : {X : Type 0} → IndexState X → Place → Option X
entry_at index place = slice_index_or (cells index) place.number None

-- what it holds, as a finite map: the entries under their hashes and keys, the hash first
abbrev pub holds : {X : Type 0} → (X → ℕ) → (X → List ℕ) → IndexState X → FinMap (slice_cmp nat_cmp) X
holds hash_of key_of index = content hash_of key_of (cells index)

-- the entry of that hash and key stands at the place
pub record IsPlaceOf {X : Type 0} (hash_of : X → ℕ) (key_of : X → List ℕ) (index : IndexState X) (hash : ℕ) (key : List ℕ) (place : Place) : Type 0 where
  pub entry : X
  pub there : entry_at index place ≡ Some entry
  pub same_hash : hash_of entry ≡ hash
  pub same_key : key_of entry ≡ key
  pub held : get (holds hash_of key_of index) (hash ∷ key) ≡ Some entry

-- an entry stands at the place
abbrev pub IsFilled : {X : Type 0} → IndexState X → Place → Type 0
IsFilled {X} index place = (entry : X) × (entry_at index place ≡ Some entry)

-- the entry was changed to what a closure gives of it, and the answer is the closure's; all else stays
pub record IsUpdated {X R : Type 0} (hash_of : X → ℕ) (key_of : X → List ℕ) (post : X → X × R → Type 0) (entry : X) (place : Place) (old new : IndexState X) (answer : R) : Type 0 where
  pub given : X
  pub called : post entry (given, answer)
  pub changed : cells new ≡ slice_set (cells old) place.number (Some given)
  pub content : holds hash_of key_of new ≡ insert (holds hash_of key_of old) (hash_of entry ∷ key_of entry) given
  pub same_k : new.k ≡ old.k
  pub same_growing : new.growing ≡ old.growing
  pub same_left : left new ≡ left old
  pub same_count : count new ≡ count old
  pub same_spare : new.spare ≡ old.spare

-- what a search finds: the place of the entry, and none exactly where no entry has that hash and key
abbrev pub IsFoundIn : {X : Type 0} → (X → ℕ) → (X → List ℕ) → IndexState X → ℕ → List ℕ → Option Place → Type 0
IsFoundIn hash_of key_of index hash key None = get (holds hash_of key_of index) (hash ∷ key) ≡ None
IsFoundIn hash_of key_of index hash key (Some place) = IsPlaceOf hash_of key_of index hash key place

-- how many binary digits a number has that is at most the first one
abbrev pub digits_in : ℕ → ℕ → ℕ
digits_in zero n = 0
digits_in (suc most) zero = 0
digits_in (suc most) (suc n) = suc (digits_in most (suc n / 2))

abbrev pub binary_digits : ℕ → ℕ
binary_digits n = digits_in n n

-- how many reads of entries a search makes at most: 32 in each table, and of the strays as many as their count has binary digits
abbrev pub most_reads : {X : Type 0} → IndexState X → ℕ
most_reads index = (if index.growing then 64 else 32) + binary_digits (length index.strays)

-- no place from one number up to another has an entry
abbrev pub NoneFrom : {X : Type 0} → IndexState X → (low high : ℕ) → Type 0
NoneFrom index low high =
    (number : ℕ) → low ≤ number → number < high → slice_index_or (cells index) number None ≡ None

-- how many entries have a number from this one on
abbrev pub count_from : {X : Type 0} → IndexState X → ℕ → ℕ
count_from index at = filled (drop at (cells index))

-- the first entry whose number is at or above that one, with its number and its place
pub record IsFirstFrom {X : Type 0} (index : IndexState X) (at number : ℕ) (place : Place) : Type 0 where
  pub filled : IsFilled index place
  pub same : place.number ≡ number
  pub from : at ≤ number
  pub below : number < 2 ^ 64 - 1
  pub skipped : NoneFrom index at number
  pub ahead : count_from index number ≡ count_from index at
  pub count : count_from index at ≡ count_from index (number + 1) + 1

-- the first entry whose number is at or above that one, and none if no entry has such a number
abbrev pub IsNext : {X : Type 0} → IndexState X → (at : ℕ) → Option (ℕ × Place) → Type 0
IsNext index at None = (number : ℕ) → at ≤ number → slice_index_or (cells index) number None ≡ None
IsNext index at (Some (number, place)) = IsFirstFrom index at number place

-- the entry of this number is gone, and no lower number has changed
pub record KeepsLower {X : Type 0} (old new : IndexState X) (number : ℕ) : Type 0 where
  pub lower : (k : ℕ) → k < number → slice_index_or (cells new) k None ≡ slice_index_or (cells old) k None
  pub count : count_from old number ≡ count_from new number + 1

-- What stands where once a number's entry is gone. If it stood in a table its bucket is empty, and
-- all others stand as they stood. If it was a stray, the last stray has its number, and all others
-- stand as they stood.
pub record OthersStay {X : Type 0} (entry : X) (number : ℕ) (old new : IndexState X) : Type 0 where
  pub of_tables : number < length old.draining + length old.table → (cells new ≡ slice_set (cells old) number None) × (new.strays ≡ old.strays)
  pub of_strays : length old.draining + length old.table ≤ number → (new.draining ≡ old.draining) × (new.table ≡ old.table) × (new.strays ≡ swap_remove old.strays (number - (length old.draining + length old.table)) entry)

-- the entry at a place was taken out, and no other of the old table: lower numbers stay, and there is no less room than before
pub record IsRemoved {X : Type 0} (hash_of : X → ℕ) (key_of : X → List ℕ) (place : Place) (entry : X) (old new : IndexState X) : Type 0 where
  pub there : entry_at old place ≡ Some entry
  pub removed : holds hash_of key_of new ≡ remove (holds hash_of key_of old) (hash_of entry ∷ key_of entry)
  pub lower : KeepsLower old new place.number
  pub others : OthersStay entry place.number old new
  pub room : old.spare ≤ new.spare
  pub less_left : left new ≤ left old
  pub one_less_left : left old ≤ left new + 1
  pub fewer : count old ≡ count new + 1
  pub same_k : new.k ≡ old.k
  pub same_growing : new.growing ≡ old.growing

-- the same entries in the same places, though there may be other room
abbrev pub StandsAs : {X : Type 0} → (old new : IndexState X) → Type 0
StandsAs old new = new ≡ record old { spare = new.spare }

-- A growth is due before one entry more comes: none runs, the table may double, and with that entry more than three quarters
-- of the homes have one, or a quarter and there is a stray.
abbrev pub is_due : {X : Type 0} → IndexState X → Bool
is_due index =
    not index.growing && (nat_lt index.k 24 && (nat_lt (3 * 2 ^ index.k) (4 * (count index + 1))
    || (nat_lt 0 (length index.strays) && not (nat_lt (4 * (count index + 1)) (2 ^ index.k)))))

-- A growth lags: it runs, and by the load the next one would be due before one entry more comes: with that entry there are more
-- than three for every four homes of the new table.
abbrev pub lags : {X : Type 0} → IndexState X → Bool
lags index = index.growing && nat_lt (3 * 2 ^ index.k) (4 * (count index + 1))

-- a growth has begun: the table is the old one, and a table of twice the homes has no entry yet
abbrev pub HasBegun : {X : Type 0} → (old new : IndexState X) → Type 0
HasBegun old new =
    new ≡ record {
      k = old.k + 1;
      draining = old.table;
      table = replicate (2 ^ (old.k + 1) + 255) None;
      strays = old.strays;
      growing = true;
      spare = new.spare;
    }

-- What a read is told of the item that is found standing under its key.
use Rattle.mc_shared.proofs.Words.{◌≡◌, cond, Bool, true, false, ℕ, zero, suc, ◌-◌, ◌≤◌, List, [], ◌∷◌, length, drop, get_or, Option, Some, None, refl, ap, arith, is_dead, alive}
use Rattle.mc_shared.proofs.Words.{Entry as Item, parts_of, is_gone, is_none, concat, size_of, item_need, stored, found_of, is_read, IsOnKey, KeyStep, Read, ReadTouch, AreLentParts}
use Rattle.mc_shared.proofs.Words.{IsLentPart}
use Rattle.mc_item.specs.Items.{front_of, pieces}
use Rattle.mc_shelf.specs.Lent.{HitState}
use Rattle.mc_shelf.specs.declared.hit.Found.{Found}
use Rattle.mc_shelf.specs.declared.hit.Found.TheVariants.{Nothing, Dead, Standing}

-- a step that reads an item is on a key
pub read_on_key : (step : KeyStep) → is_read step ≡ true → IsOnKey step
read_on_key (Read key) is = tt
read_on_key (ReadTouch key exptime) is = tt
read_on_key other is = absurd (cc)

-- the item that was found standing, if one was
item_found : Found → Option Item
item_found Nothing = None
item_found Dead = None
item_found (Standing hit) = Some hit.item

-- it is the one that stands
pub found_stands : (cut : Option ℕ) (now : ℕ) (key : List ℕ) (o : Option Item) (hit : HitState)
    → found_of cut now key o ≡ Standing hit → alive cut now o ≡ Some hit.item
unfolding item_found
found_stands cut now key None hit is = ap item_found is
found_stands cut now key (Some item) hit is =
    elim (is_dead item.expiry item.updated cut now) as (λ b. cond b Dead (Standing (record { key = key; item = item })) ≡ Standing hit → cond b None (Some item) ≡ Some hit.item) [
      | true ↦ λ e. ap item_found e
      | false ↦ λ e. ap item_found e
    ] is

-- what was found dead is gone
found_dead : Found → Bool
found_dead Nothing = false
found_dead Dead = true
found_dead (Standing hit) = false

pub found_gone : (cut : Option ℕ) (now : ℕ) (key : List ℕ) (o : Option Item) → found_of cut now key o ≡ Dead → is_gone cut now o ≡ true
unfolding found_dead
found_gone cut now key None is = ap found_dead is
found_gone cut now key (Some item) is =
    elim (is_dead item.expiry item.updated cut now) as (λ b. cond b Dead (Standing (record { key = key; item = item })) ≡ Dead → is_none (cond b None (Some item)) ≡ true) [
      | true ↦ λ e. refl
      | false ↦ λ e. ap found_dead e
    ] is

-- there are as many parts of an item as it has chunks
length-pieces : (size count : ℕ) (bytes : List ℕ) → length (pieces size count bytes) ≡ count
length-pieces size zero bytes = refl
length-pieces size (suc count) bytes = ap suc (length-pieces size count (drop size bytes))

pub length-parts_of : (key : List ℕ) (item : Item) → 1 ≤ (item_need key item).count → length (parts_of key item) ≡ (item_need key item).count
length-parts_of key item some =
    let more = length-pieces (size_of (item_need key item).class) ((item_need key item).count - 1) (drop (front_of (stored key item)) item.block) in
    omega arith

-- nothing lies behind the last of them
pub none_behind : (parts : List (List ℕ)) (at : ℕ) → length parts ≤ at → get_or parts at [] ≡ []
none_behind [] at behind = refl
none_behind (x ∷ parts) zero behind = absurd (omega arith)
none_behind (x ∷ parts) (suc at) behind = none_behind parts at (omega arith)

-- eight parts that were lent are each the one at its place
pub lent-eight : (parts : List (List ℕ)) (a b c d e f g h : Option (List ℕ))
    → IsLentPart parts 0 a → IsLentPart parts 1 b → IsLentPart parts 2 c → IsLentPart parts 3 d
    → IsLentPart parts 4 e → IsLentPart parts 5 f → IsLentPart parts 6 g → IsLentPart parts 7 h
    → AreLentParts parts (a ∷ b ∷ c ∷ d ∷ e ∷ f ∷ g ∷ h ∷ [])
lent-eight parts a b c d e f g h pa pb pc pd pe pf pg ph zero = pa
lent-eight parts a b c d e f g h pa pb pc pd pe pf pg ph (suc zero) = pb
lent-eight parts a b c d e f g h pa pb pc pd pe pf pg ph (suc (suc zero)) = pc
lent-eight parts a b c d e f g h pa pb pc pd pe pf pg ph (suc (suc (suc zero))) = pd
lent-eight parts a b c d e f g h pa pb pc pd pe pf pg ph (suc (suc (suc (suc zero)))) = pe
lent-eight parts a b c d e f g h pa pb pc pd pe pf pg ph (suc (suc (suc (suc (suc zero))))) = pf
lent-eight parts a b c d e f g h pa pb pc pd pe pf pg ph (suc (suc (suc (suc (suc (suc zero)))))) = pg
lent-eight parts a b c d e f g h pa pb pc pd pe pf pg ph (suc (suc (suc (suc (suc (suc (suc zero))))))) = ph
lent-eight parts a b c d e f g h pa pb pc pd pe pf pg ph (suc (suc (suc (suc (suc (suc (suc (suc at)))))))) = tt

-- eight places have all of them
pub concat-eight : (parts : List (List ℕ)) → length parts ≤ 8
    → concat (get_or parts 0 [] ∷ get_or parts 1 [] ∷ get_or parts 2 [] ∷ get_or parts 3 [] ∷ get_or parts 4 [] ∷ get_or parts 5 [] ∷ get_or parts 6 [] ∷ get_or parts 7 [] ∷ []) ≡ concat parts
concat-eight [] few = refl
concat-eight (a ∷ []) few = refl
concat-eight (a ∷ b ∷ []) few = refl
concat-eight (a ∷ b ∷ c ∷ []) few = refl
concat-eight (a ∷ b ∷ c ∷ d ∷ []) few = refl
concat-eight (a ∷ b ∷ c ∷ d ∷ e ∷ []) few = refl
concat-eight (a ∷ b ∷ c ∷ d ∷ e ∷ f ∷ []) few = refl
concat-eight (a ∷ b ∷ c ∷ d ∷ e ∷ f ∷ g ∷ []) few = refl
concat-eight (a ∷ b ∷ c ∷ d ∷ e ∷ f ∷ g ∷ h ∷ []) few = refl
concat-eight (a ∷ b ∷ c ∷ d ∷ e ∷ f ∷ g ∷ h ∷ x ∷ rest) few = absurd (omega arith)

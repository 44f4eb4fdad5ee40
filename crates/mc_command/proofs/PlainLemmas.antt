-- What a write leaves, and the accounts beside it.
use Rattle.std.proofs.Common.{◌≡◌, ℕ, true, false, cond, List, Option, Some, None, ap, sym, subst, ◌∙◌, rules}
use Rattle.std.specs.Prelude.{IsSome, IsTrue, is_some}
use Rattle.std.specs.Option.{option_copied, option_copied_mut}
use Rattle.std.specs.Borrow.{Bor, MutBor}
use Rattle.std.specs.FinMap.{get, insert}
use Rattle.mc_time.specs.Death.{is_dead}
use Rattle.mc_protocol.specs.Plain.{Plain, Entry, alive, standing}
use Rattle.std.specs.BTreeMap.{insert_entry, is_at}
use Rattle.std.specs.Map.{set_value}
use Rattle.mc_sizes.specs.Needs.{NeedState}
use Rattle.mc_command.specs.Steps.{needs_this}
use Rattle.std.specs.declared.vec.Vec.{Vec}
use Rattle.std.specs.declared.alloc.Global.{Global}
use Rattle.mc_command.specs.Accounts.{dead_item}
use Rattle.mc_command.specs.Items.{items_of}
use Rattle.mc_command.proofs.ItemLemmas.{Entries, key_cmp, item_at, items_of-set_value, items_of-insert_entry}
use Rattle.mc_protocol.proofs.ItemLemmas.{bytes_cmp}

-- an item that stands is in the map
alive-some : (cut : Option ℕ) (now : ℕ) (o : Option Entry) (item : Entry) → alive cut now o ≡ Some item → o ≡ Some item
alive-some cut now None item h = cc
alive-some cut now (Some it) item h =
    elim (is_dead it.expiry it.updated cut now) as (λ b. cond b None (Some it) ≡ Some item → Some it ≡ Some item) [ true ↦ λ e. cc | false ↦ λ e. e ] h

pub standing-there : (old : Plain) (key : List ℕ) (now : ℕ) (item : Entry) → standing old key now ≡ Some item → get old.items key ≡ Some item
standing-there old key now item h = alive-some old.cut now (get old.items key) item h

-- a dead item
pub dead-is : (found : Option (Bor Entry)) (stands : Option Entry) (key : List ℕ) (old : Plain) → option_copied found ≡ stands → is_some found ≡ false → dead_item stands key old ≡ get old.items key
dead-is None stands key old is none = ap (λ (o : Option Entry). dead_item o key old) (sym is)
dead-is (Some item) stands key old is none = cc

-- and none where one stands
pub dead-none : (found : Option (Bor Entry)) (stands : Option Entry) (key : List ℕ) (old : Plain) → option_copied found ≡ stands → is_some found ≡ true → dead_item stands key old ≡ None
dead-none None stands key old is some = cc
dead-none (Some item) stands key old is some = ap (λ (o : Option Entry). dead_item o key old) (sym is)

-- the items after the map's insertion
pub items_of-put : (es fs : Entries) (k : Vec ℕ Global) (key : List ℕ) (stored item : Entry) → fs ≡ insert_entry key_cmp es k stored → k.items ≡ key
    → stored ≡ item → items_of fs ≡ insert (items_of es) key item
items_of-put es fs k key stored item put same is =
    ap items_of put ∙ items_of-insert_entry es k stored ∙ ap (λ (q : List ℕ). insert (items_of es) q stored) same ∙ ap (insert (items_of es) key) is

-- a write through the item that the map has
pub items_of-set : (es fs : Entries) (key : List ℕ) (item : Entry) → fs ≡ set_value (λ (k : Vec ℕ Global). is_at (bytes_cmp key) k.items) es item
    → IsSome (item_at es key) → items_of fs ≡ insert (items_of es) key item
items_of-set es fs key item set some = ap items_of set ∙ items_of-set_value es key item some

no_truth : IsTrue false → ⊥
no_truth h = cc

-- an item that needs this is there
pub needs_this-some : (key : List ℕ) (o : Option Entry) (need : NeedState) → IsTrue (needs_this key o need) → IsSome o
needs_this-some key None need h = absurd (no_truth h)
needs_this-some key (Some item) need h = search rules

pub is_some-copied : (r : Option (MutBor Entry)) (o : Option Entry) → option_copied_mut r ≡ o → IsSome o → IsSome r
is_some-copied None o is some = subst IsSome (sym is) some
is_some-copied (Some item) o is some = search rules

-- The items that a map's entries make, after each call that changes the map.
use Rattle.std.proofs.Common.{◌≡◌, ℕ, Bool, true, false, cond, not, ◌||◌, List, [], ◌∷◌, Option, Some, None, map, refl, sym, ap, subst, ◌∙◌, ◌⊎◌, inl, inr, ⊎_elim}
use Rattle.std.specs.Prelude.{is_some, IsSome}
use Rattle.std.specs.Ordering.{eq_by_cmp, match_ordering}
use Rattle.std.specs.Cmp.Lexicographic.{nat_list_cmp_total}
use Rattle.std.specs.declared.cmp.Ordering.{Ordering}
use Rattle.std.specs.declared.cmp.Ordering.TheVariants.{Less, Equal, Greater}
use Rattle.std.specs.FinMap.{get, insert, remove, retain_keys, from_entries, find, get-from_entries, get-insert, get-remove, get-retain_keys, same_map}
use Rattle.std.specs.BTreeMap.{is_at, insert_entry}
use Rattle.std.specs.Map.{lookup, set_value, keys_of}
use Rattle.std.specs.List.{filter, AllByRecursion, IsDistinct}
use Rattle.std.specs.List.Sorted.{IsStrictlySortedBy}
use Rattle.std.proofs.lemmas.Map.{lookup-set_value}
use Rattle.std.proofs.lemmas.Map.Entries.{lookup-filter-values, option_filter}
use Rattle.std.proofs.lemmas.Map.Keys.{IsDistinct-from_sorted}
use Rattle.std.specs.declared.vec.Vec.{Vec}
use Rattle.std.specs.declared.alloc.Global.{Global}
use Rattle.mc_time.specs.Death.{is_dead}
use Rattle.mc_time.specs.declared.expiry.Expiry.{Expiry}
use Rattle.mc_protocol.specs.Plain.{Plain, Entry, Items, alive, living, expiring}
use Rattle.mc_command.specs.Items.{items_of}
use Rattle.mc_protocol.proofs.ItemLemmas.{bytes_cmp, same_bytes, laws, exact, is_equal}

abbrev pub key_cmp : Vec ℕ Global → Vec ℕ Global → Ordering
key_cmp a b = bytes_cmp a.items b.items

abbrev pub Entries : Type 0
Entries = List (Vec ℕ Global × Entry)

-- the entries, with each key's bytes for the key
abbrev pub pairs : Entries → List (List ℕ × Entry)
pairs es = map (λ e. (e.0.items, e.1)) es

find-lookup : (xs : List (List ℕ × Entry)) (q : List ℕ) → find bytes_cmp q xs ≡ lookup (same_bytes q) xs
find-lookup [] q = refl
find-lookup (e ∷ xs) q = ap (cond (same_bytes q e.0) (Some e.1)) (find-lookup xs q)

-- what the map of a list of pairs has at a key
get-pairs : (xs : List (List ℕ × Entry)) (q : List ℕ) → get (from_entries {R = bytes_cmp} xs) q ≡ lookup (same_bytes q) xs
get-pairs xs q = get-from_entries nat_list_cmp_total xs q ∙ find-lookup xs q

-- what the entries have at a key
abbrev pub item_at : Entries → List ℕ → Option Entry
item_at es q = lookup (λ (k : Vec ℕ Global). is_at (bytes_cmp q) k.items) es

lookup-pairs : (es : Entries) (q : List ℕ) → lookup (same_bytes q) (pairs es) ≡ item_at es q
lookup-pairs [] q = refl
lookup-pairs (e ∷ es) q = ap (cond (same_bytes q e.0.items) (Some e.1)) (lookup-pairs es q)

-- what the items have at a key
pub get-items_of : (es : Entries) (q : List ℕ) → get (items_of es) q ≡ item_at es q
get-items_of es q = get-pairs (pairs es) q ∙ lookup-pairs es q

-- no two keys have the same bytes, where they ascend
apart : (k : Vec ℕ Global) (es : Entries) → AllByRecursion (λ y. eq_by_cmp key_cmp k y ≡ false) (keys_of es) → AllByRecursion (λ y. same_bytes k.items y ≡ false) (keys_of (pairs es))
apart k [] h = tt
apart k (e ∷ es) h = (h.0, apart k es h.1)

distinct_bytes : (es : Entries) → IsDistinct (eq_by_cmp key_cmp) (keys_of es) → IsDistinct same_bytes (keys_of (pairs es))
unfolding IsDistinct
distinct_bytes [] h = tt
distinct_bytes (e ∷ es) h = (apart e.0 es h.0, distinct_bytes es h.1)

distinct : (es : Entries) → IsStrictlySortedBy key_cmp (keys_of es) → IsDistinct same_bytes (keys_of (pairs es))
distinct es h = distinct_bytes es (IsDistinct-from_sorted key_cmp (keys_of es) h)

-- an insertion
twice : (b : Bool) (x y z : Option Entry) → cond b x z ≡ cond b x (cond b y z)
twice true x y z = refl
twice false x y z = refl

swapped : (b d : Bool) (x y z : Option Entry) → (b ≡ true → d ≡ true → ⊥) → cond b y (cond d x z) ≡ cond d x (cond b y z)
swapped true true x y z h = absurd (h refl refl)
swapped true false x y z h = refl
swapped false d x y z h = refl

item_at-insert_entry : (es : Entries) (k : Vec ℕ Global) (i : Entry) (q : List ℕ) → item_at (insert_entry key_cmp es k i) q ≡ cond (is_at (bytes_cmp q) k.items) (Some i) (item_at es q)
item_at-insert_entry [] k i q = refl
item_at-insert_entry (e ∷ es) k i q =
    elim (bytes_cmp k.items e.0.items) as
    (λ o. bytes_cmp k.items e.0.items ≡ o
    → item_at (match_ordering o ((k, i) ∷ e ∷ es) ((e.0, i) ∷ es) (e ∷ insert_entry key_cmp es k i)) q ≡ cond (is_at (bytes_cmp q) k.items) (Some i) (item_at (e ∷ es) q)) [
      | Less ↦ λ h. refl
      | Equal ↦ λ h.
          let same : k.items ≡ e.0.items = exact k.items e.0.items h in
          twice (is_at (bytes_cmp q) e.0.items) (Some i) (Some e.1) (item_at es q)
          ∙ ap (λ (t : List ℕ). cond (is_at (bytes_cmp q) t) (Some i) (item_at (e ∷ es) q)) (sym same)
      | Greater ↦ λ h.
          ap (cond (is_at (bytes_cmp q) e.0.items) (Some e.1)) (item_at-insert_entry es k i q)
          ∙ swapped (is_at (bytes_cmp q) e.0.items) (is_at (bytes_cmp q) k.items) (Some i) (Some e.1) (item_at es q)
          (λ a b. let at : bytes_cmp q e.0.items ≡ Equal = is_equal _ a in let same : q ≡ k.items = exact q k.items (is_equal _ b) in cc)
    ] refl

pub items_of-insert_entry : (es : Entries) (k : Vec ℕ Global) (i : Entry) → items_of (insert_entry key_cmp es k i) ≡ insert (items_of es) k.items i
items_of-insert_entry es k i =
    same_map nat_list_cmp_total exact _ _ (λ q.
    get-items_of _ q ∙ item_at-insert_entry es k i q
    ∙ sym (get-insert nat_list_cmp_total (items_of es) k.items i q ∙ ap (cond (same_bytes q k.items) (Some i)) (get-items_of es q)))

-- a removal, which the map's calls state at each key that a map may have
key_or_none : (es : Entries) (q : List ℕ) → ((k : Vec ℕ Global) × (k.items ≡ q)) ⊎ (item_at es q ≡ None)
key_or_none [] q = inr refl
key_or_none (e ∷ es) q =
    elim (is_at (bytes_cmp q) e.0.items) as (λ b. is_at (bytes_cmp q) e.0.items ≡ b → ((k : Vec ℕ Global) × (k.items ≡ q)) ⊎ (cond b (Some e.1) (item_at es q) ≡ None)) [
      | true ↦ λ h. inl (e.0, sym (exact q e.0.items (is_equal _ h)))
      | false ↦ λ h. key_or_none es q
    ] refl

none_either : (b : Bool) (o : Option Entry) → o ≡ None → cond b None o ≡ None
none_either true o h = refl
none_either false o h = h

pub items_of-removed : (es fs : Entries) (q : List ℕ) → ((k : Vec ℕ Global) → item_at fs k.items ≡ cond (is_at (bytes_cmp q) k.items) None (item_at es k.items)) → items_of fs ≡ remove (items_of es) q
items_of-removed es fs q without =
    let at : (p : List ℕ) → item_at fs p ≡ cond (same_bytes q p) None (item_at es p) = λ p.
    let found : (k : Vec ℕ Global) → k.items ≡ p → item_at fs p ≡ cond (same_bytes q p) None (item_at es p) = λ k same.
    subst (λ (t : List ℕ). item_at fs t ≡ cond (same_bytes q t) None (item_at es t)) same (without k) in
    ⊎_elim (λ h. found h.0 h.1)
    (λ none. ⊎_elim (λ h. found h.0 h.1) (λ gone. gone ∙ sym (none_either (same_bytes q p) (item_at es p) none)) (key_or_none fs p))
    (key_or_none es p) in
    same_map nat_list_cmp_total exact _ _ (λ p.
    get-items_of fs p ∙ at p
    ∙ ap (λ b. cond b None (item_at es p)) (laws.symm q p)
    ∙ sym (get-remove nat_list_cmp_total (items_of es) q p ∙ ap (cond (same_bytes p q) None) (get-items_of es p)))

-- a write through the value at a key that is there
pairs-set_value : (es : Entries) (q : List ℕ) (i : Entry) → pairs (set_value (λ (k : Vec ℕ Global). is_at (bytes_cmp q) k.items) es i) ≡ set_value (same_bytes q) (pairs es) i
pairs-set_value [] q i = refl
pairs-set_value (e ∷ es) q i =
    elim (same_bytes q e.0.items) as
    (λ b. pairs (cond b ((e.0, i) ∷ es) (e ∷ set_value (λ (k : Vec ℕ Global). is_at (bytes_cmp q) k.items) es i)) ≡ cond b ((e.0.items, i) ∷ pairs es)
    ((e.0.items, e.1) ∷ set_value (same_bytes q) (pairs es) i)) [
      | true ↦ refl
      | false ↦ ap (λ xs. (e.0.items, e.1) ∷ xs) (pairs-set_value es q i)
    ]

pub items_of-set_value : (es : Entries) (q : List ℕ) (i : Entry) → IsSome (item_at es q) → items_of (set_value (λ (k : Vec ℕ Global). is_at (bytes_cmp q) k.items) es i) ≡ insert (items_of es) q i
items_of-set_value es q i some =
    ap from_entries (pairs-set_value es q i)
    ∙ same_map nat_list_cmp_total exact _ _ (λ p.
    get-pairs _ p ∙ lookup-set_value laws (same_bytes q) (λ x y h. laws.congr q x y h) p i (pairs es) (rw lookup-pairs some)
    ∙ ap (λ b. cond b (Some i) (lookup (same_bytes p) (pairs es))) (laws.symm q p)
    ∙ sym (get-insert nat_list_cmp_total (items_of es) q i p ∙ ap (cond (same_bytes p q) (Some i)) (get-pairs (pairs es) p)))

-- what an item is alive as
pub alive-is : (cut : Option ℕ) (now : ℕ) (o : Option Entry) (item : Entry) → o ≡ Some item → is_dead item.expiry item.updated cut now ≡ false → alive cut now o ≡ Some item
alive-is cut now o item found lives = rw (found, lives) refl

pub alive-dead : (cut : Option ℕ) (now : ℕ) (o : Option Entry) (item : Entry) → o ≡ Some item → is_dead item.expiry item.updated cut now ≡ true → alive cut now o ≡ None
alive-dead cut now o item found dead = rw (found, dead) refl

-- the items that aren't dead
abbrev pub lives : Option ℕ → ℕ → Entry → Bool
lives cut now item = not (is_dead item.expiry item.updated cut now)

pairs-filter : (es : Entries) (p : Entry → Bool) → pairs (filter (λ e. p e.1) es) ≡ filter (λ e. p e.1) (pairs es)
pairs-filter [] p = refl
pairs-filter (e ∷ es) p =
    elim (p e.1) as (λ b. pairs (cond b (e ∷ filter (λ e. p e.1) es) (filter (λ e. p e.1) es)) ≡ cond b ((e.0.items, e.1) ∷ filter (λ e. p e.1) (pairs es)) (filter (λ e. p e.1) (pairs es))) [
      | true ↦ ap (λ xs. (e.0.items, e.1) ∷ xs) (pairs-filter es p)
      | false ↦ pairs-filter es p
    ]

kept_alive : (cut : Option ℕ) (now : ℕ) (o : Option Entry) → option_filter (lives cut now) o ≡ cond (is_some (alive cut now o)) o None
kept_alive cut now None = refl
kept_alive cut now (Some item) =
    elim (is_dead item.expiry item.updated cut now) as (λ b. cond (not b) (Some item) None ≡ cond (is_some (cond b None (Some item))) (Some item) None) [ true ↦ refl | false ↦ refl ]

pub items_of-filter : (es : Entries) (cut : Option ℕ) (now : ℕ) → IsStrictlySortedBy key_cmp (keys_of es) → items_of (filter (λ e. lives cut now e.1) es) ≡ living (items_of es) cut now
items_of-filter es cut now sorted =
    ap from_entries (pairs-filter es (lives cut now))
    ∙ same_map nat_list_cmp_total exact _ _ (λ q.
    get-pairs _ q ∙ lookup-filter-values laws (lives cut now) q (pairs es) (distinct es sorted)
    ∙ ap (option_filter (lives cut now)) (sym (get-pairs (pairs es) q))
    ∙ kept_alive cut now (get (items_of es) q)
    ∙ sym (get-retain_keys (items_of es) (λ key. is_some (alive cut now (get (items_of es) key))) q
    (λ x h. ap (λ (k : List ℕ). is_some (alive cut now (get (items_of es) k))) (sym (exact q x h)))))

-- The items without the dead ones whose keys are meant.
module _ (meant : List ℕ → Bool) (cut : Option ℕ) (now : ℕ) where
  abbrev pub stays : Vec ℕ Global × Entry → Bool
  stays e = not (meant e.0.items) || lives cut now e.1

  -- the same of one key
  abbrev stays_at : List ℕ → Entry → Bool
  stays_at q item = not (meant q) || lives cut now item

  passed_over : (kept : Bool) (e : Vec ℕ Global × Entry) (es : Entries) (q : List ℕ) → is_at (bytes_cmp q) e.0.items ≡ false → item_at (cond kept (e ∷ es) es) q ≡ item_at es q
  passed_over true e es q other = ap (λ b. cond b (Some e.1) (item_at es q)) other
  passed_over false e es q other = refl

  kept_or_not : (kept : Bool) (e : Vec ℕ Global × Entry) (es fs : Entries) (q : List ℕ) → item_at es q ≡ item_at fs q → item_at (cond kept (e ∷ es) es) q ≡ item_at (cond kept (e ∷ fs) fs) q
  kept_or_not true e es fs q same = ap (cond (is_at (bytes_cmp q) e.0.items) (Some e.1)) same
  kept_or_not false e es fs q same = same

  -- at a key it is as if that key alone were asked for
  item_at-stays : (es : Entries) (q : List ℕ) → item_at (filter stays es) q ≡ item_at (filter (λ e. stays_at q e.1) es) q
  item_at-stays [] q = refl
  item_at-stays (e ∷ es) q =
      let rest = item_at-stays es q in
      elim (is_at (bytes_cmp q) e.0.items) as (λ b. is_at (bytes_cmp q) e.0.items ≡ b → item_at (filter stays (e ∷ es)) q ≡ item_at (filter (λ e. stays_at q e.1) (e ∷ es)) q) [
        | true ↦ λ h.
            let same : e.0.items ≡ q = sym (exact q e.0.items (is_equal _ h)) in
            ap (λ (k : List ℕ). item_at (cond (stays_at k e.1) (e ∷ filter stays es) (filter stays es)) q) same
            ∙ kept_or_not (stays_at q e.1) e (filter stays es) (filter (λ e. stays_at q e.1) es) q rest
        | false ↦ λ h.
            passed_over (stays e) e (filter stays es) q h ∙ rest
            ∙ sym (passed_over (stays_at q e.1) e (filter (λ e. stays_at q e.1) es) q h)
      ] refl

  kept_all : (o : Option Entry) → option_filter (λ item. true) o ≡ o
  kept_all None = refl
  kept_all (Some item) = refl

  kept_here : (q : List ℕ) (o : Option Entry) → option_filter (stays_at q) o ≡ cond (not (meant q) || is_some (alive cut now o)) o None
  kept_here q o =
      elim (meant q) as (λ b. option_filter (λ item. not b || lives cut now item) o ≡ cond (not b || is_some (alive cut now o)) o None) [
        | true ↦ kept_alive cut now o
        | false ↦ kept_all o
      ]

  pub items_of-purged : (es : Entries) → IsStrictlySortedBy key_cmp (keys_of es)
      → items_of (filter stays es) ≡ retain_keys (items_of es) (λ key. not (meant key) || is_some (alive cut now (get (items_of es) key)))
  items_of-purged es sorted =
      same_map nat_list_cmp_total exact _ _ (λ q.
      get-items_of (filter stays es) q ∙ item_at-stays es q ∙ sym (get-items_of (filter (λ e. stays_at q e.1) es) q)
      ∙ ap (λ (ps : List (List ℕ × Entry)). get (from_entries {R = bytes_cmp} ps) q) (pairs-filter es (stays_at q))
      ∙ get-pairs _ q ∙ lookup-filter-values laws (stays_at q) q (pairs es) (distinct es sorted)
      ∙ ap (option_filter (stays_at q)) (sym (get-pairs (pairs es) q))
      ∙ kept_here q (get (items_of es) q)
      ∙ sym (get-retain_keys (items_of es) (λ key. not (meant key) || is_some (alive cut now (get (items_of es) key))) q
      (λ x h. ap (λ (k : List ℕ). not (meant k) || is_some (alive cut now (get (items_of es) k))) (sym (exact q x h)))))

-- another expiry in the item that the entries have at a key
pub expiring-is : (old : Plain) (es fs : Entries) (q : List ℕ) (item other : Entry) (expiry : Expiry)
    → old.items ≡ items_of es
    → item_at es q ≡ Some item
    → fs ≡ set_value (λ (k : Vec ℕ Global). is_at (bytes_cmp q) k.items) es other
    → other ≡ record item { expiry = expiry }
    → record old { items = items_of fs } ≡ expiring (get old.items q) q expiry old
expiring-is old es fs q item other expiry at found set is =
    let here : get old.items q ≡ Some item = ap (λ (m : Items). get m q) at ∙ get-items_of es q ∙ found in
    let items : items_of fs ≡ insert old.items q (record item { expiry = expiry }) =
    ap items_of set ∙ items_of-set_value es q other (rw found refl) ∙ ap (insert (items_of es) q) is ∙ ap (λ (m : Items). insert m q (record item { expiry = expiry })) (sym at) in
    ap (λ (m : Items). let s : Plain = record old { items = m } in s) items ∙ ap (λ (o : Option Entry). expiring o q expiry old) (sym here)

pub expiring-none : (old : Plain) (es : Entries) (q : List ℕ) (expiry : Expiry) → old.items ≡ items_of es → item_at es q ≡ None → old ≡ expiring (get old.items q) q expiry old
expiring-none old es q expiry at none =
    ap (λ (o : Option Entry). expiring o q expiry old) (sym (ap (λ (m : Items). get m q) at ∙ get-items_of es q ∙ none))

-- An entry of an index is changed, or taken out.
use Rattle.mc_grow.proofs.Words.{◌≡◌, ℕ, ◌+◌, ◌-◌, ◌<◌, ◌≤◌, ◌⊎◌, List, ◌∷◌, ◌++◌, Option, Some, None, map, drop, length, get_or, set, refl, sym, ap, subst, ◌∙◌, arith, cases_lt}
use Rattle.mc_grow.proofs.Words.{drop-append-add, get_or_append_left, get_or-append_right, get_or-set_other, drop-map, length-drop, remove, swap_remove, filled, content, IsSwapped, AreApart}
use Rattle.mc_grow.proofs.Words.{HopState, KeepsKey, with_bucket, Map, content-over, remove-insert, apart-changed, apart-taken, apart_parts, Place, IndexState, IsRemoved}
use Rattle.mc_grow.proofs.Words.{IsUpdated, cells, entry_at, left, IsChanged, inl}
use Rattle.mc_grow.specs.Indexes.{OthersStay}
use Rattle.mc_grow.proofs.PartLemmas.{less_other, stray_there}
use Rattle.mc_grow.proofs.CellLemmas.{Within, count_parts, drop-taken, filled-changed, filled-strays, filled-taken, in_strays}
use Rattle.mc_grow.proofs.MoveLemmas.{IsOut, out_second, out_taken}
use Rattle.mc_grow.proofs.StrayLemmas.{stray_out}

-- ---- an entry is changed

-- as a table says it
pub table_changed : {X R : Type 0} {C : X × R → Type 0} {post : X → X × R → Type 0} {entry : X} {at : ℕ} {old new : HopState X} {answer : R}
    → (pair : X × R) × post entry pair × (answer ≡ pair.1) × (new ≡ with_bucket old at (Some pair.0)) × C pair → IsChanged post entry at old.items new.items answer
table_changed {X} {R} {post = post} {entry} is = record {
  given = is.0.0;
  called = subst (λ (answer : R). post entry (is.0.0, answer)) (sym is.2) is.1;
  changed = ap (λ (table : HopState X). table.items) is.3;
}

pub changed_apart : {X R : Type 0} {hash_of : X → ℕ} {key_of : X → List ℕ} {pre : X → Type 0} {post : X → X × R → Type 0} {part changed whole : List (Option X)} {at number : ℕ}
    {entry : X} {answer : R} {put : List (Option X) → List (Option X)} → Within part whole at number put → AreApart hash_of key_of whole → get_or part at None ≡ Some entry
    → KeepsKey hash_of key_of pre post entry → IsChanged post entry at part changed answer → AreApart hash_of key_of (put changed)
changed_apart {hash_of = hash_of} {key_of} {whole = whole} {number = number} {entry} {answer} {put} w apart here keeps is =
    subst (AreApart hash_of key_of) (sym (ap put is.changed ∙ w.writes (Some is.given)))
    (apart-changed hash_of key_of whole number entry is.given apart (w.reads ∙ here) (keeps.same_hash (is.given, answer) is.called) (keeps.same_key (is.given, answer) is.called))

pub updated : {X R : Type 0} {hash_of : X → ℕ} {key_of : X → List ℕ} {pre : X → Type 0} {post : X → X × R → Type 0} {v now new : IndexState X} {part changed : List (Option X)} {at : ℕ}
    {place : Place} {entry : X} {answer : R} {put : List (Option X) → List (Option X)} → v ≡ now → Within part (cells v) at place.number put → AreApart hash_of key_of (cells v)
    → entry_at now place ≡ Some entry → KeepsKey hash_of key_of pre post entry → IsChanged post entry at part changed answer → cells new ≡ put changed → new.k ≡ v.k → new.growing ≡ v.growing
    → left new ≡ left v → new.spare ≡ v.spare → IsUpdated hash_of key_of post entry place now new answer
updated {X} {hash_of = hash_of} {key_of} {post = post} {v} {now} {new} {place = place} {entry} {answer} {put} same w apart there keeps is whole k growing many spare =
    let here : entry_at v place ≡ Some entry = ap (λ (s : IndexState X). entry_at s place) same ∙ there in
    let changed : cells new ≡ set (cells v) place.number (Some is.given) = whole ∙ ap put is.changed ∙ w.writes (Some is.given) in
    subst (λ (s : IndexState X). IsUpdated hash_of key_of post entry place s new answer) same (record {
      given = is.given;
      called = is.called;
      changed = changed;
      content = ap (content hash_of key_of) changed
          ∙ content-over hash_of key_of (cells v) place.number entry is.given apart here (keeps.same_hash (is.given, answer) is.called) (keeps.same_key (is.given, answer) is.called);
      same_k = k;
      same_growing = growing;
      same_left = many;
      same_count = ap filled changed ∙ filled-changed (cells v) place.number entry is.given here;
      same_spare = spare;
    })

-- ---- an entry is taken out of a table

pub taken_apart : {X : Type 0} (hash_of : X → ℕ) (key_of : X → List ℕ) {part gone whole : List (Option X)} {at number : ℕ} {put : List (Option X) → List (Option X)}
    → Within part whole at number put → AreApart hash_of key_of whole → gone ≡ set part at None → AreApart hash_of key_of (put gone)
taken_apart hash_of key_of {whole = whole} {number = number} {put} w apart is = subst (AreApart hash_of key_of) (sym (ap put is ∙ w.writes None)) (apart-taken hash_of key_of whole number apart)

-- what is told of an entry that was taken out, from what stands there then
taken_out : {X : Type 0} {hash_of : X → ℕ} {key_of : X → List ℕ} {v now new : IndexState X} {rest : List (Option X)} {place : Place} {x : X} → v ≡ now → cells new ≡ rest
    → IsOut hash_of key_of x (cells v) rest → entry_at v place ≡ Some x → ((n : ℕ) → n < place.number → get_or rest n None ≡ get_or (cells v) n None)
    → filled (drop place.number (cells v)) ≡ filled (drop place.number rest) + 1 → filled (cells v) ≡ filled rest + 1 → OthersStay x place.number v new
    → (left v ≡ left new) ⊎ (left v ≡ left new + 1) → v.spare ≤ new.spare → new.k ≡ v.k → new.growing ≡ v.growing → IsRemoved hash_of key_of place x now new
taken_out {X} {hash_of} {key_of} {v} {new = new} {rest} {place} {x} same is out there lower behind fewer others less spare k growing =
    subst (λ (s : IndexState X). IsRemoved hash_of key_of place x s new) same (record {
      there = there;
      removed = ap (content hash_of key_of) is ∙ sym (remove-insert (content hash_of key_of rest) (hash_of x ∷ key_of x) x out.gone)
          ∙ ap (λ (m : Map X). remove m (hash_of x ∷ key_of x)) (sym out.back);
      lower = record {
        lower = λ n l. ap (λ (items : List (Option X)). get_or items n None) is ∙ lower n l;
        count = behind ∙ ap (λ (items : List (Option X)). filled (drop place.number items) + 1) (sym is);
      };
      others = others;
      room = spare;
      less_left = grind arith;
      one_less_left = grind arith;
      fewer = fewer ∙ ap (λ (items : List (Option X)). filled items + 1) (sym is);
      same_k = k;
      same_growing = growing;
    })

pub removed : {X : Type 0} {hash_of : X → ℕ} {key_of : X → List ℕ} {v now new : IndexState X} {part gone : List (Option X)} {at : ℕ} {place : Place} {x : X}
    {put : List (Option X) → List (Option X)} → v ≡ now → Within part (cells v) at place.number put → AreApart hash_of key_of (cells v) → get_or part at None ≡ Some x → gone ≡ set part at None
    → cells new ≡ put gone → place.number < length now.draining + length now.table → new.strays ≡ v.strays → new.k ≡ v.k → new.growing ≡ v.growing
    → (left v ≡ left new) ⊎ (left v ≡ left new + 1) → v.spare ≤ new.spare → IsRemoved hash_of key_of place x now new
removed {X} {hash_of} {key_of} {v} {at = at} {place} {x} {put} same w apart here is whole bucket strays k growing less spare =
    let n = place.number in
    let there : entry_at v place ≡ Some x = w.reads ∙ here in
    let inside = subst (λ (s : IndexState X). n < length s.draining + length s.table) (sym same) bucket in
    let taken = whole ∙ ap put is ∙ w.writes None in
    taken_out same taken (out_taken hash_of key_of (cells v) n x apart there) there (λ k l. get_or-set_other (cells v) n k None None (λ e. omega arith)) (drop-taken (cells v) n x there)
    (filled-taken (cells v) n x there) (record { of_tables = λ _. (taken, strays); of_strays = λ behind. absurd (omega arith) }) less spare k growing

-- ---- a stray is taken out, and the last one stands in its place

lower_right : {X : Type 0} (xs ys zs : List (Option X)) (m : ℕ) → ((n : ℕ) → n < m → get_or ys n None ≡ get_or zs n None)
    → (n : ℕ) → n < length xs + m → get_or (xs ++ ys) n None ≡ get_or (xs ++ zs) n None
lower_right {X} xs ys zs m same n l = grind (arith, get_or_append_left {A = Option X}, get_or-append_right, same (n - length xs), cases_lt n (length xs))

filled_behind : {X : Type 0} (old table : List (Option X)) (strays : List X) (at : ℕ) → filled (drop (length old + (length table + at)) (old ++ (table ++ map Some strays))) ≡ length strays - at
filled_behind old table strays at =
    ap filled (drop-append-add old (table ++ map Some strays) (length table + at) ∙ drop-append-add table (map Some strays) at ∙ drop-map Some at strays)
    ∙ filled-strays (drop at strays) ∙ length-drop at strays

pub stray_gone : {X : Type 0} (hash_of : X → ℕ) (key_of : X → List ℕ) (old table : List (Option X)) (strays less : List X) (at : ℕ) (x : X) → IsSwapped strays less at → at < length strays
    → x ≡ get_or strays at x → AreApart hash_of key_of (old ++ (table ++ map Some strays)) → IsOut hash_of key_of x (old ++ (table ++ map Some strays)) (old ++ (table ++ map Some less))
stray_gone hash_of key_of old table strays less at x swap below is apart =
    let inner = (apart_parts hash_of key_of old (table ++ map Some strays) apart).1 in
    let last = stray_out hash_of key_of strays less at x swap below is (apart_parts hash_of key_of table (map Some strays) inner).1 in
    out_second hash_of key_of old (table ++ map Some strays) (table ++ map Some less) x apart (out_second hash_of key_of table (map Some strays) (map Some less) x inner last)

pub removed_stray : {X : Type 0} {hash_of : X → ℕ} {key_of : X → List ℕ} {v now new : IndexState X} {less : List X} {at : ℕ} {place : Place} {x : X}
    → v ≡ now → IsSwapped v.strays less at → at < length v.strays → x ≡ get_or v.strays at x → AreApart hash_of key_of (cells v) → cells new ≡ v.draining ++ (v.table ++ map Some less)
    → place.number ≡ length now.draining + (length now.table + at) → new.draining ≡ v.draining → new.table ≡ v.table → new.strays ≡ swap_remove v.strays at x → new.k ≡ v.k
    → new.growing ≡ v.growing → v.spare ≤ new.spare → IsRemoved hash_of key_of place x now new
removed_stray {X} {hash_of} {key_of} {v} {less = less} {at} {place} {x} same swap below is apart whole spot same_old same_table strays k growing spare =
    let old = v.draining in
    let table = v.table in
    let rest : List (Option X) = old ++ (table ++ map Some less) in
    let its : place.number ≡ length old + (length table + at) = subst (λ (s : IndexState X). place.number ≡ length s.draining + (length s.table + at)) (sym same) spot in
    let lower : (n : ℕ) → n < length old + (length table + at) → get_or rest n None ≡ get_or (cells v) n None =
    lower_right old _ _ (length table + at) (lower_right table _ _ at (λ n l. less_other v.strays less at swap n (λ e. omega arith) (omega (arith, swap.shorter)))) in
    let behind : filled (drop (length old + (length table + at)) (cells v)) ≡ filled (drop (length old + (length table + at)) rest) + 1 =
    omega (arith, filled_behind old table v.strays at, filled_behind old table less at, swap.shorter) in
    taken_out same whole (stray_gone hash_of key_of old table v.strays less at x swap below is apart) ((in_strays {now = v} refl its).reads ∙ stray_there v.strays at x below is)
    (λ n l. lower n (omega arith)) (rw its behind) (omega (arith, count_parts old table v.strays, count_parts old table less, swap.shorter)) (record {
      of_tables = λ bucket. absurd (omega arith);
      of_strays = λ _. (same_old, same_table, strays ∙ ap (λ (n : ℕ). swap_remove v.strays n x) {x = at} {y = place.number - (length old + length table)} (omega arith));
    }) (inl (ap filled (sym same_old))) spare k growing

-- ---- room

pub more_room : (room len more fewer : ℕ) → more ≡ fewer + 1 → room - (len + more) ≤ room - (len + fewer)
more_room room len more fewer less = omega arith

pub one_stray_less : (room new_room len new_len more : ℕ) → new_room ≡ room → new_len ≤ len → room - (len + more) ≤ new_room - (new_len + more)
one_stray_less room new_room len new_len more same less = omega arith

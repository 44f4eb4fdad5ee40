-- What the content of buckets is when an entry comes to a part of them, or goes from one part to another.
use Rattle.mc_grow.proofs.Words.{◌≡◌, ℕ, ◌+◌, inl, inr, List, [], ◌∷◌, ◌++◌, map, Option, Some, None, get_or, set, refl, sym, ap, subst, ◌∙◌, arith, length-append, none-some}
use Rattle.mc_grow.proofs.Words.{map-append, append_assoc, append-nil, option_or, get, insert, get-empty, filled, AreApart, HopState, with_bucket, AreDisjoint, content, Map, at_a_key}
use Rattle.mc_grow.proofs.Words.{at_its_key, content-back, gone_after, order, filled_inside, apart_joined, apart_parts, entry_absent, get_joined, joined_first, joined_parts, joined_second}
use Rattle.mc_grow.proofs.Words.{no_entries, apart-taken, HoldsAll, IsIn, IsTaken, AreTaken, IsAdded, AreAdded, Side, cells_of}

-- ---- maps with no key in common

module _ {X : Type 0} where
  flip : (m n : Map X) → AreDisjoint m n → AreDisjoint n m
  flip m n apart q x y here there = apart q y x there here

  -- what one has, the other has not
  none_beside : (m n : Map X) (k : List ℕ) (x : X) → AreDisjoint m n → get m k ≡ Some x → get n k ≡ None
  none_beside m n k x apart here = elim (get n k) as (λ o. get n k ≡ o → o ≡ None) [ None ↦ λ e. refl | (Some y) ↦ λ e. absurd (apart k x y here e) ] refl

  disjoint_more : (m n p : Map X) (k : List ℕ) (x : X) → p ≡ insert m k x → AreDisjoint m n → get n k ≡ None → AreDisjoint p n
  disjoint_more m n p k x is apart none q y z here there =
      elim (at_a_key m k x q) [ (inl e) ↦ none-some z (sym (ap (get n) e ∙ none) ∙ there) | (inr e) ↦ apart q y z (sym e ∙ ap (λ (m : Map X). get m q) (sym is) ∙ here) there ]

  disjoint_less : (m n p : Map X) (k : List ℕ) (x : X) → p ≡ insert m k x → AreDisjoint p n → get m k ≡ None → AreDisjoint m n
  disjoint_less m n p k x is apart none q y z here there =
      elim (at_a_key m k x q) [ (inl e) ↦ none-some y (sym (ap (get m) e ∙ none) ∙ here) | (inr e) ↦ apart q y z (ap (λ (m : Map X). get m q) is ∙ e ∙ here) there ]

  none_of_both : (a b : Option X) → option_or a b ≡ None → (a ≡ None) × (b ≡ None)
  none_of_both None b e = (refl, e)
  none_of_both (Some x) b e = absurd (none-some x (sym e))

-- an entry was taken out of them
pub record IsOut {X : Type 0} (hash_of : X → ℕ) (key_of : X → List ℕ) (x : X) (old new : List (Option X)) : Type 0 where
  pub back : content hash_of key_of old ≡ insert (content hash_of key_of new) (hash_of x ∷ key_of x) x
  pub gone : get (content hash_of key_of new) (hash_of x ∷ key_of x) ≡ None
  pub apart : AreApart hash_of key_of new

-- an entry more was added
pub one_added : {X : Type 0} {hash_of : X → ℕ} {key_of : X → List ℕ} {k : ℕ} (entries : List X) (entry : X) (first side last : Side X)
    → AreAdded hash_of key_of k entries first side → IsAdded hash_of key_of k entry side last → AreAdded hash_of key_of k (entries ++ (entry ∷ [])) first last
one_added {hash_of = hash_of} {key_of} {k} [] entry first side last same one = (last, subst (λ (s : Side _). IsAdded hash_of key_of k entry s last) same one, refl)
one_added (e ∷ entries) entry first side last added one = (added.0, added.1, one_added entries entry added.0 side last added.2 one)

-- after so many moves of entries of an old table
pub record MovedSoFar {X : Type 0} (hash_of : X → ℕ) (key_of : X → List ℕ) (k n : ℕ) (first drained : List (Option X)) (start side : Side X) : Type 0 where
  pub taken : AreTaken hash_of key_of k n first drained start side
  pub held : HoldsAll hash_of key_of (first ++ cells_of start) (drained ++ cells_of side)
  pub left : filled drained + n ≡ filled first

module _ {X : Type 0} (hash_of : X → ℕ) (key_of : X → List ℕ) where
  abbrev Cells : Type 0
  Cells = List (Option X)

  abbrev holds : Cells → Map X
  holds = content hash_of key_of

  abbrev key : X → List ℕ
  key x = hash_of x ∷ key_of x

  -- a key that is new to joined lists is new to each
  pub new_to_each : (xs ys : Cells) (q : List ℕ) → get (holds (xs ++ ys)) q ≡ None → (get (holds xs) q ≡ None) × (get (holds ys) q ≡ None)
  new_to_each xs ys q e = none_of_both (get (holds xs) q) (get (holds ys) q) (sym (get_joined hash_of key_of xs ys q) ∙ e)

  -- ---- an entry of a new key comes to the first of two parts, or to the second

  pub in_first : (xs ys zs : Cells) (x : X) → AreApart hash_of key_of (xs ++ ys) → get (holds (xs ++ ys)) (key x) ≡ None → IsIn hash_of key_of x xs zs → IsIn hash_of key_of x (xs ++ ys) (zs ++ ys)
  in_first xs ys zs x apart new come =
      let parts = apart_parts hash_of key_of xs ys apart in
      record {
        come = joined_first hash_of key_of xs ys zs (key x) x come.come;
        apart = apart_joined hash_of key_of zs ys (come.apart, parts.1, disjoint_more (holds xs) (holds ys) (holds zs) (key x) x come.come parts.2 (new_to_each xs ys (key x) new).1);
      }

  pub in_second : (xs ys zs : Cells) (x : X) → AreApart hash_of key_of (xs ++ ys) → get (holds (xs ++ ys)) (key x) ≡ None → IsIn hash_of key_of x ys zs → IsIn hash_of key_of x (xs ++ ys) (xs ++ zs)
  in_second xs ys zs x apart new come =
      let parts = apart_parts hash_of key_of xs ys apart in
      let fresh = (new_to_each xs ys (key x) new).0 in
      let beside = disjoint_more (holds ys) (holds xs) (holds zs) (key x) x come.come (flip (holds xs) (holds ys) parts.2) fresh in
      record {
        come = joined_second hash_of key_of xs ys zs (key x) x fresh come.come;
        apart = apart_joined hash_of key_of xs zs (parts.0, come.apart, flip (holds zs) (holds xs) beside);
      }

  -- ---- an entry goes out of the first of two parts, or out of the second

  pub out_taken : (items : Cells) (at : ℕ) (x : X) → AreApart hash_of key_of items → get_or items at None ≡ Some x → IsOut hash_of key_of x items (set items at None)
  out_taken items at x apart there = record {
    back = content-back hash_of key_of items at x apart there;
    gone = (entry_absent hash_of key_of (set items at None) (hash_of x) (key_of x)).0 (gone_after hash_of key_of items at x apart there);
    apart = apart-taken hash_of key_of items at apart;
  }

  -- of one table
  pub out_of_table : (old new : HopState X) (side : Cells) (at : ℕ) (x : X) → AreApart hash_of key_of (old.items ++ side) → get_or old.items at None ≡ Some x → new ≡ with_bucket old at None
      → IsOut hash_of key_of x old.items new.items
  out_of_table old new side at x apart there is =
      subst (λ (s : HopState X). IsOut hash_of key_of x old.items s.items) (sym is) (out_taken old.items at x (apart_parts hash_of key_of old.items side apart).0 there)

  was_there : (xs zs : Cells) (x : X) → IsOut hash_of key_of x xs zs → get (holds xs) (key x) ≡ Some x
  was_there xs zs x out = ap (λ (m : Map X). get m (key x)) out.back ∙ at_its_key (holds zs) (key x) x

  pub out_first : (xs ys zs : Cells) (x : X) → AreApart hash_of key_of (xs ++ ys) → IsOut hash_of key_of x xs zs → IsOut hash_of key_of x (xs ++ ys) (zs ++ ys)
  out_first xs ys zs x apart out =
      let parts = apart_parts hash_of key_of xs ys apart in
      let none = none_beside (holds xs) (holds ys) (key x) x parts.2 (was_there xs zs x out) in
      record {
        back = joined_first hash_of key_of zs ys xs (key x) x out.back;
        gone = get_joined hash_of key_of zs ys (key x) ∙ (λ i. option_or (out.gone i) (none i));
        apart = apart_joined hash_of key_of zs ys (out.apart, parts.1, disjoint_less (holds zs) (holds ys) (holds xs) (key x) x out.back parts.2 out.gone);
      }

  pub out_second : (xs ys zs : Cells) (x : X) → AreApart hash_of key_of (xs ++ ys) → IsOut hash_of key_of x ys zs → IsOut hash_of key_of x (xs ++ ys) (xs ++ zs)
  out_second xs ys zs x apart out =
      let parts = apart_parts hash_of key_of xs ys apart in
      let turned = flip (holds xs) (holds ys) parts.2 in
      let none = none_beside (holds ys) (holds xs) (key x) x turned (was_there ys zs x out) in
      let beside = disjoint_less (holds zs) (holds xs) (holds ys) (key x) x out.back turned out.gone in
      record {
        back = joined_second hash_of key_of xs zs ys (key x) x none out.back;
        gone = get_joined hash_of key_of xs zs (key x) ∙ (λ i. option_or (none i) (out.gone i));
        apart = apart_joined hash_of key_of xs zs (parts.0, out.apart, flip (holds zs) (holds xs) beside);
      }

  -- it goes out and comes in
  out_in : (xs ys zs : Cells) (x : X) → IsOut hash_of key_of x xs ys → IsIn hash_of key_of x ys zs → HoldsAll hash_of key_of xs zs
  out_in xs ys zs x out come = record { same = come.come ∙ sym out.back; apart = come.apart }

  pub moved : (xs ys zs others : Cells) (x : X) → AreApart hash_of key_of (xs ++ ys) → IsOut hash_of key_of x xs zs → IsIn hash_of key_of x ys others
      → HoldsAll hash_of key_of (xs ++ ys) (zs ++ others)
  moved xs ys zs others x apart out come = let rest = out_first xs ys zs x apart out in out_in _ _ _ x rest (in_second zs ys others x rest.apart rest.gone come)

  pub moved_back : (xs ys zs others : Cells) (x : X) → AreApart hash_of key_of (xs ++ ys) → IsOut hash_of key_of x ys zs → IsIn hash_of key_of x xs others
      → HoldsAll hash_of key_of (xs ++ ys) (others ++ zs)
  moved_back xs ys zs others x apart out come = let rest = out_second xs ys zs x apart out in out_in _ _ _ x rest (in_first xs zs others x rest.apart rest.gone come)

  -- ---- a part that holds what another did stands in its place

  pub instead : (xs ys zs : Cells) → AreApart hash_of key_of (xs ++ ys) → AreApart hash_of key_of zs → holds zs ≡ holds xs → HoldsAll hash_of key_of (xs ++ ys) (zs ++ ys)
  instead xs ys zs apart own is =
      let parts = apart_parts hash_of key_of xs ys apart in
      record {
        same = joined_parts hash_of key_of zs ys xs ys is refl;
        apart = apart_joined hash_of key_of zs ys (own, parts.1, subst (λ (m : Map X). AreDisjoint m (holds ys)) (sym is) parts.2);
      }

  -- an entry comes to the strays behind a table, while the table keeps what it holds
  pub strayed : (items others : Cells) (strays new_strays : List X) (x : X) → AreApart hash_of key_of (items ++ map Some strays)
      → get (holds (items ++ map Some strays)) (key x) ≡ None → AreApart hash_of key_of others → holds others ≡ holds items → new_strays ≡ strays ++ (x ∷ [])
      → IsIn hash_of key_of x (items ++ map Some strays) (others ++ map Some new_strays)
  strayed items others strays new_strays x apart new own is pushed =
      let kept = instead items (map Some strays) others apart own is in
      let end : List (Option X) = others ++ map Some strays in
      let last =
      subst (λ (l : Cells). IsIn hash_of key_of x l (end ++ (Some x ∷ []))) (append-nil end)
      (in_second end [] (Some x ∷ []) x (subst (AreApart hash_of key_of) (sym (append-nil end)) kept.apart)
      (ap (λ (l : Cells). get (holds l) (key x)) (append-nil end) ∙ ap (λ (m : Map X). get m (key x)) kept.same ∙ new)
      (record { come = refl; apart = λ p q y z e f _ _. omega (arith, filled_inside (Some x ∷ []) p y e, filled_inside (Some x ∷ []) q z f) })) in
      let is : (others ++ map Some strays) ++ (Some x ∷ []) ≡ others ++ map Some new_strays =
      append_assoc others (map Some strays) (Some x ∷ []) ∙ ap (λ (l : Cells). others ++ l) (sym (ap (map Some) pushed ∙ map-append Some strays (x ∷ []))) in
      record { come = ap holds (sym is) ∙ last.come ∙ ap (λ (m : Map X). insert m (key x) x) kept.same; apart = subst (AreApart hash_of key_of) is last.apart }

  -- buckets with no entry are put in between
  pub more_buckets : (xs ys zs : Cells) → filled zs ≡ 0 → AreApart hash_of key_of zs → AreApart hash_of key_of (xs ++ ys) → HoldsAll hash_of key_of (xs ++ ys) (xs ++ (zs ++ ys))
  more_buckets xs ys zs empty own apart =
      let parts = apart_parts hash_of key_of xs ys apart in
      let nothing = no_entries hash_of key_of zs empty in
      let same : holds (zs ++ ys) ≡ holds ys = joined_parts hash_of key_of zs ys [] ys nothing refl in
      let none : AreDisjoint (holds zs) (holds ys) = λ q y z here there. none-some y (sym (ap (λ (m : Map X). get m q) nothing ∙ get-empty order q) ∙ here) in
      record {
        same = joined_parts hash_of key_of xs (zs ++ ys) xs ys refl same;
        apart = apart_joined hash_of key_of xs (zs ++ ys) (parts.0, apart_joined hash_of key_of zs ys (own, parts.1, none), subst (λ (m : Map X). AreDisjoint (holds xs) m) (sym same) parts.2);
      }

  -- ---- moves one by one

  pub moved_more : {k n k_now : ℕ} {first drained drained_now : Cells} {start side side_now : Side X} → MovedSoFar hash_of key_of k n first drained start side
      → IsTaken hash_of key_of k_now drained drained_now side side_now → k_now ≡ k → filled drained ≡ filled drained_now + 1
      → HoldsAll hash_of key_of (drained ++ cells_of side) (drained_now ++ cells_of side_now) → MovedSoFar hash_of key_of k (n + 1) first drained_now start side_now
  moved_more {first = first} {drained} {drained_now} {start} {side} {side_now} before one is fewer held =
      let entries = before.taken.entries in
      let x = one.entry in
      record {
        taken = record {
          entries = entries ++ (x ∷ []);
          many = length-append entries (x ∷ []) ∙ ap (λ (m : ℕ). m + 1) before.taken.many;
          taken = ap (λ (l : Cells). holds (l ++ drained_now)) (map-append Some entries (x ∷ [])) ∙ ap holds (append_assoc (map Some entries) (Some x ∷ []) drained_now)
              ∙ joined_parts hash_of key_of (map Some entries) (Some x ∷ drained_now) (map Some entries) drained refl (sym one.taken) ∙ before.taken.taken;
          added = one_added entries x start side side_now before.taken.added (subst (λ (m : ℕ). IsAdded hash_of key_of m x side side_now) is one.added);
        };
        held = record { same = held.same ∙ before.held.same; apart = held.apart };
        left = omega (arith, before.left, fewer);
      }

-- What is in a list of numbers, and in what order, when some leave it.
use Rattle.std.specs.Prelude.{slice_get, if◌then◌else◌}
use Rattle.std.proofs.Common.{◌≡◌, ◌⊎◌, inl, inr, ℕ, zero, suc, ◌+◌, ◌-◌, ◌≤◌, Bool, true, false, List, [], ◌∷◌, ◌++◌, length, take, drop, Some, refl, sym, ap, ◌∙◌, subst, arith}
use Rattle.std.proofs.Common.{length-append}
use Rattle.std.proofs.lemmas.Option.{none-some, same_Some, slice_get_within}
use Rattle.mc_guests.specs.Fairness.{IsIn, KeepsOrder, nobody, stays, leaves}

pub same_order : (xs : List ℕ) → KeepsOrder xs xs
same_order [] = nobody
same_order (x ∷ xs) = stays (same_order xs)

none_kept : (xs : List ℕ) → KeepsOrder [] xs
none_kept [] = nobody
none_kept (x ∷ xs) = leaves (none_kept xs)

pub order_trans : {a b c : List ℕ} → KeepsOrder b c → KeepsOrder a b → KeepsOrder a c
order_trans nobody t = t
order_trans (leaves s) t = leaves (order_trans s t)
order_trans (stays s) (stays t) = stays (order_trans s t)
order_trans (stays s) (leaves t) = leaves (order_trans s t)

pub order_more : {a b : List ℕ} → (c : List ℕ) → KeepsOrder a b → KeepsOrder a (b ++ c)
order_more c nobody = none_kept c
order_more c (stays t) = stays (order_more c t)
order_more c (leaves t) = leaves (order_more c t)

pub order_append : {a b c d : List ℕ} → KeepsOrder a b → KeepsOrder c d → KeepsOrder (a ++ c) (b ++ d)
order_append nobody t = t
order_append (stays s) t = stays (order_append s t)
order_append (leaves s) t = leaves (order_append s t)

pub order_long : {a b : List ℕ} → KeepsOrder a b → length a ≤ length b
order_long nobody = omega arith
order_long (stays t) = omega (arith, order_long t)
order_long (leaves t) = omega (arith, order_long t)

pub in_left : (number : ℕ) (xs ys : List ℕ) → IsIn number xs → IsIn number (xs ++ ys)
in_left number [] ys h = absurd h
in_left number (x ∷ xs) ys (inl e) = inl e
in_left number (x ∷ xs) ys (inr h) = inr (in_left number xs ys h)

pub in_right : (number : ℕ) (xs ys : List ℕ) → IsIn number ys → IsIn number (xs ++ ys)
in_right number [] ys h = h
in_right number (x ∷ xs) ys h = inr (in_right number xs ys h)

pub in_either : (number : ℕ) (xs ys : List ℕ) → IsIn number (xs ++ ys) → IsIn number xs ⊎ IsIn number ys
in_either number [] ys h = inr h
in_either number (x ∷ xs) ys (inl e) = inl (inl e)
in_either number (x ∷ xs) ys (inr h) = elim (in_either number xs ys h) [ inl a ↦ inl (inr a) | inr b ↦ inr b ]

pub in_none : (number : ℕ) (xs : List ℕ) → length xs ≡ 0 → IsIn number xs → ⊥
in_none number [] none h = h
in_none number (x ∷ xs) none h = absurd (omega (arith, none))

-- the last of a list
last_split : (i : ℕ) (xs : List ℕ) (x : ℕ) → slice_get xs i ≡ Some x → i + 1 ≡ length xs → xs ≡ take i xs ++ x ∷ []
last_split i [] x is end = absurd (none-some x is)
last_split zero (y ∷ []) x is end = ap (λ (m : ℕ). m ∷ []) (same_Some y x is)
last_split zero (y ∷ z ∷ zs) x is end = absurd (omega (arith, end))
last_split (suc i) (y ∷ ys) x is end = ap (λ (l : List ℕ). y ∷ l) (last_split i ys x is (omega (arith, end)))

at_end : (front : List ℕ) (x : ℕ) → slice_get (front ++ x ∷ []) (length front) ≡ Some x
at_end [] x = refl
at_end (y ∷ ys) x = at_end ys x

pub end_of : (front : List ℕ) (x : ℕ) (xs : List ℕ) → xs ≡ front ++ x ∷ [] → slice_get xs (length xs - 1) ≡ Some x
end_of front x xs is =
    let long : length xs ≡ length (front ++ x ∷ []) = ap (λ (l : List ℕ). length l) is in
    let last : length xs - 1 ≡ length front = omega (arith, long, length-append front (x ∷ [])) in
    ap (slice_get xs) last ∙ ap (λ (l : List ℕ). slice_get l (length front)) is ∙ at_end front x

-- one left a list: all others keep their order
pub record Leaves (number : ℕ) (all rest : List ℕ) : Type 0 where
  pub order : KeepsOrder rest all
  pub others : (n : ℕ) → IsIn n all → IsIn n rest ⊎ (number ≡ n)
  pub long : length rest + 1 ≡ length all

pub first_leaves : (number : ℕ) (queue : List ℕ) → slice_get queue 0 ≡ Some number → Leaves number queue (drop 1 queue)
first_leaves number [] is = absurd (none-some number is)
first_leaves number (x ∷ xs) is = record {
  order = leaves (same_order xs);
  others = λ n h. elim h [ inl e ↦ inr (sym (same_Some x number is) ∙ e) | inr there ↦ inl there ];
  long = omega arith;
}

pub last_leaves : (number : ℕ) (queue : List ℕ) → slice_get queue (length queue - 1) ≡ Some number → Leaves number queue (take (length queue - 1) queue)
last_leaves number queue is =
    let within = slice_get_within queue (length queue - 1) number is in
    let front : List ℕ = take (length queue - 1) queue in
    let split : queue ≡ take (length queue - 1) queue ++ number ∷ [] = last_split (length queue - 1) queue number is (omega (arith, within)) in
    let long : length queue ≡ length (take (length queue - 1) queue ++ number ∷ []) = ap (λ (l : List ℕ). length l) split in record {
      order = subst (λ (l : List ℕ). KeepsOrder (take (length queue - 1) queue) l) (sym split) (order_more (number ∷ []) (same_order (take (length queue - 1) queue)));
      others = λ n h. elim (in_either n front (number ∷ []) (subst (λ (l : List ℕ). IsIn n l) split h)) [
        | inl a ↦ inl a
        | inr b ↦ elim b [ inl e ↦ inr e | inr never ↦ absurd never ]
      ];
      long = omega (arith, long, length-append (take (length queue - 1) queue) (number ∷ []));
    }

-- the one in turn leaves the queue
pub turn_leaves : (last : Bool) (number : ℕ) (queue : List ℕ) → (if last then slice_get queue (length queue - 1) else slice_get queue 0) ≡ Some number
    → Leaves number queue (if last then take (length queue - 1) queue else drop 1 queue)
turn_leaves true number queue is = last_leaves number queue is
turn_leaves false number queue is = first_leaves number queue is

-- What is written of texts, parts that are lent, and texts behind them.
use Rattle.std.proofs.Common.{◌≡◌, ◌<◌, ◌≤◌, ◌+◌, ◌-◌, ℕ, ◌⊎◌, inl, inr, List, ◌++◌, length, drop, min, refl, sym, ap, ◌∙◌, arith, length-take}
use Rattle.std.proofs.Math.Seq.{drop-append-add, drop-append_seam}
use Rattle.std.proofs.Math.ListN.{drop_of_length-le}
use Rattle.std.proofs.lemmas.Bool.{cases_lt}
use Rattle.mc_session.specs.Outputs.{IsBegun}
use Rattle.std.proofs.lemmas.List.{drop-append-le, take-append-le, append_assoc}

-- `i` bytes are dropped of what comes first, and the rest of `n` bytes of what comes then
of_two : (n i : ℕ) (xs ys : List ℕ) → i ≡ min n (length xs) → (n < length xs) ⊎ (length xs ≤ n) → drop i xs ++ drop (n - i) ys ≡ drop n (xs ++ ys)
of_two n i xs ys is (inl within) =
    let all : i ≡ n = omega (arith, is, within) in
    let none : n - n ≡ 0 = omega arith in
    rw (all, none, drop-append-le n xs ys (omega (arith, within))) refl
of_two n i xs ys is (inr beyond) =
    let gone : length xs ≤ i = omega (arith, is, beyond) in
    let all : length xs + (n - i) ≡ n = omega (arith, is, beyond) in
    ap (λ l. l ++ drop (n - i) ys) (drop_of_length-le xs gone) ∙ sym (drop-append-add xs ys (n - i)) ∙ ap (λ m. drop m (xs ++ ys)) all

-- the same with three
pub dropped_each : (n i j : ℕ) (xs ys zs : List ℕ) → i ≡ min n (length xs) → j ≡ min (n - i) (length ys)
    → drop i xs ++ (drop j ys ++ drop (n - i - j) zs) ≡ drop n (xs ++ (ys ++ zs))
dropped_each n i j xs ys zs is then =
    ap (λ l. drop i xs ++ l) (of_two (n - i) j ys zs then (cases_lt (n - i) (length ys))) ∙ of_two n i xs (ys ++ zs) is (cases_lt n (length xs))

-- what is appended to a queue leaves what it began with
begun_more : (old queue more : List ℕ) → IsBegun old queue → IsBegun old (queue ++ more)
begun_more old queue more begun =
    let long : length old ≤ length queue = omega (arith, ap length begun, length-take (length old) queue) in
    take-append-le (length old) queue more long ∙ begun

-- a part was copied
pub part_copied : (old all queue parts front rest queue' parts' : List ℕ) → queue ++ parts ≡ old ++ all → IsBegun old queue → parts ≡ front ++ rest
    → queue' ≡ queue ++ front → parts' ≡ drop (length front) parts → (queue' ++ parts' ≡ old ++ all) × IsBegun old queue'
part_copied old all queue parts front rest queue' parts' whole begun is appended dropped =
    let left : parts' ≡ rest = dropped ∙ ap (λ l. drop (length front) l) is ∙ drop-append_seam front rest in
    (rw (appended, left) (append_assoc queue front rest ∙ ap (λ l. queue ++ l) (sym is) ∙ whole), rw appended (begun_more old queue front begun))

-- a text in three pieces was appended one after another
pub text_around : (old new front parts back text : List ℕ) → text ≡ front ++ parts ++ back → new ≡ old ++ front ++ parts ++ back → new ≡ old ++ text
text_around old new front parts back text is appended =
    appended ∙ ap (λ l. l ++ back) (append_assoc old front parts) ∙ append_assoc old (front ++ parts) back ∙ ap (λ l. old ++ l) (sym is)

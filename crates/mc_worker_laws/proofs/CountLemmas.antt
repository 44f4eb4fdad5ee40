-- How many guests ended so, and how many links were refused and let go, beside what a worker counts.
use Rattle.std.specs.Prelude.{slice_get, swap, cond, count_by}
use Rattle.std.specs.List.{sum_by}
use Rattle.std.proofs.Common.{◌≡◌, ℕ, zero, suc, ◌+◌, ◌<◌, Bool, List, [], ◌∷◌, ◌++◌, length, map, take, Option, Some, None, refl, ap, ◌∙◌, arith, IsTrue, IsFalse}
use Rattle.std.proofs.lemmas.List.Sums.{sum_by-cons, sum_by-append}
use Rattle.std.proofs.lemmas.List.Sorted.{sum_by-IsPermutation, IsPermutation-swap}
use Rattle.std.proofs.lemmas.Option.{none-some, same_Some}
use Rattle.mc_guests.specs.Links.{LinkState}
use Rattle.mc_guests.specs.Guests.{GuestState, RowGuest, has_ended}
use Rattle.mc_guests.specs.Arrivals.{Arrival, turned_away}
use Rattle.mc_guests.specs.Books.{changed, counted, one_more}
use Rattle.mc_guests.specs.declared.guest.Visit.{Visit}
use Rattle.mc_guests.specs.declared.guest.Visit.TheVariants.{Wrote, Turned, Read, Later, Served, Broken, Refused}
use Rattle.mc_guests.specs.declared.guests.WorkEnd.{WorkEnd}
use Rattle.mc_guests.proofs.ArrivalLemmas.{away_both}
use Rattle.mc_worker_laws.specs.Traces.{is_served, is_broken, is_refused, how_many, AreCounted}

-- which guests are counted
abbrev pub Answers : Type 0
Answers = GuestState → Bool

abbrev pub one_of : Answers → GuestState → ℕ
one_of counts guest = cond (counts guest) 1 0

abbrev pub many_of : Answers → List GuestState → ℕ
many_of counts guests = count_by counts guests

abbrev pub one_in_row : Answers → RowGuest → ℕ
one_in_row counts guest = one_of counts guest.guest

-- how many guests of a row are counted
abbrev pub how_many_stand : Answers → List RowGuest → ℕ
how_many_stand ended row = sum_by (one_in_row ended) row

module _ {A : Type 0} (w : A → ℕ) where
  pub sum_kept : (f : A → A) → ((x : A) → w (f x) ≡ w x) → (at : ℕ) (xs : List A) → sum_by w (changed f at xs) ≡ sum_by w xs
  sum_kept f keeps at [] = refl
  sum_kept f keeps zero (x ∷ xs) =
      let a = sum_by-cons w (f x) xs in let b = sum_by-cons w x xs in let k = keeps x in omega (arith, a, b, k)
  sum_kept f keeps (suc at) (x ∷ xs) =
      let a = sum_by-cons w x (changed f at xs) in let b = sum_by-cons w x xs in let k = sum_kept f keeps at xs in omega (arith, a, b, k)

  pub sum_mapped : (f : A → A) → ((x : A) → w (f x) ≡ w x) → (xs : List A) → sum_by w (map f xs) ≡ sum_by w xs
  sum_mapped f keeps [] = refl
  sum_mapped f keeps (x ∷ xs) =
      let a = sum_by-cons w (f x) (map f xs) in let b = sum_by-cons w x xs in let k = keeps x in let m = sum_mapped f keeps xs in omega (arith, a, b, k, m)

  pub sum_swapped : (one other : ℕ) (xs : List A) → one < length xs → other < length xs → sum_by w (swap xs one other) ≡ sum_by w xs
  sum_swapped one other xs first second = sum_by-IsPermutation w xs (swap xs one other) (IsPermutation-swap xs (swap xs one other) one other first second refl)

  pub sum_cut : (end : ℕ) (xs : List A) (it : A) → length xs ≡ end + 1 → slice_get xs end ≡ Some it → sum_by w xs ≡ sum_by w (take end xs) + w it
  sum_cut zero [] it long is = absurd (none-some it is)
  sum_cut zero (x ∷ []) it long is = let a = sum_by-cons w x [] in let e : w x ≡ w it = ap w (same_Some x it is) in omega (arith, a, e)
  sum_cut zero (x ∷ (y ∷ xs)) it long is = absurd (omega (arith, long))
  sum_cut (suc end) [] it long is = absurd (none-some it is)
  sum_cut (suc end) (x ∷ xs) it long is =
      let a = sum_by-cons w x xs in let b = sum_by-cons w x (take end xs) in let c = sum_cut end xs it (omega (arith, long)) is in omega (arith, a, b, c)

  -- one in the middle became another
  pub sum_mid : (front rest : List A) (x y : A) → sum_by w (front ++ y ∷ rest) + w x ≡ sum_by w (front ++ x ∷ rest) + w y
  sum_mid front rest x y =
      let a = sum_by-append w front (y ∷ rest) in
      let b = sum_by-append w front (x ∷ rest) in
      let c = sum_by-cons w y rest in
      let d = sum_by-cons w x rest in
      omega (arith, a, b, c, d)

pub many_none : (counts : Answers) → many_of counts [] ≡ 0
many_none counts = refl

pub many_more : (counts : Answers) (xs ys : List GuestState) → many_of counts (xs ++ ys) ≡ many_of counts xs + many_of counts ys
many_more counts xs ys = sum_by-append (one_of counts) xs ys

pub many_one : (counts : Answers) (g : GuestState) → many_of counts (g ∷ []) ≡ one_of counts g
many_one counts g = let a = sum_by-cons (one_of counts) g [] in omega (arith, a)

-- ---- which links were let go

-- the guests whose links are counted
abbrev pub with_link : (LinkState → Bool) → Answers
with_link counts guest = counts guest.link

pub links_more : (counts : LinkState → Bool) (xs ys : List LinkState) → count_by counts (xs ++ ys) ≡ count_by counts xs + count_by counts ys
links_more counts xs ys = sum_by-append (λ (link : LinkState). cond (counts link) 1 0) xs ys

pub away_counts : (counts : LinkState → Bool) (came more : List Arrival)
    → count_by counts (turned_away (came ++ more)) ≡ count_by counts (turned_away came) + count_by counts (turned_away more)
away_counts counts came more = ap (count_by counts) (away_both came more) ∙ links_more counts (turned_away came) (turned_away more)

-- ---- what is counted

-- a guest that ended is counted
module _ (gone : List GuestState) (at_door : ℕ) (guest : GuestState) where
  abbrev now_gone : List GuestState
  now_gone = gone ++ guest ∷ []

  grows : (counts : Answers) → many_of counts now_gone ≡ many_of counts gone + one_of counts guest
  grows counts = let a = many_more counts gone (guest ∷ []) in let b = many_one counts guest in omega (arith, a, b)

  same_as : (ended : Option Visit → Bool) (last : Option Visit) → guest.last ≡ last → how_many ended now_gone ≡ how_many ended gone + cond (ended last) 1 0
  same_as ended last is = grows (λ (g : GuestState). ended g.last) ∙ ap (λ (o : Option Visit). how_many ended gone + cond (ended o) 1 0) is

  pub counts_end : (last : Option Visit) (before : WorkEnd) → IsTrue (has_ended last) → guest.last ≡ last → AreCounted gone at_door before → AreCounted now_gone at_door (counted last before)
  counts_end None before ended is c = absurd (cc)
  counts_end (Some Wrote) before ended is c = absurd (cc)
  counts_end (Some Turned) before ended is c = absurd (cc)
  counts_end (Some Read) before ended is c = absurd (cc)
  counts_end (Some Later) before ended is c = absurd (cc)
  counts_end (Some Served) before ended is c = record {
    served = (let s = c.served in let a = same_as is_served (Some Served) is in omega (arith, s, a));
    broken = (let s = c.broken in let a = same_as is_broken (Some Served) is in omega (arith, s, a));
    refused = (let s = c.refused in let a = same_as is_refused (Some Served) is in omega (arith, s, a));
  }
  counts_end (Some Broken) before ended is c = record {
    served = (let s = c.served in let a = same_as is_served (Some Broken) is in omega (arith, s, a));
    broken = (let s = c.broken in let a = same_as is_broken (Some Broken) is in omega (arith, s, a));
    refused = (let s = c.refused in let a = same_as is_refused (Some Broken) is in omega (arith, s, a));
  }
  counts_end (Some Refused) before ended is c = record {
    served = (let s = c.served in let a = same_as is_served (Some Refused) is in omega (arith, s, a));
    broken = (let s = c.broken in let a = same_as is_broken (Some Refused) is in omega (arith, s, a));
    refused = (let s = c.refused in let a = same_as is_refused (Some Refused) is in omega (arith, s, a));
  }

-- one that goes on isn't
pub counts_on : (last : Option Visit) (before : WorkEnd) → IsFalse (has_ended last) → counted last before ≡ before
counts_on None before on = refl
counts_on (Some Wrote) before on = refl
counts_on (Some Turned) before on = refl
counts_on (Some Read) before on = refl
counts_on (Some Later) before on = refl
counts_on (Some Served) before on = absurd (cc)
counts_on (Some Broken) before on = absurd (cc)
counts_on (Some Refused) before on = absurd (cc)

-- a link is refused at the door
pub counts_refused : (gone : List GuestState) (at_door : ℕ) (before : WorkEnd) → AreCounted gone at_door before
    → AreCounted gone (at_door + 1) (record before { refused = one_more before.refused })
counts_refused gone at_door before c = record {
  served = c.served;
  broken = c.broken;
  refused = (let s = c.refused in omega (arith, s));
}

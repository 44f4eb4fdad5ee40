-- Which links come, one opening of the door after another.
use Rattle.std.specs.Prelude.{map, if◌then◌else◌}
use Rattle.std.proofs.Common.{◌≡◌, ◌↔◌, ◌<◌, ℕ, ◌+◌, Bool, true, false, List, [], ◌∷◌, ◌++◌, Option, Some, None, refl, sym, ap, ◌∙◌, subst, append_assoc, IsTrue, IsFalse}
use Rattle.std.proofs.lemmas.List.{map-append}
use Rattle.mc_links.specs.Coming.{IsNext}
use Rattle.mc_links.specs.declared.links.Next.TheVariants as next
use Rattle.mc_guests.specs.Links.{LinkState}
use Rattle.mc_guests.specs.Books.{BooksState}
use Rattle.mc_guests.specs.Admissions.{Opens, LinksCame, OpensForAll}
use Rattle.mc_guests.specs.Arrivals.{Arrival, all_links_of, turned_away, came_in, all_came_in, came_between, seen_by, ComeFirst, NoneToCome, Brings}
use Rattle.mc_guests.specs.Leaving.{AreLetGo}
use Rattle.mc_guests.specs.declared.admission.Admission.{Admission}
use Rattle.mc_guests.specs.declared.guests.WorkEnd.{WorkEnd}

-- what lets links go
module _ (leaves : LinkState → (before after : ℕ) → Type 0) where
  -- an opening of the door, what it brings, and which link it lets go
  abbrev pub OpensTo : (is_quiet : Bool) (door later : Admission) (old new : BooksState) (before after : WorkEnd) (goes_on : Bool) (coming left : Option (List LinkState)) → Type 0
  OpensTo is_quiet door later old new before after goes_on coming left =
      (opens : Opens is_quiet door later old new before after goes_on) × Brings (came_in opens) goes_on coming left
      × AreLetGo leaves (turned_away (came_in opens)) old.gone new.gone

  -- openings by each of which a link came
  abbrev pub CameTo : (count : ℕ) (door later : Admission) (old new : BooksState) (before after : WorkEnd) (coming left : Option (List LinkState)) → Type 0
  CameTo count door later old new before after coming left =
      (came : LinksCame count door later old new before after) × ComeFirst coming (all_came_in came) left
      × AreLetGo leaves (turned_away (all_came_in came)) old.gone new.gone

  -- the openings between two rounds
  abbrev pub OpensAllTo : (door later : Admission) (old new : BooksState) (before after : WorkEnd) (goes_on : Bool) (coming left : Option (List LinkState)) → Type 0
  OpensAllTo door later old new before after goes_on coming left =
      (opens : OpensForAll door later old new before after goes_on) × Brings (came_between opens) goes_on coming left
      × AreLetGo leaves (turned_away (came_between opens)) old.gone new.gone

away_if : (b : Bool) (link : LinkState) (xs ys : List LinkState) → (if b then xs ++ ys else link ∷ (xs ++ ys)) ≡ (if b then xs else link ∷ xs) ++ ys
away_if true link xs ys = refl
away_if false link xs ys = refl

-- those that were refused of some that came and of others
pub away_both : (came more : List Arrival) → turned_away (came ++ more) ≡ turned_away came ++ turned_away more
away_both [] more = refl
away_both (arrival ∷ came) more =
    ap (λ (l : List LinkState). if arrival.is_admitted then l else arrival.state ∷ l) (away_both came more)
    ∙ away_if arrival.is_admitted arrival.state (turned_away came) (turned_away more)

pub first_none : (links : Option (List LinkState)) → ComeFirst links [] links
first_none None = refl
first_none (Some links) = (links, refl, refl)

pub first_then : (coming between left : Option (List LinkState)) (came more : List Arrival) → ComeFirst coming came between → ComeFirst between more left
    → ComeFirst coming (came ++ more) left
first_then None between left came more front last = subst (λ (o : Option (List LinkState)). ComeFirst o more left → left ≡ None) (sym front) (λ none. none) last
first_then (Some links) between left came more (rest, is, holds) last = on (subst (λ (o : Option (List LinkState)). ComeFirst o more left) holds last)
  where
    on : ComeFirst (Some rest) more left → ComeFirst (Some links) (came ++ more) left
    on (end, parts, so) = (
      end,
      is ∙ ap (λ (l : List LinkState). all_links_of came ++ l) parts ∙ sym (append_assoc (all_links_of came) (all_links_of more) end)
          ∙ ap (λ (l : List LinkState). l ++ end) (sym (map-append (λ (a : Arrival). a.state) came more)),
      so,
    )

-- no other call changes which links are to come
pub first_still : (coming left kept : Option (List LinkState)) (came : List Arrival) → kept ≡ left → ComeFirst coming came left → ComeFirst coming came kept
first_still coming left kept came same first = subst (ComeFirst coming came) (sym same) first

module _ {L : Type 0} (shown : L → LinkState) (coming left : Option (List L)) where
  pub next_comes : (link : L) → IsNext coming (next.Link link) left → (arrival : Arrival) → arrival.state ≡ shown link
      → ComeFirst (seen_by shown coming) (arrival ∷ []) (seen_by shown left)
  next_comes link is arrival seen = by_known coming is
    where
      by_known : (known : Option (List L)) → IsNext known (next.Link link) left → ComeFirst (seen_by shown known) (arrival ∷ []) (seen_by shown left)
      by_known None none = ap (seen_by shown) none
      by_known (Some links) (later, parts, rest) =
          (map shown later, ap (map shown) parts ∙ ap (λ (s : LinkState). s ∷ map shown later) (sym seen), ap (seen_by shown) rest)

  pub none_comes : IsNext coming next.Later left → ComeFirst (seen_by shown coming) [] (seen_by shown left)
  none_comes is = by_known coming is
    where
      by_known : (known : Option (List L)) → IsNext known next.Later left → ComeFirst (seen_by shown known) [] (seen_by shown left)
      by_known None none = ap (seen_by shown) none
      by_known (Some links) rest = (map shown links, refl, ap (seen_by shown) rest)

  pub no_more_come : IsNext coming next.Closed left → ComeFirst (seen_by shown coming) [] (seen_by shown left) × NoneToCome (seen_by shown left)
  no_more_come is = by_known coming is
    where
      by_known : (known : Option (List L)) → IsNext known next.Closed left → ComeFirst (seen_by shown known) [] (seen_by shown left) × NoneToCome (seen_by shown left)
      by_known None none = (ap (seen_by shown) none, subst NoneToCome (sym (ap (seen_by shown) none)) tt)
      by_known (Some links) (none, rest) =
          (([], ap (map shown) none, ap (seen_by shown) rest), subst NoneToCome (sym (ap (seen_by shown) rest)) refl)

-- Which links come to a worker's door, and what becomes of them there.
use mathlib.Core.Logic.{inl, inr}
use Rattle.std.specs.Prelude.{◌≡◌, ◌⊎◌, ℕ, List, [], ◌∷◌, ◌++◌, map, Option, Some, None, Bool, true, false, IsFalse, if◌then◌else◌}
use Rattle.mc_guests.specs.Links.{LinkState}
use Rattle.mc_guests.specs.Books.{BooksState}
use Rattle.mc_guests.specs.Admissions.{Opens, link as of_link, none_now, none_more, over, LinkCame, OpensForAll, as_many, then_none}
use Rattle.mc_time.specs.Chains.{Repeats, none_yet, one_more}
use Rattle.mc_guests.specs.declared.admission.Admission.{Admission}
use Rattle.mc_guests.specs.declared.guests.WorkEnd.{WorkEnd}

-- A link that came to a worker's door, with the greatest charge of an item there, and whether it was admitted; if not, it
-- was refused.
pub record Arrival : Type 0 where
  pub most : ℕ
  pub state : LinkState
  pub is_admitted : Bool

-- the links alone
abbrev pub all_links_of : List Arrival → List LinkState
all_links_of came = map (λ arrival. arrival.state) came

-- the links that were admitted, each with the greatest charge of an item
abbrev pub admitted : List Arrival → List (ℕ × LinkState)
admitted [] = []
admitted (arrival ∷ came) =
    if arrival.is_admitted then (arrival.most, arrival.state) ∷ admitted came else admitted came

-- the links that were refused
abbrev pub turned_away : List Arrival → List LinkState
turned_away [] = []
turned_away (arrival ∷ came) =
    if arrival.is_admitted then turned_away came else arrival.state ∷ turned_away came

-- whether it was the first of two
abbrev pub is_first : {A B : Type 0} → A ⊎ B → Bool
is_first (inl first) = true
is_first (inr second) = false

-- the link that came at an opening of the door, if one came
abbrev pub came_in : {is_quiet goes_on : Bool} {door later : Admission} {old new : BooksState} {before after : WorkEnd}
    → Opens is_quiet door later old new before after goes_on → List Arrival
came_in (of_link {door = door} lets wakes) =
    record { most = door.greatest; state = lets.link; is_admitted = is_first lets.either } ∷ []
came_in (none_now nothing) = []
came_in (none_more some nothing) = []
came_in (over none) = []

-- the links that came at these openings, in order
abbrev pub all_came_in : {count : ℕ} {old new : Admission × BooksState × WorkEnd} → Repeats LinkCame count old new → List Arrival
all_came_in none_yet = []
all_came_in (one_more front one) = all_came_in front ++ came_in one.opens

-- the links that came at the openings between two rounds
abbrev pub came_between : {goes_on : Bool} {door later : Admission} {old new : BooksState} {before after : WorkEnd}
    → OpensForAll door later old new before after goes_on → List Arrival
came_between (as_many came) = all_came_in came
came_between (then_none few came opens none) = all_came_in came ++ came_in opens

-- the links that are to come, as contracts see them, if they are known
abbrev pub seen_by : {L : Type 0} → (L → LinkState) → Option (List L) → Option (List LinkState)
seen_by shown None = None
seen_by shown (Some links) = Some (map shown links)

-- Of the links that were to come these came first, in order. The others are still to come.
abbrev pub ComeFirst : (before : Option (List LinkState)) → List Arrival → (after : Option (List LinkState)) → Type 0
ComeFirst None came after = after ≡ None
ComeFirst (Some links) came after =
    (rest : List LinkState) × (links ≡ all_links_of came ++ rest) × (after ≡ Some rest)

-- no link is to come, if it is known
abbrev pub NoneToCome : Option (List LinkState) → Type 0
NoneToCome None = Unit {0}
NoneToCome (Some links) = links ≡ []

-- of the links that were to come these came, and none is to come where nothing can come any more
pub record Brings (came : List Arrival) (goes_on : Bool) (before after : Option (List LinkState)) : Type 0 where
  pub first : ComeFirst before came after
  pub all : IsFalse goes_on → NoneToCome after

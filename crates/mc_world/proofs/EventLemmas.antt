-- What an event does to a world, and how events go on where bytes stand in front of an output, or where others are added,
-- taken out or cut, or change places. First, how one element of a list is changed, by its number.
use Rattle.mc_world.proofs.Words.{◌≡◌, ℕ, zero, suc, ◌-◌, ◌≤◌, ◌==◌, Bool, true, false, List, [], ◌∷◌, ◌++◌, length, Option, Some, None, slice_get, slice_set, option_map, refl, sym, ap, ◌∙◌, subst}
use Rattle.mc_world.proofs.Words.{arith, if◌then◌else◌, eqb-true, eqb-false, length-set, numbered, if_open, put, changed, ◌⊎◌, inl, inr, append_assoc, MatchOption, nat_lt, length-append, Plain}
use Rattle.mc_world.proofs.Words.{ProtocolUnit, Request, Answers, Connection, IsNextTurn, HasNoNext, fresh}
use Rattle.mc_world.proofs.Words.{with_piece, after_turn, ended, PlainWorld, in_plain, open_connection, at_connection, NextTurn}
use Rattle.mc_world.proofs.Words.{Turns, Happens, named, Runs, with_end, EventDecides, TakesMemory, GivesUp, in_front, with_front}
use Rattle.mc_world.proofs.Words.{Event, Open, Piece, Turn, Clock, Grow, Purge, Close, IfSome, ◌↔◌, KeyStep}
use Rattle.mc_world.proofs.Words.{Fault, LongLine, plain_text, AnswersStep, step_of, NextHasNoStep, DecidesNoStep, IsApart}
use Rattle.mc_session.proofs.ChainLemmas as chain

-- the element of that number, counted from 1
abbrev pub at_number : {A : Type 0} → List A → ℕ → (A → A) → List A
at_number xs zero f = xs
at_number [] (suc n) f = []
at_number (x ∷ xs) (suc zero) f = f x ∷ xs
at_number (x ∷ xs) (suc (suc n)) f = x ∷ at_number xs (suc n) f

-- a change of what is open
abbrev pub if_opened : {A : Type 0} → (A → Bool) → (A → A) → A → A
if_opened is_open f x = if is_open x then f x else x

before_suc : (n : ℕ) → suc n - 1 ≡ n
before_suc n = omega arith

changed_first : {A : Type 0} (x : A) (xs : List A) (f : A → A) (b : Bool) → changed 1 (x ∷ xs) f (if b then Some x else None) ≡ (if b then f x else x) ∷ xs
changed_first x xs f true = ap (λ (k : ℕ). slice_set (x ∷ xs) k (f x)) (before_suc 0)
changed_first x xs f false = refl

changed_behind : {A : Type 0} (x : A) (xs : List A) (n : ℕ) (f : A → A) (o : Option A) → changed (suc (suc n)) (x ∷ xs) f o ≡ x ∷ changed (suc n) xs f o
changed_behind x xs n f None = refl
changed_behind x xs n f (Some y) = ap (λ (k : ℕ). slice_set (x ∷ xs) k (f y)) (before_suc (suc n)) ∙ ap (λ (k : ℕ). x ∷ slice_set xs k (f y)) (sym (before_suc n))

-- what was found open under a number is changed
pub changed_opened : {A : Type 0} (is_open : A → Bool) (n : ℕ) (xs : List A) (f : A → A) → changed n xs f (if_open is_open (numbered n xs)) ≡ at_number xs n (if_opened is_open f)
changed_opened is_open zero xs f = refl
changed_opened is_open (suc n) [] f = refl
changed_opened is_open (suc zero) (x ∷ xs) f = changed_first x xs f (is_open x)
changed_opened is_open (suc (suc n)) (x ∷ xs) f = changed_behind x xs n f (if_open is_open (slice_get xs n)) ∙ ap (λ l. x ∷ l) (changed_opened is_open (suc n) xs f)

all_open : {A : Type 0} (o : Option A) → o ≡ if_open (λ _. true) o
all_open None = refl
all_open (Some x) = refl

pub changed_is : {A : Type 0} (n : ℕ) (xs : List A) (f : A → A) → changed n xs f (numbered n xs) ≡ at_number xs n f
changed_is n xs f = ap (changed n xs f) (all_open (numbered n xs)) ∙ changed_opened (λ _. true) n xs f

-- changes that may change places with one another where they are of the same element do so anywhere
pub number_swap : {A : Type 0} (xs : List A) (m n : ℕ) (f g : A → A) → (m ≡ n → (m ≡ 0 → ⊥) → (x : A) → f (g x) ≡ g (f x)) → at_number (at_number xs n g) m f ≡ at_number (at_number xs m f) n g
number_swap xs zero n f g same = refl
number_swap xs (suc m) zero f g same = refl
number_swap [] (suc m) (suc n) f g same = refl
number_swap (x ∷ xs) (suc zero) (suc zero) f g same = ap (λ y. y ∷ xs) (same refl (λ none. omega (arith, none)) x)
number_swap (x ∷ xs) (suc zero) (suc (suc n)) f g same = refl
number_swap (x ∷ xs) (suc (suc m)) (suc zero) f g same = refl
number_swap (x ∷ xs) (suc (suc m)) (suc (suc n)) f g same = ap (λ l. x ∷ l) (number_swap xs (suc m) (suc n) f g (λ e some. same (ap suc e) (λ none. omega (arith, none))))

-- two changes of the same element
pub number_twice : {A : Type 0} (xs : List A) (n : ℕ) (f g h : A → A) → ((x : A) → f (g x) ≡ h x) → at_number (at_number xs n g) n f ≡ at_number xs n h
number_twice xs zero f g h same = refl
number_twice [] (suc n) f g h same = refl
number_twice (x ∷ xs) (suc zero) f g h same = ap (λ y. y ∷ xs) (same x)
number_twice (x ∷ xs) (suc (suc n)) f g h same = ap (λ l. x ∷ l) (number_twice xs (suc n) f g h same)

-- a change that changes nothing
pub number_nothing : {A : Type 0} (xs : List A) (n : ℕ) (f : A → A) → ((x : A) → f x ≡ x) → at_number xs n f ≡ xs
number_nothing xs zero f same = refl
number_nothing [] (suc n) f same = refl
number_nothing (x ∷ xs) (suc zero) f same = ap (λ y. y ∷ xs) (same x)
number_nothing (x ∷ xs) (suc (suc n)) f same = ap (λ l. x ∷ l) (number_nothing xs (suc n) f same)

-- with more elements behind
pub number_append : {A : Type 0} (xs ys : List A) (n : ℕ) (f : A → A) → n ≤ length xs → at_number (xs ++ ys) n f ≡ at_number xs n f ++ ys
number_append xs ys zero f inside = refl
number_append [] ys (suc n) f inside = absurd (omega arith)
number_append (x ∷ xs) ys (suc zero) f inside = refl
number_append (x ∷ xs) ys (suc (suc n)) f inside = ap (λ l. x ∷ l) (number_append xs ys (suc n) f (omega arith))

pub changed_length : {A : Type 0} (n : ℕ) (xs : List A) (f : A → A) (o : Option A) → length (changed n xs f o) ≡ length xs
changed_length n xs f None = refl
changed_length n xs f (Some x) = length-set xs (n - 1) (f x)

-- what is found under the number of a changed element, and under another
pub number_get : {A : Type 0} (xs : List A) (n : ℕ) (f : A → A) → numbered n (at_number xs n f) ≡ option_map f (numbered n xs)
number_get xs zero f = refl
number_get [] (suc n) f = refl
number_get (x ∷ xs) (suc zero) f = refl
number_get (x ∷ xs) (suc (suc n)) f = number_get xs (suc n) f

pub number_else : {A : Type 0} (xs : List A) (m n : ℕ) (f : A → A) → (m ≡ n → m ≡ 0) → numbered n (at_number xs m f) ≡ numbered n xs
number_else xs zero n f apart = refl
number_else xs (suc m) zero f apart = refl
number_else [] (suc m) (suc n) f apart = refl
number_else (x ∷ xs) (suc zero) (suc zero) f apart = let none : suc zero ≡ 0 = apart refl in absurd (omega (arith, none))
number_else (x ∷ xs) (suc zero) (suc (suc n)) f apart = refl
number_else (x ∷ xs) (suc (suc m)) (suc zero) f apart = refl
number_else (x ∷ xs) (suc (suc m)) (suc (suc n)) f apart = number_else xs (suc m) (suc n) f (λ e. let none : suc (suc m) ≡ 0 = apart (ap suc e) in absurd (omega (arith, none)))

pub number_found : {A : Type 0} (xs : List A) (m n : ℕ) (f : A → A) → numbered n (at_number xs m f) ≡ (if m == n then option_map f (numbered n xs) else numbered n xs)
number_found xs m n f = elim (m == n) as (λ b. (m == n) ≡ b → numbered n (at_number xs m f) ≡ (if b then option_map f (numbered n xs) else numbered n xs)) [
  | true ↦ λ same. subst (λ (k : ℕ). numbered k (at_number xs m f) ≡ option_map f (numbered k xs)) (eqb-true m n same) (number_get xs m f)
  | false ↦ λ other. number_else xs m n f (λ e. absurd (eqb-false m n other e))
] refl

pub put_get : {A : Type 0} (xs : List A) (n : ℕ) (x y : A) → numbered n xs ≡ Some x → numbered n (put n xs y) ≡ Some y
put_get xs n x y here = ap (λ o. numbered n (changed n xs (λ _. y) o)) (sym here) ∙ ap (numbered n) (changed_is n xs (λ _. y)) ∙ number_get xs n (λ _. y) ∙ ap (option_map (λ _. y)) here

pub number_more : {A : Type 0} (xs ys : List A) (n : ℕ) (x : A) → numbered n xs ≡ Some x → numbered n (xs ++ ys) ≡ Some x
number_more xs ys zero x here = cc
number_more [] ys (suc n) x here = cc
number_more (a ∷ xs) ys (suc zero) x here = here
number_more (a ∷ xs) ys (suc (suc n)) x here = number_more xs ys (suc n) x here

-- What an event does to a world: it changes the open connection that it names, and the rest of the world by what that
-- connection and the rest are.
abbrev pub opens : Connection → Bool
opens c = c.is_open

-- the open connection of that number is changed
abbrev pub change : ℕ → List Connection → (Connection → Connection) → List Connection
change n cs f = changed n cs f (open_connection n cs)

abbrev pub with_connections : PlainWorld → List Connection → PlainWorld
with_connections w cs = record w { connections = cs }

pub changed_open : (n : ℕ) (cs : List Connection) (f : Connection → Connection) → change n cs f ≡ at_number cs n (if_opened opens f)
changed_open n cs f = changed_opened opens n cs f

-- two changes of one connection
pub change_twice : (n : ℕ) (cs : List Connection) (f g h : Connection → Connection) → ((c : Connection) → if_opened opens f (if_opened opens g c) ≡ if_opened opens h c)
    → change n (change n cs g) f ≡ change n cs h
change_twice n cs f g h same = simp changed_open (number_twice cs n (if_opened opens f) (if_opened opens g) (if_opened opens h) same)

-- changes of two connections may change places
pub change_apart : (m n : ℕ) (cs : List Connection) (f g : Connection → Connection) → (m ≡ n → m ≡ 0) → change n (change m cs f) g ≡ change m (change n cs g) f
change_apart m n cs f g apart = simp changed_open (number_swap cs n m (if_opened opens g) (if_opened opens f) (λ e some. absurd (some (e ∙ apart (sym e)))))

-- what is found of another
pub found_apart : (m n : ℕ) (cs : List Connection) (f : Connection → Connection) → (m ≡ n → m ≡ 0) → numbered n (change m cs f) ≡ numbered n cs
found_apart m n cs f apart = ap (numbered n) (changed_open m cs f) ∙ number_else cs m n (if_opened opens f) apart

unchanged_by : (c : Connection) (b : Bool) → (if b then c else c) ≡ c
unchanged_by c true = refl
unchanged_by c false = refl

pub unchanged : (n : ℕ) (cs : List Connection) → change n cs (λ c. c) ≡ cs
unchanged n cs = changed_open n cs (λ c. c) ∙ number_nothing cs n (if_opened opens (λ c. c)) (λ c. unchanged_by c c.is_open)

-- the number that is named, and 0, which no connection has, where none is named
abbrev pub number : Option ℕ → ℕ
number None = 0
number (Some n) = n

pub number_apart : (o : Option ℕ) (n : ℕ) → (o ≡ Some n → ⊥) → number o ≡ n → number o ≡ 0
number_apart None n other e = refl
number_apart (Some k) n other e = absurd (other (ap (λ (j : ℕ). Some j) e))

-- a connection but for its output, and two that are one but for that
abbrev pub silent : Connection → Connection
silent c = record c { out = [] }

abbrev pub Alike : Option Connection → Option Connection → Type 0
Alike o p = option_map silent o ≡ option_map silent p

-- bytes in front of a connection's output stay there
abbrev pub KeepsFront : (Connection → Connection) → Type 0
KeepsFront f = (bytes : List ℕ) (c : Connection) → f (in_front bytes c) ≡ in_front bytes (f c)

-- a connection has the turns of one that is alike
pub next_alike : (c d : Connection) (unit : ProtocolUnit) (at : ℕ) → silent c ≡ silent d → IsNextTurn c unit at → IsNextTurn d unit at
next_alike c d unit at alike next =
    let there : IsNextTurn (silent d) unit at = subst (λ (e : Connection). IsNextTurn e unit at) alike (record { units = next.units; are = next.are; next = next.next }) in
    record { units = there.units; are = there.are; next = there.next }

no_next_alike : (c d : Connection) → silent c ≡ silent d → HasNoNext c → HasNoNext d
no_next_alike c d alike none = let there : HasNoNext (silent d) = subst HasNoNext alike (record { units = none.units; are = none.are; none = none.none }) in
    record { units = there.units; are = there.are; none = there.none }

-- no turn is due
abbrev IsStill : Option Connection → Type 0
IsStill o = MatchOption o (Unit {0}) HasNoNext

-- a turn is taken, or none is due
abbrev pub TurnOrNot : PlainWorld → ℕ → PlainWorld → Type 0
TurnOrNot old n new = (IsStill (open_connection n old.connections) × (new ≡ old)) ⊎ ((c : Connection) × (open_connection n old.connections ≡ Some c) × (state : Plain) × (turn : NextTurn old c state)
    × (new ≡ record old { state = state; connections = change n old.connections (after_turn turn.unit turn.text) }))

by_open : (old new : PlainWorld) (n : ℕ) (o : Option Connection) → open_connection n old.connections ≡ o → MatchOption o (new ≡ old) (λ c. Turns old n c new) → TurnOrNot old n new
by_open old new n None here h = inl (rw here tt, h)
by_open old new n (Some c) here (inl h) = inl (rw here h.0, h.1)
by_open old new n (Some c) here (inr (state, turn, is)) =
    inr (c, here, state, turn, is ∙ λ i. record old { state = state; connections = changed n old.connections (after_turn turn.unit turn.text) (sym here i) })

pub turn_or_not : (old new : PlainWorld) (n : ℕ) → MatchOption (open_connection n old.connections) (new ≡ old) (λ c. Turns old n c new) → TurnOrNot old n new
turn_or_not old new n h = by_open old new n (open_connection n old.connections) refl h

-- a turn that isn't due does nothing where none is due
still_by : (w new : PlainWorld) (n : ℕ) (o p : Option Connection) → Alike p o → new ≡ w → IsStill o → MatchOption p (new ≡ w) (λ d. Turns w n d new)
still_by w new n None None alike is still = is
still_by w new n None (Some d) alike is still = absurd (cc)
still_by w new n (Some c) None alike is still = absurd (cc)
still_by w new n (Some c) (Some d) alike is still = let same : silent c ≡ silent d = cc in inl (no_next_alike c d same still, is)

pub still_again : (w : PlainWorld) (n : ℕ) (o : Option Connection) → Alike (open_connection n w.connections) o → IsStill o
    → MatchOption (open_connection n w.connections) (at_connection w n (λ c. c) ≡ w) (λ d. Turns w n d (at_connection w n (λ c. c)))
still_again w n o alike still = still_by w (at_connection w n (λ c. c)) n o (open_connection n w.connections) alike (ap (with_connections w) (unchanged n w.connections)) still

-- and one that is taken does the same where it is answered so
pub turn_again : {old : PlainWorld} {c : Connection} {state : Plain} (turn : NextTurn old c state) (w : PlainWorld) (after : Plain) (n : ℕ) (p : Option Connection)
    → Answers in_plain turn.unit turn.at w.now w.state after turn.text → Alike p (Some c) → open_connection n w.connections ≡ p
    → let new : PlainWorld = record w { state = after; connections = change n w.connections (after_turn turn.unit turn.text) } in MatchOption p (new ≡ w) (λ d. Turns w n d new)
turn_again turn w after n None answers alike here = absurd (cc)
turn_again {c = c} turn w after n (Some d) answers alike here = let same : silent c ≡ silent d = cc in
    let next : NextTurn w d after = record { unit = turn.unit; at = turn.at; text = turn.text; next = next_alike c d turn.unit turn.at same turn.next; answers = answers } in
    inr (after, next, λ i. record w { state = after; connections = changed n w.connections (after_turn turn.unit turn.text) (here i) })

-- The event takes the world by this change of its connection to this state and moment; and where other connections stand,
-- and its own is one but for its output, it does the same.
module _ (hash : List ℕ → ℕ) (shelves : ℕ) where
  pub record Does (old : PlainWorld) (event : Event) (new : PlainWorld) : Type 0 where
    pub by : Connection → Connection
    pub state : Plain
    pub now : ℕ
    pub is : new ≡ record old { connections = change (number (named event)) old.connections by; state = state; now = now }
    pub keeps : KeepsFront by
    pub again : (cs : List Connection) → Alike (open_connection (number (named event)) cs) (open_connection (number (named event)) old.connections)
        → Happens hash shelves (with_connections old cs) event (record old { connections = change (number (named event)) cs by; state = state; now = now })

  turn_does : (old new : PlainWorld) (n : ℕ) → TurnOrNot old n new → Does old (Turn n) new
  turn_does old new n (inl (still, is)) = let same = is ∙ ap (with_connections old) (sym (unchanged n old.connections)) in let o = open_connection n old.connections in
      record { by = λ c. c; state = old.state; now = old.now; is = same; keeps = λ bytes c. refl; again = λ cs alike. still_again (with_connections old cs) n o alike still }
  turn_does old new n (inr (c, here, state, turn, is)) =
      let by = after_turn turn.unit turn.text in let keeps : KeepsFront by = λ bytes c i. record (by c) { out = append_assoc bytes c.out turn.text i } in
      let again = λ (cs : List Connection). turn_again turn (with_connections old cs) state n (open_connection n cs) turn.answers in
      record { by = by; state = state; now = old.now; is = is; keeps = keeps; again = λ cs alike. again cs (alike ∙ ap (option_map silent) here) refl }

  -- each event but an opening
  pub does : (old new : PlainWorld) (event : Event) → (event ≡ Open → ⊥) → Happens hash shelves old event new → Does old event new
  does old new Open other h = absurd (other refl)
  does old new (Piece n piece) other h = record { by = with_piece piece; state = old.state; now = old.now; is = h; keeps = λ bytes c. refl; again = λ cs alike. refl }
  does old new (Turn n) other h = turn_does old new n (turn_or_not old new n h)
  does old new (Clock now) other h = record { by = λ c. c; state = old.state; now = now; is = h; keeps = λ bytes c. refl; again = λ cs alike. refl }
  does old new (Grow shelf) other h = record { by = λ c. c; state = old.state; now = old.now; is = h; keeps = λ bytes c. refl; again = λ cs alike. refl }
  does old new (Purge shelf) other h = record { by = λ c. c; state = _; now = old.now; is = h; keeps = λ bytes c. refl; again = λ cs alike. refl }
  does old new (Close n) other h = record { by = ended; state = old.state; now = old.now; is = h; keeps = λ bytes c. refl; again = λ cs alike. refl }

-- Bytes in front of a connection's output stay there, and nothing else depends on them.
-- the connections with bytes in front of one's output
abbrev pub fronted : ℕ → List ℕ → List Connection → List Connection
fronted n bytes cs = changed n cs (in_front bytes) (numbered n cs)

front_by : (f : Connection → Connection) → KeepsFront f → (bytes : List ℕ) (c : Connection) (b : Bool) → (if b then f (in_front bytes c) else in_front bytes c) ≡ in_front bytes (if b then f c else c)
front_by f keeps bytes c true = keeps bytes c
front_by f keeps bytes c false = refl

-- a connection is changed, with the bytes in front or without
front_change : (n : ℕ) (bytes : List ℕ) (f : Connection → Connection) → KeepsFront f → (k : ℕ) (cs : List Connection) → change k (fronted n bytes cs) f ≡ fronted n bytes (change k cs f)
front_change n bytes f keeps k cs = simp (changed_open, changed_is) (number_swap cs k n (if_opened opens f) (in_front bytes) (λ _ _ c. front_by f keeps bytes c c.is_open))

end_fronted : (n : ℕ) (bytes : List ℕ) (o : Option ℕ) (w : PlainWorld) → with_front n bytes (with_end o w) ≡ with_end o (with_front n bytes w)
end_fronted n bytes None w = refl
end_fronted n bytes (Some k) w = ap (with_connections w) (sym (front_change n bytes ended (λ bytes c. refl) k w.connections))

-- what is open is what it was but for its output
silent_front : (bytes : List ℕ) (b : Bool) (o : Option Connection) → Alike (if_open opens (if b then option_map (in_front bytes) o else o)) (if_open opens o)
silent_front bytes false o = refl
silent_front bytes true None = refl
silent_front bytes true (Some c) = elim c.is_open as (λ b. Alike (if b then Some (in_front bytes c) else None) (if b then Some c else None)) [ true ↦ refl | false ↦ refl ]

front_alike : (n k : ℕ) (bytes : List ℕ) (cs : List Connection) → Alike (open_connection k (fronted n bytes cs)) (open_connection k cs)
front_alike n k bytes cs = ap (λ o. option_map silent (if_open opens o)) (ap (numbered k) (changed_is n cs (in_front bytes)) ∙ number_found cs n k (in_front bytes))
    ∙ silent_front bytes (n == k) (numbered k cs)

-- one connection more, where there is room
abbrev pub grown : Bool → PlainWorld → PlainWorld
grown b w = if b then record w { connections = w.connections ++ fresh w.greatest ∷ [] } else w

open_fronted : (n : ℕ) (bytes : List ℕ) (w : PlainWorld) (b : Bool) → n ≤ length w.connections → with_front n bytes (grown b w) ≡ grown b (with_front n bytes w)
open_fronted n bytes w true inside = ap (with_connections w) (simp changed_is (number_append w.connections (fresh w.greatest ∷ []) n (in_front bytes) inside))
open_fronted n bytes w false inside = refl

grown_grows : (w : PlainWorld) (b : Bool) → length w.connections ≤ length (grown b w).connections
grown_grows w true = omega (arith, length-append w.connections (fresh w.greatest ∷ []))
grown_grows w false = omega arith

-- what is there of one that is alike
alike_some : (o p : Option Connection) → Alike o p → (c : Connection) → p ≡ Some c → (d : Connection) × (o ≡ Some d) × (silent c ≡ silent d)
alike_some None p alike c is = let no : None ≡ Some (silent c) = alike ∙ ap (option_map silent) is in absurd (cc)
alike_some (Some d) p alike c is = let same : Some (silent d) ≡ Some (silent c) = alike ∙ ap (option_map silent) is in (d, refl, cc)

-- no event opens a session
abbrev pub NoneOpens : List Event → Type 0
NoneOpens [] = Unit {0}
NoneOpens (Open ∷ events) = ⊥
NoneOpens (event ∷ events) = NoneOpens events

module _ (hash : List ℕ → ℕ) (shelves n : ℕ) (bytes : List ℕ) where
  abbrev Fronted : PlainWorld → PlainWorld
  Fronted w = with_front n bytes w

  does_fronted : (old new : PlainWorld) (event : Event) → Does hash shelves old event new → Happens hash shelves (Fronted old) event (Fronted new)
  does_fronted old new event d = let k = number (named event) in let same = front_change n bytes d.by d.keeps k old.connections in
      let is : record old { connections = change k (fronted n bytes old.connections) d.by; state = d.state; now = d.now } ≡ Fronted new =
      (λ i. record old { connections = same i; state = d.state; now = d.now }) ∙ sym (ap Fronted d.is) in
      subst (Happens hash shelves (Fronted old) event) is (d.again (fronted n bytes old.connections) (front_alike n k bytes old.connections))

  -- an event does the same
  happens_fronted : (old new : PlainWorld) (event : Event) → n ≤ length old.connections → Happens hash shelves old event new → Happens hash shelves (Fronted old) event (Fronted new)
  happens_fronted old new Open inside h = ap Fronted h ∙ open_fronted n bytes old (nat_lt (length old.connections) 65535) inside
      ∙ ap (λ (k : ℕ). grown (nat_lt k 65535) (Fronted old)) (sym (changed_length n old.connections (in_front bytes) (numbered n old.connections)))
  happens_fronted old new event inside h = does_fronted old new event (does hash shelves old new event (λ e. cc) h)

  -- no event takes a connection away
  pub happens_grow : (old new : PlainWorld) (event : Event) → Happens hash shelves old event new → length old.connections ≤ length new.connections
  happens_grow old new Open h = subst (λ (w : PlainWorld). length old.connections ≤ length w.connections) (sym h) (grown_grows old (nat_lt (length old.connections) 65535))
  happens_grow old new event h = let d = does hash shelves old new event (λ e. cc) h in let k = number (named event) in
      let same : length new.connections ≡ length old.connections = (λ i. length (d.is i).connections) ∙ changed_length k old.connections d.by (open_connection k old.connections) in omega (arith, same)

  still_inside : (old new : PlainWorld) (event : Event) → Happens hash shelves old event new → n ≤ length old.connections → n ≤ length new.connections
  still_inside old new event h inside = let grows = happens_grow old new event h in omega (arith, inside, grows)

  pub runs_inside : (events : List Event) (old new : PlainWorld) → Runs hash shelves old events new → n ≤ length old.connections → n ≤ length new.connections
  runs_inside events old new runs inside = chain.keeps (Happens hash shelves) (λ w. n ≤ length w.connections) still_inside events old new runs inside

  -- events do the same
  pub runs_fronted : (events : List Event) (old new : PlainWorld) → n ≤ length old.connections → Runs hash shelves old events new → Runs hash shelves (Fronted old) events (Fronted new)
  runs_fronted events old new inside runs = chain.along (Happens hash shelves) (Happens hash shelves) Fronted (λ w. n ≤ length w.connections)
      (λ old new event h inside. (still_inside old new event h inside, happens_fronted old new event inside h)) events old new inside runs

  -- and where none opens a session that is so whether the one was opened or not
  pub runs_passed : (events : List Event) (old new : PlainWorld) → NoneOpens events → Runs hash shelves old events new → Runs hash shelves (Fronted old) events (Fronted new)
  runs_passed [] old new none h = ap Fronted h
  runs_passed (Open ∷ events) old new none h = absurd none
  runs_passed (event ∷ events) old new none (mid, h, runs) = (Fronted mid, does_fronted old mid event (does hash shelves old mid event (λ e. cc) h), runs_passed events mid new none runs)

  found : (w : PlainWorld) (k : ℕ) (c : Connection) → open_connection k w.connections ≡ Some c → (d : Connection) × (open_connection k (Fronted w).connections ≡ Some d) × (silent c ≡ silent d)
  found w k c is = alike_some (open_connection k (Fronted w).connections) (open_connection k w.connections) (front_alike n k bytes w.connections) c is

  -- and so does one that is given up
  decides_fronted : (w : PlainWorld) (event : Event) (state : Plain) → EventDecides w event state → EventDecides (Fronted w) event state
  decides_fronted w (Turn k) state (c, is, turn) = let (d, there, same) = found w k c is in let next = next_alike c d (Request turn.command) turn.at same turn.next in
      (d, there, record { command = turn.command; at = turn.at; step = turn.step; reply = turn.reply; next = next; is_step = turn.is_step; replied = turn.replied })
  decides_fronted w event state h = h

  pub gives_up_fronted : (decided : Bool) (mid last : PlainWorld) (event : Event) → GivesUp decided mid event last → GivesUp decided (Fronted mid) event (Fronted last)
  gives_up_fronted true mid last event (state, decides, is) = (state, decides_fronted mid event state decides, ap Fronted is ∙ end_fronted n bytes (named event) (record mid { state = state }))
  gives_up_fronted false mid last event is = ap Fronted is ∙ end_fronted n bytes (named event) mid

  -- and takes memory
  pub takes_fronted : (w : PlainWorld) (event : Event) → TakesMemory w event → TakesMemory (Fronted w) event
  takes_fronted w Open h = let same : length (Fronted w).connections ≡ length w.connections = changed_length n w.connections (in_front bytes) (numbered n w.connections) in omega (arith, h, same)
  takes_fronted w (Piece k piece) (c, is) = let (d, there, same) = found w k c is in (d, there)
  takes_fronted w (Turn k) (c, is, unit, at, next) = let (d, there, same) = found w k c is in (d, there, unit, at, next_alike c d unit at same next)
  takes_fronted w event h = h

-- Events that may be added, taken out or cut, or change places.
-- two pieces one after another
twice_by : (piece more : List ℕ) (c : Connection) (b : Bool) → c.is_open ≡ b → if_opened opens (with_piece more) (if b then with_piece piece c else c) ≡ (if b then with_piece (piece ++ more) c else c)
twice_by piece more c true is = ap (λ (b : Bool). if b then with_piece more (with_piece piece c) else with_piece piece c) is ∙ λ i. record c { stream = append_assoc c.stream piece more i }
twice_by piece more c false is = ap (λ (b : Bool). if b then with_piece more c else c) is

joined : (w : PlainWorld) (n : ℕ) (piece more : List ℕ) → at_connection (at_connection w n (with_piece piece)) n (with_piece more) ≡ at_connection w n (with_piece (piece ++ more))
joined w n piece more = ap (with_connections w) (change_twice n w.connections (with_piece more) (with_piece piece) (with_piece (piece ++ more)) (λ c. twice_by piece more c c.is_open refl))

-- an open connection of one number over a change of another's
open_apart : (m n : ℕ) (cs : List Connection) (f : Connection → Connection) → (m ≡ n → m ≡ 0) → open_connection n (change m cs f) ≡ open_connection n cs
open_apart m n cs f apart = ap (if_open opens) (found_apart m n cs f apart)

-- a turn that has no step is taken by whatever the store and the moment are
still_unit : (unit : ProtocolUnit) (at now m : ℕ) (before after other : Plain) (text : List ℕ) → step_of unit at ≡ None
    → Answers in_plain unit at now before after text → (after ≡ before) × Answers in_plain unit at m other other text
still_unit (Request command) at now m before after other text none h = let no : Option KeyStep = None in
    let told : MatchOption no ((text ≡ plain_text command) × (after ≡ before)) (λ step. AnswersStep in_plain command at step now before after text) = rw none at h in (told.1, rw none (told.0, refl))
still_unit (Fault fault) at now m before after other text none h = (h.1, (h.0, refl))
still_unit LongLine at now m before after other text none h = (h.1, (h.0, refl))

module _ (hash : List ℕ → ℕ) (shelves : ℕ) where
  pub growth_shows : (shelf : ℕ) (old new : PlainWorld) (front rest : List Event) → Runs hash shelves old (front ++ Grow shelf ∷ rest) new ↔ Runs hash shelves old (front ++ rest) new
  growth_shows shelf old new front rest = (
    chain.behind (Happens hash shelves) (Grow shelf ∷ rest) rest front old new (λ mid _ runs. subst (λ (w : PlainWorld). Runs hash shelves w rest new) runs.1 runs.2),
    chain.behind (Happens hash shelves) rest (Grow shelf ∷ rest) front old new (λ mid _ runs. (mid, refl, runs)),
  )

  pub piece_cut : (n : ℕ) (piece more : List ℕ) (rest : List Event) (old new : PlainWorld) (front : List Event)
      → Runs hash shelves old (front ++ Piece n piece ∷ Piece n more ∷ rest) new ↔ Runs hash shelves old (front ++ Piece n (piece ++ more) ∷ rest) new
  piece_cut n piece more rest old new front = (
    chain.behind (Happens hash shelves) (Piece n piece ∷ Piece n more ∷ rest) (Piece n (piece ++ more) ∷ rest) front old new
        (λ mid _ (one, first, (two, second, runs)). (two, second ∙ ap (λ (w : PlainWorld). at_connection w n (with_piece more)) first ∙ joined mid n piece more, runs)),
    chain.behind (Happens hash shelves) (Piece n (piece ++ more) ∷ rest) (Piece n piece ∷ Piece n more ∷ rest) front old new
        (λ mid _ (two, is, runs). (at_connection mid n (with_piece piece), refl, (two, is ∙ sym (joined mid n piece more), runs))),
  )

  -- an event that decides no step changes its connection alone, and does the same wherever that stands
  abbrev Still : Event → ℕ → PlainWorld → PlainWorld → Type 0
  Still event n old new = (f : Connection → Connection) × (new ≡ at_connection old n f)
      × ((w : PlainWorld) → open_connection n w.connections ≡ open_connection n old.connections → Happens hash shelves w event (at_connection w n f))

  still_turn : (old new : PlainWorld) (n : ℕ) → IfSome (open_connection n old.connections) NextHasNoStep → TurnOrNot old n new → Still (Turn n) n old new
  still_turn old new n none (inl (still, is)) =
      (λ c. c, is ∙ ap (with_connections old) (sym (unchanged n old.connections)), λ w there. still_again w n (open_connection n old.connections) (ap (option_map silent) there) still)
  still_turn old new n none (inr (c, here, state, turn, is)) = let no_step : NextHasNoStep c = rw here at none in
      let stays = λ (w : PlainWorld). still_unit turn.unit turn.at old.now w.now old.state state w.state turn.text (no_step turn.unit turn.at turn.next) turn.answers in
      let by = after_turn turn.unit turn.text in (
        by,
        is ∙ λ i. record old { state = (stays old).0 i; connections = change n old.connections by },
        λ w there. turn_again turn w w.state n (open_connection n w.connections) (stays w).1 (ap (option_map silent) (there ∙ here)) refl,
      )

  still_event : (old new : PlainWorld) (event : Event) (n : ℕ) → DecidesNoStep old event n → Happens hash shelves old event new → Still event n old new
  still_event old new (Piece k piece) n is h = subst (λ (j : ℕ). Still (Piece k piece) j old new) is (with_piece piece, h, λ w there. refl)
  still_event old new (Turn k) n is h = subst (λ (j : ℕ). Still (Turn k) j old new) is.0
      (still_turn old new k (subst (λ (j : ℕ). IfSome (open_connection j old.connections) NextHasNoStep) (sym is.0) is.1) (turn_or_not old new k h))
  still_event old new (Close k) n is h = subst (λ (j : ℕ). Still (Close k) j old new) is (ended, h, λ w there. refl)
  still_event old new event n is h = absurd is

  -- what decides no step there does not where the connection is the same
  still_there : (w v : PlainWorld) (event : Event) (n : ℕ) → open_connection n v.connections ≡ open_connection n w.connections → DecidesNoStep w event n → DecidesNoStep v event n
  still_there w v (Turn k) n same is = (is.0, subst (λ (o : Option Connection). IfSome o NextHasNoStep) (sym same) is.1)
  still_there w v event n same is = is

  -- an event apart from a session does the same whatever the session's connection is, and leaves that
  module _ (f : Connection → Connection) (event : Event) (n : ℕ) (apart : IsApart event n) where
    abbrev k : ℕ
    k = number (named event)

    distinct : k ≡ n → k ≡ 0
    distinct = number_apart (named event) n apart.1

    either : (old : PlainWorld) (state : Plain) (now : ℕ) (by : Connection → Connection) → let w : PlainWorld = record old { connections = change k old.connections by; state = state; now = now } in
        (record old { connections = change k (change n old.connections f) by; state = state; now = now }) ≡ at_connection w n f
    either old state now by = λ i. record old { connections = change_apart n k old.connections f by (λ e. e ∙ distinct (sym e)) i; state = state; now = now }

    alike : (cs : List Connection) → open_connection k (change n cs f) ≡ open_connection k cs
    alike cs = open_apart n k cs f (λ e. e ∙ distinct (sym e))

    passes : (old new : PlainWorld) → Happens hash shelves old event new → Happens hash shelves (at_connection old n f) event (at_connection new n f)
    passes old new h = let d = does hash shelves old new event apart.0 h in
        subst (Happens hash shelves (at_connection old n f) event) (either old d.state d.now d.by ∙ sym (ap (λ (w : PlainWorld). at_connection w n f) d.is))
        (d.again (change n old.connections f) (ap (option_map silent) (alike old.connections)))

    passes_back : (old last : PlainWorld) → Happens hash shelves (at_connection old n f) event last
        → (between : PlainWorld) × Happens hash shelves old event between × (last ≡ at_connection between n f)
    passes_back old last h = let d = does hash shelves (at_connection old n f) last event apart.0 h in (
      record old { connections = change k old.connections d.by; state = d.state; now = d.now },
      d.again old.connections (ap (option_map silent) (sym (alike old.connections))),
      d.is ∙ either old d.state d.now d.by,
    )

    leaves : (old new : PlainWorld) → Happens hash shelves old event new → open_connection n new.connections ≡ open_connection n old.connections
    leaves old new h = let d = does hash shelves old new event apart.0 h in (λ i. open_connection n (d.is i).connections) ∙ open_apart k n old.connections d.by distinct

  later : (old new : PlainWorld) (still other : Event) (rest : List Event) (n : ℕ) → DecidesNoStep old still n → IsApart other n
      → Runs hash shelves old (still ∷ other ∷ rest) new → Runs hash shelves old (other ∷ still ∷ rest) new
  later old new still other rest n decides apart (mid, first, (last, second, runs)) = let (by, is, again) = still_event old mid still n decides first in
      let (between, goes, ends) = passes_back by other n apart old last (subst (λ (w : PlainWorld). Happens hash shelves w other last) is second) in
      (between, goes, (last, subst (Happens hash shelves between still) (sym ends) (again between (leaves by other n apart old between goes)), runs))

  sooner : (old new : PlainWorld) (still other : Event) (rest : List Event) (n : ℕ) → DecidesNoStep old still n → IsApart other n
      → Runs hash shelves old (other ∷ still ∷ rest) new → Runs hash shelves old (still ∷ other ∷ rest) new
  sooner old new still other rest n decides apart (between, first, (last, second, runs)) = let same = leaves (λ c. c) other n apart old between first in
      let (by, is, again) = still_event between last still n (still_there old between still n same decides) second in
      (at_connection old n by, again old (sym same), (last, subst (Happens hash shelves (at_connection old n by) other) (sym is) (passes by other n apart old between first), runs))

  pub places_change : (n : ℕ) (still other : Event) (old new : PlainWorld) (front rest : List Event) → ((world : PlainWorld) → Runs hash shelves old front world → DecidesNoStep world still n)
      → IsApart other n → Runs hash shelves old (front ++ still ∷ other ∷ rest) new ↔ Runs hash shelves old (front ++ other ∷ still ∷ rest) new
  places_change n still other old new front rest decides apart = (
    chain.behind (Happens hash shelves) (still ∷ other ∷ rest) (other ∷ still ∷ rest) front old new (λ mid runs. later mid new still other rest n (decides mid runs) apart),
    chain.behind (Happens hash shelves) (other ∷ still ∷ rest) (still ∷ other ∷ rest) front old new (λ mid runs. sooner mid new still other rest n (decides mid runs) apart),
  )

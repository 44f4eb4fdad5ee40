-- What is left of a connection, over a piece, a turn and an end; and the sessions of a world, which are what is left of
-- the connections.
use Rattle.mc_world.proofs.Words.{Unread, same_spelling, same_units, some_units, spelling_some, pushed_twice, settled_once, units_settled, Grammar, ◌≡◌, ℕ, zero, suc, ◌+◌, ◌<◌, ◌==◌, ◌↔◌, Bool, true}
use Rattle.mc_world.proofs.Words.{false, not, List, [], ◌∷◌, ◌++◌, length, drop, Option, Some, None, refl, sym, ap, ◌∙◌, subst, arith, length-append, length-drop, append_assoc, if◌then◌else◌}
use Rattle.mc_world.proofs.Words.{slice_get, MatchBool, ◌-◌, slice_set, eqb-true, eqb-false, drop-append-le, append-nil, append_cancel_left, slice_get_past, Relations, ProtocolUnit, Request, Fault}
use Rattle.mc_world.proofs.Words.{LongLine, Spells, AreUnits, is_last, passed_after, settled, pushed, SessionState, to_read, HasUnits, turn_count, turns_from, turns, closed, fed, TakesTurn, NoTurnDue}
use Rattle.mc_world.proofs.Words.{StandAll, WorldStandsAs, PlainWorld, WorldState, numbered, if_open, put, changed}
use Rattle.mc_world.proofs.Words.{open_connection, open_session, Connection, IsNextTurn, HasNoNext, Follows, IsAmong, at_start}
use Rattle.mc_world.proofs.Words.{inside, IsRest, shut, Stands, with_piece, after_turn, ended}

-- the grammar's laws, of which those of a world follow
pub the_grammar : Grammar
the_grammar = record { apart = same_spelling; byte = spelling_some; some = some_units; same = same_units; cut = pushed_twice; early = λ u. settled_once u.passed u.bytes; early_units = units_settled }

abbrev unread : ℕ → ℕ → List ℕ → Unread
unread greatest passed bytes = record { greatest = greatest; passed = passed; bytes = bytes }

-- so a connection stands, by whether it is open
abbrev pub StandsIf : Bool → Connection → SessionState → Type 0
StandsIf b c s = MatchBool b ((s.is_open ≡ true) × IsRest c s) (s ≡ shut c)

-- a unit has so many turns
turns_length : (unit : ProtocolUnit) (at n : ℕ) → length (turns_from unit at n) ≡ n
turns_length unit at zero = refl
turns_length unit at (suc n) = ap suc (turns_length unit (at + 1) n)

-- turn t stands at place t, whatever comes behind
turn_at : (unit : ProtocolUnit) (at n t : ℕ) (more : List (ProtocolUnit × ℕ)) → t < n → slice_get (turns_from unit at n ++ more) t ≡ Some (unit, at + t)
turn_at unit at zero t more less = absurd (omega (arith, less))
turn_at unit at (suc n) zero more less = let e : at ≡ at + 0 = omega arith in ap (λ (k : ℕ). Some (unit, k)) e
turn_at unit at (suc n) (suc t) more less = let e : at + 1 + t ≡ at + suc t = omega arith in turn_at unit (at + 1) n t more (omega (arith, less)) ∙ ap (λ (k : ℕ). Some (unit, k)) e

-- a place in the second of two lists
get_behind : {A : Type 0} (xs ys : List A) (k n : ℕ) → n ≡ length xs + k → slice_get (xs ++ ys) n ≡ slice_get ys k
get_behind [] ys k n e = let same : n ≡ k = omega (arith, e) in ap (slice_get ys) same
get_behind (x ∷ xs) ys k zero e = absurd (omega (arith, e))
get_behind (x ∷ xs) ys k (suc n) e = get_behind xs ys k n (omega (arith, e))

-- so many turns have units
turns_first : (v : ProtocolUnit) (vs : List ProtocolUnit) → length (turns (v ∷ vs)) ≡ turn_count v + length (turns vs)
turns_first v vs = length-append (turns_from v 0 (turn_count v)) (turns vs) ∙ ap (λ n. n + length (turns vs)) (turns_length v 0 (turn_count v))

turns_more : (us : List ProtocolUnit) (u : ProtocolUnit) → length (turns (us ++ u ∷ [])) ≡ length (turns us) + turn_count u
turns_more [] u = omega (arith, turns_first u [])
turns_more (v ∷ us) u = omega (arith, turns_first v (us ++ u ∷ []), turns_first v us, turns_more us u)

-- turn t of the unit that stands behind some
turn_behind : (read us : List ProtocolUnit) (unit : ProtocolUnit) (t taken : ℕ) → taken ≡ length (turns read) + t → t < turn_count unit → slice_get (turns (read ++ unit ∷ us)) taken ≡ Some (unit, t)
turn_behind [] us unit t taken is less = let same : taken ≡ t = omega (arith, is) in let e : 0 + t ≡ t = omega arith in
    ap (slice_get (turns (unit ∷ us))) same ∙ turn_at unit 0 (turn_count unit) t (turns us) less ∙ ap (λ (k : ℕ). Some (unit, k)) e
turn_behind (u ∷ read) us unit t taken is less =
    get_behind (turns_from u 0 (turn_count u)) (turns (read ++ unit ∷ us)) (length (turns read) + t) taken (omega (arith, is, turns_first u read, turns_length u 0 (turn_count u)))
    ∙ turn_behind read us unit t (length (turns read) + t) refl less

-- the units of a stream are those that were read and then those of what comes after them
are_joined : (greatest passed : ℕ) (bytes : List ℕ) (read us : List ProtocolUnit) (rest : Unread) → Follows greatest passed bytes read rest
    → AreUnits rest.greatest rest.passed rest.bytes us → AreUnits greatest passed bytes (read ++ us)
are_joined greatest passed bytes [] us rest f h = (the_grammar.early_units (unread greatest passed bytes) us).0 (subst (λ (r : Unread). HasUnits r us) f h)
are_joined greatest passed bytes (u ∷ read) us rest f h = (f.0, f.1, f.2, f.3, rw f.4 (are_joined greatest (passed_after u) f.1 read us rest f.5 h))

-- what is left has the same greatest charge
same_greatest : (greatest passed : ℕ) (bytes : List ℕ) (read : List ProtocolUnit) (rest : Unread) → Follows greatest passed bytes read rest → rest.greatest ≡ greatest
same_greatest greatest passed bytes [] rest f = ap (λ (r : Unread). r.greatest) f
same_greatest greatest passed bytes (u ∷ read) rest f = same_greatest greatest (passed_after u) f.1 read rest f.5

-- a piece that comes behind a front that spells a unit leaves it there
behind_front : (greatest passed : ℕ) (bytes piece front more : List ℕ) (unit : ProtocolUnit) → drop passed bytes ≡ front ++ more
    → Spells greatest unit front → drop passed (bytes ++ piece) ≡ front ++ (more ++ piece)
behind_front greatest passed bytes piece front more unit e spelled = let some = the_grammar.byte greatest unit front spelled in
    drop-append-le passed bytes piece (omega (arith, length-drop passed bytes, ap length e, length-append front more)) ∙ ap (λ l. l ++ piece) e ∙ append_assoc front more piece

-- it doesn't matter whether the bytes to be passed are dropped before a piece comes
pushed_settled : (u : Unread) (piece : List ℕ) → pushed (settled u) piece ≡ pushed u piece
pushed_settled u piece = ap (λ b. pushed (settled (unread u.greatest u.passed b)) piece) (sym (append-nil u.bytes)) ∙ the_grammar.cut u [] piece

-- a piece comes to what is left
follows_piece : (greatest passed : ℕ) (bytes piece : List ℕ) (read : List ProtocolUnit) (rest : Unread) → Follows greatest passed bytes read rest
    → Follows greatest passed (bytes ++ piece) read (pushed rest piece)
follows_piece greatest passed bytes piece [] rest f = ap (λ r. pushed r piece) f ∙ pushed_settled (unread greatest passed bytes) piece
follows_piece greatest passed bytes piece (u ∷ read) rest f =
    (f.0, f.1 ++ piece, behind_front greatest passed bytes piece f.0 f.1 u f.2 f.3, f.3, f.4, follows_piece greatest (passed_after u) f.1 piece read rest f.5)

-- and the unit that stands first still does
among_piece : {u : Unread} {t : ℕ} (piece : List ℕ) → IsAmong u t → IsAmong (pushed u piece) t
among_piece piece at_start = at_start
among_piece {u = u} piece (inside unit front rest e spelled less) =
    inside unit front (rest ++ piece) (the_grammar.early (record u { bytes = u.bytes ++ piece }) ∙ behind_front u.greatest u.passed u.bytes piece front rest unit e spelled) spelled less

-- one unit more is read
follows_more : (greatest passed : ℕ) (bytes : List ℕ) (read : List ProtocolUnit) (rest : Unread) (unit : ProtocolUnit) (front more : List ℕ)
    → Follows greatest passed bytes read rest → drop rest.passed rest.bytes ≡ front ++ more → Spells rest.greatest unit front → is_last unit ≡ false
    → Follows greatest passed bytes (read ++ unit ∷ []) (settled (unread rest.greatest (passed_after unit) more))
follows_more greatest passed bytes [] rest unit front more f e spelled last = let same : rest.greatest ≡ greatest = ap (λ (r : Unread). r.greatest) f in
    let here : drop passed bytes ≡ drop rest.passed rest.bytes = sym (the_grammar.early (unread greatest passed bytes)) ∙ ap to_read (sym f) in
    (front, more, here ∙ e, subst (λ (m : ℕ). Spells m unit front) same spelled, last, ap (λ m. settled (unread m (passed_after unit) more)) same)
follows_more greatest passed bytes (u ∷ read) rest unit front more f e spelled last = (f.0, f.1, f.2, f.3, f.4, follows_more greatest (passed_after u) f.1 read rest unit front more f.5 e spelled last)

-- a first unit has others behind it
others_behind : (last : Bool) (greatest passed : ℕ) (bytes : List ℕ) → (us : List ProtocolUnit) × MatchBool last (us ≡ []) (AreUnits greatest passed bytes us)
others_behind true greatest passed bytes = ([], refl)
others_behind false greatest passed bytes = the_grammar.some greatest passed bytes

first_units : (greatest passed : ℕ) (bytes : List ℕ) (unit : ProtocolUnit) (front rest : List ℕ) → drop passed bytes ≡ front ++ rest
    → Spells greatest unit front → (us : List ProtocolUnit) × AreUnits greatest passed bytes (unit ∷ us)
first_units greatest passed bytes unit front rest e spelled = let us = others_behind (is_last unit) greatest (passed_after unit) rest in (us.0, (front, rest, e, spelled, us.1))

-- a piece comes to an open session
pub rest_fed : (c : Connection) (s : SessionState) (piece : List ℕ) → s.is_open ≡ true → IsRest c s → c.is_open ≡ true → Stands (with_piece piece c) (fed s piece)
rest_fed c s piece opens rest is_open = let left : IsRest (with_piece piece c) (record s { unread = pushed s.unread piece }) =
    record { read = rest.read; follows = follows_piece c.greatest c.passed c.stream piece rest.read s.unread rest.follows; taken = rest.taken; among = among_piece piece rest.among; out = rest.out } in
    subst (λ (b : Bool). Stands (with_piece piece c) (if b then record s { unread = pushed s.unread piece } else s)) (sym opens)
    (subst (λ (b : Bool). StandsIf b (with_piece piece c) (record s { unread = pushed s.unread piece })) (sym is_open) (opens, left))

-- an open session closes
pub rest_closed : (c : Connection) (s : SessionState) → IsRest c s → Stands (ended c) (closed s)
rest_closed c s rest = rw (same_greatest c.greatest c.passed c.stream rest.read s.unread rest.follows, rest.out)

-- where no turn of the session is due, none of the stream is
pub rest_idle : (c : Connection) (s : SessionState) → IsRest c s → NoTurnDue s → HasNoNext c
rest_idle c s rest none =
    let past = slice_get_past (turns rest.read) c.taken (omega (arith, rest.taken)) in let are = are_joined c.greatest c.passed c.stream rest.read [] s.unread rest.follows none in
    record { units = rest.read ++ []; are = are; none = ap (λ l. slice_get (turns l) c.taken) (append-nil rest.read) ∙ past }

-- the unit that stands first in what is left of a connection has its next turn, where one of its turns is left
pub next_of : (c : Connection) (s : SessionState) → IsRest c s → (unit : ProtocolUnit) (front more : List ℕ)
    → drop s.unread.passed s.unread.bytes ≡ front ++ more → Spells s.unread.greatest unit front → s.taken < turn_count unit → IsNextTurn c unit s.taken
next_of c s rest unit front more parts spelled less = let us = first_units s.unread.greatest s.unread.passed s.unread.bytes unit front more parts spelled in
    let are = are_joined c.greatest c.passed c.stream rest.read (unit ∷ us.0) s.unread rest.follows us.1 in
    record { units = rest.read ++ unit ∷ us.0; are = are; next = turn_behind rest.read us.0 unit s.taken c.taken rest.taken less }

some_turns : (unit : ProtocolUnit) → 0 < turn_count unit
some_turns (Request command) = omega arith
some_turns (Fault fault) = omega arith
some_turns LongLine = omega arith

-- one of its turns is left
some_left : {u : Unread} {t : ℕ} (unit : ProtocolUnit) (front more : List ℕ) → IsAmong u t → drop u.passed u.bytes ≡ front ++ more → Spells u.greatest unit front → t < turn_count unit
some_left unit front more at_start parts spelled = some_turns unit
some_left {u = u} {t = t} unit front more (inside other begin end e spells less) parts spelled =
    subst (λ (v : ProtocolUnit). t < turn_count v) (the_grammar.apart u.greatest other unit begin front end more spells spelled (sym e ∙ parts)).0 less

-- the turn that is next in a session is next in its connection
first_next : (c : Connection) (s : SessionState) → IsRest c s → (unit : ProtocolUnit) (units : List ProtocolUnit) → HasUnits s.unread (unit ∷ units) → IsNextTurn c unit s.taken
first_next c s rest unit units h = next_of c s rest unit h.0 h.1 h.2 h.3 (some_left unit h.0 h.1 rest.among h.2 h.3)

due_by : (c : Connection) (s : SessionState) → IsRest c s → (units : List ProtocolUnit) → HasUnits s.unread units → (NoTurnDue s → ⊥) → (unit : ProtocolUnit) × (at : ℕ) × IsNextTurn c unit at
due_by c s rest [] h due = absurd (due h)
due_by c s rest (unit ∷ units) h due = (unit, s.taken, first_next c s rest unit units h)

pub rest_due : (c : Connection) (s : SessionState) → IsRest c s → (NoTurnDue s → ⊥) → (unit : ProtocolUnit) × (at : ℕ) × IsNextTurn c unit at
rest_due c s rest due = let units = the_grammar.some s.unread.greatest s.unread.passed s.unread.bytes in due_by c s rest units.0 units.1 due

-- the next turn of a connection, or that it has none, is one thing
pub next_in : Connection → Option (ProtocolUnit × ℕ)
next_in c = slice_get (turns (the_grammar.some c.greatest c.passed c.stream).0) c.taken

units_one : (c : Connection) (units : List ProtocolUnit) → AreUnits c.greatest c.passed c.stream units → next_in c ≡ slice_get (turns units) c.taken
unfolding next_in
units_one c units are = let some = the_grammar.some c.greatest c.passed c.stream in ap (λ us. slice_get (turns us) c.taken) (the_grammar.same c.greatest c.passed c.stream some.0 units some.1 are)

pub next_is : (c : Connection) (unit : ProtocolUnit) (at : ℕ) → IsNextTurn c unit at → next_in c ≡ Some (unit, at)
next_is c unit at next = units_one c next.units next.are ∙ next.next

pub none_is : (c : Connection) → HasNoNext c → next_in c ≡ None
none_is c none = units_one c none.units none.are ∙ none.none

pub no_next : (c : Connection) (unit : ProtocolUnit) (at : ℕ) → IsNextTurn c unit at → HasNoNext c → ⊥
no_next c unit at next none = let one : Option (ProtocolUnit × ℕ) = Some (unit, at) in let both : one ≡ None = sym (next_is c unit at next) ∙ none_is c none in cc

idle_by : (c : Connection) (s : SessionState) → IsRest c s → (units : List ProtocolUnit) → HasUnits s.unread units → HasNoNext c → NoTurnDue s
idle_by c s rest [] h none = h
idle_by c s rest (unit ∷ units) h none = absurd (no_next c unit s.taken (first_next c s rest unit units h) none)

pub due_both : (c : Connection) (s : SessionState) → Stands c s → c.is_open ≡ true → NoTurnDue s ↔ HasNoNext c
due_both c s stands is = let rest : (s.is_open ≡ true) × IsRest c s = subst (λ (b : Bool). StandsIf b c s) is stands in let units = the_grammar.some s.unread.greatest s.unread.passed s.unread.bytes in
    (λ none. rest_idle c s rest.1 none, λ none. idle_by c s rest.1 units.0 units.1 none)

-- A turn of an open session is the next turn of its connection's stream.
module _ {S : Type 0} (relations : Relations S) (now : ℕ) (c : Connection) (s new : SessionState) (before after : S) (rest : IsRest c s) (takes : TakesTurn relations now s new before after) where
  pub is_next : IsNextTurn c takes.unit s.taken
  is_next = next_of c s rest takes.unit takes.front takes.rest takes.parts takes.spelled takes.due

  abbrev told : List ℕ
  told = s.out ++ takes.text

  -- the session after the turn, by whether the unit is the last and whether its turns are all taken
  abbrev moved_by : Bool → Bool → SessionState
  moved_by last whole = if last then closed (record s { out = told })
      else if whole then record s { unread = settled (unread s.unread.greatest (passed_after takes.unit) takes.rest); taken = 0; out = told } else record s { taken = s.taken + 1; out = told }

  abbrev after_by : Bool → Connection
  after_by last = record c { taken = c.taken + 1; out = c.out ++ takes.text; is_open = not last }

  told_out : told ≡ c.out ++ takes.text
  told_out = ap (λ o. o ++ takes.text) rest.out

  stands_by : (last whole : Bool) → s.is_open ≡ true → is_last takes.unit ≡ last → (s.taken + 1 == turn_count takes.unit) ≡ whole → Stands (after_by last) (moved_by last whole)
  stands_by true whole opens is counted = rw (same_greatest c.greatest c.passed c.stream rest.read s.unread rest.follows, rest.out)
  stands_by false true opens is counted = let all : s.taken + 1 ≡ turn_count takes.unit = eqb-true _ _ counted in
      let follows = follows_more c.greatest c.passed c.stream rest.read s.unread takes.unit takes.front takes.rest rest.follows takes.parts takes.spelled is in
      (opens, record { read = rest.read ++ takes.unit ∷ []; follows = follows; taken = omega (arith, all, turns_more rest.read takes.unit, rest.taken); among = at_start; out = told_out })
  stands_by false false opens is counted =
      let among : IsAmong s.unread (s.taken + 1) = inside takes.unit takes.front takes.rest takes.parts takes.spelled (omega (arith, takes.due, eqb-false _ _ counted)) in
      (opens, record { read = rest.read; follows = rest.follows; taken = omega (arith, rest.taken); among = among; out = told_out })

  pub stands_after : s.is_open ≡ true → Stands (after_turn takes.unit takes.text c) new
  stands_after opens =
      subst (λ (x : SessionState). Stands (after_turn takes.unit takes.text c) x) (sym takes.moves) (stands_by (is_last takes.unit) (s.taken + 1 == turn_count takes.unit) opens refl refl)

-- What is left of a connection is one thing.
few_turns : (greatest passed : ℕ) (bytes : List ℕ) (v : ProtocolUnit) (front more : List ℕ) (a : Unread) (t : ℕ)
    → a ≡ settled (unread greatest passed bytes) → drop passed bytes ≡ front ++ more → Spells greatest v front → IsAmong a t → t < turn_count v
few_turns greatest passed bytes v front more a t f e h among =
    some_left v front more among (ap to_read f ∙ the_grammar.early (unread greatest passed bytes) ∙ e) (subst (λ (m : ℕ). Spells m v front) (sym (ap (λ (r : Unread). r.greatest) f)) h)

follow_one : (greatest passed : ℕ) (bytes : List ℕ) (us vs : List ProtocolUnit) (a b : Unread) (t k : ℕ) → Follows greatest passed bytes us a
    → Follows greatest passed bytes vs b → IsAmong a t → IsAmong b k → length (turns us) + t ≡ length (turns vs) + k → (a ≡ b) × (t ≡ k)
follow_one greatest passed bytes [] [] a b t k f h x y e = (f ∙ sym h, omega (arith, e))
follow_one greatest passed bytes [] (v ∷ vs) a b t k f h x y e = absurd (let l = few_turns greatest passed bytes v h.0 h.1 a t f h.2 h.3 x in let n = turns_first v vs in omega (arith, l, n, e))
follow_one greatest passed bytes (u ∷ us) [] a b t k f h x y e = absurd (let l = few_turns greatest passed bytes u f.0 f.1 b k h f.2 f.3 y in let n = turns_first u us in omega (arith, l, n, e))
follow_one greatest passed bytes (u ∷ us) (v ∷ vs) a b t k f h x y e = let one = the_grammar.apart greatest u v f.0 h.0 f.1 h.1 f.3 h.3 (sym f.2 ∙ h.2) in
    let more : f.1 ≡ h.1 = append_cancel_left h.0 f.1 h.1 (ap (λ l. l ++ f.1) (sym one.1) ∙ sym f.2 ∙ h.2) in let h5 : Follows greatest (passed_after u) f.1 vs b =
    subst (λ (w : ProtocolUnit). Follows greatest (passed_after w) f.1 vs b) (sym one.0) (subst (λ (l : List ℕ). Follows greatest (passed_after v) l vs b) (sym more) h.5) in
    let c : turn_count u ≡ turn_count v = ap turn_count one.0 in let n = turns_first u us in let m = turns_first v vs in
    follow_one greatest (passed_after u) f.1 us vs a b t k f.5 h5 x y (omega (arith, n, m, c, e))

rest_one : (c : Connection) (s r : SessionState) → s.is_open ≡ true → r.is_open ≡ true → IsRest c s → IsRest c r → s ≡ r
rest_one c s r so ro x y = let one = follow_one c.greatest c.passed c.stream x.read y.read s.unread r.unread s.taken r.taken x.follows y.follows x.among y.among (sym x.taken ∙ y.taken) in
    λ i. record { unread = one.0 i; taken = one.1 i; out = (x.out ∙ sym y.out) i; is_open = (so ∙ sym ro) i }

stand_one_at : (c : Connection) (s r : SessionState) (b : Bool) → StandsIf b c s → StandsIf b c r → s ≡ r
stand_one_at c s r true x y = rest_one c s r x.0 y.0 x.1 y.1
stand_one_at c s r false x y = x ∙ sym y

all_one : (cs : List Connection) (ss rs : List SessionState) → StandAll cs ss → StandAll cs rs → ss ≡ rs
all_one [] [] [] x y = refl
all_one [] [] (r ∷ rs) x y = absurd y
all_one [] (s ∷ ss) rs x y = absurd x
all_one (c ∷ cs) [] rs x y = absurd x
all_one (c ∷ cs) (s ∷ ss) [] x y = absurd y
all_one (c ∷ cs) (s ∷ ss) (r ∷ rs) x y = ap (λ (z : SessionState). z ∷ ss) (stand_one_at c s r c.is_open x.0 y.0) ∙ ap (λ l. r ∷ l) (all_one cs ss rs x.1 y.1)

-- a plain world stands as one state only
pub stands_one : {K : Type 0} (p : PlainWorld) (a b : WorldState K) → WorldStandsAs p a → WorldStandsAs p b → b.settings ≡ a.settings → b.hasher ≡ a.hasher → record b { left = a.left } ≡ a
stands_one p a b x y settings hasher = let same = all_one p.connections b.sessions a.sessions y.sessions x.sessions in
    λ i. record { settings = settings i; hasher = hasher i; state = (y.state ∙ sym x.state) i; moment = (y.now ∙ sym x.now) i; sessions = same i; left = a.left }

-- The sessions of a world are what is left of the connections.
-- there are as many of both
pub stand_length : (cs : List Connection) (ss : List SessionState) → StandAll cs ss → length ss ≡ length cs
stand_length [] [] all = refl
stand_length (c ∷ cs) (s ∷ ss) all = ap suc (stand_length cs ss all.1)
stand_length cs ss all = absurd all

-- a connection and its session that are so, or neither
abbrev pub BothBy : (Connection → SessionState → Type 0) → Option Connection → Option SessionState → Type 0
BothBy P None None = Unit {0}
BothBy P None (Some s) = ⊥
BothBy P (Some c) None = ⊥
BothBy P (Some c) (Some s) = P c s

abbrev pub Both : Option Connection → Option SessionState → Type 0
Both c s = BothBy Stands c s

-- they are open
abbrev pub AreOpen : Connection → SessionState → Type 0
AreOpen c s = (c.is_open ≡ true) × (s.is_open ≡ true) × IsRest c s × Stands c s

abbrev pub Opens : Option Connection → Option SessionState → Type 0
Opens c s = BothBy AreOpen c s

stand_get : (cs : List Connection) (ss : List SessionState) (n : ℕ) → StandAll cs ss → Both (slice_get cs n) (slice_get ss n)
stand_get [] [] n all = tt
stand_get (c ∷ cs) (s ∷ ss) zero all = all.0
stand_get (c ∷ cs) (s ∷ ss) (suc n) all = stand_get cs ss n all.1
stand_get cs ss n all = absurd all

stand_numbered : (cs : List Connection) (ss : List SessionState) (n : ℕ) → StandAll cs ss → Both (numbered n cs) (numbered n ss)
stand_numbered cs ss zero all = tt
stand_numbered cs ss (suc n) all = stand_get cs ss n all

-- what stands is open with its connection, or isn't
open_one : (c : Connection) (s : SessionState) (b : Bool) → c.is_open ≡ b → Stands c s → StandsIf b c s → Opens (if b then Some c else None) (if s.is_open then Some s else None)
open_one c s true is stands (opens, rest) = subst (λ (k : Bool). Opens (Some c) (if k then Some s else None)) (sym opens) (is, opens, rest, stands)
open_one c s false is stands same = let none : s.is_open ≡ false = ap (λ (x : SessionState). x.is_open) same in subst (λ (k : Bool). Opens None (if k then Some s else None)) (sym none) tt

open_both : (c : Option Connection) (s : Option SessionState) → Both c s → Opens (if_open (λ c. c.is_open) c) (if_open (λ s. s.is_open) s)
open_both None None both = tt
open_both (Some c) (Some s) both = open_one c s c.is_open refl both both
open_both c s both = absurd both

-- the connection of a number is open with its session, or neither is
pub stand_open : (cs : List Connection) (ss : List SessionState) (n : ℕ) → StandAll cs ss → Opens (open_connection n cs) (open_session n ss)
stand_open cs ss n all = open_both (numbered n cs) (numbered n ss) (stand_numbered cs ss n all)

-- a connection and its session are put in the place of others
stand_set : (cs : List Connection) (ss : List SessionState) (n : ℕ) (c : Connection) (s : SessionState) → StandAll cs ss → Stands c s → StandAll (slice_set cs n c) (slice_set ss n s)
stand_set [] [] n c s all one = tt
stand_set (x ∷ cs) (y ∷ ss) zero c s all one = (one, all.1)
stand_set (x ∷ cs) (y ∷ ss) (suc n) c s all one = (all.0, stand_set cs ss n c s all.1 one)
stand_set cs ss n c s all one = absurd all

pub stand_put : (cs : List Connection) (ss : List SessionState) (n : ℕ) (c : Connection) (s : SessionState) → StandAll cs ss → Stands c s → StandAll (put n cs c) (put n ss s)
stand_put cs ss n c s all one = stand_set cs ss (n - 1) c s all one

-- one more of both
pub stand_more : (cs : List Connection) (ss : List SessionState) (c : Connection) (s : SessionState) → StandAll cs ss → Stands c s → StandAll (cs ++ c ∷ []) (ss ++ s ∷ [])
stand_more [] [] c s all one = (one, tt)
stand_more (x ∷ cs) (y ∷ ss) c s all one = (all.0, stand_more cs ss c s all.1 one)
stand_more cs ss c s all one = absurd all

-- the one of a number is changed in both
pub stand_changed : (P : Connection → SessionState → Type 0) (cs : List Connection) (ss : List SessionState) (n : ℕ) (f : Connection → Connection)
    (g : SessionState → SessionState) (c : Option Connection) (s : Option SessionState) → BothBy P c s
    → ((x : Connection) (y : SessionState) → P x y → Stands (f x) (g y)) → StandAll cs ss → StandAll (changed n cs f c) (changed n ss g s)
stand_changed P cs ss n f g None None both each all = all
stand_changed P cs ss n f g (Some c) (Some s) both each all = stand_put cs ss n (f c) (g s) all (each c s both)
stand_changed P cs ss n f g c s both each all = absurd both

-- their outputs are changed alike
out_by : (f : List ℕ → List ℕ) (c : Connection) (s : SessionState) (b : Bool) → StandsIf b c s
    → let d : Connection = record c { out = f c.out } in let t : SessionState = record s { out = f s.out } in StandsIf b d t
out_by f c s true (opens, rest) = (opens, record { read = rest.read; follows = rest.follows; taken = rest.taken; among = rest.among; out = ap f rest.out })
out_by f c s false same = λ i. record (same i) { out = f (same i).out }

pub stand_out : (f : List ℕ → List ℕ) (cs : List Connection) (ss : List SessionState) (n : ℕ) → StandAll cs ss
    → StandAll (changed n cs (λ c. record c { out = f c.out }) (numbered n cs)) (changed n ss (λ s. record s { out = f s.out }) (numbered n ss))
stand_out f cs ss n all = stand_changed Stands cs ss n (λ c. record c { out = f c.out }) (λ s. record s { out = f s.out }) (numbered n cs) (numbered n ss)
    (stand_numbered cs ss n all) (λ c s stands. out_by f c s c.is_open stands) all

-- so many bytes of the output were sent
abbrev pub less : ℕ → Connection → Connection
less n c = record c { out = drop n c.out }

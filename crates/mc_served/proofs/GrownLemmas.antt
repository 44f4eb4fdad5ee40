-- A stream that grows keeps its turns, and gets none behind a last unit.
use Rattle.mc_world.proofs.Words.{◌≡◌, ◌⊎◌, inl, inr, ℕ, zero, suc, ◌+◌, ◌<◌, true, false, List, [], ◌∷◌, ◌++◌, length, drop, Some, None, refl, sym, ap, ◌∙◌, subst, arith}
use Rattle.mc_world.proofs.Words.{length-append, length-drop, append_assoc, append-nil, append_cancel_left, drop-append-le, slice_get, MatchBool, same_spelling, spelling_some, ProtocolUnit, Request}
use Rattle.mc_world.proofs.Words.{Fault, LongLine, AreUnits, is_last, passed_after}
use Rattle.mc_world.proofs.Words.{turn_count, turns_from, turns}
use Rattle.std.proofs.Common.{⊎_elim, max}
use Rattle.mc_protocol.specs.Commands.{Shape, Single, Retrieval, Alone, shape, steps_by}
use Rattle.mc_parse.specs.Streams.{is_quit_by}

abbrev pub Turns : Type 0
Turns = List (ProtocolUnit × ℕ)

-- one of them ends the stream
abbrev pub HasLast : List ProtocolUnit → Type 0
HasLast [] = ⊥
HasLast (u ∷ us) = (is_last u ≡ true) ⊎ HasLast us

dropped : (p : ℕ) (s more front rest : List ℕ) → 0 < length front → drop p s ≡ front ++ rest → drop p (s ++ more) ≡ front ++ (rest ++ more)
dropped p s more front rest some is =
    let long : length (drop p s) ≡ length (front ++ rest) = ap length is in
    drop-append-le p s more (omega (arith, some, long, length-append front rest, length-drop p s)) ∙ ap (λ b. b ++ more) is ∙ append_assoc front rest more

both_same : (u v : ProtocolUnit) (vs ws : List ProtocolUnit) → u ≡ v → vs ≡ ws → v ∷ vs ≡ u ∷ ws
both_same u v vs ws first rest = λ i. sym first i ∷ rest i

-- a longer stream has the same units, and perhaps others behind them
pub grown : (g p : ℕ) (s more : List ℕ) (us vs : List ProtocolUnit) → AreUnits g p s us → AreUnits g p (s ++ more) vs
    → (rest : List ProtocolUnit) × (vs ≡ us ++ rest) × (HasLast us → rest ≡ [])
grown g p s more [] vs a b = (vs, refl, λ none. absurd none)
grown g p s more (u ∷ us) [] a b = absurd (b.none u a.0 (a.1 ++ more) (dropped p s more a.0 a.1 (spelling_some g u a.0 a.3) a.2) a.3)
grown g p s more (u ∷ us) (v ∷ vs) a b =
    let d : drop p (s ++ more) ≡ a.0 ++ (a.1 ++ more) = dropped p s more a.0 a.1 (spelling_some g u a.0 a.3) a.2 in
    let q = same_spelling g u v a.0 b.0 (a.1 ++ more) b.1 a.3 b.3 (sym d ∙ b.2) in
    let r : a.1 ++ more ≡ b.1 = append_cancel_left a.0 (a.1 ++ more) b.1 (sym d ∙ b.2 ∙ ap (λ f. f ++ b.1) (sym q.1)) in
    let at_u : MatchBool (is_last u) (vs ≡ []) (AreUnits g (passed_after u) b.1 vs) = subst (λ w. MatchBool (is_last w) (vs ≡ []) (AreUnits g (passed_after w) b.1 vs)) (sym q.0) b.4 in
    let there : MatchBool (is_last u) (vs ≡ []) (AreUnits g (passed_after u) (a.1 ++ more) vs) = subst (λ w. MatchBool (is_last u) (vs ≡ []) (AreUnits g (passed_after u) w vs)) (sym r) at_u in
    let tails : (rest : List ProtocolUnit) × (vs ≡ us ++ rest) × ((is_last u ≡ true) ⊎ HasLast us → rest ≡ []) =
    elim (is_last u) as (λ b. MatchBool b (us ≡ []) (AreUnits g (passed_after u) a.1 us) → MatchBool b (vs ≡ []) (AreUnits g (passed_after u) (a.1 ++ more) vs)
    → (rest : List ProtocolUnit) × (vs ≡ us ++ rest) × ((b ≡ true) ⊎ HasLast us → rest ≡ [])) [
      | true ↦ λ m n. ([], n ∙ sym m ∙ sym (append-nil us), λ _. refl)
      | false ↦ λ m n.
          let t = grown g (passed_after u) a.1 more us vs m n in
          (t.0, t.1, λ h. ⊎_elim (λ (no : false ≡ true). absurd (cc)) t.2 h)
    ] a.4 there in
    (tails.0, both_same u v vs (us ++ tails.0) q.0 tails.1, tails.2)

pub turns_both : (us vs : List ProtocolUnit) → turns (us ++ vs) ≡ turns us ++ turns vs
turns_both [] vs = refl
turns_both (u ∷ us) vs = ap (λ ts. turns_from u 0 (turn_count u) ++ ts) (turns_both us vs) ∙ sym (append_assoc (turns_from u 0 (turn_count u)) (turns us) (turns vs))

-- the turn of a last unit isn't among those of another
in_unit : (u : ProtocolUnit) (at n : ℕ) (xs done later : Turns) (turn : ProtocolUnit × ℕ) → is_last u ≡ false → is_last turn.0 ≡ true → turns_from u at n ++ xs ≡ done ++ turn ∷ later
    → (front : Turns) × (done ≡ turns_from u at n ++ front) × (xs ≡ front ++ turn ∷ later)
in_unit u at zero xs done later turn not last is = (done, refl, is)
in_unit u at (suc n) xs [] later turn not last is =
    let same : (u, at) ≡ turn = cc in
    let head : is_last u ≡ is_last turn.0 = ap (λ (t : ProtocolUnit × ℕ). is_last t.0) same in
    absurd (let no : false ≡ true = sym not ∙ head ∙ last in cc)
in_unit u at (suc n) xs (d ∷ done) later turn not last is =
    let more = in_unit u (at + 1) n xs done later turn not last (cc) in
    let head : d ≡ (u, at) = cc in
    (more.0, λ i. head i ∷ more.1 i, more.2)

-- a last unit has one turn
once_by : (its : Shape) → is_quit_by its ≡ true → max 1 (length (steps_by its)) ≡ 1
once_by (Single step has_block quiet) last = refl
once_by (Retrieval exptime keys with_unique) last = absurd (cc)
once_by (Alone lone) last = refl

last_once : (unit : ProtocolUnit) → is_last unit ≡ true → turn_count unit ≡ 1
last_once LongLine last = refl
last_once (Fault fault) last = refl
last_once (Request command) last = once_by (shape command) last

only_turn : (one turn : ProtocolUnit × ℕ) (done later : Turns) → one ∷ [] ≡ done ++ turn ∷ later → later ≡ []
only_turn one turn [] later is = cc
only_turn one turn (d ∷ []) later is = absurd (cc)
only_turn one turn (d ∷ e ∷ done) later is = absurd (cc)

no_turn_there : (turn : ProtocolUnit × ℕ) (done later : Turns) → [] ≡ done ++ turn ∷ later → ⊥
no_turn_there turn [] later is = cc
no_turn_there turn (d ∷ done) later is = cc

-- behind the turn of a last unit there is none
pub last_ends : (g p : ℕ) (s : List ℕ) (us : List ProtocolUnit) (done later : Turns) (turn : ProtocolUnit × ℕ) → AreUnits g p s us → turns us ≡ done ++ turn ∷ later → is_last turn.0 ≡ true
    → (later ≡ []) × HasLast us
last_ends g p s [] done later turn a is last = absurd (no_turn_there turn done later is)
last_ends g p s (u ∷ us) done later turn a is last =
    elim (is_last u) as (λ b. is_last u ≡ b → MatchBool b (us ≡ []) (AreUnits g (passed_after u) a.1 us) → (later ≡ []) × ((is_last u ≡ true) ⊎ HasLast us)) [
      | true ↦ λ ends none.
          let whole : (u, 0) ∷ [] ≡ turns (u ∷ us) = sym ((λ i. turns_from u 0 (last_once u ends i) ++ turns (none i))) in
          (only_turn (u, 0) turn done later (whole ∙ is), inl ends)
      | false ↦ λ goes_on others.
          let front = in_unit u 0 (turn_count u) (turns us) done later turn goes_on last is in
          let more = last_ends g (passed_after u) a.1 us front.0 later turn others front.2 last in
          (more.0, inr more.1)
    ] refl a.4

-- the turn behind those that are done
get_after : (done later : Turns) → slice_get (done ++ later) (length done) ≡ slice_get later 0
get_after [] later = refl
get_after (d ∷ done) later = get_after done later

first_later : (later : Turns) (turn : ProtocolUnit × ℕ) → slice_get later 0 ≡ Some turn → (rest : Turns) × (later ≡ turn ∷ rest)
first_later [] turn is = absurd (cc)
first_later (t ∷ later) turn is = (later, let same : t ≡ turn = cc in ap (λ x. x ∷ later) same)

none_later : (later : Turns) → slice_get later 0 ≡ None → later ≡ []
none_later [] is = refl
none_later (t ∷ later) is = absurd (cc)

pub next_later : (done later : Turns) (turn : ProtocolUnit × ℕ) → slice_get (done ++ later) (length done) ≡ Some turn → (rest : Turns) × (later ≡ turn ∷ rest)
next_later done later turn is = first_later later turn (sym (get_after done later) ∙ is)

pub no_later : (done later : Turns) → slice_get (done ++ later) (length done) ≡ None → later ≡ []
no_later done later is = none_later later (sym (get_after done later) ∙ is)

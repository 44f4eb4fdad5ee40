-- More bytes leave the first unit as it is.
use Rattle.std.proofs.Common.{◌≡◌, ◌<◌, ◌-◌, ℕ, Bool, true, IsTrue, List, [], ◌∷◌, ◌++◌, length, drop, sym, ap, ◌∙◌, subst, arith, append_assoc}
use Rattle.std.proofs.lemmas.List.{drop-append-le, length-append, length-drop}
use Rattle.std.specs.Result.{OnOk, OnErr, IfOk}
use Rattle.std.specs.Prelude.{Result, Ok, Err}
use Rattle.mc_parse.specs.Units.{ProtocolUnit, Request, Fault, LongLine, Spells}
use Rattle.mc_parse.specs.Feeds.{Unread, pushed, TakesPiece}
use Rattle.mc_bytes.specs.Sources.{Brings}
use Rattle.mc_parse.specs.Peeks.{BeginsWithNone}
use Rattle.mc_session.specs.Answers.{IsWithinUnit, at_start, inside}
use Rattle.mc_session.specs.Turns.{SessionState, fed, FedPiece}

-- what spells a unit has bytes
pub spells_bytes : (greatest : ℕ) (unit : ProtocolUnit) (front : List ℕ) → Spells greatest unit front → 0 < length front
spells_bytes greatest LongLine front spelled = omega (arith, spelled.0)
spells_bytes greatest (Fault fault) front spelled =
    let line = spelled.is_line.ended in
    omega (arith, ap length spelled.parts, ap length line, length-append spelled.line spelled.rest, length-append spelled.text (10 ∷ []))
spells_bytes greatest (Request command) front spelled =
    let line = spelled.is_line.ended in
    omega (arith, ap length spelled.parts, ap length line, length-append spelled.line spelled.rest, length-append spelled.text (10 ∷ []))

-- a front of the unread bytes stays in front
pub front_stays : (u : Unread) (front rest more : List ℕ) → 0 < length front → drop u.passed u.bytes ≡ front ++ rest
    → drop (pushed u more).passed (pushed u more).bytes ≡ front ++ (rest ++ more)
front_stays u front rest more some parts =
    let room : u.passed < length u.bytes = omega (arith, ap length parts, length-append front rest, length-drop u.passed u.bytes) in
    let none : u.passed - length (u.bytes ++ more) ≡ 0 = omega (arith, length-append u.bytes more) in
    rw (none, drop-append-le u.passed u.bytes more (omega arith)) (ap (λ bytes. bytes ++ more) parts ∙ append_assoc front rest more)

-- the turns of the first unit are as many
pub within_more : (u : Unread) (taken : ℕ) (more : List ℕ) → IsWithinUnit u taken → IsWithinUnit (pushed u more) taken
within_more u taken more at_start = at_start
within_more u taken more (inside unit front rest parts spelled due few) =
    inside unit front (rest ++ more) (front_stays u front rest more (spells_bytes u.greatest unit front spelled) parts) spelled due few

-- what holds of both outcomes holds of the one that came
pub either_way : {T E V : Type 0} (P : V → Type 0) (r : Result T E) (old more new : V) → OnOk r (new ≡ more) → OnErr r (new ≡ old) → P more → P old → P new
either_way P (Ok x) old more new ok err p q = subst P (sym ok) p
either_way P (Err e) old more new ok err p q = subst P (sym err) q

-- so it is with what a source brought, or with nothing where it was refused
pub brought_within : {S A E : Type 0} (gives : S → List ℕ → A → S → Type 0) (before after : S) (r : Result A E) (u new : Unread) (taken : ℕ)
    → IfOk r (λ answer. Brings gives before after answer (TakesPiece u new)) → OnErr r (new ≡ u) → IsWithinUnit u taken → IsWithinUnit new taken
brought_within gives before after (Ok answer) u new taken ok err is = subst (λ (v : Unread). IsWithinUnit v taken) (sym ok.becomes.0) (within_more u taken ok.piece is)
brought_within gives before after (Err refused) u new taken ok err is = subst (λ (v : Unread). IsWithinUnit v taken) (sym err) is

-- a session of these parts
abbrev pub session_of : Unread → ℕ → List ℕ → Bool → SessionState
session_of unread taken out is_open = record { unread = unread; taken = taken; out = out; is_open = is_open }

-- what was brought to the feed of an open session was fed to the session
pub brought_fed : {S A E : Type 0} (gives : S → List ℕ → A → S → Type 0) (before after : S) (r : Result A E) (u new : Unread) (taken : ℕ) (out : List ℕ) (is_open : Bool) (old : SessionState)
    → session_of u taken out is_open ≡ old → IsTrue old.is_open → IfOk r (λ answer. Brings gives before after answer (TakesPiece u new))
    → IfOk r (λ answer. Brings gives before after answer (FedPiece old (session_of new taken out is_open)))
brought_fed gives before after (Ok answer) u new taken out is_open old same opens ok =
    let is : is_open ≡ true = ap (λ (s : SessionState). s.is_open) same ∙ opens in
    let feeds : session_of new taken out is_open ≡ fed (session_of u taken out is_open) ok.piece = rw is (ap (λ v. session_of v taken out true) ok.becomes.0) in
    record {
      piece = ok.piece;
      gave = ok.gave;
      becomes = (feeds ∙ ap (λ (s : SessionState). fed s ok.piece) same, λ none. ap (λ v. session_of v taken out is_open) (ok.becomes.1 none) ∙ same);
    }
brought_fed gives before after (Err refused) u new taken out is_open old same opens ok = tt

-- where no byte is unread, nothing is spelled
pub none_spelled : (u : Unread) → length u.bytes ≡ 0 → BeginsWithNone u.greatest (drop u.passed u.bytes)
none_spelled u nothing = record {
  none = λ unit front more parts spelled.
      let some = spells_bytes u.greatest unit front spelled in
      omega (arith, ap length parts, length-append front more, length-drop u.passed u.bytes);
}

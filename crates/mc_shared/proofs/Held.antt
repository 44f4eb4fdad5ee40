-- A seat that holds one bay, or two.
use Rattle.mc_shared.proofs.Words.{◌≡◌, ℕ, List, [], ◌∷◌, ◌++◌, None, Result, Ok, Err, replicate, refl, sym, ap, ◌∙◌, subst, ◌<◌, ◌-◌, ◌%◌, ◌^◌, arith, rest, Content, place, OfShelf, OfDesk}
use Rattle.mc_shared.proofs.Words.{Past, Lives, call, SeatView, Mine, Fitted, HasTaken, holding, decided_by, entry_of, loaded, newcomer, met, next_name, Agrees, Decides, Counts, MayAdd}
use Rattle.mc_shared.proofs.Words.{MayCount, Desk, holds_one, holds_two, CanCome, Refuses, KeyStep, key_of, StepFault, NoMemory, NumbersSpent, Plain, Outcome, Spent, MayFail, plain}
use Rattle.mc_shared.proofs.Words.{ShelfContent, DeskState, CanStandAt, StandsAt, Reply, Beginning, Operation, Stepped, start_of, shelf_in, AreKeyCounts, AreCountsBy, len, SharedState}
use Rattle.mc_shared.proofs.Words.{CallerState, HoldsShelf, HoldsBoth, IsAsked, Sitter, IsTableOf, IsAnswered, MayDecide, Rests, StoreState, TableId, HasDecided, append-nil, HoldsLast}
use Rattle.mc_shared.proofs.Words.{IsSpent, MayWantMemory, SameSeat, IsSeatOf, IsAlive, caller_at, Ask, IsOnKey, IsShelfOf, PlanIsSettled, goes_without_desk}
use Rattle.mc_shared.proofs.NamedKept.{lives_start, lives_both}
use Rattle.mc_shared.proofs.NumberSteps.{may_add, counts_settled}
use Rattle.mc_shared.proofs.NumberSweeps.{may_count_one, shelf_counted}
use Rattle.mc_shared.proofs.Decisions.{can_stand, comes_after, refuses, settles, goes_alone}

pub top_of : {S : Type 0} → (xs : List (ℕ × S)) (x : ℕ × S) (ys : List (ℕ × S)) → xs ≡ x ∷ ys → xs ≡ x ∷ rest xs
top_of xs x ys e = e ∙ ap (λ zs. x ∷ rest zs) (sym e)

pub one_held : (me : Mine) (p : Past) (at : ℕ) (x : Content) → me ≡ holds_one p at x → ((y : Content) × (me.0.bays ≡ (at, y) ∷ rest me.0.bays)) × (me.1 ≡ (place at, None) ∷ rest me.1)
one_held me p at x e = ((x, top_of me.0.bays (at, x) [] (ap (λ m. m.0.bays) e)), top_of me.1 (place at, None) [] (ap (λ m. m.1) e))

-- a bay that was taken last is held
pub taken_held : (me was : Mine) (b : ℕ) (x : Content) → me ≡ (holding was.0 b x, (place b, None) ∷ was.1)
    → ((y : Content) × (me.0.bays ≡ (b, y) ∷ rest me.0.bays)) × (me.1 ≡ (place b, None) ∷ rest me.1)
taken_held me was b x e = ((x, top_of me.0.bays (b, x) was.0.bays (ap (λ m. m.0.bays) e)), top_of me.1 (place b, None) was.1 (ap (λ m. m.1) e))

-- a seat's caller lives on while its past stays
pub lives_on : {K : Type 0} (table : TableId) (began : StoreState K) (old new : Sitter) (m : Mine)
    → IsAlive table began old → SameSeat old new → new.me ≡ m → m.0.past ≡ old.me.0.past → IsAlive table began new
lives_on table began old new m alive same is past = record {
  seated = record { own = same.0 ∙ alive.seated.own; fit = alive.seated.fit };
  lives = subst Lives (sym (ap (λ (n : Mine). n.0.past) is ∙ past)) alive.lives;
}

-- a seat rests that was just made, and one that took in another's past
pub new_rests : (me : Mine) (v : SeatView) → me ≡ (newcomer v, []) → Rests me
new_rests me v is = subst Rests (sym is) (refl, refl, lives_start (next_name v.past) v.past, refl)

pub met_rests : (now me was : Mine) (o : SeatView) → now ≡ me → me ≡ (met was.0 o, was.1) → Rests was → Rests now
met_rests now me was o same is rests = subst Rests (sym (same ∙ is)) (rests.0, rests.1, lives_both was.0.past o.past rests.2, rests.3)

pub two_held : (me : Mine) (p : Past) (b : ℕ) (y : Content) (at : ℕ) (x : Content) → me ≡ holds_two p b y at x
    → ((z : Content) × (me.0.bays ≡ (b, z) ∷ rest me.0.bays)) × (me.1 ≡ (place b, None) ∷ rest me.1)
two_held me p b y at x e = ((y, top_of me.0.bays (b, y) ((at, x) ∷ []) (ap (λ m. m.0.bays) e)), top_of me.1 (place b, None) ((place at, None) ∷ []) (ap (λ m. m.1) e))

-- what a seat took last stays so where words show too many
pub loaded_last : (me now : Mine) (surplus : List ℕ) (b : ℕ) → now ≡ loaded me surplus → HoldsLast me b → HoldsLast now b
loaded_last me now surplus b is held = subst (λ (m : Mine). HoldsLast m b) (sym is) held

module _ {K : Type 0} (hash_of : K → List ℕ → ℕ) (table : TableId) (began : StoreState K) (shared : SharedState K) (is : record { table = table; began = began } ≡ shared)
    (fit : IsTableOf table began) where
  -- who holds a shelf lives
  pub alive_at : (seat : Sitter) (at : ℕ) (f : ShelfContent) → HoldsShelf hash_of shared seat at f → IsAlive table began seat
  alive_at seat at f holds =
      let h = subst (λ (s : SharedState K). HoldsShelf hash_of s seat at f) (sym is) holds in
      record { seated = record { own = h.own; fit = fit }; lives = h.lives }

  -- a hold of a shelf may decide what its shelf decides
  pub at_shelf : (seat : Sitter) (at : ℕ) (f : ShelfContent) (y : Content) (what : Operation) (still : List (ℕ × Content)) (surplus : List ℕ) → HoldsShelf hash_of shared seat at f
      → (at < began.settings.shelves → Decides (start_of hash_of began) ((at, OfShelf f) ∷ []) at y what still)
      → Counts (start_of hash_of began) (holds_one seat.me.0.past at (OfShelf f)).0 what (decided_by (holds_one seat.me.0.past at (OfShelf f)) what still surplus).0
      → MayDecide table began seat at (start_of hash_of began) y what still surplus
  at_shelf seat at f y what still surplus holds decides counts =
      let h = subst (λ (s : SharedState K). HoldsShelf hash_of s seat at f) (sym is) holds in
      record {
        alive = alive_at seat at f holds;
        bay = (let l = h.inside in omega (arith, l));
        held = one_held seat.me seat.me.0.past at (OfShelf f) h.held;
        right = subst (λ bays. Decides (start_of hash_of began) bays at y what still) (sym (ap (λ (m : Mine). m.0.bays) h.held)) (decides h.inside);
        counts = subst (λ (m : Mine). Counts (start_of hash_of began) m.0 what (decided_by m what still surplus).0) (sym h.held) counts;
      }

  -- and a step that its shelf decides alone
  pub at_settled : (seat : Sitter) (ask : Ask) (old new : ShelfContent) (reply : Reply) → HoldsShelf hash_of shared seat ask.at old → IsAsked hash_of shared ask → IsOnKey ask.step.now
      → PlanIsSettled ask.step.now ask.moment ask.hash old reply new
      → MayDecide table began seat ask.at (start_of hash_of began) (OfShelf new) (Stepped ask.step.now ask.moment reply) [] []
  at_settled seat ask old new reply holds asked on_key taken =
      let start = start_of hash_of began in
      let step = ask.step.now in
      let here = subst (λ (s : SharedState K). IsAsked hash_of s ask) (sym is) asked in
      let settled : PlanIsSettled step ask.moment (start.hash_of (key_of step)) old reply new =
      subst (λ (h : ℕ). PlanIsSettled step ask.moment h old reply new) here.hashed taken in
      let what = Stepped step ask.moment reply in
      let held = holds_one seat.me.0.past ask.at (OfShelf old) in
      let alone = λ (m : Plain) (part : IsShelfOf start.hash_of start.shelves m ask.at old). goes_without_desk step on_key here.own part settled in
      at_shelf seat ask.at old (OfShelf new) what [] [] holds (settles start ask.at old new step ask.moment reply alone)
      (counts_settled start ask.at fit.divides (key_of step) here.own old new settled.others.items settled.stands held.0 (decided_by held what [] []).0 what refl refl
      (λ m fits. let desk = (alone m fits.0.1).some_desk in (fits.0.1, (desk.0, goes_alone start ask.at old new step ask.moment reply alone m fits.0.1 desk.0 desk.1))))

  -- and with the desk, when it was taken, holds both
  pub takes_desk : (old new : Sitter) (at n : ℕ) (f : ShelfContent) (d : DeskState) → n ≡ began.settings.shelves → SameSeat old new
      → HasTaken (start_of hash_of began) old.me n (Desk d) new.me → HoldsShelf hash_of shared old at f → HoldsBoth hash_of shared new at f d
  takes_desk old new at n f d count same taken holds =
      let h = subst (λ (s : SharedState K). HoldsShelf hash_of s old at f) (sym is) holds in
      let past : new.me.0.past ≡ old.me.0.past = ap (λ (m : Mine). m.0.past) taken.1 in
      subst (λ (s : SharedState K). HoldsBoth hash_of s new at f d) is record {
        own = same.0 ∙ h.own;
        lives = subst Lives (sym past) h.lives;
        inside = h.inside;
        held = taken.1 ∙ ap (λ (m : Mine). (holding m.0 n (OfDesk d), (place n, None) ∷ m.1)) h.held
            ∙ (λ i. holds_two (sym past i) (count i) (OfDesk d) at (OfShelf f));
        fits = subst (λ (m : Mine). Fitted (start_of hash_of began) m.0) (sym taken.1) taken.2;
      }

  -- a hold of a shelf and the desk, where these words show too many, may decide what the desk decides
  pub at_both : (seat now : Sitter) (at n : ℕ) (f : ShelfContent) (d : DeskState) (y : Content) (what : Operation) (still : List (ℕ × Content)) (had surplus : List ℕ)
      → began.settings.shelves ≡ n → HoldsBoth hash_of shared seat at f d → SameSeat seat now → now.me ≡ loaded seat.me had
      → (at < began.settings.shelves → Decides (start_of hash_of began) ((began.settings.shelves, OfDesk d) ∷ (at, OfShelf f) ∷ []) began.settings.shelves y what still)
      → Counts (start_of hash_of began) (loaded (holds_two seat.me.0.past began.settings.shelves (OfDesk d) at (OfShelf f)) had).0 what
      (decided_by (loaded (holds_two seat.me.0.past began.settings.shelves (OfDesk d) at (OfShelf f)) had) what still surplus).0
      → MayDecide table began now n (start_of hash_of began) y what still surplus
  at_both seat now at n f d y what still had surplus desk holds same more decides counts =
      let h = subst (λ (s : SharedState K). HoldsBoth hash_of s seat at f d) (sym is) holds in
      let held : now.me ≡ loaded (holds_two seat.me.0.past began.settings.shelves (OfDesk d) at (OfShelf f)) had = more ∙ ap (λ (m : Mine). loaded m had) h.held in
      subst (λ k. MayDecide table began now k (start_of hash_of began) y what still surplus) desk record {
        alive = record { seated = record { own = same.0 ∙ h.own; fit = fit }; lives = subst (λ (m : Mine). Lives m.0.past) (sym more) h.lives };
        bay = omega arith;
        held = loaded_last seat.me now.me had began.settings.shelves more (two_held seat.me seat.me.0.past began.settings.shelves (OfDesk d) at (OfShelf f) h.held);
        right = subst (λ bays. Decides (start_of hash_of began) bays began.settings.shelves y what still) (sym (ap (λ (m : Mine). m.0.bays) held)) (decides h.inside);
        counts = subst (λ (m : Mine). Counts (start_of hash_of began) m.0 what (decided_by m what still surplus).0) (sym held) counts;
      }

  -- a hold of a shelf and the desk may raise the word of a key of the shelf
  pub may_raise : (seat : Sitter) (at : ℕ) (f : ShelfContent) (d : DeskState) → HoldsBoth hash_of shared seat at f d → (hash : ℕ) (key : List ℕ) → hash ≡ hash_of began.hasher key
      → shelf_in (start_of hash_of began) key ≡ at → len f.items < 2 ^ 64 - 1 → MayAdd (start_of hash_of began) seat.me.0 (hash % 4096)
  may_raise seat at f d holds hash key hashed own small =
      let h = subst (λ (s : SharedState K). HoldsBoth hash_of s seat at f d) (sym is) holds in
      may_add (start_of hash_of began) at fit.divides hash key hashed own h.inside f d seat.me.0 (ap (λ (m : Mine). m.0.bays) h.held) (ap (λ (m : Mine). m.0.surplus) h.held) small

  -- it holds the shelf alone when the desk went back with a decision and no word shows too many any more
  pub left_held : (seat now then last : Sitter) (at : ℕ) (f z : ShelfContent) (d : DeskState) (what : Operation) (had surplus : List ℕ) → HoldsBoth hash_of shared seat at f d
      → SameSeat seat now → now.me ≡ loaded seat.me had → SameSeat now then → HasDecided (start_of hash_of began) now.me what ((at, OfShelf z) ∷ []) surplus then.me
      → SameSeat then last → last.me ≡ loaded then.me [] → HoldsShelf hash_of shared last at z × (last.me.0.past ≡ call seat.me.0.past (entry_of seat.me.0.past what))
  left_held seat now then last at f z d what had surplus holds same more same' did same'' lowered =
      let next : Past = call seat.me.0.past (entry_of seat.me.0.past what) in
      let did_so = did.0 ∙ ap (λ (m : Mine). decided_by m what ((at, OfShelf z) ∷ []) surplus) (more ∙ ap (λ (m : Mine). loaded m had) holds.held) in
      let held : last.me ≡ holds_one next at (OfShelf z) = lowered ∙ ap (λ (m : Mine). loaded m []) did_so in
      let past : last.me.0.past ≡ next = ap (λ (m : Mine). m.0.past) held in
      let fit : Fitted (start_of hash_of began) (loaded then.me []).0 =
      record { log = did.2.log; legal = did.2.legal; keeps = did.2.keeps; limits = did.2.limits; fits = did.2.fits } in (
        record {
          own = same''.0 ∙ (same'.0 ∙ (same.0 ∙ holds.own));
          lives = subst Lives (sym past) holds.lives;
          inside = holds.inside;
          held = held ∙ ap (λ (p : Past). holds_one p at (OfShelf z)) (sym past);
          fits = subst (λ (t : SharedState K × Mine). Fitted (start_of hash_of t.0.began) t.1.0) (λ i. (is i, sym lowered i)) fit;
        },
        past,
      )

  -- a hold of a shelf may read the words of the shelf's numbers
  pub reads_shelf : (seat : Sitter) (at n : ℕ) (f : ShelfContent) → n ≡ began.settings.shelves → HoldsShelf hash_of shared seat at f
      → IsSeatOf table began seat × (at < n) × ((number : ℕ) → number < 4096 → number % n ≡ at → MayCount (start_of hash_of began) seat.me.0 number)
  reads_shelf seat at n f count holds =
      let h = subst (λ (s : SharedState K). HoldsShelf hash_of s seat at f) (sym is) holds in (
        record { own = h.own; fit = fit },
        subst (λ (k : ℕ). at < k) (sym count) h.inside,
        λ number low own. may_count_one (start_of hash_of began) fit.divides seat.me.0.past at (OfShelf f) seat.me h.held number low (subst (λ (k : ℕ). number % k ≡ at) count own),
      )

  -- and so it has the shelf's counts
  pub counts_shelf : (seat : Sitter) (at : ℕ) (f : ShelfContent) (counts : List ℕ) → HoldsShelf hash_of shared seat at f
      → AreKeyCounts (start_of hash_of began) seat.me.0 began.settings.shelves at counts → AreCountsBy (hash_of shared.began.hasher) f counts
  counts_shelf seat at f counts holds keys =
      let h = subst (λ (s : SharedState K). HoldsShelf hash_of s seat at f) (sym is) holds in
      subst (λ (s : SharedState K). AreCountsBy (hash_of s.began.hasher) f counts) is
      (shelf_counted (start_of hash_of began) fit.divides seat.me.0.past at f seat.me counts h.held h.fits keys)

-- the words that are lowered then
pub all_named : (now then : Mine) (what : Operation) (still : List (ℕ × Content)) (surplus : List ℕ) (word k : ℕ) → then ≡ decided_by now what still surplus → surplus ≡ replicate k word
    → then.0.surplus ≡ replicate k word ++ []
all_named now then what still surplus word k did same = ap (λ (m : Mine). m.0.surplus) did ∙ (same ∙ sym (append-nil (replicate k word)))

-- a call was answered
pub came_out : {E : Type 0} (start : Beginning) (old new : CallerState) (step : KeyStep) (now : ℕ) (reply told : Reply) (may : Beginning → Past → KeyStep → ℕ → E → Type 0)
    → new.table ≡ old.table → new.past ≡ call old.past (entry_of old.past (Stepped step now told)) → reply ≡ told → Agrees start new.past → IsAnswered start old step now may (Ok reply) new
came_out start old new step now reply told may table past is agrees = record {
  same = (table, agrees);
  ok = (past ∙ ap (λ (r : Reply). call old.past (entry_of old.past (Stepped step now r))) (sym is), agrees);
  err = tt;
  fault = tt;
}

-- a seat that didn't change holds what it held
pub stays_held : {K : Type 0} (hash_of : K → List ℕ → ℕ) (shared : SharedState K) (old new : Sitter) (at : ℕ) (f : ShelfContent) → SameSeat old new → new.me ≡ old.me
    → HoldsShelf hash_of shared old at f → HoldsShelf hash_of shared new at f
stays_held hash_of shared old new at f same is h = record {
  own = same.0 ∙ h.own;
  lives = subst (λ (m : Mine). Lives m.0.past) (sym is) h.lives;
  inside = h.inside;
  held = is ∙ h.held ∙ ap (λ (m : Mine). holds_one m.0.past at (OfShelf f)) (sym is);
  fits = subst (λ (m : Mine). Fitted (start_of hash_of shared.began) m.0) (sym is) h.fits;
}

-- what is held stands for a state
pub both_stand : {K : Type 0} (hash_of : K → List ℕ → ℕ) (shared : SharedState K) (seat : Sitter) (at : ℕ) (f : ShelfContent) (d : DeskState) (key : List ℕ)
    → shelf_in (start_of hash_of shared.began) key ≡ at → HoldsBoth hash_of shared seat at f d → CanStandAt key f d
both_stand hash_of shared seat at f d key own h =
    can_stand (start_of hash_of shared.began) at f d key own seat.me.0 (ap (λ (m : Mine). m.0.bays) h.held) h.fits

-- what comes of a step in each state that is held comes of it after some history
pub both_come : {K : Type 0} (hash_of : K → List ℕ → ℕ) (shared : SharedState K) (seat : Sitter) (at : ℕ) (f : ShelfContent) (d : DeskState) (step : KeyStep) (now : ℕ)
    → shelf_in (start_of hash_of shared.began) (key_of step) ≡ at → HoldsBoth hash_of shared seat at f d
    → (so : Outcome → Type 0) → ((m : Plain) → StandsAt (key_of step) f d m → so (plain m step now)) → CanCome (start_of hash_of shared.began) seat.me.0.past step now so
both_come hash_of shared seat at f d step now own h so comes =
    comes_after (start_of hash_of shared.began) at f d step now own seat.me.0 (ap (λ (m : Mine). m.0.bays) h.held) h.fits so comes

-- a step was refused to a caller who held a shelf and the desk, and gave both back
pub refused_both : {A : Type 0} {K : Type 0} (hash_of : K → List ℕ → ℕ) (shared : SharedState K) (seat : Sitter) (new : CallerState) (at : ℕ) (f : ShelfContent) (d : DeskState)
    (step : KeyStep) (now : ℕ) (result : Result A StepFault) (fault : StepFault)
    → shelf_in (start_of hash_of shared.began) (key_of step) ≡ at → HoldsBoth hash_of shared seat at f d
    → new.table ≡ seat.table_id → new.past ≡ seat.me.0.past → result ≡ Err fault
    → (result ≡ Err NumbersSpent → IsSpent step now f d) → (result ≡ Err NoMemory → MayWantMemory step now f d)
    → IsAnswered (start_of hash_of shared.began) (caller_at seat) step now Refuses (Err fault) new
refused_both hash_of shared seat new at f d step now result fault own holds table past is spent wants =
    let start = start_of hash_of shared.began in
    let agrees : Agrees start seat.me.0.past = record { log = holds.fits.log; legal = holds.fits.legal; keeps = holds.fits.keeps } in
    record {
      same = (table, subst (Agrees start) (sym past) agrees);
      ok = tt;
      err = past;
      fault = refuses start seat.me.0.past step now result fault is
          (λ e. both_come hash_of shared seat at f d step now own holds MayFail (wants e))
          (λ e. both_come hash_of shared seat at f d step now own holds (λ outcome. outcome ≡ Spent) (spent e));
    }

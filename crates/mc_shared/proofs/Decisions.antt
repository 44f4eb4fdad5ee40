-- Which decisions are the plain machine's: those that take a state on by one shelf and the desk.
use Rattle.mc_shared.proofs.Words.{◌≡◌, ◌≢◌, ℕ, ◌<◌, List, [], ◌∷◌, Result, Err, sym, refl, ap, ◌∙◌, subst, arith, Plain, Outcome, plain, KeyStep, Reply, ShelfContent, DeskState, StandsAt}
use Rattle.mc_shared.proofs.Words.{CanStandAt, key_of, IsShelfOf, IsDeskOf, GoesTo, Content, OfShelf, OfDesk, Beginning, Operation, Stepped, shelf_in, left_by, next, after, IsRight, FitsBay}
use Rattle.mc_shared.proofs.Words.{AllFit, KeepsLimits, holds_bay, SeatView, Decides, Fitted, StepFault, NoMemory, NumbersSpent, Past, CanCome, MayFailAfter, Refuses, GoesByStep}
use Rattle.mc_shared.proofs.Words.{GoesWithoutDesk, IsSpentAfter}
use Rattle.mc_shared.proofs.StockedKept.{here}

-- a bay that isn't held is another than one that is
pub other_bay : (b c : ℕ) (x : Content) → holds_bay c (b, x) ≡ 0 → c ≢ b
other_bay b c x none same = let one : holds_bay c (b, x) ≡ 1 = ap (λ k. holds_bay k (b, x)) same ∙ here b x in omega (arith, none, one)

module _ (start : Beginning) (at : ℕ) where
  abbrev pub Goes : (old new : Plain) → ShelfContent → DeskState → Type 0
  Goes = GoesTo start.hash_of start.shelves at

  abbrev pub IsPart : Plain → ShelfContent → Type 0
  IsPart m = IsShelfOf start.hash_of start.shelves m at

  limits_stay : (m m' : Plain) (f : ShelfContent) (d : DeskState) → Goes m m' f d → KeepsLimits start m → KeepsLimits start m'
  limits_stay m m' f d goes keeps = record {
    greatest = goes.greatest ∙ keeps.greatest;
    limit = goes.limit ∙ keeps.limit;
  }

  -- ---- decided by giving back the shelf

  module _ (f f' : ShelfContent) (step : KeyStep) (now : ℕ) (reply : Reply)
      (alone : (m : Plain) → IsPart m f → GoesWithoutDesk start.hash_of start.shelves at step now m reply f') where
    abbrev what : Operation
    what = Stepped step now reply

    pub goes_alone : (m : Plain) → IsPart m f → (d : DeskState) → IsDeskOf m d → Goes m (next start m what) f' d
    goes_alone m part d is = let goes = alone m part in subst (λ new. Goes m new f' d) (sym (ap (left_by m) goes.answered)) (goes.goes d is)

    settled_else : (m : Plain) → IsPart m f → (c : ℕ) (z : Content) → c ≢ at → FitsBay start m c z → FitsBay start (next start m what) c z
    settled_else m part c (OfShelf g) ne fits =
        let desk = (alone m part).some_desk in (fits.0, (goes_alone m part desk.0 desk.1).others c g ne fits.1)
    settled_else m part c (OfDesk d) ne fits = (fits.0, (goes_alone m part d fits.1).account)

    pub settles : at < start.shelves → Decides start ((at, OfShelf f) ∷ []) at (OfShelf f') what []
    settles low = record {
      places = λ c. refl;
      right = λ m h. ((alone m h.0.1).new, (alone m h.0.1).answered);
      limits = λ m h keeps.
          let desk = (alone m h.0.1).some_desk in
          limits_stay m (next start m what) f' desk.0 (goes_alone m h.0.1 desk.0 desk.1) keeps;
      given = λ m h.
          let desk = (alone m h.0.1).some_desk in
          (low, (goes_alone m h.0.1 desk.0 desk.1).own);
      kept = λ m h. tt;
      others = λ m h c z none fits.
          settled_else m h.0.1 c z (other_bay at c (OfShelf f) (omega (arith, none))) fits;
    }

  -- ---- decided by giving back the shelf, where that leaves the state as it is

  pub changes_nothing : (f : ShelfContent) (operation : Operation)
      → ((m : Plain) → IsPart m f → IsRight m operation × (next start m operation ≡ m)) → at < start.shelves
      → Decides start ((at, OfShelf f) ∷ []) at (OfShelf f) operation []
  changes_nothing f operation same low = record {
    places = λ c. refl;
    right = λ m h. (same m h.0.1).0;
    limits = λ m h. subst (KeepsLimits start) (sym (same m h.0.1).1);
    given = λ m h. subst (λ n. FitsBay start n at (OfShelf f)) (sym (same m h.0.1).1) h.0;
    kept = λ m h. tt;
    others = λ m h c z none. subst (λ n. FitsBay start n c z) (sym (same m h.0.1).1);
  }

  -- ---- decided by giving back the desk, while the shelf is held

  module _ (f f' : ShelfContent) (d d' : DeskState) (what : Operation) (right : (m : Plain) → IsPart m f → IsDeskOf m d → IsRight m what)
      (goes : (m : Plain) → IsPart m f → IsDeskOf m d → Goes m (next start m what) f' d') where
    abbrev both : List (ℕ × Content)
    both = (start.shelves, OfDesk d) ∷ (at, OfShelf f) ∷ []

    applied_else : (m : Plain) → AllFit start m both → (c : ℕ) (z : Content) → c ≢ at
        → c ≢ start.shelves → FitsBay start m c z → FitsBay start (next start m what) c z
    applied_else m h c (OfShelf g) ne ne' fits = (fits.0, (goes m h.1.0.1 h.0.1).others c g ne fits.1)
    applied_else m h c (OfDesk e) ne ne' fits = absurd (ne' fits.0)

    pub applies : at < start.shelves → Decides start both start.shelves (OfDesk d') what ((at, OfShelf f') ∷ [])
    applies low = record {
      places = λ c. refl;
      right = λ m h. right m h.1.0.1 h.0.1;
      limits = λ m h keeps.
          limits_stay m (next start m what) f' d' (goes m h.1.0.1 h.0.1) keeps;
      given = λ m h. (refl, (goes m h.1.0.1 h.0.1).account);
      kept = λ m h. ((low, (goes m h.1.0.1 h.0.1).own), tt);
      others = λ m h c z none fits.
          applied_else m h c z (other_bay at c (OfShelf f) (omega (arith, none)))
          (other_bay start.shelves c (OfDesk d) (omega (arith, none))) fits;
    }

  pub goes_step : (f f' : ShelfContent) (d d' : DeskState) (step : KeyStep) (now : ℕ) (reply : Reply)
      → ((m : Plain) → IsPart m f → IsDeskOf m d → GoesByStep start.hash_of start.shelves at step now m reply f' d')
      → (m : Plain) → IsPart m f → IsDeskOf m d → Goes m (next start m (Stepped step now reply)) f' d'
  goes_step f f' d d' step now reply by_step m part desk =
      subst (λ new. Goes m new f' d') (sym (ap (left_by m) (by_step m part desk).answered)) (by_step m part desk).goes

  -- a step's is so by the law
  pub applies_step : (f f' : ShelfContent) (d d' : DeskState) (step : KeyStep) (now : ℕ) (reply : Reply)
      → ((m : Plain) → IsPart m f → IsDeskOf m d → GoesByStep start.hash_of start.shelves at step now m reply f' d') → at < start.shelves
      → Decides start ((start.shelves, OfDesk d) ∷ (at, OfShelf f) ∷ []) start.shelves (OfDesk d')
      (Stepped step now reply) ((at, OfShelf f') ∷ [])
  applies_step f f' d d' step now reply by_step =
      applies f f' d d' (Stepped step now reply) (λ m part desk. ((by_step m part desk).new, (by_step m part desk).answered))
      (λ m part desk.
      subst (λ new. Goes m new f' d') (sym (ap (left_by m) (by_step m part desk).answered)) (by_step m part desk).goes)

-- a state that a shelf and a desk fit
pub stands : (start : Beginning) (m : Plain) (at : ℕ) (f : ShelfContent) (d : DeskState)
    (key : List ℕ) → shelf_in start key ≡ at → IsShelfOf start.hash_of start.shelves m at f → IsDeskOf m d → StandsAt key f d m
stands start m at f d key own part desk = record {
  greatest = sym part.greatest;
  cut = sym part.cut;
  item = sym (part.items key own);
  next_unique = sym desk.next_unique;
  limit = sym desk.limit;
  pages = sym desk.pages;
  out = desk.out;
}

-- a shelf and a desk that are held stand for a state
pub can_stand : (start : Beginning) (at : ℕ) (f : ShelfContent) (d : DeskState) (key : List ℕ) → shelf_in start key ≡ at → (v : SeatView)
    → v.bays ≡ (start.shelves, OfDesk d) ∷ (at, OfShelf f) ∷ [] → Fitted start v → CanStandAt key f d
can_stand start at f d key own v is fitted =
    let m : Plain = after start start.plain fitted.log in
    let fits : AllFit start m ((start.shelves, OfDesk d) ∷ (at, OfShelf f) ∷ []) = subst (AllFit start m) is fitted.fits in
    record { plain = m; stands = stands start m at f d key own fits.1.0.1 fits.0.1 }

-- they are parts of some state
pub part_held : (start : Beginning) (at : ℕ) (f : ShelfContent) (d : DeskState) (v : SeatView)
    → v.bays ≡ (start.shelves, OfDesk d) ∷ (at, OfShelf f) ∷ [] → Fitted start v
    → (hash_of : List ℕ → ℕ) × (shelves : ℕ) × (place : ℕ) × (m : Plain) × IsShelfOf hash_of shelves m place f × IsDeskOf m d
part_held start at f d v is fitted =
    let m : Plain = after start start.plain fitted.log in
    let fits : AllFit start m ((start.shelves, OfDesk d) ∷ (at, OfShelf f) ∷ []) = subst (AllFit start m) is fitted.fits in
    (start.hash_of, start.shelves, at, m, fits.1.0.1, fits.0.1)

-- what comes of a step in each state that a shelf and a desk stand for comes of it after some history,
-- where they are held
pub comes_after : (start : Beginning) (at : ℕ) (f : ShelfContent) (d : DeskState) (step : KeyStep)
    (now : ℕ) → shelf_in start (key_of step) ≡ at → (v : SeatView)
    → v.bays ≡ (start.shelves, OfDesk d) ∷ (at, OfShelf f) ∷ [] → Fitted start v
    → (so : Outcome → Type 0) → ((m : Plain) → StandsAt (key_of step) f d m → so (plain m step now)) → CanCome start v.past step now so
comes_after start at f d step now own v is fitted so comes =
    let m : Plain = after start start.plain fitted.log in
    let fits : AllFit start m ((start.shelves, OfDesk d) ∷ (at, OfShelf f) ∷ []) = subst (AllFit start m) is fitted.fits in
    record {
      log = fitted.log;
      legal = fitted.legal;
      keeps = fitted.keeps;
      outcome = comes m (stands start m at f d (key_of step) own fits.1.0.1 fits.0.1);
    }

-- what is told of a fault
pub refuses : {A : Type 0} (start : Beginning) (p : Past) (step : KeyStep) (now : ℕ) (result : Result A StepFault)
    (fault : StepFault) → result ≡ Err fault → (result ≡ Err NoMemory → MayFailAfter start p step now)
    → (result ≡ Err NumbersSpent → IsSpentAfter start p step now) → Refuses start p step now fault
refuses start p step now result NoMemory is wants spent = λ _. wants is
refuses start p step now result NumbersSpent is wants spent = spent is

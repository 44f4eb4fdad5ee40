-- Steps one after another.
use Rattle.std.proofs.Common.{ℕ, List, [], ◌∷◌, ◌++◌, refl, sym, ap, subst}
use Rattle.mc_time.specs.Chains.{Chain, Repeats, none_yet, one_more}

module _ {S L : Type 0} (Step : S → L → S → Type 0) where
  -- a chain behind another
  pub join : (front rest : List L) (old mid new : S) → Chain Step old front mid → Chain Step mid rest new → Chain Step old (front ++ rest) new
  join [] rest old mid new chain after = subst (λ (s : S). Chain Step s rest new) chain after
  join (x ∷ front) rest old mid new chain after = (chain.0, chain.1, join front rest chain.0 mid new chain.2 after)

  -- a step more
  pub more : (labels : List L) (label : L) (old mid new : S) → Chain Step old labels mid → Step mid label new → Chain Step old (labels ++ label ∷ []) new
  more labels label old mid new chain step = join labels (label ∷ []) old mid new chain (new, step, refl)

  -- a single step
  pub alone : (label : L) (old new : S) → Step old label new → Chain Step old (label ∷ []) new
  alone label old new step = (new, step, refl)

  pub one : (label : L) (old new : S) → Chain Step old (label ∷ []) new → Step old label new
  one label old new (mid, step, same) = subst (Step old label) (sym same) step

  -- another rest behind the same front, where it goes as well from wherever the front leads to
  pub behind : (some others front : List L) (old new : S) → ((mid : S) → Chain Step old front mid → Chain Step mid some new → Chain Step mid others new)
      → Chain Step old (front ++ some) new → Chain Step old (front ++ others) new
  behind some others [] old new same chain = same old refl chain
  behind some others (x ∷ front) old new same chain = (chain.0, chain.1, behind some others front chain.0 new (λ mid on. same mid (chain.0, chain.1, on)) chain.2)

  -- what each step keeps
  pub keeps : (Holds : S → Type 0) → ((old new : S) (label : L) → Step old label new → Holds old → Holds new) → (labels : List L) (old new : S) → Chain Step old labels new → Holds old → Holds new
  keeps Holds each [] old new chain holds = subst Holds (sym chain) holds
  keeps Holds each (x ∷ labels) old new chain holds = keeps Holds each labels chain.0 new chain.2 (each old chain.0 x chain.1 holds)

  -- the same of other states, where that is so of each step, and each step keeps what it needs
  pub along : {T : Type 0} (Other : T → L → T → Type 0) (f : S → T) (Holds : S → Type 0) → ((old new : S) (label : L) → Step old label new → Holds old → Holds new × Other (f old) label (f new))
      → (labels : List L) (old new : S) → Holds old → Chain Step old labels new → Chain Other (f old) labels (f new)
  along Other f Holds each [] old new holds chain = ap f chain
  along Other f Holds each (x ∷ labels) old new holds chain = let step = each old chain.0 x chain.1 holds in (f chain.0, step.1, along Other f Holds each labels chain.0 new step.0 chain.2)

-- what each of the steps keeps
pub repeats_keep : {S : Type 0} (step : S → S → Type 0) (Holds : S → Type 0) → ((old new : S) → step old new → Holds old → Holds new)
    → (count : ℕ) (old new : S) → Repeats step count old new → Holds old → Holds new
repeats_keep step Holds each count old new none_yet holds = holds
repeats_keep step Holds each count old new (one_more {count = before} {mid = mid} front one) holds = each mid new one (repeats_keep step Holds each before old mid front holds)

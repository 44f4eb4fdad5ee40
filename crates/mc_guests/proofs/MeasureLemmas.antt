-- What measuring a block does to a store.
use Rattle.std.proofs.Common.{ℕ, List, inl, inr, Result, Ok, Err, IfOk, OnErr}
use Rattle.mc_protocol.specs.declared.step.Steps.{Ghosts as Relations}
use Rattle.mc_guests.specs.Asks.{ReadsLength, MayRead, MayAsk, MeasuresNext}

module _ {S E : Type 0} (relations : Relations S) (now : ℕ) (names : List ℕ → Type 0) (key : List ℕ) (named : names key) (before after : S) where
  -- a key that is named was read at most
  pub asks_named : (result : Result ℕ E) → IfOk result (λ bytes. ReadsLength relations.took now key bytes before after)
      → OnErr result (MayRead relations.took relations.same now key before after) → MayAsk relations now names before after
  asks_named (Ok bytes) ok err = inr (inr (record { key = key; named = named; reply = ok.reply; took_it = ok.took_it }))
  asks_named (Err fault) ok (inl same) = inr (inl same)
  asks_named (Err fault) ok (inr read) = inr (inr (record { key = key; named = named; reply = read.0; took_it = read.1 }))

  -- the block of a key that is named has that length
  pub measures_named : (result : Result ℕ E) → IfOk result (λ bytes. ReadsLength relations.took now key bytes before after)
      → IfOk result (λ bytes. MeasuresNext relations now names bytes before after)
  measures_named (Ok bytes) ok = inl (record { key = key; named = named; reads = ok })
  measures_named (Err fault) ok = tt

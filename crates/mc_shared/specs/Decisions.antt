-- The meaning of a decision.
use Rattle.std.specs.Prelude.{ℕ, ◌-◌, List, [], ◌∷◌, replicate, slice_index}
use Rattle.std.specs.FinMap.{len}
use Rattle.mc_protocol.specs.declared.step.KeyStep.TheVariants.{Flush}
use Rattle.mc_protocol.specs.declared.reply.Reply.TheVariants.{Flushed as AllFlushed}
use Rattle.mc_shelf.specs.Numbers.{keys_with, numbers}
use Rattle.mc_protocol.specs.Plain.{hit_of}
use Rattle.mc_shelf.specs.Plans.{finished, stood, told_next}
use Rattle.mc_shared.specs.Bays.{Content, OfShelf}
use Rattle.mc_shared.specs.History.{Beginning, Operation, Stepped, Purged as PurgedShelf}
use Rattle.mc_shared.specs.Presence.{word_of}
use Rattle.mc_shared.specs.Stacks.{stacked}
use Rattle.mc_shared.specs.Spread.{spread, keys_in}
use Rattle.mc_shared.specs.declared.decision.Decision.{Decision}
use Rattle.mc_shared.specs.declared.decision.Decision.TheVariants.{Settled, Read, Begun, Purged, NoneDead, Flushed}

-- the operation
abbrev pub operation_of : Decision → Operation
operation_of (Settled step moment reply) = Stepped step.now moment reply.now
operation_of (Read step moment shelf) =
    Stepped step.now moment (hit_of (stood shelf.now.value.content step.now moment))
operation_of (Begun step moment at shelf plan number had) =
    Stepped step.now moment (told_next plan.now.next)
operation_of (Purged at moment shelf before) = PurgedShelf at moment
operation_of (NoneDead at moment) = PurgedShelf at moment
operation_of (Flushed delay moment shelves before) = Stepped (Flush delay) moment AllFlushed

-- the bays that are still held, with their content from then on
abbrev pub still_of : Decision → List (ℕ × Content)
still_of (Settled step moment reply) = []
still_of (Read step moment shelf) = []
still_of (Begun step moment at shelf plan number had) =
    (at, OfShelf (finished plan.now step.now shelf.now.content)) ∷ []
still_of (Purged at moment shelf before) = (at, OfShelf shelf.now.content) ∷ []
still_of (NoneDead at moment) = []
still_of (Flushed delay moment shelves before) = stacked shelves.now.items

-- The words that count too many keys from then on. For a step it is its number's word, as often as
-- the shelf's count exceeds its items once the step is finished. For a purge or a flush it is each
-- number's word, as often as its count exceeds the keys that are left.
abbrev pub surplus_of : Beginning → Decision → List ℕ
surplus_of start (Settled step moment reply) = []
surplus_of start (Read step moment shelf) = []
surplus_of start (Begun step moment at shelf plan number had) =
    replicate (had - len (finished plan.now step.now shelf.now.content).items)
    (word_of start.shelves number)
surplus_of start (Purged at moment shelf before) =
    spread start.shelves (λ n. slice_index before.now n
    - keys_with start.hash_of n shelf.now.content.items) 0 numbers
surplus_of start (NoneDead at moment) = []
surplus_of start (Flushed delay moment shelves before) =
    spread start.shelves
    (λ n. slice_index before.now n - keys_in start.hash_of n shelves.now.items) 0 numbers

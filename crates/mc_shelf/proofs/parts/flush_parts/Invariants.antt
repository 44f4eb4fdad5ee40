use Rattle.mc_shelf.proofs.Common.{ArePartsOf, lefts, List, NoneRises, Plain, ℕ}
use Rattle.mc_shelf.proofs.FlushLemmas.{AreFlushedTo}
use Rattle.mc_shelf.proofs.parts.flush_parts.Given as goal

abbrev pub invariant-loop-shelf : goal.invariant-loop-shelf
invariant-loop-shelf l =
    record {
      parts : (hash_of : List ℕ → ℕ) (state : Plain) (count : ℕ) → ArePartsOf hash_of state l.fn.shelves count l.fn.desk
          → AreFlushedTo hash_of count l.delay l.now state l.shelf-index l.shelves l.desk;
      left : NoneRises (lefts l.fn.shelves) (lefts l.shelves);
    }

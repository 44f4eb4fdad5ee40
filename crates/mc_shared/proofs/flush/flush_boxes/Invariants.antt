use Rattle.mc_shared.proofs.Words.{◌≡◌, true, ℕ, List, Plain, ArePartsOf, AreFlushedTo}
use Rattle.mc_shared.specs.Emptied.{cut_later}
use Rattle.mc_shared.proofs.LaterLemmas.{first_changed}
use Rattle.mc_shared.proofs.flush.flush_boxes.Given as goal

abbrev pub invariant-loop-shelf : goal.invariant-loop-shelf
invariant-loop-shelf l =
    ((hash_of : List ℕ → ℕ) (state : Plain) (count : ℕ) → ArePartsOf hash_of state l.fn.shelves count l.fn.desk
    → AreFlushedTo hash_of count l.delay l.now state l.shelf-index l.shelves l.desk)
    × (l.all_stay ≡ true → l.shelves ≡ first_changed (cut_later l.delay l.now) l.shelf-index l.fn.shelves)

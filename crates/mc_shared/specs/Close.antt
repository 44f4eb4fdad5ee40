-- The result of closing the store.
use Rattle.std.specs.Prelude.{◌≡◌, List}
use Rattle.mc_protocol.specs.Plain.{Plain}
use Rattle.mc_shelf.specs.States.{ShelfState, DeskState}
use Rattle.mc_shelf.specs.Parts.{ArePartsOf}
use Rattle.mc_shared.specs.History.{Beginning, HistoryEntry, after, IsLegal}
use Rattle.mc_shared.specs.Past.{Past, KeptBy}
use Rattle.mc_shared.specs.Rule.{KeepsLimits}

-- all shelves and the desk are the parts of the state after a legal history that keeps the past
pub record Gathered (began : Beginning) (p : Past) (shelves : List ShelfState) (desk : DeskState) : Type
    0 where
  pub log : List HistoryEntry
  pub legal : IsLegal began began.plain log
  pub keeps : KeptBy log p
  pub limits : KeepsLimits began (after began began.plain log)
  pub parts : ArePartsOf began.hash_of (after began began.plain log) shelves began.shelves desk

-- the state is that after a legal history that keeps the past
pub record IsAfter (began : Beginning) (p : Past) (m : Plain) : Type 0 where
  pub log : List HistoryEntry
  pub legal : IsLegal began began.plain log
  pub keeps : KeptBy log p
  pub state : m ≡ after began began.plain log

-- What is counted of a shelf, and of a class, in the state after a legal history.
use Rattle.std.specs.Prelude.{◌≡◌, ℕ, List}
use Rattle.mc_sizes.specs.declared.account.Account.{Account}
use Rattle.mc_protocol.specs.Plain.{pages_of, count_of}
use Rattle.mc_shelf.specs.States.{ShelfState}
use Rattle.mc_shelf.specs.Parts.{IsShelfOf}
use Rattle.mc_shelf.specs.Counts.{counts_of}
use Rattle.mc_shelf.specs.declared.counts.ShelfCounts.{ShelfCounts}
use Rattle.mc_shared.specs.History.{Beginning, HistoryEntry, after, IsLegal}
use Rattle.mc_shared.specs.Past.{Past, KeptBy}

-- the counts are those of the shelf that has its keys' part of the state after a legal history,
-- which keeps the past
pub record AreCountsAfter (began : Beginning) (p : Past) (at : ℕ) (counts : ShelfCounts) : Type 0
  where
    pub log : List HistoryEntry
    pub legal : IsLegal began began.plain log
    pub keeps : KeptBy log p
    pub shelf : ShelfState
    pub part : IsShelfOf began.hash_of began.shelves (after began began.plain log) at shelf.content
    pub counted : counts ≡ counts_of shelf

-- the account has the pages of the class, and the chunks of the items that lie in it, in the state
-- after a legal history, which keeps the past
pub record IsAccountAfter (began : Beginning) (p : Past) (class : ℕ) (account : Account) : Type 0
  where
    pub log : List HistoryEntry
    pub legal : IsLegal began began.plain log
    pub keeps : KeptBy log p
    pub pages : account.pages ≡ pages_of (after began began.plain log) class
    pub out : account.out ≡ count_of (after began began.plain log).items class

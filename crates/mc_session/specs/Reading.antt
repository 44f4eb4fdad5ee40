-- Which key a session reads next.
use Rattle.std.specs.Prelude.{◌≡◌, ◌++◌, ℕ, List, [], Some, IsTrue, slice_get}
use Rattle.mc_protocol.specs.Commands.{Command, Shape, Single, Retrieval, Alone, shape}
use Rattle.mc_parse.specs.Units.{Request, Spells}
use Rattle.mc_session.specs.Turns.{SessionState, to_read}

-- the keys that a command of a shape reads: those of a retrieval
abbrev pub keys_read_by : Shape → List (List ℕ)
keys_read_by (Single step has_block quiet) = []
keys_read_by (Retrieval exptime keys with_unique) = keys
keys_read_by (Alone lone) = []

-- the keys that a command reads, one a turn
abbrev pub keys_read : Command → List (List ℕ)
keys_read command = keys_read_by (shape command)

-- the next turn of an open session's stream is a retrieval's, and reads this key
pub record ReadsNext (s : SessionState) (key : List ℕ) : Type 0 where
  pub command : Command
  pub front : List ℕ
  pub rest : List ℕ
  pub opens : IsTrue s.is_open
  pub parts : to_read s.unread ≡ front ++ rest
  pub spelled : Spells s.unread.greatest (Request command) front
  pub is_next : slice_get (keys_read command) s.taken ≡ Some key

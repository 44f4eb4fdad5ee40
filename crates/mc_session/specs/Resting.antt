-- The memory that a session keeps when idle.
use Rattle.std.specs.Prelude.{ℕ, ◌+◌}
use Rattle.mc_bytes.specs.Queues.{first_piece}
use Rattle.mc_parse.specs.Feeds.{kept_in_feed}
use Rattle.mc_session.specs.Outputs.{kept_output}

-- the most memory in bytes that an idle session keeps, without unread bytes and output
abbrev pub resting : ℕ
resting = first_piece + first_piece

-- the most memory in bytes that a session keeps without unread bytes and output
abbrev pub kept_empty : ℕ
kept_empty = kept_in_feed + kept_output

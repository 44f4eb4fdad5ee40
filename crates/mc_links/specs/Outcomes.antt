-- How a step came out.
use Rattle.mc_protocol.specs.declared.reply.Reply.{Reply}
use Rattle.mc_protocol.specs.declared.reply.Reply.TheVariants as told
use Rattle.mc_links.specs.declared.tally.Outcome.{Outcome}
use Rattle.mc_links.specs.declared.tally.Outcome.TheVariants.{Stored, NotStored, Exists, NotFound, Miss, Hit, Touched, Deleted, Number, NotNumeric, TooLarge, NoChunk, Flushed}

-- how a step came out that was answered so
abbrev pub outcome_of : Reply → Outcome
outcome_of told.Stored = Stored
outcome_of told.NotStored = NotStored
outcome_of told.Exists = Exists
outcome_of told.NotFound = NotFound
outcome_of told.Miss = Miss
outcome_of (told.Hit flags unique block) = Hit
outcome_of told.Touched = Touched
outcome_of told.Deleted = Deleted
outcome_of (told.Number number) = Number
outcome_of told.NotNumeric = NotNumeric
outcome_of told.TooLarge = TooLarge
outcome_of told.NoChunk = NoChunk
outcome_of told.Flushed = Flushed

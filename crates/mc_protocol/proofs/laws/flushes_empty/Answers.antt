use Rattle.mc_protocol.proofs.LawLemmas.{flushed_once, flushed_kept, flushed_dead}
use Rattle.mc_protocol.proofs.laws.flushes_empty.Goals as goal

pub returns : goal.returns
returns c = record { once = flushed_once; kept = flushed_kept; later = flushed_dead }

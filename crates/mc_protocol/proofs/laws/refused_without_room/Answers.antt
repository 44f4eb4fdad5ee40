use Rattle.mc_protocol.proofs.RefusalLemmas.{refused-exactly, refused-left}
use Rattle.mc_protocol.proofs.laws.refused_without_room.Goals as goal

pub returns : goal.returns
returns c = record { exactly = refused-exactly; unchanged = refused-left }

use Rattle.mc_command.proofs.RoomLemmas.{IsLeft}
use Rattle.mc_command.proofs.plain.room.chunks_but.Given as goal

abbrev pub invariant-loop-key : goal.invariant-loop-key
invariant-loop-key l = IsLeft l.fn.class l.fn.chunks l.fn.items.entries l.key-iterator l.left

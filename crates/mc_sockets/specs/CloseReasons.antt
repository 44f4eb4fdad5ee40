-- Why connections are closed.
use Rattle.std.specs.Prelude.{ℕ}
use denote.Enum.Declared.{tag_of}
use Rattle.mc_sockets.specs.contracts.connection.CloseReason.{the_type}
use Rattle.mc_sockets.specs.declared.connection.CloseReason.{CloseReason}

-- the place of a reason of a close, among all
abbrev pub parting_place : CloseReason → ℕ
parting_place reason = tag_of the_type reason

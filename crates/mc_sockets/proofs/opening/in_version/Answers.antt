use Rattle.std.proofs.Common.{ap, arith, codes}
use Rattle.mc_sockets.specs.Openings.{shows}
use Rattle.mc_sockets.specs.declared.opening.Protocol.TheVariants.{Http}
use Rattle.mc_sockets.proofs.OpeningLemmas.{next_byte, wrong_byte}
use Rattle.mc_sockets.proofs.opening.in_version.Goals as goal

pub returns-then-byte-count : goal.returns-then-byte-count
returns-then-byte-count c = λ text. ap (shows Http) (next_byte (codes "HTTP/1.") c.args.count c.args.byte text (omega (arith, c.if-count-lt7.true)) c.if-byte-count.true)

pub returns-else-byte-count : goal.returns-else-byte-count
returns-else-byte-count c = λ text. ap (shows Http) (wrong_byte (codes "HTTP/1.") c.args.count c.args.byte text (omega (arith, c.if-count-lt7.true)) c.if-byte-count.false)

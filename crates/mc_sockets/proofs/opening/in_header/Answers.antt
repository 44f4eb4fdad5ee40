use Rattle.std.proofs.Common.{ap, sym, ◌∙◌, arith}
use Rattle.mc_sockets.specs.Headers.{is_binary_header}
use Rattle.mc_sockets.specs.Openings.{shows}
use Rattle.mc_sockets.specs.declared.opening.Protocol.TheVariants.{Binary}
use Rattle.mc_sockets.proofs.OpeningLemmas.{whole_header}
use Rattle.mc_sockets.proofs.opening.in_header.Goals as goal

pub returns-then-is_binary_header : goal.returns-then-is_binary_header
returns-then-is_binary_header c = λ text.
    sym (ap (shows Binary) (ap is_binary_header (whole_header c.args.header text c.args.byte (omega (arith, c.if-count-lt-HEADER.false, c.args.header.short))) ∙ sym c.is_binary_header.ensures ∙ c.if-is_binary_header.true))

pub returns-else-is_binary_header : goal.returns-else-is_binary_header
returns-else-is_binary_header c = λ text.
    sym (ap (shows Binary) (ap is_binary_header (whole_header c.args.header text c.args.byte (omega (arith, c.if-count-lt-HEADER.false, c.args.header.short))) ∙ sym c.is_binary_header.ensures ∙ c.if-is_binary_header.false))

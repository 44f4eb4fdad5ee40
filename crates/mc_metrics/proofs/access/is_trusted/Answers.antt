use Rattle.std.proofs.Common.{sym, ◌∙◌}
use Rattle.httparse.specs.Spans.{header_bytes}
use Rattle.mc_metrics.specs.Access.{is_foreign}
use Rattle.mc_metrics.proofs.AccessLemmas.{and_not}
use Rattle.mc_metrics.proofs.access.is_trusted.Goals as goal

pub returns-then-is_loopback : goal.returns-then-is_loopback
returns-then-is_loopback c =
    and_not is_foreign (header_bytes c.args.bytes.now) c.args.spans.now _ _
    (sym c.is_loopback.ensures ∙ c.if-is_loopback.true) c.has_foreign.ensures

use Rattle.std.proofs.Common.{◌≡◌, ◌∙◌, ap, ◌++◌, take, arith}
use Rattle.std.specs.Prelude.{◌==◌}
use Rattle.std.specs.List.{count_by}
use Rattle.mc_telemetry.proofs.ListingLemmas.{consumes-more, names-more}
use Rattle.mc_telemetry.proofs.process.count_names.Goals as goal

pub loop-turn-preserved : goal.loop-turn-preserved
loop-turn-preserved g c =
    let was = c.loop-turn.invariant in
    let piece = take c.in_ok-read.read c.read.new.buf in
    let counted : c.ends_in.result ≡ count_by (λ b. b == 0) piece =
    c.ends_in.ensures ∙ ap (count_by (λ b. b == 0)) c.split_at.ensures.front in (
      was.0 ++ piece,
      consumes-more _ _ _ was.0 piece was.1 c.in_ok-read.ensures.bytes.0,
      omega (arith, c.saturating_add-count.ensures, counted, was.2, names-more was.0 piece),
    )

use Rattle.std.proofs.Common.{◌≡◌, false, take}
use Rattle.std.specs.List.{list_any}
use Rattle.mc_host.specs.Covers.{is_wide_at}
use Rattle.mc_host.proofs.covers.has_wide_at.Given as goal

abbrev pub invariant-loop-endpoint : goal.invariant-loop-endpoint
invariant-loop-endpoint l = list_any (is_wide_at l.port) (take l.endpoint-index l.endpoints.others.items) ≡ false

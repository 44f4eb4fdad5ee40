use Rattle.std.proofs.Common.{subst, ◌++◌, Ok}
use Rattle.mc_links.specs.Gathered.{Gathers}
use Rattle.mc_links.proofs.GatheringLemmas.{gathers_twice}
use Rattle.mc_links.proofs.gathering.Gathering.send_again.Goals as goal

pub returns-in-Ok-Later-clause-gathers : goal.returns-in-Ok-Later-clause-gathers
returns-in-Ok-Later-clause-gathers g c =
    let bytes = c.args.bytes.now ++ c.args.behind.now in
    let first = subst (λ f. Gathers c.args.self.now bytes (Ok f) c.send.new.self) c.in-Ok-Later.field-0-is c.in-Ok-Later.ensures.gathers in
    gathers_twice c.args.self.now c.send.new.self c.send-in-Ok-Later.new.self first bytes c.send-in-Ok-Later.result c.send-in-Ok-Later.ensures.gathers

use Rattle.mc_grow.proofs.CellLemmas.{first_from}
use Rattle.mc_grow.proofs.index.Index.filled_from.Goals as goal

pub returns : goal.returns
returns g c = first_from c.args.self.now c.args.at (record { number = c.in_ok-number.number }) c.in_ok-number.ensures.found c.in_ok-number.ensures.small

use Rattle.mc_grow.proofs.Words.{arith}
use Rattle.mc_grow.proofs.PartLemmas.{put_back_again}
use Rattle.mc_grow.proofs.trying.put_back.Goals as goal

pub returns-clause-items : goal.returns-clause-items
returns-clause-items g c items inside there out =
    put_back_again items c.args.strays.now.items c.push_reserved.new.self.items c.swap.new.self.items c.args.at c.len-last.result c.args.entry inside there out
    c.push_reserved.ensures.items (omega (arith, c.len-last.ensures, c.args.strays.now.ok.0)) c.swap.ensures.by_index
    (omega (arith, c.swap.ensures.len, c.push_reserved.ensures.len, out.shorter, c.swap.new.self.ok.0, c.args.strays.now.ok.0))

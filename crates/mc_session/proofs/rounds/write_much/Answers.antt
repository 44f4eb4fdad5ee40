use Rattle.mc_session.proofs.ExchangeLemmas.{wrote_nothing}
use Rattle.mc_session.proofs.rounds.write_much.Goals as goal

pub returns-else-is_full-clause-wrote : goal.returns-else-is_full-clause-wrote
returns-else-is_full-clause-wrote g c = wrote_nothing c.args.endpoint.now c.args.store.now (g.W.Write.contents c.args.writer.now)

use Rattle.mc_run.proofs.RunLemmas.{serves, not_begun}
use Rattle.mc_run.proofs.serving.session.Goals as goal

pub returns-in_default : goal.returns-in_default
returns-in_default g c =
    not_begun c.args.settings c.now.result (g.C.Clock.may_give c.args.clock.now) c.now.ensures (record {})
    (g.R.Read.remaining c.args.reader.now) (g.W.Write.contents c.args.writer.now)

pub returns : goal.returns
returns g c =
    serves c.args.settings c.now.result (g.C.Clock.may_give c.args.clock.now) c.now.ensures (record {})
    (g.R.Read.remaining c.args.reader.now) (g.R.Read.remaining c.serve_one.new.reader)
    (g.W.Write.contents c.args.writer.now) (g.W.Write.contents c.serve_one.new.writer)
    c.in-Ok.world c.serve_one.new.world c.serve_one.result
    c.in-Ok.ensures
    c.serve_one.ensures.ok c.serve_one.ensures.served c.serve_one.ensures.memory

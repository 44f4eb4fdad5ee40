use Rattle.std.proofs.Common.{subst, sym}
use Rattle.mc_sockets.specs.LinkTables.{AnswersAt, Patrols}
use Rattle.mc_sockets.specs.declared.link_table.SweepAction.{SweepAction}
use Rattle.mc_sockets.proofs.link_table.LinkTable.look_at.Goals as goal

pub returns-in-EndIdle : goal.returns-in-EndIdle
returns-in-EndIdle g c =
    subst (λ (p : SweepAction). AnswersAt (Patrols g.F.ReadinessCell.known p c.args.look c.args.self.now) c.args.at c.end_if_idle.result c.args.self.now c.end_if_idle.new.self)
    (sym c.in-EndIdle.is) c.end_if_idle.ensures

pub returns-in-AskUnheard : goal.returns-in-AskUnheard
returns-in-AskUnheard g c =
    subst (λ (p : SweepAction). AnswersAt (Patrols g.F.ReadinessCell.known p c.args.look c.args.self.now) c.args.at c.ask_or_close.result c.args.self.now c.ask_or_close.new.self)
    (sym c.in-AskUnheard.is) c.ask_or_close.ensures

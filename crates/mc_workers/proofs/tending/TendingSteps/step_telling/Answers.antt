use Rattle.std.proofs.Common.{◌∙◌, subst, OnOk}
use Rattle.mc_protocol.specs.declared.reply.Reply.{Reply}
use Rattle.mc_shared.specs.Asking.{AskingState, AsksStep, AsksInVain}
use Rattle.mc_workers.proofs.WorkLemmas.{of_same}
use Rattle.mc_workers.proofs.tending.TendingSteps.step_telling.Goals as goal

pub returns-clause-told : goal.returns-clause-told
returns-clause-told g c =
    of_same (λ (old new : AskingState g.row.K.Denot). OnOk c.step_telling-told.result
    ((reply : Reply) × AsksStep g.K.KeyHash.hash_of old c.args.step.now c.args.now reply new
    × g.A.Answer.told c.args.answer.now reply c.step_telling-told.new.answer)) c.self.view_is c.grow_after.ensures c.step_telling-told.ensures.told

pub returns-clause-untold : goal.returns-clause-untold
returns-clause-untold g c = λ untold.
    of_same (λ (old new : AskingState g.row.K.Denot). (reply : Reply) × AsksStep g.K.KeyHash.hash_of old c.args.step.now c.args.now reply new)
    c.self.view_is c.grow_after.ensures (c.step_telling-told.ensures.untold untold)

pub returns-clause-spent : goal.returns-clause-spent
returns-clause-spent g c = λ spent.
    let vain = c.step_telling-told.ensures.spent spent in
    (subst (λ (old : AskingState g.row.K.Denot). AsksInVain g.K.KeyHash.hash_of old c.args.step.now c.args.now) c.self.view_is vain.0, c.grow_after.ensures ∙ vain.1 ∙ c.self.view_is)

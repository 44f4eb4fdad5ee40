use Rattle.std.proofs.Common.{subst, IfOk}
use Rattle.mc_protocol.specs.declared.reply.Reply.{Reply}
use Rattle.mc_shared.specs.Asking.{AskingState, AsksStep, AsksInVain}
use Rattle.mc_workers.proofs.WorkLemmas.{of_same}
use Rattle.mc_workers.proofs.tending.TendingSteps.step.Goals as goal

pub returns-clause-took : goal.returns-clause-took
returns-clause-took g c =
    of_same (λ (old new : AskingState g.row.K.Denot). IfOk c.step-answer.result (λ (reply : Reply). AsksStep g.K.KeyHash.hash_of old c.args.step.now c.args.now reply new))
    c.self.view_is c.grow_after.ensures c.step-answer.ensures.took

pub returns-clause-spent : goal.returns-clause-spent
returns-clause-spent g c = λ spent.
    subst (λ (old : AskingState g.row.K.Denot). AsksInVain g.K.KeyHash.hash_of old c.args.step.now c.args.now) c.self.view_is (c.step-answer.ensures.spent spent)

use Rattle.std.proofs.Common.{ℕ, List, Option, ap, subst, ◌∙◌}
use Rattle.mc_protocol.specs.declared.row.Row.{Row}
use Rattle.mc_protocol.specs.Plain.{Entry, row_of, standing}
use Rattle.mc_command.specs.Steps.{Ends, applied}
use Rattle.mc_command.proofs.WriteLemmas.{stands-is}
use Rattle.mc_command.proofs.plain.PlainStore.perform_row.Goals as goal

pub returns : goal.returns
returns c =
    let step = c.args.step.now in
    let old = c.args.self.now in
    let item = stands-is c.standing_item.result ∙ c.standing_item.ensures ∙ ap (λ (key : List ℕ). standing old key c.args.now) c.key.ensures in
    let row = c.row_of-row.ensures ∙ ap (λ (item : Option Entry). row_of step c.args.now item) item in
    subst (λ (r : Row). Ends (applied r step old c.args.now) c.apply.result old c.apply.new.self) row c.apply.ensures

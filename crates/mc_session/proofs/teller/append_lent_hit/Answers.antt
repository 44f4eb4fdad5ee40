use Rattle.std.proofs.Common.{◌++◌, ℕ, List, sym, ap, ◌∙◌}
use Rattle.std.proofs.lemmas.Result.{on_ok_weaker}
use Rattle.mc_protocol.specs.Commands.{Command}
use Rattle.mc_reply.specs.Texts.{front_text, back_text}
use Rattle.mc_reply.proofs.HitLemmas.{hit_around}
use Rattle.mc_session.proofs.LendingLemmas.{text_around}
use Rattle.mc_session.proofs.teller.append_lent_hit.Goals as goal

pub returns-clause-ok : goal.returns-clause-ok
returns-clause-ok g c =
    let command : Command = c.args.asked.now.command.now in
    let parts : List ℕ = c.args.lents in
    let front : ℕ → List ℕ = λ len. front_text command c.args.flags c.args.unique len in
    let around = hit_around command c.args.flags c.args.unique parts c.requires c.args.asked.now.takes_one
    ∙ ap (λ len. front len ++ parts ++ back_text command) (sym c.len.ensures.all) in
    on_ok_weaker c.append_lent.result (text_around _ _ (front c.len.result) parts (back_text command) _ around) c.append_lent.ensures.ok

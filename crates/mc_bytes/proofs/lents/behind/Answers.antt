use Rattle.std.proofs.Common.{take, ap, ◌∙◌, IsTrue}
use Rattle.mc_bytes.proofs.MatchLemmas.{not_begun}
use Rattle.mc_bytes.proofs.lents.behind.Goals as goal

pub returns-else-is_same-clause-none : goal.returns-else-is_same-clause-none
returns-else-is_same-clause-none c =
    λ _ rest begins. not_begun _ _ _ rest (c.split_at.ensures.front ∙ ap (λ n. take n c.args.bytes.now) c.min.ensures) (λ same. let yes : IsTrue c.is_same.result = c.is_same.ensures.1 same in cc) begins

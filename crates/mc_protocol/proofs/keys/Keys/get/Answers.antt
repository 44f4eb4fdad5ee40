use Rattle.std.proofs.Common.{◌∙◌, Bor, List, ℕ}
use Rattle.std.proofs.lemmas.Iterator.Consumers.{nth_from_yields_List, YieldsList-from_first}
use Rattle.mc_protocol.proofs.keys.Keys.get.Goals as goal

pub returns : goal.returns
returns c =
    nth_from_yields_List c.nth.result c.nth.new.self c.args.at c.nth.ensures.ran
    (YieldsList-from_first (λ (x : Bor (List ℕ)). x.now) (λ rest. rest) c.args.self.now (c.of.ensures.value ∙ c.self.view_is))

use Rattle.std.proofs.Common.{◌≡◌, ◌∙◌, sym, true, false}
use Rattle.mc_run.proofs.running.run.Goals as goal

pub returns-then-options-clause-serves : goal.returns-then-options-clause-serves
returns-then-options-clause-serves g c = λ is. (c.new-system.result.start, c.serve.ensures)

pub returns-then-options-clause-listens : goal.returns-then-options-clause-listens
returns-then-options-clause-listens g c = λ not. let no : true ≡ false = sym c.if-options.true ∙ not in cc

pub returns-then-options-clause-answers : goal.returns-then-options-clause-answers
returns-then-options-clause-answers g c = λ not. let no : true ≡ false = sym c.if-options.true ∙ not in cc

pub returns-then-options-clause-reads_nothing : goal.returns-then-options-clause-reads_nothing
returns-then-options-clause-reads_nothing g c = λ not. let no : true ≡ false = sym c.if-options.true ∙ not in cc

pub returns-then-options-clause-writes_nothing : goal.returns-then-options-clause-writes_nothing
returns-then-options-clause-writes_nothing g c = λ not. let no : true ≡ false = sym c.if-options.true ∙ not in cc

pub returns-else-options-clause-serves : goal.returns-else-options-clause-serves
returns-else-options-clause-serves g c = λ is. let no : true ≡ false = sym is ∙ c.if-options.false in cc

pub returns-else-options-clause-answers : goal.returns-else-options-clause-answers
returns-else-options-clause-answers g c = λ not. (c.new-system.result.start, c.listen.ensures.serves)

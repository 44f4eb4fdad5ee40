use Rattle.std.proofs.Common.{◌≡◌, sym, ap, ◌∙◌, Result, Err}
use Rattle.mc_protocol.specs.declared.serving.ServeFault.{ServeFault}
use Rattle.mc_protocol.specs.declared.serving.ServeFault.TheVariants.{NoMemory}
use Rattle.mc_host.specs.declared.end.End.TheVariants.{Served}
use Rattle.mc_host.specs.Ends.{text_of}
use Rattle.mc_host.proofs.end.ending.Goals as goal

pub returns-in-Err-NoMemory-clause-text : goal.returns-in-Err-NoMemory-clause-text
returns-in-Err-NoMemory-clause-text c =
    let fault : c.in-Err-NoMemory.field-0 ≡ NoMemory = cc in
    let is = c.in-Err-NoMemory.is ∙ ap (λ (f : ServeFault). Err f) fault in
    sym (ap (λ (answer : Result (Unit {0}) ServeFault). text_of (Served answer)) is)

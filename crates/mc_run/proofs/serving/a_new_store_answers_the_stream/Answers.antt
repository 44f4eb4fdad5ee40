use Rattle.std.proofs.Common.{◌≡◌, ◌++◌, ℕ, List, [], Option, Some, Err, refl, arith}
use Rattle.mc_protocol.specs.Plain.{Plain, opening}
use Rattle.mc_parse.specs.Units.{ProtocolUnit}
use Rattle.mc_parse.specs.Streams.{AreUnits}
use Rattle.mc_protocol.specs.declared.serving.ServeFault.{ServeFault}
use Rattle.mc_protocol.specs.declared.serving.ServeFault.TheVariants.{Read, Write, NoMemory}
use Rattle.mc_sizes.specs.declared.settings.Settings.{Settings}
use Rattle.mc_world.specs.Serving.{scene, Served}
use Rattle.mc_served.specs.Transcripts.{AreAnsweredSoFar}
use Rattle.mc_served.proofs.EndLemmas.{of_input, of_failed, of_refused}
use Rattle.mc_run.specs.Runs.{hash_of, new_world, InNewWorld, Serves}
use Rattle.mc_run.proofs.serving.a_new_store_answers_the_stream.Goals as goal

module _ (settings : Settings) (may_give : ℕ → Type 0) (input : List ℕ) (left out : Option (List ℕ)) (units : List ProtocolUnit) (are : AreUnits settings.greatest 0 input units) where
  abbrev Answered : Type 0
  Answered = (output : List ℕ) × (out ≡ Some output) × (waits : List ℕ) × (state : Plain)
      × AreAnsweredSoFar may_give (opening settings.pages settings.greatest) units (output ++ waits) state

  failed : InNewWorld settings may_give (λ old new. Served hash_of may_give (scene old (Some input) (Some [])) (scene new left out)) → Answered
  failed served =
      let said = of_failed hash_of may_give (scene (new_world served.hasher settings served.moment) (Some input) (Some [])) (scene served.last left out) (omega arith) served.stands served.how
      input units refl refl are in
      (said.0, said.1, said.2, served.last.state, said.3)

  by_fault : (fault : ServeFault) → (fault ≡ NoMemory → ⊥) → Serves settings may_give (Some input) left (Some []) out (Err fault) → Answered
  by_fault Read other served = failed served
  by_fault Write other served = failed served
  by_fault NoMemory other served = absurd (other refl)

pub returns-clause-whole : goal.returns-clause-whole
returns-clause-whole g c = λ settings clock input left out units served are.
    let said = of_input hash_of (g.C.Clock.may_give clock) (scene (new_world served.hasher settings served.moment) (Some input) (Some [])) (scene served.last left out) (omega arith)
    served.stands served.how input units refl refl are in
    (said.0, said.1, served.last.state, said.2)

pub returns-clause-failed : goal.returns-clause-failed
returns-clause-failed g c = λ settings clock input left out units fault other served are. by_fault settings (g.C.Clock.may_give clock) input left out units are fault other served

pub returns-clause-refused : goal.returns-clause-refused
returns-clause-refused g c = λ settings clock input left out units served are.
    let said = of_refused hash_of (g.C.Clock.may_give clock) (scene (new_world served.hasher settings served.moment) (Some input) (Some [])) (scene served.last left out) (omega arith)
    served.stands served.how input units refl refl are in
    (said.0, said.1, said.2, served.last.state, said.3)

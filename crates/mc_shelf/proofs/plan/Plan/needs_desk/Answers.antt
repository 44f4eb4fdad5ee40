use Rattle.mc_shelf.proofs.Common.{◌↔◌, ◌≡◌, Bool, false, rules, subst, true, wants_desk, WantsDesk}
use Rattle.mc_shelf.proofs.DeskLemmas.{wanted_exactly}
use Rattle.mc_shelf.proofs.plan.Plan.needs_desk.Goals as goal

pub returns-in-Answer-clause-needed : goal.returns-in-Answer-clause-needed
returns-in-Answer-clause-needed c shelf desk step now plan can =
    let told : wants_desk c.args.self.now.next ≡ false = search rules in
    subst (λ (b : Bool). (b ≡ true) ↔ WantsDesk step now shelf desk) told (wanted_exactly shelf desk step now plan.on_key can c.args.self.now.next plan.next)

pub returns-in-Discard-clause-needed : goal.returns-in-Discard-clause-needed
returns-in-Discard-clause-needed c shelf desk step now plan can =
    let told : wants_desk c.args.self.now.next ≡ true = search rules in
    subst (λ (b : Bool). (b ≡ true) ↔ WantsDesk step now shelf desk) told (wanted_exactly shelf desk step now plan.on_key can c.args.self.now.next plan.next)

use Rattle.mc_shelf.proofs.Common.{◌∙◌, ap, Bool, if◌then◌else◌, None, sym}
use Rattle.mc_protocol.specs.Plain.{number_of}
use Rattle.mc_shelf.proofs.PartsLemmas.{number_by}
use Rattle.mc_shelf.proofs.entry.EntryStanding.number.Goals.{then-parts-eq1-via-then-parts-eq1, then-parts-eq1-via-else-parts-eq1+then-ends_blank}
use Rattle.mc_shelf.proofs.entry.EntryStanding.number.Goals as goal

pub returns-then-parts-eq1 : goal.returns-then-parts-eq1
returns-then-parts-eq1 c = elim c.then-parts-eq1.branch [
  | then-parts-eq1-via-then-parts-eq1 w ↦ record { value = c.number_of-front.ensures ∙ ap number_of (c.part.ensures.lone (sym c.parts-parts.ensures.value ∙ w.if-parts-eq1.true)) }
  | then-parts-eq1-via-else-parts-eq1+then-ends_blank w ↦
      let by =
      number_by c.args.self.now.key c.args.self.now.item c.parts-parts.ensures.key c.parts-parts.ensures.joined
      (λ one. w.if-parts-eq1.false (c.parts-parts.ensures.value ∙ one)) c.part.result.now c.part.ensures.value in
      let blank = sym w.ends_blank.ensures ∙ w.if-ends_blank.true in
      record { value = c.number_of-front.ensures ∙ sym (by ∙ ap (λ (b : Bool). if b then number_of c.part.result.now else None) blank) }
]

pub returns : goal.returns
returns c =
    let by =
    number_by c.args.self.now.key c.args.self.now.item c.parts-parts.ensures.key c.parts-parts.ensures.joined
    (λ one. c.if-parts-eq1.false (c.parts-parts.ensures.value ∙ one)) c.part.result.now c.part.ensures.value in
    let blank = sym c.ends_blank.ensures ∙ c.if-ends_blank.false in
    record { value = sym (by ∙ ap (λ (b : Bool). if b then number_of c.part.result.now else None) blank) }

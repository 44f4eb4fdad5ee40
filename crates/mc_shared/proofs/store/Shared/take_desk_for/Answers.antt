use Rattle.mc_shared.proofs.Words.{Result, Ok, Err, OnErr}
use Rattle.mc_shared.proofs.store.Shared.take_desk_for.Goals as goal

always : {T E P : Type 0} (r : Result T E) → P → OnErr r P
always (Ok x) p = tt
always (Err e) p = p

pub give_desk-requires : goal.give_desk-requires
give_desk-requires g c = let holds = c.requires.holds in (holds.0, holds.1, c.in_ok-desk.ensures.ok holds.0 holds.1 holds.2)

pub take_desk-requires-3 : goal.take_desk-requires-3
take_desk-requires-3 g c =
    let holds = c.requires.holds in
    (holds.0, holds.1, c.give_desk.ensures.holds holds.0 holds.1 (c.in_ok-desk.ensures.ok holds.0 holds.1 holds.2))

pub returns-clause-ok : goal.returns-clause-ok
returns-clause-ok g c at shelf holds = c.in_ok-take_desk-2.ensures.ok at shelf (c.give_desk.ensures.holds at shelf (c.in_ok-desk.ensures.ok at shelf holds))

pub returns-in_err-take_desk-2-clause-stays : goal.returns-in_err-take_desk-2-clause-stays
returns-in_err-take_desk-2-clause-stays g c = always c.from_residual-in_err-take_desk-2.result
    (λ at shelf holds. c.in_err-take_desk-2.ensures.stays at shelf (c.give_desk.ensures.holds at shelf (c.in_ok-desk.ensures.ok at shelf holds)))

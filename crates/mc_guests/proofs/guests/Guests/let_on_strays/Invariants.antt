use Rattle.std.proofs.Common.{◌≡◌, ◌-◌, length, false}
use Rattle.mc_guests.specs.Retries.{strays_tried}
use Rattle.mc_guests.proofs.guests.Guests.let_on_strays.Given as goal

abbrev pub invariant-loop-at : goal.invariant-loop-at
invariant-loop-at g l =
    (l.self ≡ strays_tried (l.at - l.fn.self.awake) l.fn.self.awake (record l.fn.self { has_strays = false }))
    × (length l.self.row.guests ≡ length l.fn.self.row.guests)

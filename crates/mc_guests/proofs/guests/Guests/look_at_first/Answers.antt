use Rattle.std.proofs.Common.{◌<◌, length, refl, sym, ap, ◌∙◌, subst}
use Rattle.mc_guests.specs.Books.{BooksState}
use Rattle.mc_guests.specs.Retries.{tried_again}
use Rattle.mc_guests.proofs.RetryLemmas.{queued_within, look_none, look_dropped, look_taken, look_behind, still_within}
use Rattle.mc_guests.proofs.guests.Guests.look_at_first.Goals as goal

pub returns-in_default : goal.returns-in_default
returns-in_default g c = look_none c.args.self.now (sym c.in_default.ensures)

pub returns-in_default-waiting_place : goal.returns-in_default-waiting_place
returns-in_default-waiting_place g c =
    look_dropped c.in-Some.number c.args.self.now c.drop_first.new.self (sym c.in-Some.ensures) (c.in_default-waiting_place.ensures.none refl) c.drop_first.ensures

pub finds_room-requires : goal.finds_room-requires
finds_room-requires g c = queued_within c.in-Some.number c.in-Some-waiting_place.place c.args.self.now.row c.in-Some-waiting_place.ensures.some

pub try_again-requires : goal.try_again-requires
try_again-requires g c =
    subst (λ (b : BooksState). c.in-Some-waiting_place.place < length b.row.guests) (sym c.drop_first-then-finds_room.ensures)
    (still_within c.in-Some-waiting_place.place c.finds_room.result c.args.self.now c.finds_room.new.self c.finds_room.ensures)

pub returns-then-finds_room : goal.returns-then-finds_room
returns-then-finds_room g c =
    look_taken c.in-Some.number c.in-Some-waiting_place.place c.args.self.now c.finds_room.new.self c.try_again.new.self c.finds_room.result
    c.in-Some-waiting_place.ensures.some c.finds_room.ensures (sym c.in-Some.ensures) c.if-finds_room.true
    (c.try_again.ensures ∙ ap (tried_again c.in-Some-waiting_place.place) c.drop_first-then-finds_room.ensures)

pub returns-else-finds_room : goal.returns-else-finds_room
returns-else-finds_room g c =
    look_behind c.in-Some.number c.in-Some-waiting_place.place c.args.self.now c.finds_room.new.self c.put_first_behind.new.self c.finds_room.result
    c.in-Some-waiting_place.ensures.some c.finds_room.ensures (sym c.in-Some.ensures) c.if-finds_room.false c.put_first_behind.ensures

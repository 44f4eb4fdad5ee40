use Rattle.std.proofs.Common.{◌<◌, length, refl, sym, ap, ◌∙◌, subst}
use Rattle.mc_guests.specs.Books.{BooksState}
use Rattle.mc_guests.specs.Retries.{nobody_waits, tried_again, turn_passed}
use Rattle.mc_guests.proofs.RetryLemmas.{queued_within, turn_struck, turn_taken, turn_ended, still_within}
use Rattle.mc_guests.proofs.guests.Guests.lets_next_on.Goals as goal

pub returns-in_default-clause-ends : goal.returns-in_default-clause-ends
returns-in_default-clause-ends g c = λ _. nobody_waits (sym c.in_default.ensures)

pub returns-in_default-waiting_place-clause-goes : goal.returns-in_default-waiting_place-clause-goes
returns-in_default-waiting_place-clause-goes g c = λ _.
    turn_struck c.in-Some.number c.args.self.now c.strike_out.new.self (sym c.in-Some.ensures) (c.in_default-waiting_place.ensures.none refl) c.strike_out.ensures

pub finds_room-requires : goal.finds_room-requires
finds_room-requires g c = queued_within c.in-Some.number c.in-Some-waiting_place.place c.args.self.now.row c.in-Some-waiting_place.ensures.some

pub keep_room-requires : goal.keep_room-requires
keep_room-requires g c = still_within c.in-Some-waiting_place.place c.finds_room.result c.args.self.now c.finds_room.new.self c.finds_room.ensures

pub returns-then-not-finds_room-clause-ends : goal.returns-then-not-finds_room-clause-ends
returns-then-not-finds_room-clause-ends g c = λ _.
    turn_ended c.in-Some.number c.in-Some-waiting_place.place c.args.self.now c.finds_room.new.self c.keep_room.new.self c.finds_room.result
    c.in-Some-waiting_place.ensures.some c.finds_room.ensures (sym c.in-Some.ensures) c.if-not-finds_room.true c.keep_room.ensures

pub try_again-requires : goal.try_again-requires
try_again-requires g c =
    subst (λ (b : BooksState). c.in-Some-waiting_place.place < length b.row.guests) (sym (c.pass_turn.ensures ∙ ap turn_passed c.strike_out-2.ensures))
    (still_within c.in-Some-waiting_place.place c.finds_room.result c.args.self.now c.finds_room.new.self c.finds_room.ensures)

pub returns-clause-goes : goal.returns-clause-goes
returns-clause-goes g c = λ _.
    turn_taken c.in-Some.number c.in-Some-waiting_place.place c.args.self.now c.finds_room.new.self c.try_again.new.self c.finds_room.result
    c.in-Some-waiting_place.ensures.some c.finds_room.ensures (sym c.in-Some.ensures) c.if-not-finds_room.false
    (c.try_again.ensures ∙ ap (tried_again c.in-Some-waiting_place.place) (c.pass_turn.ensures ∙ ap turn_passed c.strike_out-2.ensures))

use Rattle.mc_served.proofs.EndLemmas.{of_input, of_read, so_far, until_refused}
use Rattle.mc_served.proofs.laws.a_served_stream_is_answered.Goals as goal

pub returns-clause-whole : goal.returns-clause-whole
returns-clause-whole g c = λ hash_of clock old new input units few stands all reads writes are.
    of_input hash_of (g.C.Clock.may_give clock) old new few stands all input units reads writes are

pub returns-clause-read : goal.returns-clause-read
returns-clause-read g c = λ hash_of clock old new units few stands all are.
    of_read hash_of (g.C.Clock.may_give clock) old new few stands all units are

pub returns-clause-failed : goal.returns-clause-failed
returns-clause-failed g c = λ hash_of clock old new more units few stands served are.
    so_far hash_of (g.C.Clock.may_give clock) old new few stands served more units are

pub returns-clause-refused : goal.returns-clause-refused
returns-clause-refused g c = λ hash_of clock old new more units few stands short are.
    until_refused hash_of (g.C.Clock.may_give clock) old new few stands short more units are

use Rattle.mc_testing.proofs.marks.add_mark.Goals as goal

pub put_within-requires-clause-new : goal.put_within-requires-clause-new
put_within-requires-clause-new c =
    let some = c.is_some.ensures in
    let absent = c.if-is_some.false in
    c.find.ensures.none (cc)

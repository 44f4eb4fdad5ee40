use Rattle.std.proofs.Common.{sym, subst}
use Rattle.mc_laws.specs.Laws.{HasDrawnNumbers}
use Rattle.mc_shared_tests.proofs.tests.law_tests.empty_store.Goals as goal

pub returns : goal.returns
returns c =
    let made = c.in_ok-made.ensures in
    (made.caller.0, made.caller.1, subst HasDrawnNumbers (sym made.plain) (c.a_cas_is_of_what_was_read.ensures.new 64 1048576))

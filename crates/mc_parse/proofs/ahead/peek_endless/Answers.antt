use Rattle.std.proofs.Common.{arith}
use Rattle.mc_parse.proofs.SearchLemmas.{long_found, none_yet_found}
use Rattle.mc_parse.proofs.ahead.peek_endless.Goals as goal

pub returns-then-unread-gt-LONGEST-clause-found : goal.returns-then-unread-gt-LONGEST-clause-found
returns-then-unread-gt-LONGEST-clause-found c = λ greatest none. long_found greatest c.args.unread.now (omega (arith, c.if-unread-gt-LONGEST.true)) none

pub returns-else-unread-gt-LONGEST-clause-none : goal.returns-else-unread-gt-LONGEST-clause-none
returns-else-unread-gt-LONGEST-clause-none c = λ greatest none _. none_yet_found greatest c.args.unread.now (omega (arith, c.if-unread-gt-LONGEST.false)) none

use Rattle.mc_shelf.proofs.Common.{◌≡◌, count, rules, true}
use Rattle.std.proofs.Common.{nat_eq}
use Rattle.mc_shelf.proofs.DeathLemmas.{no_hashes, no_items}
use Rattle.mc_shelf.proofs.index.EntryIndex.is_empty.Goals as goal

none : (c : goal.After-len) → nat_eq c.len.result 0 ≡ true → count c.args.self.now ≡ 0
none c e = search rules

pub returns-clause-items : goal.returns-clause-items
returns-clause-items c e = no_items c.args.self.now (none c e)

pub returns-clause-hashes : goal.returns-clause-hashes
returns-clause-hashes c e = no_hashes c.args.self.now (none c e)

use Rattle.mc_shelf.proofs.Common.{◌∙◌, ◌≡◌, false, is_some, None, rules, sym, true}
use Rattle.mc_shelf.proofs.HitLemmas.{settled_expiring, settled_miss, settled_plain}
use Rattle.mc_shelf.proofs.TakesLemmas.{puts_at}
use Rattle.mc_shelf.proofs.shelf.Shelf.settle_read.Goals as goal

pub returns-in-Some : goal.returns-in-Some
returns-in-Some c =
    let old = c.args.self.now.content in
    let new = c.expire.new.self.content in
    let found : is_some c.args.place ≡ true = search rules in
    settled_expiring c.args.step.now c.args.now c.args.hash old c.args.place c.requires.read c.requires.known c.requires.alive
    c.in-Some.expiry new (sym c.read_expiry.ensures ∙ c.in-Some.is) found (puts_at c.args.hash old new c.in-Some.expiry c.key.ensures c.expire.ensures.put)

pub returns-in_default : goal.returns-in_default
returns-in_default c =
    let none : c.read_expiry.result ≡ None = search rules in
    settled_plain c.args.step.now c.args.now c.args.hash c.args.self.now.content c.args.place c.requires.read c.requires.known
    c.requires.alive (sym c.read_expiry.ensures ∙ none)

pub returns-else-is_some : goal.returns-else-is_some
returns-else-is_some c =
    let none : is_some c.args.place ≡ false = search rules in
    settled_miss c.args.step.now c.args.now c.args.hash c.args.self.now.content c.args.place c.requires.read c.requires.known
    c.requires.alive none

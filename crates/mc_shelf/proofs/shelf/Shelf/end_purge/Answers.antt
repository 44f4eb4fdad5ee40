use Rattle.mc_shelf.proofs.Common.{arith, IsShelfOf, subst, sym}
use Rattle.mc_shelf.specs.Sweeps.{BeginsPurge}
use Rattle.mc_shelf.specs.declared.purge.Purging.{Purging}
use Rattle.mc_shelf.proofs.FlushLemmas.{goes_purged, part_out}
use Rattle.mc_shelf.proofs.shelf.Shelf.end_purge.Goals as goal

pub take_back-requires : goal.take_back-requires
take_back-requires c class is =
    let took = subst (λ (p : Purging). BeginsPurge c.args.now c.requires.0 p c.args.self.now.content) c.in-Apart.is c.requires.1 in
    omega (arith, took.counts class, part_out c.requires.6 c.requires.7 class is)

pub purge_part-requires : goal.purge_part-requires
purge_part-requires c =
    let same = subst (λ (p : Purging). BeginsPurge c.args.now c.requires.0 p c.args.self.now.content) c.in-Whole.is c.requires.1 in
    (c.requires.2, c.requires.3, c.requires.4, c.requires.5, subst (IsShelfOf c.requires.2 c.requires.3 c.requires.5 c.requires.4) (sym same) c.requires.6, c.requires.7)

pub returns-in-Apart-clause-goes : goal.returns-in-Apart-clause-goes
returns-in-Apart-clause-goes c old hash_of shelves at state begins fits account =
    let took = subst (λ (p : Purging). BeginsPurge c.args.now old p c.args.self.now.content) c.in-Apart.is begins in
    let back = c.take_back.ensures in
    goes_purged fits account took.purged record {
      out = λ class is. omega (arith, took.counts class, back.out class is);
      pages = back.pages;
      limit = back.limit;
      next_unique = back.next_unique;
    }

pub returns-in-Whole-clause-goes : goal.returns-in-Whole-clause-goes
returns-in-Whole-clause-goes c old hash_of shelves at state begins fits account =
    let same = subst (λ (p : Purging). BeginsPurge c.args.now old p c.args.self.now.content) c.in-Whole.is begins in
    c.purge_part.ensures.goes hash_of shelves at state (subst (IsShelfOf hash_of shelves state at) (sym same) fits) account

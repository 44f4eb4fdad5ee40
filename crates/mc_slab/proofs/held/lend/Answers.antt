use Rattle.std.proofs.Common.{◌≡◌, ◌*◌, ◌<◌, ◌≤◌, ℕ, List, take, drop, ap, subst, ◌∙◌, arith}
use Rattle.mc_slab.specs.Classes.{size_of}
use Rattle.mc_slab.specs.Helds.{chunks_in}
use Rattle.mc_slab.proofs.ChunkLemmas.{lone_at, part_is}
use Rattle.mc_slab.proofs.ClassLemmas.{size_of-last}
use Rattle.mc_slab.proofs.SheetLemmas.{lent_of}
use Rattle.mc_slab.proofs.held.lend.Goals as goal

pub lend-requires-else-class-lt-CLASSES-clause-within : goal.lend-requires-else-class-lt-CLASSES-clause-within
lend-requires-else-class-lt-CLASSES-clause-within c =
    let most = c.requires.are.is_need.is_class.1 in
    let last : (chunks_in c.args.held.now).class ≡ 40 = omega (arith, c.class.ensures, c.number-class.ensures.value, c.if-class-lt-CLASSES.false) in
    subst (λ (n : ℕ). c.args.to ≤ n) (ap (λ (k : ℕ). size_of k) last ∙ size_of-last) c.requires.within

pub returns-then-class-lt-CLASSES : goal.returns-then-class-lt-CLASSES
returns-then-class-lt-CLASSES c =
    let below : (chunks_in c.args.held.now).class < 40 = omega (arith, c.class.ensures, c.number-class.ensures.value, c.if-class-lt-CLASSES.true) in
    let chunk = c.lone.ensures ∙ (lone_at (chunks_in c.args.held.now) c.args.at c.requires.are below c.requires.place).1 in
    lent_of c.lend.result c.args.from c.args.to _ _ chunk c.lend.ensures

pub returns-else-class-lt-CLASSES : goal.returns-else-class-lt-CLASSES
returns-else-class-lt-CLASSES c =
    let most = c.requires.are.is_need.is_class.1 in
    let last : (chunks_in c.args.held.now).class ≡ 40 = omega (arith, c.class.ensures, c.number-class.ensures.value, c.if-class-lt-CLASSES.false) in
    let chunk = ap (λ (l : List ℕ). take 1048576 (drop (c.args.at * 1048576) l)) c.sheet.ensures.1 ∙ part_is (chunks_in c.args.held.now) c.args.at last in
    lent_of c.lend-else-class-lt-CLASSES.result c.args.from c.args.to _ _ chunk c.lend-else-class-lt-CLASSES.ensures

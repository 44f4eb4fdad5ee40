use Rattle.std.proofs.Common.{refl, arith, slice_index_or}
use Rattle.mc_sockets.specs.declared.opening.Opening.TheVariants.{Open}
use Rattle.mc_sockets.proofs.OpeningLemmas.{goes_on, open_so, other_so, settled_so}
use Rattle.mc_sockets.proofs.opening.Part.judge.Goals as goal

pub loop-at-init : goal.loop-at-init
loop-at-init c = λ text. refl

pub returns-in-Settled : goal.returns-in-Settled
returns-in-Settled c =
    settled_so c.args.self c.args.bytes.now c.loop-at.part c.after.result c.loop-at.at (slice_index_or c.args.bytes.now c.loop-at.at 0)
    (omega (arith, c.loop-at-test.true)) refl c.loop-at.invariant c.after.ensures c.in-Settled.is

pub returns-in-Other : goal.returns-in-Other
returns-in-Other c =
    other_so c.args.self c.args.bytes.now c.loop-at.part c.after.result c.loop-at.at (slice_index_or c.args.bytes.now c.loop-at.at 0)
    (omega (arith, c.loop-at-test.true)) refl c.loop-at.invariant c.after.ensures c.in-Other.protocol c.in-Other.is

pub loop-at-preserved : goal.loop-at-preserved
loop-at-preserved c =
    goes_on c.args.self c.args.bytes.now c.loop-at.part (Open c.in-Open.next) c.loop-at.at (slice_index_or c.args.bytes.now c.loop-at.at 0)
    (omega (arith, c.loop-at-test.true)) refl c.loop-at.invariant c.in-Open.ensures

pub returns : goal.returns
returns c =
    open_so c.args.self c.args.bytes.now c.loop-at.part c.loop-at.at (omega (arith, c.loop-at-test.false, c.loop-at.auto.at-end)) c.loop-at.invariant

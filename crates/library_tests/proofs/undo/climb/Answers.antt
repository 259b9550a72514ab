use Rattle.atomic_undo.proofs.Climbing.{climb_step, climb_end}
use Rattle.library_tests.proofs.undo.climb.Goals as goal

pub loop-at-preserved : goal.loop-at-preserved
loop-at-preserved c = λ h. c.loop-at.invariant
    (climb_step c.args.places.now c.loop-at.at-index c.loop-at.low c.args.high c.loop-at-test.true
    c.if-at-low.false c.if-high-at.false h)

pub returns : goal.returns
returns c = λ _. c.loop-at.invariant (climb_end c.args.places.now c.loop-at.at-index c.loop-at.low
    c.args.high c.loop-at-test.false)

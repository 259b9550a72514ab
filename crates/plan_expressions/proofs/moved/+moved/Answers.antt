use Rattle.plan_expressions.specs.Merging.{move_of}
use Rattle.plan_expressions.proofs.Moving.{chain_moved, moving_next, moving_done}
use Rattle.plan_expressions.proofs.moved.+moved.Goals as goal

pub moved_scalar-returns-in_ok-new-in-Chain : goal.moved_scalar-returns-in_ok-new-in-Chain
moved_scalar-returns-in_ok-new-in-Chain t c =
    chain_moved (move_of c.args.shift) c.args.depth c.args.scalar.now c.in-Chain.first
    c.in_ok-first-in-Chain.first c.in_ok-new-in-Chain.field-0 c.in-Chain.links
    c.in_ok-links-in-Chain.links
    c.in-Chain.is (rw c.get-in-Chain.ensures at c.in_ok-first-in-Chain.ensures)
    (rw c.as_slice.ensures at c.in_ok-links-in-Chain.ensures) c.in_ok-new-in-Chain.ensures

pub moved_list-loop-scalar-preserved : goal.moved_list-loop-scalar-preserved
moved_list-loop-scalar-preserved t c =
    moving_next (move_of c.args.shift) c.args.depth c.args.scalars.now c.loop-scalar.scalar-index
    c.scalar-item.result c.in_ok-copy.copy c.loop-scalar.moved c.push.new.self
    c.loop-scalar-test.true
    c.scalar-item.is c.in_ok-copy.ensures c.in_ok-push.ensures.ok c.loop-scalar.invariant

pub moved_list-returns : goal.moved_list-returns
moved_list-returns t c =
    moving_done (move_of c.args.shift) c.args.depth c.args.scalars.now c.loop-scalar.scalar-index
    c.loop-scalar.moved c.loop-scalar-test.false c.loop-scalar.invariant

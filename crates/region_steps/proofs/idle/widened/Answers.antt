use Rattle.std.proofs.Common.{◌≡◌, ◌+◌, length, arith}
use Rattle.region_steps.proofs.Fronts.{one_grown, none_grown}
use Rattle.region_steps.proofs.idle.widened.Goals as goal

pub loop-node-preserved : goal.loop-node-preserved
loop-node-preserved c =
    let sum : c.in_ok-wide-in-Extend.wide ≡ c.loop-node.wide + length c.in-Extend.scalars =
    omega (arith, c.len.ensures, c.in_ok-wide-in-Extend.ensures) in
    record {
      grown = one_grown c.args.nodes.now c.loop-node.node-index c.node-item.result
          c.in-Extend.scalars c.args.width c.loop-node.wide c.in_ok-wide-in-Extend.wide
          c.loop-node-test.true c.node-item.is c.in-Extend.is c.loop-node.invariant.wide sum
          c.loop-node.invariant.grown;
      wide = omega (arith, sum, c.loop-node.invariant.wide);
    }

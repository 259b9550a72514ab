use Rattle.std.proofs.Common.{◌≡◌, ◌+◌, take, length}
use Rattle.std.specs.List.{sum_by}
use Rattle.rel_algebra.specs.Applies.{counted}
use Rattle.rel_algebra.proofs.Applies.{over_count, below_count}
use Rattle.rel_algebra.proofs.count.+counting.Given as goal

abbrev pub invariant-counted_in_plan-loop-node : goal.invariant-counted_in_plan-loop-node
invariant-counted_in_plan-loop-node l =
    record {
      total : l.total ≡ counted (l.fn.found + sum_by over_count (take l.node-index l.plan.nodes));
      end : l.node-index-end ≡ length l.plan.nodes;
    }

abbrev pub invariant-counted_in_run-loop-node : goal.invariant-counted_in_run-loop-node
invariant-counted_in_run-loop-node l =
    record {
      total : l.total ≡ counted (l.fn.found + sum_by below_count (take l.node-index l.nodes));
      end : l.node-index-end ≡ length l.nodes;
    }

use Rattle.std.proofs.Common.{◌≡◌, ◌++◌, drop, length}
use Rattle.std.specs.List.{flat_map}
use Rattle.rel_algebra.specs.PlanView.{tree_of, run_of}
use Rattle.scanned_tables.specs.Scans.{scans, scans_in}
use Rattle.scanned_tables.proofs.Nodes.{over_scans, below_scans}
use Rattle.scanned_tables.proofs.scans.+scans.Given as goal

abbrev pub invariant-note_plan-loop-node : goal.invariant-note_plan-loop-node
invariant-note_plan-loop-node l = record {
  found : l.found ++ flat_map over_scans (drop l.node-index l.plan.nodes) ≡ l.fn.found
      ++ scans (tree_of l.plan);
  end : l.node-index-end ≡ length l.plan.nodes;
}

abbrev pub invariant-note_run-loop-node : goal.invariant-note_run-loop-node
invariant-note_run-loop-node l = record {
  found : l.found ++ flat_map below_scans (drop l.node-index l.nodes) ≡ l.fn.found
      ++ scans_in (run_of l.nodes);
  end : l.node-index-end ≡ length l.nodes;
}

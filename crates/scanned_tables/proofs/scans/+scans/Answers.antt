use Rattle.std.proofs.Common.{List, ◌++◌, refl, ap, sym, ◌∙◌, length, arith}
use Rattle.rel_algebra.specs.PlanView.{tree_of, run_of}
use Rattle.rel_algebra.specs.declared.plan.Node.{Node}
use Rattle.rel_algebra.specs.declared.plan.Plan.{Plan}
use Rattle.scanned_tables.specs.Scans.{scans, scans_in}
use Rattle.scanned_tables.specs.declared.scans.ScannedTable.{ScannedTable}
use Rattle.scanned_tables.proofs.Nodes.{below_scans, leaf_first, all_left, one_more, below-Apply}
use Rattle.scanned_tables.proofs.Nodes.{below-other}
use Rattle.scanned_tables.proofs.scans.+scans.Goals.{note_run-in-Apply+in_ok-note_plan-in-Apply}
use Rattle.scanned_tables.proofs.scans.+scans.Goals.{note_run-in_default}
use Rattle.scanned_tables.proofs.scans.+scans.Goals as goal

pub note_plan-loop-node-init : goal.note_plan-loop-node-init
note_plan-loop-node-init t c = record {
  found = leaf_first c.args.plan.now c.args.found.now c.note_leaf.new.found
      c.in_ok-note_leaf.ensures;
  end = ap (λ (ns : List Node). length ns) c.as_slice-node-items.ensures;
}

pub note_run-loop-node-init : goal.note_run-loop-node-init
note_run-loop-node-init t c =
    record { found = all_left c.args.nodes.now c.args.found.now; end = refl }

pub note_run-loop-node-preserved : goal.note_run-loop-node-preserved
note_run-loop-node-preserved t c = record {
  found = one_more below_scans c.args.nodes.now c.loop-node.node-index c.node-item.result
      c.loop-node.found c.match-node.found (c.args.found.now ++ scans_in (run_of c.args.nodes.now))
      (omega (arith, c.loop-node-test.true, c.loop-node.invariant.end)) c.node-item.is
      (elim c.match-node.branch [
        | note_run-in-Apply+in_ok-note_plan-in-Apply w ↦ w.found-is
            ∙ w.in_ok-note_plan-in-Apply.ensures
            ∙ ap (λ (xs : List ScannedTable). c.loop-node.found ++ xs)
            (ap (λ (p : Plan). scans (tree_of p)) w.get.ensures
            ∙ sym (below-Apply _ _ _ _ w.in-Apply.is))
        | note_run-in_default w ↦ w.found-is
            ∙ below-other c.node-item.result c.loop-node.found w.in_default.not-Apply
      ])
      c.loop-node.invariant.found;
  end = refl;
}

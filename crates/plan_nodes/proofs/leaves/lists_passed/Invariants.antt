use Rattle.std.proofs.Common.{◌≡◌, [], drop}
use Rattle.row_types.specs.OuterRows.{outer_rows}
use Rattle.rel_algebra.specs.Plan.{list_rows}
use Rattle.rel_algebra.specs.PlanView.{lists_of}
use Rattle.plan_scalars.specs.Sights.{sight_of}
use Rattle.plan_nodes.specs.Fates.{passed}
use Rattle.plan_nodes.specs.Receiving.{received}
use Rattle.plan_nodes.proofs.leaves.lists_passed.Given as goal

abbrev pub invariant-loop-list : goal.invariant-loop-list
invariant-loop-list l =
    let s = sight_of [] (outer_rows l.outer) l.args in
    received l.received (passed l.nodes (outer_rows l.outer) l.args
    (list_rows (lists_of (drop l.list-index l.lists)) s)) ≡ received l.fn.into
    (passed l.nodes (outer_rows l.outer) l.args (list_rows (lists_of l.lists) s))

use Rattle.std.proofs.Common.{◌≡◌, ◌++◌, drop}
use Rattle.plan_nodes.specs.Grouping.{end_cells}
use Rattle.plan_nodes.proofs.groups.add_ends.Given as goal

abbrev pub invariant-loop-end : goal.invariant-loop-end
invariant-loop-end l = l.cells.items ++ end_cells (drop l.end-index l.ends) ≡ l.fn.cells.items ++
    end_cells l.ends

use Rattle.std.proofs.Common.{◌≡◌, ◌++◌, map, drop}
use Rattle.row_types.specs.declared.cell.Cell.TheVariants.{Val}
use Rattle.plan_nodes.proofs.last.own_values.Given as goal

abbrev pub invariant-loop-place : goal.invariant-loop-place
invariant-loop-place l = map Val l.values.items ++ drop l.place l.row ≡ map Val l.fn.values.items ++
    l.row

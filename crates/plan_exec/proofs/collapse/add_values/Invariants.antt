use Rattle.std.proofs.Common.{◌≡◌, ◌++◌, drop, map}
use Rattle.row_types.specs.declared.cell.Cell.TheVariants.{Val}
use Rattle.plan_exec.proofs.collapse.add_values.Given as goal

abbrev pub invariant-loop-value : goal.invariant-loop-value
invariant-loop-value l = l.cells.items ++ map Val (drop l.value-index l.values) ≡
    l.fn.cells.items ++ map Val l.values

use Rattle.std.proofs.Common.{◌≡◌, replicate}
use Rattle.row_types.specs.declared.cell.Cell.TheVariants.{Cond}
use Rattle.plan_conditions.proofs.into.raised_cells.Given as goal

abbrev pub invariant-loop : goal.invariant-loop
invariant-loop l = l.cells ≡ replicate l.counter (Cond l.area)

use Rattle.std.proofs.Common.{◌≡◌, ◌++◌, map, drop, true}
use Rattle.std.specs.List.{list_all}
use Rattle.row_types.specs.declared.cell.Cell.TheVariants.{Val}
use Rattle.row_types.specs.Cells.{is_value}
use Rattle.row_types.proofs.gather.gathered_values.Given as goal

abbrev pub invariant-loop-i : goal.invariant-loop-i
invariant-loop-i l = record {
  row : map Val l.row ++ drop l.i l.cells ≡ map Val l.values ++ l.fn.cells;
  values : list_all is_value (drop l.i l.cells) ≡ true;
}

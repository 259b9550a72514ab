use Rattle.std.proofs.Common.{◌≡◌, ◌++◌, map, take, drop}
use Rattle.group_index.specs.Kept.{column_with}
use Rattle.group_index.proofs.kept_rows.take_each.Given as goal

abbrev pub invariant-loop-column : goal.invariant-loop-column
invariant-loop-column l = take l.column-index l.columns ++ map (column_with l.row)
    (drop l.column-index l.columns) ≡ map (column_with l.row) l.fn.columns

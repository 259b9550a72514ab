use Rattle.std.proofs.Common.{◌≡◌, drop, slice_index_or}
use Rattle.std.specs.List.{list_all}
use Rattle.sql_values.specs.declared.value.Value.TheVariants.{Null}
use Rattle.row_sort.specs.Numbers.{is_told}
use Rattle.row_sort.proofs.numbers.are_told.Given as goal

abbrev pub invariant-loop-row : goal.invariant-loop-row
invariant-loop-row l = list_all (λ row. is_told l.fn.truths (slice_index_or row l.fn.column Null))
    (drop l.row-index l.fn.rows) ≡ list_all (λ row. is_told l.fn.truths
    (slice_index_or row l.fn.column Null)) l.fn.rows

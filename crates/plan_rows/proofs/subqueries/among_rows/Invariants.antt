use Rattle.std.proofs.Common.{◌≡◌, drop, false}
use Rattle.sql_values.specs.declared.value.Value.TheVariants.{Bool as TruthValue}
use Rattle.row_types.specs.Groups.{values_of_column}
use Rattle.rel_algebra.specs.Endings.{among}
use Rattle.plan_rows.proofs.subqueries.among_rows.Given as goal

abbrev pub invariant-loop-row : goal.invariant-loop-row
invariant-loop-row l = among l.so_far l.value (values_of_column 0 (drop l.row-index l.rows)) ≡ among
    (TruthValue false) l.value (values_of_column 0 l.rows)

use Rattle.std.proofs.Common.{◌≡◌, drop, false}
use Rattle.sql_values.specs.declared.value.Value.TheVariants.{Bool as Truth}
use Rattle.row_types.specs.Groups.{values_of_column}
use Rattle.rel_algebra.specs.Endings.{among}
use Rattle.rel_algebra.specs.Joins.{member_of}
use Rattle.run_choices.proofs.subqueries.member.Given as goal

abbrev pub invariant-loop-row : goal.invariant-loop-row
invariant-loop-row l = among l.so_far l.value (values_of_column 0 (drop l.row-index l.rows)) ≡
    member_of l.value l.rows

use Rattle.std.proofs.Common.{sym, ◌∙◌, false}
use Rattle.sql_values.specs.declared.value.Value.TheVariants.{Bool as TruthValue}
use Rattle.row_types.specs.Groups.{values_of_column}
use Rattle.rel_algebra.specs.Endings.{among}
use Rattle.plan_rows.proofs.FirstValues.{among_found}
use Rattle.plan_rows.proofs.subqueries.among_rows.Goals as goal

pub returns-then-is_true : goal.returns-then-is_true
returns-then-is_true c =
    among_found c.args.value.now c.args.rows.now c.loop-row.row-index c.row-item.result
    c.loop-row-test.true c.row-item.is c.equal_first-equal.result c.loop-row.so_far
    (among (TruthValue false) c.args.value.now (values_of_column 0 c.args.rows.now))
    c.equal_first-equal.ensures c.loop-row.invariant (sym c.is_true.ensures ∙ c.if-is_true.true)

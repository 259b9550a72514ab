use Rattle.std.proofs.Common.{arith}
use Rattle.row_types.specs.OuterRows.{outer_rows}
use Rattle.plan_rows.proofs.Places.{outer_column}
use Rattle.plan_rows.proofs.finding.column.Goals as goal

pub returns-else-level-eq0 : goal.returns-else-level-eq0
returns-else-level-eq0 c =
    rw (outer_column c.args.row.now (outer_rows c.args.outer.now) c.args.level c.args.place
    (omega (arith, c.if-level-eq0.false))) c.outer_cell.ensures

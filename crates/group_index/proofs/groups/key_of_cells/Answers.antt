use Rattle.std.proofs.Common.{sym, ◌∙◌, arith}
use Rattle.group_index.proofs.Indexed.{raised_at, all_taken}
use Rattle.group_index.proofs.groups.key_of_cells.Goals as goal

pub returns-in-Cond : goal.returns-in-Cond
returns-in-Cond c = raised_at c.args.row.now c.args.columns.now c.loop-column.key
    c.loop-column.column-index c.in-Cond.field-0 c.loop-column-test.true
    (sym c.in-Cond.is ∙ c.in_ok-value.ensures) c.loop-column.invariant

pub returns : goal.returns
returns c = all_taken c.args.row.now c.args.columns.now c.loop-column.key c.loop-column.column-index
    (omega (arith, c.loop-column-test.false)) c.loop-column.invariant

use Rattle.std.proofs.Common.{sym, ap, ◌∙◌}
use Rattle.row_types.specs.Forms.{end_of}
use Rattle.plan_exec.proofs.Opening.{row_of_area, row_of_values}
use Rattle.plan_exec.proofs.opened.open_row.Goals as goal

pub returns-in-Values : goal.returns-in-Values
returns-in-Values c = row_of_values c.args.row c.in-Values.values c.clear.new.self.cells.items
    c.clear.ensures (sym c.in_ok-values.ensures ∙ ap end_of c.in-Values.is)

pub returns-in-Raised : goal.returns-in-Raised
returns-in-Raised c = row_of_area c.args.row c.in-Raised.area (sym c.has_condition.ensures ∙
    c.if-has_condition.false) (sym c.in_ok-values.ensures ∙ ap end_of c.in-Raised.is)

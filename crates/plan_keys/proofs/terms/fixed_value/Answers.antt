use Rattle.std.proofs.Common.{sym, ◌∙◌}
use Rattle.row_types.specs.OuterRows.{outer_rows}
use Rattle.rel_algebra.specs.PlanView.{scalar_of}
use Rattle.plan_keys.proofs.SameRows.{same_on_rows}
use Rattle.plan_keys.proofs.terms.fixed_value.Goals as goal

pub returns-in-Val : goal.returns-in-Val
returns-in-Val c = λ row. same_on_rows (scalar_of c.args.scalar.now) row c.of.result
    (outer_rows c.args.outer.now) c.args.args.now
    (sym c.reads_row.ensures ∙ c.if-reads_row.false) ∙ (sym c.in_ok-value.ensures ∙ c.in-Val.is)

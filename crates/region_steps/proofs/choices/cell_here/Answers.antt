use Rattle.std.proofs.Common.{◌∙◌}
use Rattle.std.proofs.lemmas.Result.{IfOk-weaker}
use Rattle.row_types.specs.OuterRows.{outer_rows}
use Rattle.region_steps.proofs.choices.cell_here.Goals as goal

pub returns : goal.returns
returns c = IfOk-weaker c.eval_on.result _ _
    (λ x h. h ∙ c.chosen.ensures (outer_rows c.args.outer.now)) c.eval_on.ensures

use Rattle.std.proofs.Common.{ap, ◌∙◌}
use Rattle.row_types.specs.Rows.{value_cmp}
use Rattle.row_types.proofs.Comparing.{none_there}
use Rattle.row_types.proofs.order.order_to.Goals as goal

pub returns-in-None : goal.returns-in-None
returns-in-None c = c.order_of_null.ensures ∙ ap (λ v. value_cmp v c.args.value.now)
    (none_there c.args.row.now c.args.place c.in-None.ensures.value)

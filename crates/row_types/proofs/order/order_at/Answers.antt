use Rattle.std.proofs.Common.{ap, ◌∙◌, get_or}
use Rattle.sql_values.specs.declared.value.Value.TheVariants.{Null}
use Rattle.row_types.specs.Rows.{value_cmp}
use Rattle.row_types.proofs.Comparing.{some_there, none_there}
use Rattle.row_types.proofs.order.order_at.Goals as goal

pub returns-in-Some-None : goal.returns-in-Some-None
returns-in-Some-None c =
    c.order_to_null.ensures ∙ ap (λ v. value_cmp v Null)
    (some_there c.args.a.now c.args.place c.in-Some-None.x.now c.in-Some-None.ensures.value)
    ∙ ap (value_cmp (get_or c.args.a.now c.args.place Null))
    (none_there c.args.b.now c.args.place c.in-Some-None.ensures'.value)

pub returns-in-None-Some : goal.returns-in-None-Some
returns-in-None-Some c =
    c.order_of_null.ensures ∙ ap (value_cmp Null)
    (some_there c.args.b.now c.args.place c.in-None-Some.y.now c.in-None-Some.ensures'.value)
    ∙ ap (λ v. value_cmp v (get_or c.args.b.now c.args.place Null))
    (none_there c.args.a.now c.args.place c.in-None-Some.ensures.value)

pub returns-in-None-None : goal.returns-in-None-None
returns-in-None-None c =
    ap (λ v. value_cmp v Null) (none_there c.args.a.now c.args.place c.in-None-None.ensures.value)
    ∙ ap (value_cmp (get_or c.args.a.now c.args.place Null))
    (none_there c.args.b.now c.args.place c.in-None-None.ensures'.value)

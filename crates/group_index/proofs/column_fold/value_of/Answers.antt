use Rattle.std.proofs.Common.{sym, ◌∙◌}
use Rattle.std.proofs.lemmas.Result.{IfOk-weaker}
use Rattle.sql_values.specs.declared.value.Value.TheVariants.{Null}
use Rattle.group_index.proofs.Places.{value_is, value_past}
use Rattle.group_index.proofs.column_fold.value_of.Goals as goal

pub returns-in-Some : goal.returns-in-Some
returns-in-Some c = IfOk-weaker c.copied.result _ _
    (λ v h. h ∙ (c.in-Some.ensures.lookup.3.1 Null ∙ sym (value_is c.args.row.now c.args.place)))
    c.copied.ensures

pub returns-in-None : goal.returns-in-None
returns-in-None c = sym (value_past c.args.row.now c.args.place c.in-None.ensures.lookup.3)

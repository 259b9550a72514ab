use Rattle.std.proofs.Common.{◌≡◌, sym, ap, ◌∙◌}
use Rattle.sql_values.specs.declared.value.Value.TheVariants.{Null}
use Rattle.rel_algebra.specs.Emit.{if_all, first_value}
use Rattle.rel_algebra.specs.PlanView.{scalar_of, scalars_of}
use Rattle.plan_expressions.proofs.Asking.{first_alone, first_guarded, first_none}
use Rattle.plan_expressions.proofs.Moving.{if_ok}
use Rattle.plan_expressions.proofs.Views.{scalar_of-Constant}
use Rattle.plan_expressions.proofs.asked.first_value.Goals as goal

pub returns-in-None : goal.returns-in-None
returns-in-None c = scalar_of-Constant Null ∙
    ap first_value (first_none c.args.list c.in-None.ensures.value)

pub returns-then-len-eq1 : goal.returns-then-len-eq1
returns-then-len-eq1 c =
    first_alone c.args.list c.in-Some.scalar.now c.in_ok-first-in-Some.first c.in-Some.ensures.value
    c.in_ok-first-in-Some.ensures (sym c.len.ensures ∙ c.if-len-eq1.true)

pub returns : goal.returns
returns c =
    if_ok c.where_all.result (λ s. scalar_of s ≡ if_all (scalars_of c.args.list)
    (scalar_of c.in_ok-first-in-Some.first))
    (λ s. scalar_of s ≡ first_value (scalars_of c.args.list)) c.where_all.ensures
    (λ s h. h ∙ first_guarded c.args.list c.in-Some.scalar.now c.in_ok-first-in-Some.first
    c.in-Some.ensures.value c.in_ok-first-in-Some.ensures
    (λ q. c.if-len-eq1.false (c.len.ensures ∙ q)))

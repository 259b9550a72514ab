use Rattle.std.proofs.Common.{List, ap, ◌∙◌}
use Rattle.rel_algebra.specs.BodySteps.{two}
use Rattle.rel_algebra.specs.OnConditions.{retext_word}
use Rattle.rel_algebra.specs.Plan.{on_condition, word}
use Rattle.rel_algebra.specs.PlanView.{scalar_of, scalars_of}
use Rattle.rel_algebra.specs.declared.condition_word.ConditionWord.TheVariants.{Retext}
use Rattle.rel_algebra.specs.declared.scalar.Scalar.{Scalar as ScalarCode}
use Rattle.plan_expressions.proofs.Laws.{scalar_of-Column}
use Rattle.plan_statements.proofs.Single.{scalar_of-OnCondition}
use Rattle.plan_statements.proofs.simple.retexted.Goals as goal

pub returns : goal.returns
returns c =
    scalar_of-OnCondition Retext c.in_ok-operands.operands ∙
    ap (λ (ss : List ScalarCode). word (on_condition retext_word) (scalars_of ss))
    c.in_ok-operands.ensures ∙
    ap (λ x. word (on_condition retext_word) (two (scalar_of c.args.text) x))
    (scalar_of-Column 0 c.args.column)

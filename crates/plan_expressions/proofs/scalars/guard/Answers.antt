use Rattle.std.proofs.Common.{List, sym, ap, ◌∙◌}
use Rattle.rel_algebra.specs.declared.scalar.Scalar.{Scalar as ScalarCode}
use Rattle.rel_algebra.specs.declared.scalar.ListWord.TheVariants.{And, Case}
use Rattle.rel_algebra.specs.Plan.{case_word, word, none, more}
use Rattle.rel_algebra.specs.PlanView.{scalar_of, scalars_of}
use Rattle.plan_expressions.proofs.Views.{scalar_of-Listed}
use Rattle.plan_expressions.proofs.Checks.{guarded-some}
use Rattle.plan_expressions.proofs.scalars.guard.Goals as goal

pub returns : goal.returns
returns c =
    scalar_of-Listed Case c.in_ok-arms.arms ∙
    ap (λ (ss : List ScalarCode). word case_word (scalars_of ss)) c.in_ok-arms.ensures
    ∙ ap (λ s. word case_word (more s (more (scalar_of c.args.scalar) none)))
    (scalar_of-Listed And c.args.checks)
    ∙ sym (guarded-some c.args.checks (scalar_of c.args.scalar)
    (λ h. let never = c.if-is_empty.ensures.1 h in cc))

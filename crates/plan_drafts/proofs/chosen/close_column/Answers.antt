use Rattle.std.proofs.Common.{List, ap, ◌∙◌}
use Rattle.rel_algebra.specs.declared.scalar.Scalar.{Scalar as ScalarCode}
use Rattle.rel_algebra.specs.declared.scalar.ListWord.TheVariants.{Case}
use Rattle.rel_algebra.specs.Plan.{case_word, word}
use Rattle.rel_algebra.specs.PlanView.{scalars_of}
use Rattle.plan_drafts.proofs.Choosing.{column_closed}
use Rattle.plan_expressions.proofs.Laws.{scalar_of-Listed}
use Rattle.plan_drafts.proofs.chosen.close_column.Goals as goal

pub returns : goal.returns
returns c =
    scalar_of-Listed Case c.push.new.self ∙ ap
    (λ (ss : List ScalarCode). word case_word (scalars_of ss)) c.in_ok-push.ensures.ok
    ∙ column_closed c.args.column.scalars (λ h. let never = c.if-is_empty.ensures.1 h in cc)

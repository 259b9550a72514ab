use Rattle.std.proofs.Common.{List, ap, ◌∙◌, map}
use Rattle.rel_algebra.specs.BodyChain.{its_own}
use Rattle.rel_algebra.specs.BodyDispatch.{scope_arms}
use Rattle.rel_algebra.specs.BodySteps.{only, tag}
use Rattle.rel_algebra.specs.Plan.{case_word, word}
use Rattle.rel_algebra.specs.declared.scalar.ListWord.TheVariants.{Case}
use Rattle.rel_algebra.specs.declared.scalar.Scalar.{Scalar as ScalarCode}
use Rattle.plan_expressions.specs.Emission.{put}
use Rattle.plan_expressions.proofs.Laws.{scalar_of-Listed}
use Rattle.plan_steps.specs.Places.{coded_in}
use Rattle.plan_statements.proofs.Cells.{arms_last}
use Rattle.plan_statements.proofs.compound.chosen_action.Goals as goal

pub returns : goal.returns
returns c known outer =
    let whole = scope_arms its_own (map (coded_in known outer) c.args.handlers.now) c.args.first 2
    (only (tag c.args.exit)) in
    scalar_of-Listed Case c.push.new.self ∙ ap (word case_word)
    (arms_last c.put_scope.new.arms c.push.new.self c.in_ok-tag.field-0 (tag c.args.exit) whole
    c.in_ok-push.ensures.ok c.in_ok-tag.ensures
    (c.in_ok-put_scope.ensures known outer (only (tag c.args.exit)) ∙
    ap (λ (ss : List ScalarCode). put ss whole) c.new-arms.ensures))

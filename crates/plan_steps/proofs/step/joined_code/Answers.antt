use Rattle.std.proofs.Common.{◌≡◌, ◌∙◌, ap, arith}
use Rattle.rel_algebra.specs.BodyDispatch.{tags}
use Rattle.rel_algebra.specs.BodySteps.{case_of, col, tag}
use Rattle.rel_algebra.specs.Plan.{more}
use Rattle.rel_algebra.specs.PlanView.{scalar_of}
use Rattle.rel_algebra.specs.declared.scalar.ListWord.TheVariants as listed
use Rattle.rel_algebra.specs.declared.scalar.Scalar.TheVariants as code
use Rattle.plan_expressions.proofs.Laws.{if_ok}
use Rattle.plan_steps.specs.Steps.{joined_cell}
use Rattle.plan_steps.proofs.Acting.{joined_is}
use Rattle.plan_steps.proofs.Stores.{tags_done, tags_put}
use Rattle.plan_steps.proofs.step.joined_code.Goals as goal

pub loop-index-preserved : goal.loop-index-preserved
loop-index-preserved c =
    tags_put c.loop-index.codes c.push.new.self c.args.first c.args.count c.loop-index.index
    c.in_ok-tag.field-0 (more (col 0) (tags c.args.first c.args.count)) c.loop-index-test.true
    (c.in_ok-tag.ensures ∙ ap tag c.in_ok-sum.ensures) c.in_ok-push.ensures.ok
    c.loop-index.invariant

pub returns : goal.returns
returns c =
    if_ok c.case_of.result
    (λ s. scalar_of s ≡ case_of (scalar_of (code.Listed listed.AnyOf c.loop-index.codes))
    (scalar_of c.in_ok-tag-2.field-0) (scalar_of (code.Column 0 0)))
    (λ s. scalar_of s ≡ joined_cell c.args.first c.args.count c.args.here) c.case_of.ensures
    (λ s h. joined_is c.args.first c.args.count c.args.here c.loop-index.codes
    c.in_ok-tag-2.field-0 s h (tags_done c.loop-index.codes c.args.first c.args.count
    c.loop-index.index (more (col 0) (tags c.args.first c.args.count))
    (omega (arith, c.loop-index-test.false, c.loop-index.auto.index-end))
    c.loop-index.invariant) c.in_ok-tag-2.ensures)

use Rattle.std.proofs.Common.{◌≡◌, suc, ap, ◌∙◌}
use Rattle.rel_algebra.specs.BodySteps.{case_of, col, tag}
use Rattle.rel_algebra.specs.PlanView.{scalar_of}
use Rattle.rel_algebra.specs.declared.scalar.Scalar.TheVariants as code
use Rattle.plan_expressions.proofs.Laws.{if_ok, scalar_of-Column}
use Rattle.plan_statements.proofs.choices.chosen.Goals as goal

pub returns : goal.returns
returns c =
    let otherwise : scalar_of c.in_ok-otherwise.otherwise ≡ tag (suc c.args.free) =
    c.in_ok-otherwise.ensures ∙ ap tag c.in_ok-after.ensures in
    if_ok c.case_of.result
    (λ s. scalar_of s ≡ case_of (scalar_of (code.Column 0 c.args.column))
    (scalar_of c.in_ok-taken.taken) (scalar_of c.in_ok-otherwise.otherwise))
    (λ s. scalar_of s ≡ case_of (col c.args.column) (tag c.args.free) (tag (suc c.args.free)))
    c.case_of.ensures
    (λ s h. h ∙ (λ j. case_of (scalar_of-Column 0 c.args.column j) (c.in_ok-taken.ensures j)
    (otherwise j)))

use Rattle.std.proofs.Common.{ap, ◌∙◌}
use Rattle.rel_algebra.specs.BodySteps.{two}
use Rattle.rel_algebra.specs.Plan.{Scalar, strict, word}
use Rattle.rel_algebra.specs.PlanView.{scalar_of}
use Rattle.rel_algebra.specs.Tree.{Comparing}
use Rattle.sql_values.specs.declared.operators.Comparison.TheVariants.{Equals}
use Rattle.plan_expressions.proofs.Laws.{if_ok, scalar_of-Column}
use Rattle.plan_steps.specs.Places.{leaf_in}
use Rattle.plan_statements.proofs.Several.{alone_emits, compared_emits}
use Rattle.plan_statements.proofs.choices.emit_test.Goals as goal

pub returns-in-Some : goal.returns-in-Some
returns-in-Some c =
    let p = c.args.place.now in
    let e = leaf_in p.functions.now c.args.test.now in
    let tested = scalar_of c.in_ok-scalar.scalar in
    let x = c.in-Some.column in
    if_ok c.compare.result _ _ c.compare.ensures
    (λ s made. compared_emits c.args.operand x e p c.args.nodes.now c.emit_value.new.nodes
    c.in_ok-scalar.scalar (scalar_of s) c.in-Some.is c.in_ok-scalar.ensures
    (made ∙ ap (λ (y : Scalar). word (strict (Comparing Equals)) (two y tested))
    (scalar_of-Column 0 x)))

pub returns-in-None : goal.returns-in-None
returns-in-None c =
    let p = c.args.place.now in
    alone_emits c.args.operand (leaf_in p.functions.now c.args.test.now) p c.args.nodes.now
    c.emit_value.new.nodes (scalar_of c.in_ok-scalar.scalar) c.in-None.is c.in_ok-scalar.ensures

use Rattle.std.proofs.Common.{◌∷◌, [], List, Bool, sym, ap, ◌∙◌}
use Rattle.rel_algebra.specs.declared.scalar.Scalar.{Scalar as ScalarCode}
use Rattle.rel_algebra.specs.Plan.{more}
use Rattle.plan_expressions.specs.Emission.{check_if, put}
use Rattle.plan_expressions.proofs.Lists.{put-append}
use Rattle.plan_expressions.proofs.guards.add_check.Goals as goal

pub returns-in_ok-push : goal.returns-in_ok-push
returns-in_ok-push c = λ known rest.
    ap (λ (ss : List ScalarCode). put ss rest) c.in_ok-push.ensures.ok ∙
    put-append c.args.checks.now (c.in_ok-check.field-0 ∷ []) rest
    ∙ ap (λ s. put c.args.checks.now (more s rest)) c.in_ok-check.ensures
    ∙ ap (λ (b : Bool). put c.args.checks.now (check_if b c.args.column rest))
    (sym c.if-is_guarded.true ∙ c.is_guarded.ensures known)

pub returns-else-is_guarded : goal.returns-else-is_guarded
returns-else-is_guarded c = λ known rest. ap (λ (b : Bool). put c.args.checks.now
    (check_if b c.args.column rest)) (sym c.if-is_guarded.false ∙ c.is_guarded.ensures known)

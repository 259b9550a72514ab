use Rattle.std.proofs.Common.{length, map, true, sym, ap, ◌∙◌}
use Rattle.std.proofs.lemmas.Result.{on_ok_weaker}
use Rattle.sql_values.specs.declared.value.Value.TheVariants.{Bool as Truth}
use Rattle.rel_algebra.specs.Plan.{Scalar, anew, apply, into}
use Rattle.rel_algebra.specs.PlanView.{scalars_of, tree_of}
use Rattle.routine_views.specs.Views.{target}
use Rattle.plan_expressions.specs.Drafts.{drafted}
use Rattle.plan_expressions.proofs.Laws.{length-map, scalar_of-Constant}
use Rattle.plan_statements.proofs.Several.{asked_put}
use Rattle.plan_statements.proofs.storing.put_asked.Goals as goal

pub returns : goal.returns
returns c =
    let p = c.args.place.now in
    on_ok_weaker c.put_targets.result
    (asked_put p c.args.at c.spot_of-spot.result (tree_of c.args.inner)
    (map target c.args.targets.now) (length c.args.targets.now) c.in_ok-first.first c.in_ok-tested.tested
    (scalars_of c.in_ok-assigns.field-0) c.nodes_over-nodes.result c.apply.new.self
    c.extend.new.self c.args.draft.now c.put_targets.new.draft c.spot_of-spot.ensures
    c.nodes_over-nodes.ensures.tree
    (c.in_ok-apply.ensures.tree ∙ ap (λ (s : Scalar). apply s (into (length c.args.targets.now)) anew
    (tree_of c.args.inner) (drafted c.nodes_over-nodes.result).tree)
    (scalar_of-Constant (Truth true)))
    (sym (length-map target c.args.targets.now)) c.in_ok-first.ensures
    c.in_ok-tested.ensures c.in_ok-assigns.ensures c.in_ok-extend.ensures.tree)
    c.put_targets.ensures

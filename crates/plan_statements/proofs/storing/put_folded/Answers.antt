use Rattle.std.proofs.Common.{◌∷◌, length, map, sym, ap, ◌∙◌}
use Rattle.std.proofs.lemmas.Result.{on_ok_weaker}
use Rattle.rel_algebra.specs.BodyChain.{assigns_if}
use Rattle.rel_algebra.specs.Joins.{places}
use Rattle.rel_algebra.specs.PlanView.{scalars_of}
use Rattle.routine_views.specs.Views.{target}
use Rattle.plan_expressions.specs.Drafts.{drafted}
use Rattle.plan_expressions.proofs.Laws.{length-map}
use Rattle.plan_statements.proofs.Several.{list_put}
use Rattle.plan_statements.proofs.storing.put_folded.Goals as goal

pub returns : goal.returns
returns c =
    let p = c.args.place.now in
    let spot = c.args.spot.now in
    let first = c.columns-first.result in
    let ts = map target c.args.targets.now in
    let many = sym (length-map target c.args.targets.now) in
    on_ok_weaker c.put_targets.result
    (λ puts e tree. list_put p spot e first (drafted c.args.nodes).width c.in_ok-checked.checked
    c.in_ok-tested.tested (length c.args.targets.now) (scalars_of c.args.list)
    (scalars_of c.in_ok-assigns_if.field-0) ts c.args.nodes c.extend.new.self c.extend-2.new.self
    c.args.draft.now c.put_targets.new.draft c.columns-first.ensures many
    c.in_ok-checked.ensures c.in_ok-tested.ensures (c.in_ok-assigns_if.ensures ∙
    ap (λ n. assigns_if (spot.columns ∷ places first n) ts first) many) tree
    c.in_ok-extend.ensures.tree c.in_ok-extend-2.ensures.tree puts) c.put_targets.ensures

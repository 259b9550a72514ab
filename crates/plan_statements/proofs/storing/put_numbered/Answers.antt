use Rattle.std.proofs.Common.{List, map, suc, sym, ap, ◌∙◌}
use Rattle.std.proofs.lemmas.Result.{on_ok_weaker}
use Rattle.bound_trees.specs.declared.statement.BoundTarget.{BoundTarget}
use Rattle.rel_algebra.specs.PlanView.{scalars_of}
use Rattle.routine_views.specs.Views.{condition_read, target}
use Rattle.plan_expressions.proofs.Laws.{length-map}
use Rattle.plan_statements.proofs.Several.{numbered_put}
use Rattle.plan_statements.proofs.storing.put_numbered.Goals as goal

pub returns : goal.returns
returns c =
    on_ok_weaker c.put_targets.result
    (λ puts e tree. numbered_put c.args.place.now c.args.spot.now e c.args.numbered c.args.column
    c.in_ok-checked.checked c.in_ok-first.first c.in_ok-count.count c.in_ok-tested.tested
    (map condition_read c.args.reads.now) (scalars_of c.in_ok-condition_cells.field-0)
    (map target c.as_slice.result.now) c.args.nodes c.extend.new.self c.args.draft.now
    c.put_targets.new.draft c.in_ok-checked.ensures c.in_ok-first.ensures
    (c.in_ok-count.ensures ∙ ap suc (sym (length-map condition_read c.args.reads.now))) c.in_ok-tested.ensures
    (ap (λ (ts : List BoundTarget). map target ts) c.as_slice.ensures ∙ c.in_ok-targets.ensures)
    c.in_ok-condition_cells.ensures tree c.in_ok-extend.ensures.tree puts) c.put_targets.ensures

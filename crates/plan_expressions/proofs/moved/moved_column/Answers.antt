use Rattle.std.proofs.Common.{◌≡◌, ◌+◌, ◌∙◌}
use Rattle.rel_algebra.specs.Merged.{moved_scalar}
use Rattle.rel_algebra.specs.Plan.{column}
use Rattle.rel_algebra.specs.PlanView.{scalar_of}
use Rattle.plan_expressions.specs.Merging.{move_of}
use Rattle.plan_expressions.proofs.Moving.{own_column, other_column, if_ok}
use Rattle.plan_expressions.proofs.Views.{scalar_of-Column}
use Rattle.plan_expressions.proofs.moved.moved_column.Goals as goal

pub returns-then-level-depth : goal.returns-then-level-depth
returns-then-level-depth c =
    if_ok c.own_column.result (λ s. scalar_of s ≡ column c.args.depth
    (c.args.shift.by + c.args.place))
    (λ s. scalar_of s ≡ moved_scalar (move_of c.args.shift) c.args.depth
    (column c.args.level c.args.place)) c.own_column.ensures
    (λ s h. h ∙ own_column (move_of c.args.shift) c.args.depth c.args.level c.args.place
    c.if-level-depth.true)

pub returns-else-level-depth : goal.returns-else-level-depth
returns-else-level-depth c =
    scalar_of-Column c.args.level c.args.place ∙
    other_column (move_of c.args.shift) c.args.depth c.args.level c.args.place
    c.if-level-depth.false

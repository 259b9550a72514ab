use Rattle.std.proofs.Common.{◌≡◌, ◌++◌, drop}
use Rattle.rel_algebra.specs.Merged.{moved_lists}
use Rattle.rel_algebra.specs.PlanView.{lists_of}
use Rattle.plan_expressions.specs.Merging.{move_of}
use Rattle.plan_expressions.proofs.moved_plans.moved_rows.Given as goal

abbrev pub invariant-loop-list : goal.invariant-loop-list
invariant-loop-list l = lists_of l.moved ++ moved_lists (move_of l.shift) l.row
    (lists_of (drop l.list-index l.rows)) ≡ moved_lists (move_of l.fn.shift) l.fn.row
    (lists_of l.rows)

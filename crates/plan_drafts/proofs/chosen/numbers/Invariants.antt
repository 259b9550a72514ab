use Rattle.std.proofs.Common.{◌≡◌, ◌-◌, ◌++◌}
use Rattle.rel_algebra.specs.Emit.{numbers}
use Rattle.rel_algebra.specs.PlanView.{lists_of}
use Rattle.plan_drafts.proofs.chosen.numbers.Given as goal

abbrev pub invariant-loop-number : goal.invariant-loop-number
invariant-loop-number l = lists_of l.rows ++ numbers l.number (l.count - l.number) ≡
    numbers 0 l.count

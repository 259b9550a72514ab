use Rattle.std.proofs.Common.{◌≡◌, [], ◌++◌}
use Rattle.rel_algebra.specs.PlanText.{indented}
use Rattle.plan_text.proofs.lines.put_margin.Given as goal

abbrev pub invariant-loop : goal.invariant-loop
invariant-loop l = l.text.items ≡ l.fn.text.items ++ indented l.counter []

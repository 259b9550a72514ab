use Rattle.std.proofs.Common.{◌≡◌, ◌-◌, ◌++◌}
use Rattle.null_guards.specs.Guards.{null_tests}
use Rattle.null_guards.proofs.guard.null_tests.Given as goal

abbrev pub invariant-loop-place : goal.invariant-loop-place
invariant-loop-place l = l.tests ++ null_tests l.place (l.count - l.place) ≡ null_tests 0 l.count

use Rattle.std.proofs.Common.{◌≡◌, ◌≤◌, map, drop}
use Rattle.routine_form.specs.declared.sum.TheConstants.{HEAVIEST}
use Rattle.routine_form.specs.Sums.{add}
use Rattle.routine_form.specs.Weight.{tests, weight_of_branch}
use Rattle.routine_form.proofs.weighing.tests_weight.Given as goal

abbrev pub invariant-loop-branch : goal.invariant-loop-branch
invariant-loop-branch l = record {
  counted : add l.calls (tests (map (weight_of_branch l.catalog) (drop l.branch-index l.branches)))
      ≡ tests (map (weight_of_branch l.catalog) l.branches);
  most : l.calls ≤ HEAVIEST;
}

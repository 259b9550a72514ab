use Rattle.std.proofs.Common.{◌≡◌, ◌≤◌, map, drop}
use Rattle.routine_form.specs.declared.sum.TheConstants.{HEAVIEST}
use Rattle.routine_form.specs.Sums.{add}
use Rattle.routine_form.specs.Weight.{all, bodies, weight_under, weight_of_branch}
use Rattle.routine_form.specs.Weight.{weight_of_handler}
use Rattle.routine_form.proofs.weighing.+weigh.Given as goal

abbrev pub invariant-all_weight-loop-stmt : goal.invariant-all_weight-loop-stmt
invariant-all_weight-loop-stmt l = record {
  counted : add l.weight (all (map (weight_under l.catalog) (drop l.stmt-index l.stmts)) l.handlers)
      ≡ all (map (weight_under l.catalog) l.stmts) l.handlers;
  most : l.weight ≤ HEAVIEST;
}

abbrev pub invariant-bodies_weight-loop-branch : goal.invariant-bodies_weight-loop-branch
invariant-bodies_weight-loop-branch l = record {
  counted : add l.weight (bodies (map (weight_of_branch l.catalog) (drop l.branch-index l.branches))
      l.handlers) ≡ bodies (map (weight_of_branch l.catalog) l.branches) l.handlers;
  most : l.weight ≤ HEAVIEST;
}

abbrev pub invariant-actions_weight-loop-handler : goal.invariant-actions_weight-loop-handler
invariant-actions_weight-loop-handler l = record {
  counted : add l.weight (all (map (weight_of_handler l.catalog) (drop l.handler-index l.actions))
      l.outer) ≡ all (map (weight_of_handler l.catalog) l.actions) l.outer;
  most : l.weight ≤ HEAVIEST;
}

use Rattle.std.proofs.Common.{◌≡◌, map, drop}
use Rattle.region_trees.specs.Form.{all}
use Rattle.block_forms.specs.Filled.{filled, filled_branch, filled_handler}
use Rattle.block_forms.proofs.filled.+filled.Given as goal

abbrev pub invariant-all_filled-loop-stmt : goal.invariant-all_filled-loop-stmt
invariant-all_filled-loop-stmt l = all (map (filled l.functions) (drop l.stmt-index l.stmts)) ≡
    all (map (filled l.functions) l.stmts)

abbrev pub invariant-branches_filled-loop-branch : goal.invariant-branches_filled-loop-branch
invariant-branches_filled-loop-branch l =
    all (map (filled_branch l.functions) (drop l.branch-index l.branches)) ≡
    all (map (filled_branch l.functions) l.branches)

abbrev pub invariant-actions_filled-loop-handler : goal.invariant-actions_filled-loop-handler
invariant-actions_filled-loop-handler l =
    all (map (filled_handler l.functions) (drop l.handler-index l.handlers)) ≡
    all (map (filled_handler l.functions) l.handlers)

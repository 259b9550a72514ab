use Rattle.std.proofs.Common.{◌≡◌, map, drop}
use Rattle.region_trees.specs.Form.{all, formed, formed_branch, formed_handler}
use Rattle.region_trees.proofs.forming.+form.Given as goal

abbrev pub invariant-all_formed-loop-stmt : goal.invariant-all_formed-loop-stmt
invariant-all_formed-loop-stmt l = all (map (formed l.functions) (drop l.stmt-index l.stmts)) ≡
    all (map (formed l.functions) l.stmts)

abbrev pub invariant-branches_formed-loop-branch : goal.invariant-branches_formed-loop-branch
invariant-branches_formed-loop-branch l =
    all (map (formed_branch l.functions) (drop l.branch-index l.branches)) ≡
    all (map (formed_branch l.functions) l.branches)

abbrev pub invariant-actions_formed-loop-handler : goal.invariant-actions_formed-loop-handler
invariant-actions_formed-loop-handler l =
    all (map (formed_handler l.functions) (drop l.handler-index l.handlers)) ≡
    all (map (formed_handler l.functions) l.handlers)

use Rattle.std.proofs.Common.{◌≡◌, map, drop}
use Rattle.bind_rules.specs.Access.{any, writes, writes_in_branch, writes_in_handler}
use Rattle.bind_rules.proofs.access.+writes.Given as goal

abbrev pub invariant-any_writes-loop-stmt : goal.invariant-any_writes-loop-stmt
invariant-any_writes-loop-stmt l = any (map writes (drop l.stmt-index l.stmts)) ≡
    any (map writes l.stmts)

abbrev pub invariant-any_branch-loop-branch : goal.invariant-any_branch-loop-branch
invariant-any_branch-loop-branch l = any (map writes_in_branch (drop l.branch-index l.branches)) ≡
    any (map writes_in_branch l.branches)

abbrev pub invariant-any_action-loop-handler : goal.invariant-any_action-loop-handler
invariant-any_action-loop-handler l = any (map writes_in_handler (drop l.handler-index l.handlers))
    ≡ any (map writes_in_handler l.handlers)

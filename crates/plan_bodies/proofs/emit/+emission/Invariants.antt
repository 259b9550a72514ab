use Rattle.std.proofs.Common.{◌+◌, ◌*◌, ◌-◌}
use Rattle.bound_trees.specs.declared.statement.BoundBlock.{out-BoundBlock}
use Rattle.bound_trees.specs.declared.statement.BoundBranch.{out-BoundBranch}
use Rattle.bound_trees.specs.declared.statement.BoundHandler.{out-BoundHandler}
use Rattle.plan_bodies.specs.Cost.{actions_cost, branches_cost, cost, place_cost, sight_cost}
use Rattle.plan_bodies.specs.Cost.{stmts_cost}
use Rattle.plan_steps.specs.Places.{block_in, branches_in, stmt_in, stmts_in}
use Rattle.plan_bodies.proofs.Blocks.{Acting}
use Rattle.plan_bodies.proofs.Emitting.{Listing, Testing}
use Rattle.plan_bodies.proofs.emit.+emission.Given as goal

-- statements

abbrev pub decreases-emit_stmt : goal.decreases-emit_stmt
decreases-emit_stmt l = 16 * (cost (stmt_in l.place.now.functions.now l.stmt.now)
    + place_cost l.place.now)

abbrev pub decreases-emit_list : goal.decreases-emit_list
decreases-emit_list l = 16 * (stmts_cost (stmts_in l.place.now.functions.now l.stmts.now)
    + place_cost l.place.now) + 1

abbrev pub invariant-emit_list-loop-stmt : goal.invariant-emit_list-loop-stmt
invariant-emit_list-loop-stmt l = Listing l.place l.at l.stmts l.stmt-index l.initial.draft
    l.draft

abbrev pub decreases-emit_set : goal.decreases-emit_set
decreases-emit_set l = 16 * place_cost l.place.now + 12

abbrev pub decreases-emit_return : goal.decreases-emit_return
decreases-emit_return l = 16 * place_cost l.place.now + 12

abbrev pub decreases-emit_into : goal.decreases-emit_into
decreases-emit_into l = 16 * place_cost l.place.now + 12

abbrev pub decreases-emit_signal : goal.decreases-emit_signal
decreases-emit_signal l = 16 * place_cost l.place.now + 12

abbrev pub decreases-emit_resignal : goal.decreases-emit_resignal
decreases-emit_resignal l = 16 * place_cost l.place.now + 12

abbrev pub decreases-emit_get : goal.decreases-emit_get
decreases-emit_get l = 16 * place_cost l.place.now + 12

-- tests

abbrev pub decreases-emit_tested : goal.decreases-emit_tested
decreases-emit_tested l = 16 * (branches_cost (branches_in l.place.now.functions.now
    l.branches.now) + stmts_cost (stmts_in l.place.now.functions.now l.otherwise.now)
    + place_cost l.place.now) + 14

abbrev pub decreases-emit_compared : goal.decreases-emit_compared
decreases-emit_compared l = 16 * (branches_cost (branches_in l.place.now.functions.now
    l.branches.now) + stmts_cost (stmts_in l.place.now.functions.now l.otherwise.now)
    + place_cost l.place.now) + 14

abbrev pub decreases-emit_choice : goal.decreases-emit_choice
decreases-emit_choice l = 16 * (branches_cost (branches_in l.place.now.functions.now
    l.branches.now) + stmts_cost (stmts_in l.place.now.functions.now l.otherwise.now)
    + place_cost l.place.now) + 13

abbrev pub decreases-emit_branches : goal.decreases-emit_branches
decreases-emit_branches l = 16 * (branches_cost (branches_in l.place.now.functions.now
    l.branches.now) + place_cost l.place.now) + 12

abbrev pub invariant-emit_branches-loop-branch : goal.invariant-emit_branches-loop-branch
invariant-emit_branches-loop-branch l = Testing l.operand l.place l.spot l.branches
    l.branch-index l.free l.reached l.initial.draft l.draft

abbrev pub decreases-emit_branch : goal.decreases-emit_branch
decreases-emit_branch l = 16 * (stmts_cost (stmts_in l.place.now.functions.now
    (out-BoundBranch l.branch.now).body) + place_cost l.place.now) + 11

abbrev pub decreases-emit_otherwise : goal.decreases-emit_otherwise
decreases-emit_otherwise l = 16 * (stmts_cost (stmts_in l.place.now.functions.now
    l.otherwise.now) + place_cost l.place.now) + 11

-- actions

abbrev pub decreases-emit_taken : goal.decreases-emit_taken
decreases-emit_taken l = 16 * place_cost l.place.now + 11

abbrev pub decreases-emit_handled : goal.decreases-emit_handled
decreases-emit_handled l = 16 * place_cost l.place.now + 10

abbrev pub decreases-emit_actions : goal.decreases-emit_actions
decreases-emit_actions l = 16 * sight_cost l.place.now.functions.now l.sight.now + 9

abbrev pub decreases-emit_scope : goal.decreases-emit_scope
decreases-emit_scope l = 16 * (actions_cost l.place.now.functions.now l.scope.now.handlers.now
    + sight_cost l.place.now.functions.now l.outer.now) + 8

abbrev pub invariant-emit_scope-loop-handler : goal.invariant-emit_scope-loop-handler
invariant-emit_scope-loop-handler l = Acting l.all l.place l.scope l.outer l.at
    l.handler-index l.own l.initial.draft l.draft

abbrev pub decreases-emit_action : goal.decreases-emit_action
decreases-emit_action l = 16 * (cost (stmt_in l.place.now.functions.now
    (out-BoundHandler l.handler.now).action) + place_cost l.place.now) + 1

-- compound statements

abbrev pub decreases-emit_block : goal.decreases-emit_block
decreases-emit_block l = 16 * (cost (block_in l.place.now.functions.now l.block.now)
    + place_cost l.place.now) - 1

abbrev pub decreases-emit_inside : goal.decreases-emit_inside
decreases-emit_inside l =
    let b = out-BoundBlock l.block.now in let k = l.place.now.functions.now in
    16 * (actions_cost k b.handlers + stmts_cost (stmts_in k b.statements) + 1
    + place_cost l.place.now) + 14

abbrev pub decreases-emit_declared : goal.decreases-emit_declared
decreases-emit_declared l =
    let b = out-BoundBlock l.block.now in let k = l.place.now.functions.now in
    16 * (actions_cost k b.handlers + stmts_cost (stmts_in k b.statements) + 1
    + place_cost l.place.now) + 13

abbrev pub decreases-emit_body : goal.decreases-emit_body
decreases-emit_body l =
    let b = out-BoundBlock l.block.now in let k = l.place.now.functions.now in
    16 * (actions_cost k b.handlers + stmts_cost (stmts_in k b.statements) + 1
    + place_cost l.place.now) + 12

abbrev pub decreases-emit_ending : goal.decreases-emit_ending
decreases-emit_ending l =
    let b = out-BoundBlock l.block.now in let k = l.place.now.functions.now in
    16 * (actions_cost k b.handlers + place_cost l.place.now) + 9

abbrev pub decreases-emit_whole : goal.decreases-emit_whole
decreases-emit_whole l = 16 * place_cost l.place.now + 11

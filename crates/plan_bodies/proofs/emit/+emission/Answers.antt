use Rattle.std.proofs.Common.{◌≡◌, ◌∙◌, ◌+◌, ◌++◌, ℕ, suc, true, List, [], ◌∷◌, None, Some, map}
use Rattle.std.proofs.Common.{refl, sym, ap, arith}
use Rattle.std.proofs.lemmas.Result.{on_ok_weaker}
use Rattle.bound_trees.specs.declared.statement.BoundBlock.{out-BoundBlock}
use Rattle.bound_trees.specs.declared.statement.BoundHandler.{out-BoundHandler}
use Rattle.bound_trees.specs.declared.statement.BoundStmt.{BoundStmt}
use Rattle.bound_trees.specs.declared.statement.BoundStmt.TheVariants as bound
use Rattle.bound_trees.specs.declared.statement.BoundVariables.{BoundVariables}
use Rattle.rel_algebra.specs.Bodies as body
use Rattle.rel_algebra.specs.BodyChain.{emit, emit_all, emit_declares, has_default, set_at}
use Rattle.rel_algebra.specs.BodyChain.{variable_count}
use Rattle.rel_algebra.specs.BodyDispatch.{Codes, actions}
use Rattle.rel_algebra.specs.BodySteps.{Step, jump, steps_tree}
use Rattle.rel_algebra.specs.Joins.{places}
use Rattle.regions.specs.TreeBodies.{stmt_body}
use Rattle.region_trees.specs.Regions.{get_region, nothing, seen_by}
use Rattle.routine_views.specs.Views.{handler_type, target}
use Rattle.plan_expressions.specs.Drafts.{drafted}
use Rattle.plan_bodies.specs.Cost.{actions_cost, cost, place_cost, sight_cost}
use Rattle.plan_steps.specs.Places.{block_in, branches_in, codes_in, codes_of, env_in, leaf_in}
use Rattle.plan_steps.specs.Places.{marked, perhaps_in, query_in, stmt_in, stmts_in, variables_in}
use Rattle.plan_steps.specs.Places.{widths_in}
use Rattle.plan_bodies.specs.Choices.{choice_by}
use Rattle.plan_steps.specs.declared.dispatch.At.{At}
use Rattle.plan_steps.specs.declared.dispatch.Spot.{Spot}
use Rattle.plan_steps.specs.declared.sight.Sight.{Sight}
use Rattle.plan_bodies.proofs.Blocks.{acting_done, acting_first, acting_next, action_small}
use Rattle.plan_bodies.proofs.Blocks.{block_put, codes_are, declared_put, ending_put, exits_are}
use Rattle.plan_bodies.proofs.Blocks.{inside_put, no_ending, nothing_is, outer_in, pick_left}
use Rattle.plan_bodies.proofs.Blocks.{pick_taken, statements_put, whole_atomic, whole_given}
use Rattle.plan_bodies.proofs.Blocks.{whole_none}
use Rattle.plan_bodies.proofs.Choosing.{actions_put, choice_put, compared_put, handled_none}
use Rattle.plan_bodies.proofs.Choosing.{handled_put, otherwise_put, otherwise_raises, seen_put}
use Rattle.plan_bodies.proofs.Choosing.{taken_put, tested_put}
use Rattle.plan_bodies.proofs.Costs.{actions_same, block_cost, block_same, cost_some, costs-Block}
use Rattle.plan_bodies.proofs.Costs.{costs-Case, costs-CaseOf, costs-If, outside_small, place_costs}
use Rattle.plan_bodies.proofs.Costs.{scope_costs, statements_same}
use Rattle.plan_bodies.proofs.Emitting.{again_taken, branch_goes, branches_rest, get_taken}
use Rattle.plan_bodies.proofs.Emitting.{into_taken, listing_done, listing_first, listing_next}
use Rattle.plan_bodies.proofs.Emitting.{puts_taken, stmts_rest, testing_done, testing_first}
use Rattle.plan_bodies.proofs.Emitting.{testing_next}
use Rattle.plan_bodies.proofs.Others.{stmt_other}
use Rattle.plan_steps.proofs.Seen.{none_in, some_in}
use Rattle.plan_steps.proofs.Stepping.{puts_as}
use Rattle.plan_steps.proofs.Trees.{stmt-Block, stmt-Case, stmt-CaseOf, stmt-Get, stmt-If}
use Rattle.plan_steps.proofs.Trees.{stmt-Leave, stmt-Resignal, stmt-Return, stmt-SelectInto}
use Rattle.plan_steps.proofs.Trees.{stmt-Set, stmt-Signal}
use Rattle.plan_bodies.proofs.emit.+emission.Goals as goal

-- ---- statements

pub emit_stmt-returns-in-Block : goal.emit_stmt-returns-in-Block
emit_stmt-returns-in-Block t c =
    let p = c.args.place.now in let k = p.functions.now in
    on_ok_weaker c.emit_block.result
    (seen_put p c.args.at c.args.stmt.now (block_in k c.in-Block.block) c.args.draft.now
    c.emit_block.new.draft
    (sym (stmt-Block k c.in-Block.block) ∙ ap (stmt_in k) (sym c.in-Block.is)))
    c.emit_block.ensures

pub emit_stmt-returns-in-Set : goal.emit_stmt-returns-in-Set
emit_stmt-returns-in-Set t c =
    let p = c.args.place.now in let k = p.functions.now in
    on_ok_weaker c.emit_set.result
    (seen_put p c.args.at c.args.stmt.now
    (body.Set (target c.in-Set.target) (leaf_in k c.in-Set.value)) c.args.draft.now
    c.emit_set.new.draft
    (sym (stmt-Set k c.in-Set.target c.in-Set.value) ∙ ap (stmt_in k) (sym c.in-Set.is)))
    c.emit_set.ensures

pub emit_stmt-returns-in-Return : goal.emit_stmt-returns-in-Return
emit_stmt-returns-in-Return t c =
    let p = c.args.place.now in let k = p.functions.now in
    on_ok_weaker c.emit_return.result
    (seen_put p c.args.at c.args.stmt.now (body.Return (leaf_in k c.in-Return.value))
    c.args.draft.now c.emit_return.new.draft
    (sym (stmt-Return k c.in-Return.value) ∙ ap (stmt_in k) (sym c.in-Return.is)))
    c.emit_return.ensures

pub emit_stmt-returns-in-Signal : goal.emit_stmt-returns-in-Signal
emit_stmt-returns-in-Signal t c =
    let p = c.args.place.now in let k = p.functions.now in let s = c.in-Signal.signal in
    on_ok_weaker c.emit_signal.result
    (seen_put p c.args.at c.args.stmt.now (body.Signal s.state (perhaps_in k s.message))
    c.args.draft.now c.emit_signal.new.draft
    (sym (stmt-Signal k s) ∙ ap (stmt_in k) (sym c.in-Signal.is))) c.emit_signal.ensures

pub emit_stmt-returns-in-Resignal : goal.emit_stmt-returns-in-Resignal
emit_stmt-returns-in-Resignal t c =
    let p = c.args.place.now in let k = p.functions.now in let s = c.in-Resignal.signal in
    on_ok_weaker c.emit_resignal.result
    (seen_put p c.args.at c.args.stmt.now (body.Resignal s.state (perhaps_in k s.message))
    c.args.draft.now c.emit_resignal.new.draft
    (sym (stmt-Resignal k s) ∙ ap (stmt_in k) (sym c.in-Resignal.is))) c.emit_resignal.ensures

pub emit_stmt-returns-in-If : goal.emit_stmt-returns-in-If
emit_stmt-returns-in-If t c =
    let p = c.args.place.now in let k = p.functions.now in
    on_ok_weaker c.emit_tested.result
    (seen_put p c.args.at c.args.stmt.now
    (body.If (branches_in k c.as_slice-branches.result.now) (stmts_in k c.as_slice-otherwise.result.now))
    c.args.draft.now c.emit_tested.new.draft
    (sym (stmt-If k c.as_slice-branches.result.now c.as_slice-otherwise.result.now) ∙
    (λ j. stmt_in k (bound.If (c.as_slice-branches.ensures j) (c.as_slice-otherwise.ensures j))) ∙
    ap (stmt_in k) (sym c.in-If.is))) c.emit_tested.ensures

pub emit_stmt-returns-in-None : goal.emit_stmt-returns-in-None
emit_stmt-returns-in-None t c =
    let p = c.args.place.now in let k = p.functions.now in
    let bs = c.as_slice-branches-in-Case.result.now in
    let ss = c.as_slice-otherwise-in-Case.result.now in
    on_ok_weaker c.emit_tested-in-None.result
    (seen_put p c.args.at c.args.stmt.now (body.SearchedCase (branches_in k bs) (stmts_in k ss))
    c.args.draft.now c.emit_tested-in-None.new.draft
    (sym (stmt-Case k bs ss) ∙
    (λ j. stmt_in k (bound.Case ((sym c.in-None.is) j) (c.as_slice-branches-in-Case.ensures j)
    (c.as_slice-otherwise-in-Case.ensures j))) ∙ ap (stmt_in k) (sym c.in-Case.is)))
    c.emit_tested-in-None.ensures

pub emit_stmt-returns-in-Some : goal.emit_stmt-returns-in-Some
emit_stmt-returns-in-Some t c =
    let p = c.args.place.now in let k = p.functions.now in let e = c.in-Some.operand in
    let bs = c.as_slice-branches-in-Case.result.now in
    let ss = c.as_slice-otherwise-in-Case.result.now in
    on_ok_weaker c.emit_compared.result
    (seen_put p c.args.at c.args.stmt.now
    (body.SimpleCase (leaf_in k e) (branches_in k bs) (stmts_in k ss)) c.args.draft.now
    c.emit_compared.new.draft
    (sym (stmt-CaseOf k e bs ss) ∙
    (λ j. stmt_in k (bound.Case ((sym c.in-Some.is) j) (c.as_slice-branches-in-Case.ensures j)
    (c.as_slice-otherwise-in-Case.ensures j))) ∙ ap (stmt_in k) (sym c.in-Case.is)))
    c.emit_compared.ensures

pub emit_stmt-returns-in-Leave : goal.emit_stmt-returns-in-Leave
emit_stmt-returns-in-Leave t c =
    let p = c.args.place.now in let k = p.functions.now in let at = c.args.at in
    on_ok_weaker c.jump.result
    (λ puts. seen_put p at c.args.stmt.now (body.Leave c.in-Leave.outwards) c.args.draft.now
    c.jump.new.draft (sym (stmt-Leave k c.in-Leave.outwards) ∙ ap (stmt_in k) (sym c.in-Leave.is))
    (puts_as c.args.draft.now c.jump.new.draft _ _
    (ap (λ (to : ℕ). jump at.here to at.columns ∷ []) c.label_code.ensures) puts)) c.jump.ensures

pub emit_stmt-returns-in-SelectInto : goal.emit_stmt-returns-in-SelectInto
emit_stmt-returns-in-SelectInto t c =
    let p = c.args.place.now in let k = p.functions.now in let q = c.in-SelectInto.query in
    let ts = c.as_slice.result.now in
    on_ok_weaker c.emit_into.result
    (seen_put p c.args.at c.args.stmt.now (body.SelectInto (query_in k q) (map target ts))
    c.args.draft.now c.emit_into.new.draft
    (sym (stmt-SelectInto k q ts) ∙
    (λ j. stmt_in k (bound.SelectInto q (c.as_slice.ensures j))) ∙
    ap (stmt_in k) (sym c.in-SelectInto.is))) c.emit_into.ensures

pub emit_stmt-returns-in-GetDiagnostics : goal.emit_stmt-returns-in-GetDiagnostics
emit_stmt-returns-in-GetDiagnostics t c =
    let p = c.args.place.now in let k = p.functions.now in let d = c.in-GetDiagnostics.get in
    on_ok_weaker c.emit_get.result
    (seen_put p c.args.at c.args.stmt.now (stmt_body (get_region (seen_by k) d.information))
    c.args.draft.now c.emit_get.new.draft
    (sym (stmt-Get k d) ∙ ap (stmt_in k) (sym c.in-GetDiagnostics.is))) c.emit_get.ensures

pub emit_stmt-returns-in_default : goal.emit_stmt-returns-in_default
emit_stmt-returns-in_default t c =
    let p = c.args.place.now in
    on_ok_weaker c.put_nothing.result
    (λ puts. seen_put p c.args.at c.args.stmt.now (stmt_body nothing) c.args.draft.now
    c.put_nothing.new.draft
    (stmt_other p.functions.now c.args.stmt.now record {
      block = c.in_default.not-Block;
      if_else = c.in_default.not-If;
      case = c.in_default.not-Case;
      set = c.in_default.not-Set;
      select_into = c.in_default.not-SelectInto;
      signal = c.in_default.not-Signal;
      resignal = c.in_default.not-Resignal;
      get = c.in_default.not-GetDiagnostics;
      leave = c.in_default.not-Leave;
      return = c.in_default.not-Return;
    })
    (puts_as c.args.draft.now c.put_nothing.new.draft _ _
    (nothing_is (codes_of p) (env_in p) (widths_in p) c.args.at) puts)) c.put_nothing.ensures

pub emit_stmt-emit_set-requires : goal.emit_stmt-emit_set-requires
emit_stmt-emit_set-requires t c =
    omega (arith, c.decreases, cost_some (stmt_in c.args.place.now.functions.now c.args.stmt.now))

pub emit_stmt-emit_return-requires : goal.emit_stmt-emit_return-requires
emit_stmt-emit_return-requires t c =
    omega (arith, c.decreases, cost_some (stmt_in c.args.place.now.functions.now c.args.stmt.now))

pub emit_stmt-emit_into-requires : goal.emit_stmt-emit_into-requires
emit_stmt-emit_into-requires t c =
    omega (arith, c.decreases, cost_some (stmt_in c.args.place.now.functions.now c.args.stmt.now))

pub emit_stmt-emit_signal-requires : goal.emit_stmt-emit_signal-requires
emit_stmt-emit_signal-requires t c =
    omega (arith, c.decreases, cost_some (stmt_in c.args.place.now.functions.now c.args.stmt.now))

pub emit_stmt-emit_resignal-requires : goal.emit_stmt-emit_resignal-requires
emit_stmt-emit_resignal-requires t c =
    omega (arith, c.decreases, cost_some (stmt_in c.args.place.now.functions.now c.args.stmt.now))

pub emit_stmt-emit_get-requires : goal.emit_stmt-emit_get-requires
emit_stmt-emit_get-requires t c =
    omega (arith, c.decreases, cost_some (stmt_in c.args.place.now.functions.now c.args.stmt.now))

pub emit_stmt-emit_block-requires : goal.emit_stmt-emit_block-requires
emit_stmt-emit_block-requires t c =
    let k = c.args.place.now.functions.now in
    omega (
      arith,
      c.decreases,
      costs-Block k c.args.stmt.now c.in-Block.block c.in-Block.is,
      cost_some (stmt_in k c.args.stmt.now),
    )

pub emit_stmt-emit_tested-requires : goal.emit_stmt-emit_tested-requires
emit_stmt-emit_tested-requires t c =
    omega (
      arith,
      c.decreases,
      costs-If c.args.place.now.functions.now c.args.stmt.now c.in-If.branches
          c.as_slice-branches.result.now c.in-If.otherwise c.as_slice-otherwise.result.now c.in-If.is
          c.as_slice-branches.ensures c.as_slice-otherwise.ensures,
    )

pub emit_stmt-emit_tested-requires-in-None : goal.emit_stmt-emit_tested-requires-in-None
emit_stmt-emit_tested-requires-in-None t c =
    let bs = c.in-Case.branches in let ss = c.in-Case.otherwise in
    omega (
      arith,
      c.decreases,
      costs-Case c.args.place.now.functions.now c.args.stmt.now bs
          c.as_slice-branches-in-Case.result.now ss c.as_slice-otherwise-in-Case.result.now
          (c.in-Case.is ∙ (λ j. bound.Case (c.in-None.is j) bs ss))
          c.as_slice-branches-in-Case.ensures c.as_slice-otherwise-in-Case.ensures,
    )

pub emit_stmt-emit_compared-requires : goal.emit_stmt-emit_compared-requires
emit_stmt-emit_compared-requires t c =
    let bs = c.in-Case.branches in let ss = c.in-Case.otherwise in
    omega (
      arith,
      c.decreases,
      costs-CaseOf c.args.place.now.functions.now c.args.stmt.now c.in-Some.operand bs
          c.as_slice-branches-in-Case.result.now ss c.as_slice-otherwise-in-Case.result.now
          (c.in-Case.is ∙ (λ j. bound.Case (c.in-Some.is j) bs ss))
          c.as_slice-branches-in-Case.ensures c.as_slice-otherwise-in-Case.ensures,
    )

-- ---- statements in order

pub emit_list-loop-stmt-init : goal.emit_list-loop-stmt-init
emit_list-loop-stmt-init t c =
    listing_first c.args.place.now c.args.at c.args.stmts.now c.args.draft.now

pub emit_list-loop-stmt-preserved : goal.emit_list-loop-stmt-preserved
emit_list-loop-stmt-preserved t c =
    listing_next c.args.place.now c.args.at c.args.stmts.now c.loop-stmt.stmt-index
    c.stmt-item.result c.args.draft.now c.loop-stmt.draft c.emit_stmt.new.draft
    c.loop-stmt-test.true c.stmt-item.is c.loop-stmt.invariant c.in_ok-emit_stmt.ensures

pub emit_list-returns : goal.emit_list-returns
emit_list-returns t c =
    listing_done c.args.place.now c.args.at c.args.stmts.now c.loop-stmt.stmt-index
    c.args.draft.now c.loop-stmt.draft c.loop-stmt-test.false c.loop-stmt.invariant

pub emit_list-emit_stmt-requires : goal.emit_list-emit_stmt-requires
emit_list-emit_stmt-requires t c =
    omega (
      arith,
      c.decreases,
      stmts_rest c.args.place.now c.args.stmts.now c.loop-stmt.stmt-index c.stmt-item.result
          c.loop-stmt-test.true c.stmt-item.is,
      c.loop-stmt.invariant.small,
    )

-- ---- statements of one step

pub emit_set-returns : goal.emit_set-returns
emit_set-returns t c =
    let p = c.args.place.now in
    on_ok_weaker c.emit_taken.result
    (puts_taken c.args.draft.now c.put_set.new.draft c.emit_taken.new.draft _ (codes_of p)
    (env_in p) c.args.at refl c.in_ok-put_set.ensures) c.emit_taken.ensures

pub emit_return-returns : goal.emit_return-returns
emit_return-returns t c =
    let p = c.args.place.now in
    on_ok_weaker c.emit_taken.result
    (puts_taken c.args.draft.now c.put_return.new.draft c.emit_taken.new.draft _ (codes_of p)
    (env_in p) c.args.at refl c.in_ok-put_return.ensures) c.emit_taken.ensures

pub emit_into-returns : goal.emit_into-returns
emit_into-returns t c =
    let p = c.args.place.now in
    on_ok_weaker c.emit_taken.result
    (puts_taken c.args.draft.now c.put_into.new.draft c.emit_taken.new.draft _ (codes_of p)
    (env_in p) c.args.at
    (into_taken (query_in p.functions.now c.args.query.now) (map target c.args.targets.now)
    (widths_in p) (codes_of p) (env_in p) c.args.at) c.in_ok-put_into.ensures)
    c.emit_taken.ensures

pub emit_signal-returns : goal.emit_signal-returns
emit_signal-returns t c =
    let p = c.args.place.now in
    on_ok_weaker c.emit_taken.result
    (puts_taken c.args.draft.now c.put_signal.new.draft c.emit_taken.new.draft _ (codes_of p)
    (env_in p) c.args.at refl c.in_ok-put_signal.ensures) c.emit_taken.ensures

pub emit_resignal-returns : goal.emit_resignal-returns
emit_resignal-returns t c =
    let p = c.args.place.now in
    on_ok_weaker c.emit_taken.result
    (puts_taken c.args.draft.now c.put_resignal.new.draft c.emit_taken.new.draft _ (codes_of p)
    (env_in p) c.args.at
    (again_taken p.stacked c.args.signal.now.state
    (perhaps_in p.functions.now c.args.signal.now.message) (widths_in p) (codes_of p) (env_in p)
    c.args.at) c.in_ok-put_resignal.ensures) c.emit_taken.ensures

pub emit_get-returns : goal.emit_get-returns
emit_get-returns t c =
    let p = c.args.place.now in
    on_ok_weaker c.emit_taken.result
    (puts_taken c.args.draft.now c.put_get.new.draft c.emit_taken.new.draft _ (codes_of p)
    (env_in p) c.args.at (get_taken c.args.get.now.information p c.args.at)
    c.in_ok-put_get.ensures) c.emit_taken.ensures

-- ---- tests

pub emit_tested-returns : goal.emit_tested-returns
emit_tested-returns t c =
    let p = c.args.place.now in
    on_ok_weaker c.emit_handled.result
    (tested_put p c.args.at c.spot_of-spot.result
    (choice_by None c.args.branches.now c.args.otherwise.now c.args.wants_else p) c.in_ok-free.free c.args.draft.now
    c.emit_choice.new.draft c.emit_handled.new.draft c.spot_of-spot.ensures
    (c.in_ok-free.ensures p.functions.now) c.in_ok-emit_choice.ensures) c.emit_handled.ensures

pub emit_compared-returns : goal.emit_compared-returns
emit_compared-returns t c =
    let p = c.args.place.now in let k = p.functions.now in let at = c.args.at in
    let start = c.in_ok-start.start in
    let inner : Spot = record {
      from = start;
      here = at.here;
      base = at.next;
      columns = c.in_ok-after.field-0;
    } in
    let wide : inner ≡ record {
      from = start;
      here = at.here;
      base = at.next;
      columns = suc at.columns;
    } = (λ j. record {
      from = start;
      here = at.here;
      base = at.next;
      columns = c.in_ok-after.ensures j;
    }) in
    on_ok_weaker c.emit_handled.result
    (compared_put p at c.spot_of.result inner (leaf_in k c.args.operand.now)
    (λ x. choice_by (Some x) c.args.branches.now c.args.otherwise.now true p) start
    c.in_ok-free.free c.args.draft.now c.put_operand.new.draft c.emit_choice.new.draft
    c.cut.new.draft c.emit_handled.new.draft c.spot_of.ensures wide (c.in_ok-start.ensures k)
    c.in_ok-free.ensures c.in_ok-put_operand.ensures c.in_ok-emit_choice.ensures
    c.in_ok-cut.ensures) c.emit_handled.ensures

pub emit_choice-returns : goal.emit_choice-returns
emit_choice-returns t c =
    on_ok_weaker c.emit_otherwise.result
    (choice_put c.args.operand c.args.branches.now c.args.otherwise.now c.args.wants_else
    c.args.place.now c.args.spot.now _ c.args.free c.in_ok-reached.reached c.args.draft.now
    c.emit_branches.new.draft c.emit_otherwise.new.draft refl c.in_ok-reached.ensures)
    c.emit_otherwise.ensures

pub emit_branches-loop-branch-init : goal.emit_branches-loop-branch-init
emit_branches-loop-branch-init t c =
    testing_first c.args.operand c.args.place.now c.args.spot.now c.args.branches.now c.args.free
    c.args.draft.now

pub emit_branches-loop-branch-preserved : goal.emit_branches-loop-branch-preserved
emit_branches-loop-branch-preserved t c =
    testing_next c.args.operand c.args.place.now c.args.spot.now c.args.branches.now
    c.loop-branch.branch-index c.args.free c.loop-branch.reached c.in_ok-reached.reached
    c.branch-item.result c.args.draft.now c.loop-branch.draft c.emit_branch.new.draft
    c.loop-branch-test.true c.branch-item.is c.loop-branch.invariant c.in_ok-reached.ensures

pub emit_branches-returns : goal.emit_branches-returns
emit_branches-returns t c =
    testing_done c.args.operand c.args.place.now c.args.spot.now c.args.branches.now
    c.loop-branch.branch-index c.args.free c.loop-branch.reached c.args.draft.now
    c.loop-branch.draft c.loop-branch-test.false c.loop-branch.invariant

pub emit_branch-returns : goal.emit_branch-returns
emit_branch-returns t c f =
    let p = c.args.place.now in let spot = c.args.spot.now in let r = c.args.reached in
    let free = c.in_ok-free.free in
    let at : At = record { here = r.free; next = free; columns = spot.columns } in
    branch_goes c.args.operand c.args.branch.now p spot _ r at c.in_ok-from.from free
    c.args.draft.now c.put_test.new.draft c.emit_list.new.draft c.jump.new.draft refl refl
    c.in_ok-from.ensures c.in_ok-free.ensures c.in_ok-put_test.ensures
    (puts_as c.put_test.new.draft c.emit_list.new.draft _ _
    (ap (λ (ss : List BoundStmt). emit_all (stmts_in p.functions.now ss) (widths_in p) (codes_of p)
    (env_in p) r.free free spot.columns) c.as_slice.ensures) c.in_ok-emit_list.ensures)
    c.in_ok-jump.ensures f

pub emit_branches-emit_branch-requires : goal.emit_branches-emit_branch-requires
emit_branches-emit_branch-requires t c =
    omega (
      arith,
      c.decreases,
      branches_rest c.args.place.now c.args.branches.now c.loop-branch.branch-index
          c.branch-item.result c.loop-branch-test.true c.branch-item.is,
      c.loop-branch.invariant.small,
    )

pub emit_otherwise-returns-then-lacks_else : goal.emit_otherwise-returns-then-lacks_else
emit_otherwise-returns-then-lacks_else t c =
    on_ok_weaker c.put_engine.result
    (otherwise_raises c.args.wants_else c.args.otherwise.now c.args.place.now c.args.spot.now
    c.args.free c.args.draft.now c.put_engine.new.draft
    (sym c.lacks_else.ensures ∙ c.if-lacks_else.true)) c.put_engine.ensures

pub emit_otherwise-returns : goal.emit_otherwise-returns
emit_otherwise-returns t c =
    on_ok_weaker c.jump.result
    (otherwise_put c.args.wants_else c.args.otherwise.now c.args.place.now c.args.spot.now
    c.args.free c.args.draft.now c.emit_list.new.draft c.jump.new.draft
    (sym c.lacks_else.ensures ∙ c.if-lacks_else.false) c.in_ok-emit_list.ensures) c.jump.ensures

-- ---- actions

pub emit_taken-returns : goal.emit_taken-returns
emit_taken-returns t c =
    let p = c.args.place.now in
    on_ok_weaker c.emit_handled.result
    (taken_put p c.args.at c.in_ok-free.free c.args.draft.now c.emit_handled.new.draft
    (c.in_ok-free.ensures p.functions.now)) c.emit_handled.ensures

pub emit_handled-returns-then-not-has_continue :
    goal.emit_handled-returns-then-not-has_continue
emit_handled-returns-then-not-has_continue t c =
    let p = c.args.place.now in let at = c.args.at in
    handled_none (codes_of p) (env_in p) at.here at.next c.args.free at.columns c.args.draft.now
    (sym c.if-not-has_continue.true ∙ c.has_continue.ensures p.functions.now)

pub emit_handled-returns : goal.emit_handled-returns
emit_handled-returns t c =
    let p = c.args.place.now in let at = c.args.at in let k = p.functions.now in
    on_ok_weaker c.join.result
    (handled_put (codes_of p) (env_in p) at.here at.next c.args.free at.columns
    c.in_ok-wide.wide c.in_ok-count.count c.args.draft.now c.grow_by.new.draft
    c.emit_actions.new.draft c.join.new.draft
    (sym c.if-not-has_continue.false ∙ c.has_continue.ensures k) c.in_ok-wide.ensures
    (c.in_ok-count.ensures k) c.in_ok-grow_by.ensures c.in_ok-emit_actions.ensures)
    c.join.ensures

pub emit_actions-returns-in-Nothing : goal.emit_actions-returns-in-Nothing
emit_actions-returns-in-Nothing t c =
    let p = c.args.place.now in
    record {
      tree = ap (λ (x : Sight). steps_tree (actions (codes_in p.functions.now x) (env_in p)
          c.args.first c.args.free c.args.columns) (drafted c.args.draft.now).tree)
          (sym c.in-Nothing.is);
    }

pub emit_actions-returns-in_ok-emit_scope-in-Scope :
    goal.emit_actions-returns-in_ok-emit_scope-in-Scope
emit_actions-returns-in_ok-emit_scope-in-Scope t c =
    let p = c.args.place.now in let k = p.functions.now in let last = c.emit_actions.new.draft in
    on_ok_weaker c.emit_actions.result
    (λ others. puts_as c.args.draft.now last _ _
    (ap (λ (codes : Codes). actions codes (env_in p) c.args.first c.args.free c.args.columns)
    (sym (ap (codes_in k) c.in-Scope.is)))
    (actions_put p c.in-Scope.scope c.in-Scope.outer.now _ c.args.first
    c.in_ok-next-in-Scope.next c.args.free c.args.columns c.args.draft.now
    c.emit_scope.new.draft last refl
    c.in_ok-next-in-Scope.ensures c.in_ok-emit_scope-in-Scope.ensures others))
    c.emit_actions.ensures

pub emit_scope-loop-handler-init : goal.emit_scope-loop-handler-init
emit_scope-loop-handler-init t c =
    acting_first c.args.all c.args.place.now c.args.scope.now c.args.outer.now c.args.at
    c.args.draft.now

pub emit_scope-emit_action-requires : goal.emit_scope-emit_action-requires
emit_scope-emit_action-requires t c =
    let p = c.args.place.now in
    let spent : place_cost c.in_ok-inner.inner ≡ sight_cost p.functions.now c.args.outer.now =
    (λ j. sight_cost (c.in_ok-inner.ensures.functions j) (c.in_ok-inner.ensures.sight j)) in
    let same : cost (stmt_in c.in_ok-inner.inner.functions.now
    (out-BoundHandler c.handler-item.result).action) ≡ cost (stmt_in p.functions.now
    (out-BoundHandler c.handler-item.result).action) =
    (λ j. cost (stmt_in (c.in_ok-inner.ensures.functions j)
    (out-BoundHandler c.handler-item.result).action)) in
    omega (
      arith,
      c.decreases,
      spent,
      same,
      action_small p c.args.scope.now c.args.all c.args.outer.now c.args.at
          c.loop-handler.handler-index c.loop-handler.own c.handler-item.result
          c.args.draft.now c.loop-handler.draft c.loop-handler-test.true c.handler-item.is
          c.loop-handler.invariant,
    )

pub emit_scope-loop-handler-preserved : goal.emit_scope-loop-handler-preserved
emit_scope-loop-handler-preserved t c =
    acting_next c.args.all c.args.place.now c.in_ok-inner.inner c.args.scope.now
    c.args.outer.now c.args.at c.loop-handler.handler-index c.loop-handler.own
    c.in_ok-own.own c.in_ok-wide.wide c.handler-item.result c.args.draft.now
    c.loop-handler.draft c.emit_action.new.draft c.loop-handler-test.true c.handler-item.is
    c.loop-handler.invariant c.in_ok-inner.ensures.env c.in_ok-inner.ensures.sight
    c.in_ok-inner.ensures.functions c.in_ok-wide.ensures c.in_ok-emit_action.ensures
    c.in_ok-own.ensures

pub emit_action-returns-then-acts : goal.emit_action-returns-then-acts
emit_action-returns-then-acts t c =
    let p = c.args.place.now in let at = c.args.at in let k = p.functions.now in
    let h = out-BoundHandler c.args.handler.now in let kind = handler_type h.handler_type in
    let steps = emit (stmt_in k h.action) (widths_in p) (codes_of p) (env_in p) at.here at.next
    at.columns in
    on_ok_weaker c.emit_stmt.result
    (λ puts. puts_as c.args.draft.now c.emit_stmt.new.draft _ _
    (ap (λ (s : BoundStmt). emit (stmt_in k s) (widths_in p) (codes_of p) (env_in p) at.here
    at.next at.columns) c.get.ensures ∙
    sym (pick_taken c.args.all kind steps (sym c.acts.ensures ∙ c.if-acts.true))) puts)
    c.emit_stmt.ensures

pub emit_action-returns : goal.emit_action-returns
emit_action-returns t c =
    let p = c.args.place.now in let at = c.args.at in let k = p.functions.now in
    let h = out-BoundHandler c.args.handler.now in let kind = handler_type h.handler_type in
    let steps = emit (stmt_in k h.action) (widths_in p) (codes_of p) (env_in p) at.here at.next
    at.columns in
    record {
      tree = ap (λ (ss : List Step). steps_tree ss (drafted c.args.draft.now).tree)
          (sym (pick_left c.args.all kind steps (sym c.acts.ensures ∙ c.if-acts.false)));
    }

pub emit_scope-returns : goal.emit_scope-returns
emit_scope-returns t c =
    acting_done c.args.all c.args.place.now c.args.scope.now c.args.outer.now c.args.at
    c.loop-handler.handler-index c.loop-handler.own c.args.draft.now c.loop-handler.draft
    c.loop-handler-test.false c.loop-handler.invariant

-- ---- compound statements

pub emit_block-returns : goal.emit_block-returns
emit_block-returns t c =
    let p = c.args.place.now in let k = p.functions.now in let b = c.args.block.now in
    on_ok_weaker c.emit_whole.result
    (block_put p c.args.at b c.in_ok-codes.codes c.args.draft.now c.jump.new.draft
    c.emit_inside.new.draft c.put_end.new.draft c.emit_whole.new.draft
    (codes_are p c.args.at b c.in_ok-codes.codes c.in_ok-sealing.sealing c.len.result
    c.in_ok-codes.ensures (c.in_ok-sealing.ensures k) c.len.ensures) c.in_ok-jump.ensures
    c.in_ok-emit_inside.ensures (c.in_ok-put_end.ensures k (outer_in p b))) c.emit_whole.ensures

pub emit_inside-returns : goal.emit_inside-returns
emit_inside-returns t c =
    let p = c.args.place.now in let k = p.functions.now in let b = c.args.block.now in
    let at = c.args.at in let within = c.with_columns-within in
    let named = λ (vs : List BoundVariables). variable_count (variables_in k vs) in
    on_ok_weaker c.emit_declared.result
    (inside_put p within.result at b c.args.codes.now c.in_ok-wide.wide c.as_slice-3.result.now
    c.args.draft.now c.declare.new.draft c.emit_declared.new.draft
    (c.as_slice-3.ensures ∙ c.in_ok-columns.ensures.columns ∙
    ap (λ (vs : List BoundVariables). p.columns.now ++ places at.columns (named vs))
    c.as_slice-2.ensures)
    (c.in_ok-wide.ensures k ∙ ap (λ (vs : List BoundVariables). at.columns + named vs)
    c.as_slice.ensures) within.ensures.env within.ensures.sight within.ensures.functions
    (puts_as c.args.draft.now c.declare.new.draft _ _
    (ap (λ (vs : List BoundVariables). emit_declares (variables_in k vs) (widths_in p)
    (codes_of p) (env_in p) c.args.codes.now.runs at.here at.next c.args.codes.now.free
    at.columns) c.as_slice-2.ensures) (c.in_ok-columns.ensures.steps c.args.codes.now.free)))
    c.emit_declared.ensures

pub emit_declared-returns : goal.emit_declared-returns
emit_declared-returns t c =
    let p = c.args.place.now in let last = c.with_marks-ending in let b = c.args.block.now in
    let codes = c.args.codes.now in let atomic = (out-BoundBlock b).atomic in
    on_ok_weaker c.emit_ending.result
    (declared_put p last.result b codes c.args.here c.args.columns _ c.seen_outside-outer.result.now
    c.args.draft.now c.emit_body.new.draft c.emit_ending.new.draft refl
    c.seen_outside-outer.ensures
    (last.ensures.env ∙ (λ j. record {
      columns = p.columns.now;
      labels = set_at (env_in p).labels p.level c.args.here;
      exits = (env_in p).exits;
      out = c.out_of-out.ensures j;
      stacked = p.stacked;
      level = p.level;
    })) last.ensures.sight last.ensures.functions c.in_ok-emit_body.ensures) c.emit_ending.ensures

pub emit_body-returns : goal.emit_body-returns
emit_body-returns t c =
    let p = c.args.place.now in let k = p.functions.now in let b = c.args.block.now in
    let s = c.scope_of.result in let within = c.with_marks-within in
    let level = c.in_ok-level.level in let exit = c.args.codes.now.exit in
    on_ok_weaker c.emit_list.result
    (statements_put p within.result b c.args.codes.now _ c.args.columns level s c.as_slice.result.now
    c.args.draft.now c.emit_list.new.draft c.in_ok-level.ensures refl c.scope_of.ensures.handlers
    c.scope_of.ensures.level c.scope_of.ensures.variables c.as_slice.ensures
    (λ j. codes_in (within.ensures.functions j) (within.ensures.sight j))
    (within.ensures.env ∙ (λ j. record {
      columns = p.columns.now;
      labels = (env_in p).labels;
      exits = (ap marked c.exits_of-exits.ensures ∙ exits_are k (codes_of p)
          (out-BoundBlock b).handlers _ p.exits.now p.level exit refl) j;
      out = p.out;
      stacked = p.stacked;
      level = level;
    })) within.ensures.functions) c.emit_list.ensures

pub emit_ending-returns-then-is_empty : goal.emit_ending-returns-then-is_empty
emit_ending-returns-then-is_empty t c =
    let b = c.args.block.now in
    no_ending c.args.place.now b c.args.codes.now c.args.columns c.args.draft.now
    (none_in (out-BoundBlock b).handlers c.is_empty.result c.is_empty.ensures c.if-is_empty.true)

pub emit_ending-returns : goal.emit_ending-returns
emit_ending-returns t c =
    let b = c.args.block.now in let s = c.scope_of.result in let p = c.args.place.now in
    on_ok_weaker c.emit_scope.result
    (ending_put p b c.args.codes.now _ c.args.columns c.code_at-exit.result s
    c.as_slice.result.now c.args.draft.now c.put_ending.new.draft c.grow_by.new.draft
    c.emit_scope.new.draft
    (some_in (out-BoundBlock b).handlers c.is_empty.result c.is_empty.ensures c.if-is_empty.false)
    c.code_at-exit.ensures c.as_slice.ensures refl c.scope_of.ensures.handlers
    c.scope_of.ensures.level c.scope_of.ensures.variables
    (c.in_ok-put_ending.ensures p.functions.now (codes_of p)) c.in_ok-grow_by.ensures)
    c.emit_scope.ensures

pub emit_whole-returns-then-block : goal.emit_whole-returns-then-block
emit_whole-returns-then-block t c =
    let p = c.args.place.now in
    on_ok_weaker c.emit_handled.result
    (whole_atomic p c.args.at c.spot_of.result c.args.block.now c.args.codes.now
    c.args.draft.now c.put_sealed.new.draft c.emit_handled.new.draft c.if-block.true
    c.spot_of.ensures c.in_ok-put_sealed.ensures) c.emit_handled.ensures

pub emit_whole-returns-then-has_default : goal.emit_whole-returns-then-has_default
emit_whole-returns-then-has_default t c =
    let p = c.args.place.now in let k = p.functions.now in
    on_ok_weaker c.emit_handled-then-has_default.result
    (whole_given p c.args.at c.args.block.now c.args.codes.now c.args.draft.now
    c.emit_handled-then-has_default.new.draft c.has_default.result c.if-block.false
    (c.has_default.ensures k ∙ ap (λ (vs : List BoundVariables). has_default
    (variables_in k vs)) c.as_slice.ensures) c.if-has_default.true) c.emit_handled-then-has_default.ensures

pub emit_whole-returns : goal.emit_whole-returns
emit_whole-returns t c =
    let p = c.args.place.now in let k = p.functions.now in
    whole_none p c.args.at c.args.block.now c.args.codes.now c.args.draft.now
    c.has_default.result c.if-block.false
    (c.has_default.ensures k ∙ ap (λ (vs : List BoundVariables). has_default
    (variables_in k vs)) c.as_slice.ensures) c.if-has_default.false

pub emit_block-emit_inside-requires : goal.emit_block-emit_inside-requires
emit_block-emit_inside-requires t c =
    omega (
      arith,
      c.decreases,
      block_cost c.args.place.now.functions.now c.args.block.now,
    )

pub emit_block-emit_whole-requires : goal.emit_block-emit_whole-requires
emit_block-emit_whole-requires t c =
    omega (
      arith,
      c.decreases,
      block_cost c.args.place.now.functions.now c.args.block.now,
    )

pub emit_inside-emit_declared-requires : goal.emit_inside-emit_declared-requires
emit_inside-emit_declared-requires t c =
    let p = c.args.place.now in let within = c.with_columns-within in
    omega (
      arith,
      c.decreases,
      place_costs p within.result within.ensures.sight within.ensures.functions,
      block_same p.functions.now within.result.functions.now c.args.block.now
          within.ensures.functions,
    )

pub emit_declared-emit_body-requires : goal.emit_declared-emit_body-requires
emit_declared-emit_body-requires t c =
    let p = c.args.place.now in let last = c.with_marks-ending in
    let spent : place_cost last.result ≡ sight_cost p.functions.now c.seen_outside-outer.result.now =
    (λ j. sight_cost (last.ensures.functions j) (last.ensures.sight j)) in
    omega (
      arith,
      c.decreases,
      spent,
      block_same p.functions.now last.result.functions.now c.args.block.now last.ensures.functions,
      outside_small p.functions.now (out-BoundBlock c.args.block.now).atomic p.sight.now _
          c.seen_outside-outer.result.now refl c.seen_outside-outer.ensures,
    )

pub emit_declared-emit_ending-requires : goal.emit_declared-emit_ending-requires
emit_declared-emit_ending-requires t c =
    let p = c.args.place.now in let last = c.with_marks-ending in
    let spent : place_cost last.result ≡ sight_cost p.functions.now c.seen_outside-outer.result.now =
    (λ j. sight_cost (last.ensures.functions j) (last.ensures.sight j)) in
    omega (
      arith,
      c.decreases,
      spent,
      actions_same p.functions.now last.result.functions.now c.args.block.now
          last.ensures.functions,
      outside_small p.functions.now (out-BoundBlock c.args.block.now).atomic p.sight.now _
          c.seen_outside-outer.result.now refl c.seen_outside-outer.ensures,
    )

pub emit_body-emit_list-requires : goal.emit_body-emit_list-requires
emit_body-emit_list-requires t c =
    let p = c.args.place.now in let within = c.with_marks-within in
    let b = c.args.block.now in
    let spent : place_cost within.result ≡ actions_cost p.functions.now
    c.scope_of.result.handlers.now + 1 + place_cost p =
    (λ j. sight_cost (within.ensures.functions j) (within.ensures.sight j)) in
    omega (
      arith,
      c.decreases,
      spent,
      scope_costs p.functions.now c.scope_of.result b c.scope_of.ensures.handlers,
      statements_same p.functions.now within.result.functions.now (out-BoundBlock b).statements
          c.as_slice.result.now within.ensures.functions c.as_slice.ensures,
    )

pub emit_ending-emit_scope-requires : goal.emit_ending-emit_scope-requires
emit_ending-emit_scope-requires t c =
    let p = c.args.place.now in
    omega (
      arith,
      c.decreases,
      scope_costs p.functions.now c.scope_of.result c.args.block.now
          c.scope_of.ensures.handlers,
    )

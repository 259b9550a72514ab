use Rattle.std.proofs.Common.{◌≡◌, List, [], true, false, map, length, ◌-◌, ◌+◌, take, drop}
use Rattle.std.proofs.Common.{Option, replicate, refl, sym, ap, ◌∙◌, subst, arith}
use Rattle.bound_trees.specs.Operands.{takes}
use Rattle.bound_trees.specs.declared.expr.BoundExpr.{BoundExpr}
use Rattle.bound_trees.specs.declared.query.BoundQuery.{BoundQuery}
use Rattle.bound_trees.specs.declared.query.BoundRow.{BoundRow}
use Rattle.bound_trees.specs.declared.query.BoundSelect.{out-BoundSelect}
use Rattle.rel_algebra.specs.declared.plan.ScalarRow.{ScalarRow}
use Rattle.rel_algebra.specs.Tree.{Literal, Column, Variable, Chain, Call, In, Exists, Single}
use Rattle.rel_algebra.specs.Tree.{Values}
use Rattle.rel_algebra.specs.Emit.{Emitted, emit_all, emit_body, passed, folded, plan}
use Rattle.rel_algebra.specs.Emit.{read, emit_rows, numbers}
use Rattle.rel_algebra.specs.Joins.{rows_width}
use Rattle.rel_algebra.specs.Plan.{Scalar, constant, values}
use Rattle.rel_algebra.specs.Merged.{moved}
use Rattle.rel_algebra.specs.PlanView.{scalar_of, scalars_of, tree_of as plan_tree}
use Rattle.catalog_store.specs.Catalog.{routine_named}
use Rattle.block_plans.specs.Callees.{callee, without_blocks, width_in}
use Rattle.block_plans.specs.View.{expr_seen, exprs_seen, links_seen, query_seen, rows_seen}
use Rattle.block_plans.specs.View.{select_seen, item_seen}
use Rattle.catalog_store.specs.View.{operated}
use Rattle.catalog_store.specs.Kept.{HasPlan, own_plan}
use Rattle.block_plans.proofs.Laws.{expr_seen-Literal, expr_seen-Column, expr_seen-Variable}
use Rattle.block_plans.proofs.Laws.{expr_seen-Operation, expr_seen-Chain, expr_seen-Call}
use Rattle.block_plans.proofs.Laws.{expr_seen-Single, expr_seen-Exists, expr_seen-In}
use Rattle.block_plans.proofs.Laws.{query_seen-Select, query_seen-Values, query_seen-Ordered}
use Rattle.block_plans.proofs.Laws.{rows_width_seen}
use Rattle.plan_expressions.specs.declared.asked.Asked.TheVariants as asked
use Rattle.plan_expressions.specs.Drafts.{drafted}
use Rattle.plan_expressions.specs.Emission.{Emits}
use Rattle.plan_expressions.specs.Scopes.{env_of}
use Rattle.plan_expressions.specs.Words.{word_of}
use Rattle.plan_expressions.proofs.Laws.{merged_call, if_ok}
use Rattle.plan_queries.specs.Cost.{costs, from_cost, routine_cost}
use Rattle.plan_queries.specs.Folding.{EmitsFolded}
use Rattle.plan_queries.specs.Plainness.{ArePlain}
use Rattle.plan_queries.proofs.Emitting.{listing_next, listing_done, passing_next, passing_done}
use Rattle.plan_queries.proofs.Emitting.{chaining_next, chain_done, chain_whole}
use Rattle.plan_queries.proofs.Emitting.{links_small, emits_as, leaf_emits, refused_emits}
use Rattle.plan_queries.proofs.Emitting.{words_emit, case_of_emits, word_made, case_bound}
use Rattle.plan_queries.proofs.Emitting.{cost-taken, cost-some, as_many}
use Rattle.plan_queries.proofs.Calling.{call_bound, block_emits, has_run, returned_emits}
use Rattle.plan_queries.proofs.Calling.{args_many, returned_small, returned_made}
use Rattle.plan_queries.proofs.Asked.{answer_emits, ask_emits, in_emits}
use Rattle.plan_queries.proofs.Asked.{folded-Values, folded-Ordered, folded-Select}
use Rattle.plan_queries.proofs.Asked.{not_folded, not_grouped, none_emitted, fold_emits}
use Rattle.plan_queries.proofs.Costs.{row_small, first_row_small, expr_small, source_small}
use Rattle.plan_queries.proofs.Costs.{joining_small, itself_small, cost-Single, cost-Exists}
use Rattle.plan_queries.proofs.Costs.{cost-In, cost-Ordered, cost-Values, cost-Derived, cost-Inner}
use Rattle.plan_queries.proofs.Costs.{cost-Left, cost-grouped, cost-ungrouped, cost-from}
use Rattle.plan_queries.proofs.Costs.{cost-over}
use Rattle.plan_queries.proofs.Joining.{standing_first, standing_next, standing_whole, nothing_from}
use Rattle.plan_queries.proofs.Joining.{derived_from, table_from, inner_joined, outer_joined}
use Rattle.plan_queries.proofs.Joining.{on_pair, comma_item, cross_item, inner_item, left_item}
use Rattle.plan_queries.proofs.Joining.{empty_by, some_by}
use Rattle.plan_queries.proofs.Queries.{selected_plan, select_plan, groups_selected, rows_selected}
use Rattle.plan_queries.proofs.Queries.{one_row, row_bound, plain_row, plains_more, plains_not}
use Rattle.plan_queries.proofs.Queries.{plains_done, numbering_first, numbering_bound}
use Rattle.plan_queries.proofs.Queries.{numbering_done, numbered_plan, numbered_there, no_rows}
use Rattle.plan_queries.proofs.Queries.{plain_there, values_lifted, plan_as, sorted_as}
use Rattle.plan_queries.proofs.Tests.{there_key}
use Rattle.plan_queries.proofs.Tests.{filtering_first, filtering_next, filtering_done}
use Rattle.plan_queries.proofs.Tests.{filtering_wide, key_tree, key_width, other_tree}
use Rattle.plan_queries.proofs.Tests.{other_width, pairs_filtered}
use Rattle.plan_queries.proofs.+query.Goals as goal

-- ---- expressions

pub emit::emit_expr-returns-in-Literal : goal.emit::emit_expr-returns-in-Literal
emit::emit_expr-returns-in-Literal t c =
    let k = c.args.functions.now in
    let v = c.in-Literal.value in
    leaf_emits k c.args.expr.now (Literal v) (env_of c.args.scope.now) c.args.draft.now
    c.literal.result (constant v) (sym (expr_seen-Literal k v) ∙ ap (expr_seen k)
    (sym c.in-Literal.is))
    refl c.literal.ensures

pub emit::emit_expr-returns-in-Column : goal.emit::emit_expr-returns-in-Column
emit::emit_expr-returns-in-Column t c =
    let k = c.args.functions.now in
    let e = env_of c.args.scope.now in
    let level = c.in-Column.level in
    let place = c.in-Column.place in
    leaf_emits k c.args.expr.now (Column level place) e c.args.draft.now c.column_read.result
    (read (e.columns level place)) (sym (expr_seen-Column k level place) ∙
    ap (expr_seen k) (sym c.in-Column.is)) refl c.column_read.ensures

pub emit::emit_expr-returns-in-Variable : goal.emit::emit_expr-returns-in-Variable
emit::emit_expr-returns-in-Variable t c =
    let k = c.args.functions.now in
    let e = env_of c.args.scope.now in
    let place = c.in-Variable.place in
    leaf_emits k c.args.expr.now (Variable place) e c.args.draft.now c.parameter_read.result
    (read (e.params place)) (sym (expr_seen-Variable k place) ∙
    ap (expr_seen k) (sym c.in-Variable.is)) refl c.parameter_read.ensures

pub emit::emit_expr-returns-in-Operation : goal.emit::emit_expr-returns-in-Operation
emit::emit_expr-returns-in-Operation t c =
    let k = c.args.functions.now in
    let operation = c.in-Operation.operation in
    emits_as k c.args.expr.now (operated operation (map (expr_seen k) c.as_slice.result.now))
    (env_of c.args.scope.now) c.args.draft.now c.emit_operation.new.draft c.emit_operation.result
    (ap (λ (es : List BoundExpr). operated operation (map (expr_seen k) es)) c.as_slice.ensures ∙
    sym (expr_seen-Operation k operation c.in-Operation.operands) ∙
    ap (expr_seen k) (sym c.in-Operation.is)) c.emit_operation.ensures

pub emit::emit_expr-returns-in-Chain : goal.emit::emit_expr-returns-in-Chain
emit::emit_expr-returns-in-Chain t c =
    let k = c.args.functions.now in
    emits_as k c.args.expr.now (Chain (expr_seen k c.get.result.now)
    (links_seen k c.as_slice-in-Chain.result.now)) (env_of c.args.scope.now) c.args.draft.now
    c.emit_chain.new.draft c.emit_chain.result
    ((λ j. Chain (expr_seen k (c.get.ensures j)) (links_seen k (c.as_slice-in-Chain.ensures j))) ∙
    sym (expr_seen-Chain k c.in-Chain.first c.in-Chain.links) ∙ ap (expr_seen k)
    (sym c.in-Chain.is))
    c.emit_chain.ensures

pub emit::emit_expr-returns-in-Call : goal.emit::emit_expr-returns-in-Call
emit::emit_expr-returns-in-Call t c =
    let k = c.args.functions.now in
    let name = c.in-Call.name in
    emits_as k c.args.expr.now (Call name (callee k name (length c.as_slice-in-Call.result.now))
    (exprs_seen k c.as_slice-in-Call.result.now)) (env_of c.args.scope.now) c.args.draft.now
    c.emit_call.new.draft c.emit_call.result
    (ap (λ (es : List BoundExpr). Call name (callee k name (length es)) (exprs_seen k es))
    c.as_slice-in-Call.ensures ∙ sym (expr_seen-Call k name c.in-Call.arguments) ∙
    ap (expr_seen k) (sym c.in-Call.is)) c.emit_call.ensures

pub emit::emit_expr-returns-in-Single : goal.emit::emit_expr-returns-in-Single
emit::emit_expr-returns-in-Single t c =
    let k = c.args.functions.now in
    emits_as k c.args.expr.now (Single (query_seen k c.get-in-Single.result.now))
    (env_of c.args.scope.now) c.args.draft.now c.emit_asked.new.draft c.emit_asked.result
    (ap (λ (q : BoundQuery). Single (query_seen k q)) c.get-in-Single.ensures ∙
    sym (expr_seen-Single k c.in-Single.query) ∙ ap (expr_seen k) (sym c.in-Single.is))
    c.emit_asked.ensures

pub emit::emit_expr-returns-in-Exists : goal.emit::emit_expr-returns-in-Exists
emit::emit_expr-returns-in-Exists t c =
    let k = c.args.functions.now in
    emits_as k c.args.expr.now (Exists (query_seen k c.get-in-Exists.result.now))
    (env_of c.args.scope.now) c.args.draft.now c.emit_asked-in-Exists.new.draft
    c.emit_asked-in-Exists.result
    (ap (λ (q : BoundQuery). Exists (query_seen k q)) c.get-in-Exists.ensures ∙
    sym (expr_seen-Exists k c.in-Exists.query) ∙ ap (expr_seen k) (sym c.in-Exists.is))
    c.emit_asked-in-Exists.ensures

pub emit::emit_expr-returns-in-In : goal.emit::emit_expr-returns-in-In
emit::emit_expr-returns-in-In t c =
    let k = c.args.functions.now in
    emits_as k c.args.expr.now (In (expr_seen k c.get-in-In.result.now)
    (query_seen k c.get-in-In-2.result.now)) (env_of c.args.scope.now) c.args.draft.now
    c.emit_in.new.draft c.emit_in.result
    ((λ j. In (expr_seen k (c.get-in-In.ensures j)) (query_seen k (c.get-in-In-2.ensures j))) ∙
    sym (expr_seen-In k c.in-In.left c.in-In.query) ∙ ap (expr_seen k) (sym c.in-In.is))
    c.emit_in.ensures

pub emit::emit_words-returns : goal.emit::emit_words-returns
emit::emit_words-returns t c =
    word_made (word_of c.args.operation)
    (emit_all (exprs_seen c.args.functions.now c.args.operands.now) (width_in c.args.functions.now)
    (env_of c.args.scope.now) (drafted c.args.draft.now).width) c.args.draft.now
    c.emit_list.new.draft c.in_ok-scalars.scalars c.word_over.result c.in_ok-scalars.ensures
    c.word_over.ensures

pub emit::emit_words-word_over-requires : goal.emit::emit_words-word_over-requires
emit::emit_words-word_over-requires t c =
    ap (takes c.args.operation)
    (sym (as_many c.args.functions.now c.args.operands.now (env_of c.args.scope.now)
    c.args.draft.now c.emit_list.new.draft c.in_ok-scalars.scalars c.in_ok-scalars.ensures)) ∙
    c.requires

pub emit::emit_case_of-returns : goal.emit::emit_case_of-returns
emit::emit_case_of-returns t c =
    case_bound c.args.functions.now c.args.operands.now
    (take (length c.args.operands.now - 1) (drop 1 c.args.operands.now)) c.index-operands-0.result
    (env_of c.args.scope.now) c.args.draft.now c.emit_expr.new.draft c.put_column.new.draft
    c.emit_list.new.draft
    c.in_ok-operand.operand c.in_ok-scalars.scalars c.in_ok-column.column c.case_over.result
    c.requires c.index-operands-0.is refl c.in_ok-operand.ensures
    c.in_ok-column.ensures.place c.in_ok-column.ensures.tree c.in_ok-column.ensures.width
    c.in_ok-scalars.ensures c.case_over.ensures

pub emit::emit_chain-returns : goal.emit::emit_chain-returns
emit::emit_chain-returns t c =
    let k = c.args.functions.now in
    chain_whole k (expr_seen k c.args.first.now) (links_seen k c.args.links.now)
    (env_of c.args.scope.now) c.args.draft.now c.emit_expr.new.draft c.emit_links.new.draft
    c.in_ok-scalar.scalar c.in_ok-chain.chain c.chained.result c.in_ok-scalar.ensures
    c.in_ok-chain.ensures c.chained.ensures

pub emit::emit_links-loop-link-preserved : goal.emit::emit_links-loop-link-preserved
emit::emit_links-loop-link-preserved t c = record {
  chaining = λ p. chaining_next c.args.functions.now (env_of c.args.scope.now) c.args.links.now
      c.loop-link.link-index c.link-item.result c.args.draft.now c.loop-link.draft
      c.emit_expr.new.draft p c.loop-link.chain c.push.new.self c.in_ok-operand.operand
      c.loop-link-test.true c.link-item.is (c.loop-link.invariant.chaining p)
      c.in_ok-operand.ensures c.in_ok-push.ensures.ok;
  small = omega (
    arith,
    c.loop-link.invariant.small,
    links_small c.args.functions.now c.args.links.now c.loop-link.link-index c.link-item.result
        c.loop-link-test.true c.link-item.is,
  );
}

pub emit::emit_links-returns : goal.emit::emit_links-returns
emit::emit_links-returns t c =
    chain_done c.args.functions.now (env_of c.args.scope.now) c.args.links.now
    c.loop-link.link-index
    c.args.draft.now c.loop-link.draft c.loop-link.chain
    c.loop-link-test.false c.loop-link.invariant.chaining

pub emit::emit_in-returns : goal.emit::emit_in-returns
emit::emit_in-returns t c =
    in_emits c.args.functions.now (env_of c.args.scope.now) c.args.left.now c.args.query.now
    c.args.draft.now c.emit_expr.new.draft c.emit_asked.new.draft c.in_ok-sought.sought
    c.emit_asked.result c.in_ok-sought.ensures c.emit_asked.ensures

pub emit::emit_list-loop-expr-preserved : goal.emit::emit_list-loop-expr-preserved
emit::emit_list-loop-expr-preserved t c =
    listing_next c.args.functions.now (env_of c.args.scope.now) c.args.exprs.now
    c.loop-expr.expr-index c.expr-item.result c.args.draft.now c.loop-expr.draft
    c.emit_expr.new.draft
    c.loop-expr.scalars c.push.new.self c.in_ok-scalar.scalar c.loop-expr-test.true c.expr-item.is
    c.loop-expr.invariant c.in_ok-scalar.ensures c.in_ok-push.ensures.ok

pub emit::emit_list-returns : goal.emit::emit_list-returns
emit::emit_list-returns t c =
    listing_done c.args.functions.now (env_of c.args.scope.now) c.args.exprs.now
    c.loop-expr.expr-index c.args.draft.now c.loop-expr.draft c.loop-expr.scalars
    c.loop-expr-test.false c.loop-expr.invariant

pub emit::emit_arguments-loop-place-preserved : goal.emit::emit_arguments-loop-place-preserved
emit::emit_arguments-loop-place-preserved t c =
    passing_next c.args.functions.now (env_of c.args.scope.now) c.args.arguments.now
    c.args.types.now
    c.loop-place.place c.index-arguments-place.result c.args.draft.now c.loop-place.draft
    c.emit_expr.new.draft c.loop-place.scalars c.push.new.self c.in_ok-scalar.scalar
    c.in_ok-assigned_at.field-0 c.loop-place-test.true c.index-arguments-place.is
    c.loop-place.invariant
    c.in_ok-scalar.ensures c.in_ok-assigned_at.ensures c.in_ok-push.ensures.ok

pub emit::emit_arguments-returns : goal.emit::emit_arguments-returns
emit::emit_arguments-returns t c =
    passing_done c.args.functions.now (env_of c.args.scope.now) c.args.arguments.now
    c.args.types.now
    c.loop-place.place c.args.draft.now c.loop-place.draft c.loop-place.scalars
    c.loop-place-test.false c.loop-place.invariant

pub emit::emit_call-returns : goal.emit::emit_call-returns
emit::emit_call-returns t c =
    call_bound c.args.functions.now c.args.name.now c.args.arguments.now
    c.parameters-types.result.now (env_of c.args.scope.now) c.args.draft.now
    c.emit_arguments.new.draft c.extend.new.self
    c.emit_body.new.draft c.in_ok-scalars.scalars c.in_ok-body.body c.columns-first.result
    c.len-count.result c.guarded_call.result c.parameters-types.ensures
    c.in_ok-scalars.ensures c.columns-first.ensures
    c.len-count.ensures c.in_ok-extend.ensures.tree
    c.in_ok-extend.ensures.width c.in_ok-body.ensures c.guarded_call.ensures

pub emit::emit_call-emit_body-requires : goal.emit::emit_call-emit_body-requires
emit::emit_call-emit_body-requires t c =
    let k = c.args.functions.now in
    let many = args_many k c.args.arguments.now c.parameters-types.result.now
    (env_of c.args.scope.now) c.args.draft.now c.emit_arguments.new.draft c.in_ok-scalars.scalars
    c.in_ok-scalars.ensures in
    let same = ap (λ n. routine_cost (callee k c.args.name.now n))
    (c.len-count.ensures ∙ sym many) in (
      omega (arith, c.decreases, same),
      c.in_ok-extend.ensures.width
          ∙ (λ j. sym c.columns-first.ensures j + sym c.len-count.ensures j),
    )

pub emit::emit_body-returns-in-Some : goal.emit::emit_body-returns-in-Some
emit::emit_body-returns-in-Some t c =
    block_emits c.args.functions.now c.args.name.now c.args.first c.args.count c.args.draft.now
    c.merge_kept.new.draft c.in-Some.block.now c.merge_kept.result c.in-Some.ensures c.requires
    c.merge_kept.ensures

pub emit::emit_body-merge_kept-requires : goal.emit::emit_body-merge_kept-requires
emit::emit_body-merge_kept-requires t c = has_run c.in-Some.block.now.plan _ c.in-Some.ensures.plan

pub emit::emit_body-returns-in-None : goal.emit::emit_body-returns-in-None
emit::emit_body-returns-in-None t c =
    returned_emits c.args.functions.now c.catalog.result.now c.args.name.now c.args.first
    c.args.count c.args.draft.now c.emit_returned.new.draft c.emit_returned.result
    c.catalog.ensures c.in-None.ensures c.emit_returned.ensures

pub emit::emit_returned-returns-then-len-count : goal.emit::emit_returned-returns-then-len-count
emit::emit_returned-returns-then-len-count t c =
    let k = c.args.catalog.now in
    let r = c.in-Some.routine.now in
    let named = c.in-Some.ensures.named in
    if_ok c.merge_kept.result
    (λ s. (e : Emitted) → HasPlan r.plan e → Emits c.args.draft.now c.merge_kept.new.draft
    (scalar_of s) (moved (record { by = (drafted c.args.draft.now).width; from = c.args.first })
    0 e))
    (λ s. Emits c.args.draft.now c.merge_kept.new.draft (scalar_of s)
    (emit_body (routine_named c.args.name.now k) (width_in (without_blocks k))
    (passed c.args.first c.args.count) (drafted c.args.draft.now).width))
    c.merge_kept.ensures
    (λ s h. merged_call k c.args.name.now r c.args.first c.args.count c.args.draft.now
    c.merge_kept.new.draft (scalar_of s) c.in-Some.ensures.tree
    (sym c.len.ensures ∙ c.if-len-count.true) c.requires (h (own_plan k r) named.planned))

pub emit::emit_returned-emit_expr-requires : goal.emit::emit_returned-emit_expr-requires
emit::emit_returned-emit_expr-requires t c =
    let same : c.in-Some-tree.tree.now ≡ c.in-Some.routine.now.body =
    let shown = c.in-Some-tree.ensures in cc in (
      omega (
        arith,
        c.decreases,
        returned_small c.of.result c.args.catalog.now c.args.name.now c.in-Some.routine.now
            c.in-Some-tree.tree.now c.of.ensures c.in-Some.ensures.tree same,
      ),
      tt,
    )

pub emit::emit_returned-returns : goal.emit::emit_returned-returns
emit::emit_returned-returns t c =
    let same : c.in-Some-tree.tree.now ≡ c.in-Some.routine.now.body =
    let shown = c.in-Some-tree.ensures in cc in
    returned_made c.of.result c.args.catalog.now c.args.name.now c.in-Some.routine.now
    c.in-Some-tree.tree.now c.args.first c.args.count (env_of c.passed-scope.result)
    c.args.draft.now c.emit_expr.new.draft c.in_ok-value-in-Some-tree.value c.assigned.result
    c.of.ensures c.in-Some.ensures.tree same c.passed-scope.ensures
    c.in_ok-value-in-Some-tree.ensures c.assigned.ensures

-- ---- queries inside expressions

pub asking::emit_folded_select-returns-then-not-is_folded :
    goal.asking::emit_folded_select-returns-then-not-is_folded
asking::emit_folded_select-returns-then-not-is_folded t c =
    let k = c.args.functions.now in
    let e = env_of c.args.scope.now in
    none_emitted c.args.draft.now c.args.draft.now (folded (select_seen k c.args.select.now)
    (width_in k) e) refl
    (not_folded k c.args.select.now c.in-Some.grouping (width_in k) e c.in-Some.is
    (sym c.is_folded.ensures ∙ c.if-not-is_folded.true))

pub asking::emit_asked-returns-in-Some : goal.asking::emit_asked-returns-in-Some
asking::emit_asked-returns-in-Some t c =
    answer_emits c.args.functions.now (env_of c.args.scope.now) c.args.asked c.args.query.now
    c.in_ok-list.field-0 c.in-Some.list c.args.draft.now c.emit_folded.new.draft
    c.columns-column.result c.answered.result c.in-Some.is c.in_ok-list.ensures
    c.columns-column.ensures c.answered.ensures

pub asking::emit_asked-returns-in_ok-inner-in-None :
    goal.asking::emit_asked-returns-in_ok-inner-in-None
asking::emit_asked-returns-in_ok-inner-in-None t c =
    ask_emits c.args.functions.now (env_of c.args.scope.now) c.args.asked c.args.query.now
    c.in_ok-list.field-0 (plan_tree c.in_ok-inner-in-None.inner) c.args.draft.now
    c.emit_folded.new.draft c.ask.new.draft c.ask.result c.in-None.is c.in_ok-list.ensures
    c.in_ok-inner-in-None.ensures c.ask.ensures

pub asking::emit_folded-returns-in-Select : goal.asking::emit_folded-returns-in-Select
asking::emit_folded-returns-in-Select t c =
    let k = c.args.functions.now in
    let e = env_of c.args.scope.now in
    let start = c.args.draft.now in
    let new = c.emit_folded_select.new.draft in
    if_ok c.emit_folded_select.result (λ o. EmitsFolded start new o
    (folded (select_seen k c.in-Select.select) (width_in k) e))
    (λ o. EmitsFolded start new o (folded (query_seen k c.args.query.now) (width_in k) e))
    c.emit_folded_select.ensures
    (λ o d. subst (λ f. EmitsFolded start new o f)
    (sym (folded-Select k c.args.query.now c.in-Select.select (width_in k) e c.in-Select.is)) d)

pub asking::emit_folded-returns-in-Values : goal.asking::emit_folded-returns-in-Values
asking::emit_folded-returns-in-Values t c =
    let k = c.args.functions.now in
    none_emitted c.args.draft.now c.args.draft.now
    (folded (query_seen k c.args.query.now) (width_in k) (env_of c.args.scope.now)) refl
    (folded-Values k c.args.query.now c.in-Values.field-0 (width_in k) (env_of c.args.scope.now)
    c.in-Values.is)

pub asking::emit_folded-returns-in-Ordered : goal.asking::emit_folded-returns-in-Ordered
asking::emit_folded-returns-in-Ordered t c =
    let k = c.args.functions.now in
    none_emitted c.args.draft.now c.args.draft.now
    (folded (query_seen k c.args.query.now) (width_in k) (env_of c.args.scope.now)) refl
    (folded-Ordered k c.args.query.now c.in-Ordered.field-0 c.in-Ordered.field-1 (width_in k)
    (env_of c.args.scope.now) c.in-Ordered.is)

pub asking::emit_folded_select-returns : goal.asking::emit_folded_select-returns
asking::emit_folded_select-returns t c =
    let g = c.in-Some.grouping in
    fold_emits c.args.functions.now c.args.select.now g (env_of c.args.scope.now)
    (env_of c.in_ok-within.within) c.as_slice.result.now c.as_slice-parts.result.now
    c.as_slice-2.result.now
    c.as_slice-4.result.now c.as_slice-3.result.now c.in_ok-rows.rows c.select_rows.new.draft
    c.args.draft.now c.fold_over.new.draft c.emit_list.new.draft c.in_ok-list.list
    c.columns-first.result
    c.len-count.result c.in-Some.is (sym c.is_folded.ensures ∙ c.if-not-is_folded.false)
    c.as_slice.ensures c.as_slice-parts.ensures c.as_slice-2.ensures c.as_slice-4.ensures
    c.as_slice-3.ensures
    c.in_ok-rows.ensures c.in_ok-select_rows.ensures c.columns-first.ensures c.len-count.ensures
    c.in_ok-within.ensures c.in_ok-fold_over.ensures.tree c.in_ok-fold_over.ensures.width
    c.in_ok-list.ensures

pub asking::emit_folded_select-draft_from-requires :
    goal.asking::emit_folded_select-draft_from-requires
asking::emit_folded_select-draft_from-requires t c = (
  omega (
    arith,
    cost-from c.args.functions.now c.args.select.now c.as_slice.result.now
        c.as_slice.ensures,
    c.decreases,
  ),
  tt,
)

-- ---- conjuncts

pub conjuncts::filter_by-loop-conjunct-init : goal.conjuncts::filter_by-loop-conjunct-init
conjuncts::filter_by-loop-conjunct-init t c =
    filtering_first c.args.functions.now (env_of c.args.scope.now) c.args.conjuncts.now
    c.args.draft.now c.none-waiting.result c.none-waiting.ensures

pub conjuncts::filter_by-returns-clause-tree : goal.conjuncts::filter_by-returns-clause-tree
conjuncts::filter_by-returns-clause-tree t c =
    filtering_done c.args.functions.now (env_of c.args.scope.now) c.args.conjuncts.now
    c.loop-conjunct.conjunct-index c.args.draft.now c.loop-conjunct.draft c.filter.new.draft
    c.loop-conjunct.waiting c.filter.result c.loop-conjunct-test.false c.loop-conjunct.invariant
    c.filter.ensures.tree

pub conjuncts::filter_by-returns-clause-width : goal.conjuncts::filter_by-returns-clause-width
conjuncts::filter_by-returns-clause-width t c =
    filtering_wide c.args.functions.now (env_of c.args.scope.now) c.args.conjuncts.now
    c.loop-conjunct.conjunct-index c.args.draft.now c.loop-conjunct.draft c.filter.new.draft
    c.loop-conjunct.waiting c.filter.result c.loop-conjunct-test.false c.loop-conjunct.invariant
    c.filter.ensures.width

pub conjuncts::filter_by-filter_one-requires : goal.conjuncts::filter_by-filter_one-requires
conjuncts::filter_by-filter_one-requires t c =
    let small = expr_small c.args.functions.now c.args.conjuncts.now c.loop-conjunct.conjunct-index
    c.conjunct-item.result c.loop-conjunct-test.true c.conjunct-item.is in
    omega (arith, c.decreases, small)

pub conjuncts::filter_by-loop-conjunct-preserved : goal.conjuncts::filter_by-loop-conjunct-preserved
conjuncts::filter_by-loop-conjunct-preserved t c =
    filtering_next c.args.functions.now (env_of c.args.scope.now) c.args.conjuncts.now
    c.loop-conjunct.conjunct-index c.conjunct-item.result c.args.draft.now c.loop-conjunct.draft
    c.filter_one.new.draft c.loop-conjunct.waiting c.filter_one.new.waiting
    c.loop-conjunct-test.true c.conjunct-item.is c.in_ok-filter_one.ensures.tree
    c.in_ok-filter_one.ensures.width c.loop-conjunct.invariant

pub conjuncts::filter_one-returns-in-Some-clause-tree :
    goal.conjuncts::filter_one-returns-in-Some-clause-tree
conjuncts::filter_one-returns-in-Some-clause-tree t c =
    key_tree c.args.functions.now (env_of c.args.scope.now) c.args.conjunct.now
    c.in_ok-key.field-0 c.in-Some.key c.args.draft.now c.add.new.draft c.args.waiting.now
    c.add.new.self c.add.result c.in-Some.is (there_key c.args.functions.now c.args.conjunct.now
    (env_of c.args.scope.now) c.in_ok-key.field-0 c.in_ok-key.ensures)
    c.add.ensures.tree

pub conjuncts::filter_one-returns-in-Some-clause-width :
    goal.conjuncts::filter_one-returns-in-Some-clause-width
conjuncts::filter_one-returns-in-Some-clause-width t c =
    key_width c.args.functions.now (env_of c.args.scope.now) c.args.conjunct.now
    c.in_ok-key.field-0 c.in-Some.key c.args.draft.now c.add.new.draft c.args.waiting.now
    c.add.new.self c.add.result c.in-Some.is (there_key c.args.functions.now c.args.conjunct.now
    (env_of c.args.scope.now) c.in_ok-key.field-0 c.in_ok-key.ensures)
    c.add.ensures.width

pub conjuncts::filter_one-returns-in_ok-test-in-None-clause-tree :
    goal.conjuncts::filter_one-returns-in_ok-test-in-None-clause-tree
conjuncts::filter_one-returns-in_ok-test-in-None-clause-tree t c =
    other_tree c.args.functions.now (env_of c.args.scope.now) c.args.conjunct.now
    c.in_ok-key.field-0 c.args.draft.now c.flush.new.draft c.emit_expr.new.draft
    c.filter.new.self c.args.waiting.now c.flush.new.self (scalar_of c.in_ok-test-in-None.test)
    c.filter.result c.in-None.is (there_key c.args.functions.now c.args.conjunct.now
    (env_of c.args.scope.now) c.in_ok-key.field-0 c.in_ok-key.ensures)
    c.in_ok-flush-in-None.ensures.tree c.in_ok-flush-in-None.ensures.width
    c.in_ok-flush-in-None.ensures.none c.in_ok-test-in-None.ensures c.filter.ensures.tree
    c.filter.ensures.width

pub conjuncts::filter_one-returns-in_ok-test-in-None-clause-width :
    goal.conjuncts::filter_one-returns-in_ok-test-in-None-clause-width
conjuncts::filter_one-returns-in_ok-test-in-None-clause-width t c =
    other_width c.args.functions.now (env_of c.args.scope.now) c.args.conjunct.now
    c.in_ok-key.field-0 c.args.draft.now c.flush.new.draft c.emit_expr.new.draft
    c.filter.new.self c.args.waiting.now c.flush.new.self (scalar_of c.in_ok-test-in-None.test)
    c.filter.result c.in-None.is (there_key c.args.functions.now c.args.conjunct.now
    (env_of c.args.scope.now) c.in_ok-key.field-0 c.in_ok-key.ensures)
    c.in_ok-flush-in-None.ensures.width c.in_ok-flush-in-None.ensures.none
    c.in_ok-test-in-None.ensures c.filter.ensures.width

-- ---- FROM

pub from::draft_from-returns-then-is_empty : goal.from::draft_from-returns-then-is_empty
from::draft_from-returns-then-is_empty t c =
    nothing_from c.args.functions.now (env_of c.args.scope.now) c.args.items.now
    c.draft_nothing.result (empty_by c.args.items.now c.is_empty.result c.is_empty.ensures
    c.if-is_empty.true) c.draft_nothing.ensures

pub from::draft_from-loop-place-init : goal.from::draft_from-loop-place-init
from::draft_from-loop-place-init t c =
    standing_first c.args.functions.now (env_of c.args.scope.now) c.args.items.now
    c.index-items-0.result c.source_in.result.now c.in_ok-draft_source.field-0
    c.begun-joined.result
    (some_by c.args.items.now c.is_empty.result c.is_empty.ensures c.if-is_empty.false)
    c.index-items-0.is (c.source_in.ensures c.args.functions.now) c.in_ok-draft_source.ensures
    c.begun-joined.ensures.before
    c.begun-joined.ensures.current

pub from::draft_from-loop-place-preserved : goal.from::draft_from-loop-place-preserved
from::draft_from-loop-place-preserved t c =
    standing_next c.args.functions.now (env_of c.args.scope.now) c.args.items.now c.loop-place.place
    c.index-items-place.result c.loop-place.joined c.in_ok-joined.joined c.loop-place-test.true
    c.index-items-place.is c.loop-place.invariant c.in_ok-joined.ensures

pub from::draft_from-returns : goal.from::draft_from-returns
from::draft_from-returns t c =
    standing_whole c.args.functions.now (env_of c.args.scope.now) c.args.items.now
    c.loop-place.place
    c.loop-place.joined c.whole.result c.loop-place-test.false c.loop-place.invariant
    c.whole.ensures

pub from::draft_from-draft_source-requires : goal.from::draft_from-draft_source-requires
from::draft_from-draft_source-requires t c =
    omega (
      arith,
      c.decreases,
      source_small c.args.functions.now c.args.items.now c.index-items-0.result
          c.source_in.result.now
          (some_by c.args.items.now c.is_empty.result c.is_empty.ensures c.if-is_empty.false)
          c.index-items-0.is
          (c.source_in.ensures c.args.functions.now),
    )

pub from::draft_from-join_item-requires : goal.from::draft_from-join_item-requires
from::draft_from-join_item-requires t c =
    omega (
      arith,
      c.decreases,
      joining_small c.args.functions.now c.args.items.now c.loop-place.place
          c.index-items-place.result c.loop-place.auto.place c.loop-place-test.true
          c.index-items-place.is,
    )

pub from::join_item-draft_source-requires : goal.from::join_item-draft_source-requires
from::join_item-draft_source-requires t c =
    omega (
      arith,
      c.decreases,
      itself_small (item_seen c.args.functions.now c.args.item.now),
      ap from_cost (c.source_in.ensures c.args.functions.now),
    )

pub from::join_item-returns-in-Comma : goal.from::join_item-returns-in-Comma
from::join_item-returns-in-Comma t c =
    comma_item c.args.functions.now (env_of c.args.scope.now) c.args.item.now c.in-Comma.field-0
    c.source_in.result.now c.args.joined c.in_ok-right.right c.after_comma.result c.in-Comma.is
    (c.source_in.ensures c.args.functions.now) c.in_ok-right.ensures c.after_comma.ensures

pub from::join_item-returns-in-Cross : goal.from::join_item-returns-in-Cross
from::join_item-returns-in-Cross t c =
    cross_item c.args.functions.now (env_of c.args.scope.now) c.args.item.now c.in-Cross.field-0
    c.source_in.result.now c.args.joined c.in_ok-right.right c.crossing.result c.in-Cross.is
    (c.source_in.ensures c.args.functions.now) c.in_ok-right.ensures c.crossing.ensures

pub from::join_item-returns-in-Inner : goal.from::join_item-returns-in-Inner
from::join_item-returns-in-Inner t c =
    inner_item c.args.functions.now (env_of c.args.scope.now) c.args.item.now c.in-Inner.field-0
    c.source_in.result.now c.in-Inner.on c.as_slice.result.now c.args.joined c.in_ok-right.right
    c.matching.result c.in-Inner.is c.as_slice.ensures
    (c.source_in.ensures c.args.functions.now) c.in_ok-right.ensures c.matching.ensures

pub from::join_item-returns-in-Left : goal.from::join_item-returns-in-Left
from::join_item-returns-in-Left t c =
    left_item c.args.functions.now (env_of c.args.scope.now) c.args.item.now c.in-Left.field-0
    c.source_in.result.now c.in-Left.on c.as_slice-in-Left.result.now c.args.joined
    c.in_ok-right.right c.matching_or_nulls.result c.in-Left.is c.as_slice-in-Left.ensures
    (c.source_in.ensures c.args.functions.now) c.in_ok-right.ensures c.matching_or_nulls.ensures

pub from::draft_source-returns-in-Table : goal.from::draft_source-returns-in-Table
from::draft_source-returns-in-Table t c =
    table_from c.args.functions.now c.catalog.result.now (env_of c.args.scope.now)
    c.args.source.now c.in-Table.name c.draft_table.result c.in-Table.is c.catalog.ensures
    c.draft_table.ensures

pub from::draft_source-returns-in_ok-plan-in-Derived :
    goal.from::draft_source-returns-in_ok-plan-in-Derived
from::draft_source-returns-in_ok-plan-in-Derived t c =
    derived_from c.args.functions.now (env_of c.args.scope.now) c.args.source.now c.in-Derived.query
    c.get.result.now c.get-in-Derived.result.now c.in_ok-plan-in-Derived.plan c.columns_of.result
    c.settled.result c.in-Derived.is c.get.ensures
    c.get-in-Derived.ensures c.in_ok-plan-in-Derived.ensures c.columns_of.ensures
    c.settled.ensures.tree c.settled.ensures.width

-- ---- joins

pub joins::matching-returns : goal.joins::matching-returns
joins::matching-returns t c =
    inner_joined c.args.functions.now (env_of c.args.scope.now) c.args.on.now c.args.joined
    c.in_ok-pairs.pairs (record {
      before = c.in_ok-pairs.pairs.before;
      current = c.filter_pairs.new.pairs;
    }) c.args.right c.columns-columns.result c.kept.result
    c.in_ok-pairs.ensures c.columns-columns.ensures refl c.in_ok-filter_pairs.ensures
    c.kept.ensures.before c.kept.ensures.tree c.kept.ensures.width

pub joins::filter_pairs-returns : goal.joins::filter_pairs-returns
joins::filter_pairs-returns t c =
    pairs_filtered c.args.functions.now (env_of c.args.scope.now) (env_of c.in_ok-within.within)
    c.args.on.now c.args.pairs.now c.filter_by.new.draft c.columns.result c.filter_by.result
    c.columns.ensures c.in_ok-within.ensures c.filter_by.ensures.tree

pub joins::matching_or_nulls-returns : goal.joins::matching_or_nulls-returns
joins::matching_or_nulls-returns t c =
    outer_joined c.args.functions.now (env_of c.args.scope.now) c.args.on.now c.args.joined
    c.args.right c.in_ok-test.test c.outer.result c.in_ok-test.ensures c.outer.ensures.before
    c.outer.ensures.tree c.outer.ensures.width

pub joins::emit_on-returns : goal.joins::emit_on-returns
joins::emit_on-returns t c =
    on_pair c.args.functions.now (env_of c.args.scope.now) (env_of c.in_ok-within.within)
    c.args.on.now c.over-pair.result c.emit_list.new.draft c.in_ok-columns.columns
    ((drafted c.args.left.now).width + (drafted c.args.right.now).width) c.in_ok-scalars.scalars
    c.pair_test.result c.in_ok-columns.ensures c.in_ok-within.ensures c.over-pair.ensures.tree
    c.over-pair.ensures.width c.in_ok-scalars.ensures c.pair_test.ensures.nodes
    c.pair_test.ensures.test

-- ---- whole queries

pub plans::plan_within-returns-in-Select : goal.plans::plan_within-returns-in-Select
plans::plan_within-returns-in-Select t c =
    let k = c.args.functions.now in
    plan_as k c.args.query.now (select_seen k c.in-Select.select) (env_of c.args.scope.now)
    c.plan_select.result (sym (query_seen-Select k c.in-Select.select) ∙
    ap (query_seen k) (sym c.in-Select.is)) c.plan_select.ensures

pub plans::plan_within-returns-in-Values : goal.plans::plan_within-returns-in-Values
plans::plan_within-returns-in-Values t c =
    let k = c.args.functions.now in
    plan_as k c.args.query.now (Values (rows_seen k c.as_slice.result.now))
    (env_of c.args.scope.now) c.plan_values.result
    (ap (λ (rs : List BoundRow). Values (rows_seen k rs)) c.as_slice.ensures ∙
    sym (query_seen-Values k c.in-Values.rows) ∙ ap (query_seen k) (sym c.in-Values.is))
    c.plan_values.ensures

pub plans::plan_within-returns-in_ok-plan-in-Ordered :
    goal.plans::plan_within-returns-in_ok-plan-in-Ordered
plans::plan_within-returns-in_ok-plan-in-Ordered t c =
    let k = c.args.functions.now in
    sorted_as k c.args.query.now c.in-Ordered.query c.get.result.now c.in-Ordered.keys
    c.as_slice-in-Ordered.result.now (env_of c.args.scope.now)
    c.in_ok-plan-in-Ordered.plan c.sorted.result c.in-Ordered.is c.get.ensures
    c.as_slice-in-Ordered.ensures c.in_ok-plan-in-Ordered.ensures c.sorted.ensures

pub selects::plan_select-returns : goal.selects::plan_select-returns
selects::plan_select-returns t c =
    select_plan c.args.functions.now c.args.select.now (out-BoundSelect c.args.select.now).grouping
    (env_of c.args.scope.now) c.as_slice-items.result.now c.as_slice-conjuncts.result.now
    c.as_slice.result.now c.in_ok-draft.draft (plan_tree c.into_plan.result) refl
    c.as_slice.ensures c.as_slice-items.ensures c.as_slice-conjuncts.ensures
    c.in_ok-draft.ensures (c.into_plan.ensures ∙ c.in_ok-select_over.ensures)

pub selects::plan_select-draft_from-requires : goal.selects::plan_select-draft_from-requires
selects::plan_select-draft_from-requires t c = (
  omega (
    arith,
    cost-from c.args.functions.now c.args.select.now c.as_slice.result.now
        c.as_slice.ensures,
    c.decreases,
  ),
  tt,
)

pub selects::plan_select-select_over-requires : goal.selects::plan_select-select_over-requires
selects::plan_select-select_over-requires t c =
    omega (
      arith,
      c.decreases,
      cost-over c.args.functions.now c.args.select.now (out-BoundSelect c.args.select.now).grouping
          c.as_slice-items.result.now c.as_slice-conjuncts.result.now refl c.as_slice-items.ensures
          c.as_slice-conjuncts.ensures,
    )

pub selects::select_over-returns-in_ok-group-in-Some :
    goal.selects::select_over-returns-in_ok-group-in-Some
selects::select_over-returns-in_ok-group-in-Some t c =
    groups_selected c.args.functions.now c.args.grouping.now c.in-Some.grouping
    c.args.items.now c.args.conjuncts.now c.as_slice.result.now c.as_slice-in-Some-2.result.now
    c.as_slice-in-Some.result.now (env_of c.args.scope.now) c.args.draft.now
    c.select_rows.new.draft c.group.new.draft c.select_rows-in-Some.new.draft
    c.select_rows-in-Some.result c.in-Some.is c.as_slice.ensures c.as_slice-in-Some.ensures
    c.as_slice-in-Some-2.ensures c.in_ok-select_rows-in-Some.ensures
    c.in_ok-group-in-Some.ensures.tree c.in_ok-group-in-Some.ensures.width
    c.select_rows-in-Some.ensures

pub selects::select_over-returns-in-None : goal.selects::select_over-returns-in-None
selects::select_over-returns-in-None t c =
    rows_selected c.args.functions.now c.args.grouping.now c.args.items.now c.args.conjuncts.now
    (env_of c.args.scope.now) c.args.draft.now c.select_rows-in-None.new.draft
    c.select_rows-in-None.result c.in-None.is c.select_rows-in-None.ensures

pub selects::select_rows-returns : goal.selects::select_rows-returns
selects::select_rows-returns t c =
    selected_plan c.args.functions.now c.args.items.now c.args.conjuncts.now
    (env_of c.args.scope.now)
    (env_of c.in_ok-within.within) c.columns.result c.args.draft.now c.filter_by.new.draft
    c.emit_list.new.draft c.list.new.draft (scalars_of c.in_ok-scalars.scalars) c.list.result
    c.columns.ensures c.in_ok-within.ensures c.in_ok-filter_by.ensures.tree
    c.in_ok-filter_by.ensures.width c.in_ok-scalars.ensures c.list.ensures

-- ---- VALUES

pub values::plan_values-returns : goal.values::plan_values-returns
values::plan_values-returns t c =
    values_lifted c.args.functions.now (env_of c.args.scope.now) (env_of c.in_ok-within.within)
    c.args.rows.now c.plan_rows.result c.in_ok-within.ensures c.plan_rows.ensures

pub values::plan_rows-returns-then-rows-eq1 : goal.values::plan_rows-returns-then-rows-eq1
values::plan_rows-returns-then-rows-eq1 t c =
    one_row c.args.functions.now (env_of c.args.scope.now) c.args.rows.now c.index-rows-0.result
    c.values_in.result.now c.plan_row.result c.if-rows-eq1.true c.index-rows-0.is
    (c.values_in.ensures c.args.functions.now) c.plan_row.ensures

pub values::plan_rows-plan_row-requires : goal.values::plan_rows-plan_row-requires
values::plan_rows-plan_row-requires t c =
    omega (
      arith,
      c.decreases,
      first_row_small c.args.functions.now c.args.rows.now c.index-rows-0.result
          c.values_in.result.now c.if-rows-eq1.true c.index-rows-0.is
          (c.values_in.ensures c.args.functions.now),
    )

pub values::plan_rows-returns-then-is_empty : goal.values::plan_rows-returns-then-is_empty
values::plan_rows-returns-then-is_empty t c =
    no_rows c.args.functions.now (env_of c.args.scope.now) c.args.rows.now c.plan_numbered.result
    (empty_by c.args.rows.now c.is_empty.result c.is_empty.ensures c.if-is_empty.true)
    c.plan_numbered.ensures

pub values::plan_rows-returns-in-Some : goal.values::plan_rows-returns-in-Some
values::plan_rows-returns-in-Some t c =
    plain_there c.args.functions.now (env_of c.args.scope.now) c.args.rows.now c.in_ok-lists.field-0
    c.in-Some.lists (plan_tree c.lists_plan.result) c.if-rows-eq1.false
    (some_by c.args.rows.now c.is_empty.result c.is_empty.ensures c.if-is_empty.false)
    c.in-Some.is c.in_ok-lists.ensures c.lists_plan.ensures

pub values::plan_rows-returns-in-None : goal.values::plan_rows-returns-in-None
values::plan_rows-returns-in-None t c =
    numbered_there c.args.functions.now (env_of c.args.scope.now) c.args.rows.now
    c.plan_numbered-in-None.result c.if-rows-eq1.false
    (subst (λ (o : Option (List ScalarRow)). ArePlain o
    (emit_rows (rows_seen c.args.functions.now c.args.rows.now) (width_in c.args.functions.now)
    (env_of c.args.scope.now) 0)) c.in-None.is c.in_ok-lists.ensures)
    c.plan_numbered-in-None.ensures

pub values::plan_row-returns : goal.values::plan_row-returns
values::plan_row-returns t c =
    row_bound c.args.functions.now (env_of c.args.scope.now) c.args.values.now c.over-draft.result
    c.emit_list.new.draft c.in_ok-scalars.scalars c.listed_plan.result c.over-draft.ensures.tree
    c.over-draft.ensures.width c.in_ok-scalars.ensures c.listed_plan.ensures

pub values::plain_lists-loop-row-preserved : goal.values::plain_lists-loop-row-preserved
values::plain_lists-loop-row-preserved t c =
    plains_more c.args.functions.now (env_of c.args.scope.now) c.args.rows.now c.loop-row.row-index
    c.row-item.result c.values_in.result.now c.loop-row.lists c.push.new.self
    c.in_ok-list.field-0 c.in-Some.list c.loop-row-test.true c.row-item.is
    (c.values_in.ensures c.args.functions.now) c.loop-row.invariant c.in-Some.is
    c.in_ok-list.ensures c.in_ok-push-in-Some.ensures.ok

pub values::plain_lists-returns-in-None : goal.values::plain_lists-returns-in-None
values::plain_lists-returns-in-None t c =
    plains_not c.args.functions.now (env_of c.args.scope.now) c.args.rows.now c.loop-row.row-index
    c.row-item.result c.values_in.result.now c.loop-row.lists c.in_ok-list.field-0
    c.loop-row-test.true c.row-item.is (c.values_in.ensures c.args.functions.now)
    c.loop-row.invariant c.in-None.is c.in_ok-list.ensures

pub values::plain_lists-returns : goal.values::plain_lists-returns
values::plain_lists-returns t c = plains_done c.args.functions.now (env_of c.args.scope.now)
    c.args.rows.now c.loop-row.row-index c.loop-row.lists c.loop-row-test.false c.loop-row.invariant

pub values::plain_lists-plain_list-requires : goal.values::plain_lists-plain_list-requires
values::plain_lists-plain_list-requires t c =
    omega (
      arith,
      c.decreases,
      row_small c.args.functions.now c.args.rows.now c.loop-row.row-index c.row-item.result
          c.values_in.result.now c.loop-row-test.true c.row-item.is
          (c.values_in.ensures c.args.functions.now),
    )

pub values::plain_list-returns-then-not-is_unit : goal.values::plain_list-returns-then-not-is_unit
values::plain_list-returns-then-not-is_unit t c =
    let both = plain_row c.args.functions.now (env_of c.args.scope.now) c.args.values.now
    c.over-draft.result c.emit_list.new.draft (scalars_of c.in_ok-scalars.scalars)
    c.is_unit.result c.over-draft.ensures.tree c.over-draft.ensures.width
    c.in_ok-scalars.ensures c.is_unit.ensures in
    sym both.0 ∙ c.if-not-is_unit.true

pub values::plain_list-returns : goal.values::plain_list-returns
values::plain_list-returns t c =
    let both = plain_row c.args.functions.now (env_of c.args.scope.now) c.args.values.now
    c.over-draft.result c.emit_list.new.draft (scalars_of c.in_ok-scalars.scalars)
    c.is_unit.result c.over-draft.ensures.tree c.over-draft.ensures.width
    c.in_ok-scalars.ensures c.is_unit.ensures in
    (sym both.0 ∙ c.if-not-is_unit.false, both.1)

pub values::plan_numbered-returns : goal.values::plan_numbered-returns
values::plan_numbered-returns t c =
    numbered_plan c.args.functions.now (env_of c.args.scope.now)
    (rows_width (rows_seen c.args.functions.now c.args.rows.now)) c.args.rows.now
    c.in_ok-draft.draft
    c.emit_columns.new.draft c.in_ok-columns.columns c.closed_plan.result
    c.in_ok-draft.ensures.tree
    c.in_ok-draft.ensures.width c.in_ok-columns.ensures c.closed_plan.ensures

pub values::emit_columns-loop-number-init : goal.values::emit_columns-loop-number-init
values::emit_columns-loop-number-init t c =
    let k = c.args.functions.now in
    numbering_first k (env_of c.args.scope.now) (rows_width (rows_seen k c.args.rows.now))
    c.args.rows.now c.args.draft.now c.in_ok-columns.columns
    (c.in_ok-columns.ensures ∙ ap (λ n. replicate {A = List Scalar} n []) (c.first_width.ensures
    k.known
    ∙ sym (rows_width_seen k c.args.rows.now)))

pub values::emit_columns-loop-number-preserved : goal.values::emit_columns-loop-number-preserved
values::emit_columns-loop-number-preserved t c =
    let k = c.args.functions.now in
    numbering_bound k (env_of c.args.scope.now) (rows_width (rows_seen k c.args.rows.now))
    c.args.rows.now c.loop-number.number c.index-rows-number.result c.values_in.result.now
    c.args.draft.now
    c.loop-number.draft c.emit_list.new.draft c.loop-number.columns c.in_ok-columns-2.columns
    (scalars_of c.in_ok-scalars.scalars) c.loop-number-test.true c.index-rows-number.is
    (c.values_in.ensures k)
    c.loop-number.invariant c.in_ok-scalars.ensures c.in_ok-columns-2.ensures

pub values::emit_columns-returns : goal.values::emit_columns-returns
values::emit_columns-returns t c =
    let k = c.args.functions.now in
    numbering_done k (env_of c.args.scope.now) (rows_width (rows_seen k c.args.rows.now))
    c.args.rows.now c.loop-number.number c.args.draft.now c.loop-number.draft
    c.loop-number.columns c.loop-number-test.false c.loop-number.invariant

pub values::emit_columns-emit_list-requires : goal.values::emit_columns-emit_list-requires
values::emit_columns-emit_list-requires t c =
    omega (
      arith,
      c.decreases,
      row_small c.args.functions.now c.args.rows.now c.loop-number.number c.index-rows-number.result
          c.values_in.result.now c.loop-number-test.true c.index-rows-number.is
          (c.values_in.ensures c.args.functions.now),
    )

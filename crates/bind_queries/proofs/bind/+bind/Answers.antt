use Rattle.std.proofs.Common.{rules, ◌∙◌, arith}
use Rattle.std.proofs.lemmas.Result.{IfOk-weaker, on_ok_weaker}
use Rattle.std.specs.Option.{option_copied}
use Rattle.bind_sight.specs.Sight.{seen_by, inside}
use Rattle.bind_parts.specs.From.{row_level}
use Rattle.bind_parts.proofs.Laws.{then-notes}
use Rattle.bind_parts.proofs.Laws as turns
use Rattle.bind_queries.specs.Lists.{listed, judged_filter}
use Rattle.bind_queries.specs.Queries.{expression, select_item, value_row, from_judge, anchor_of}
use Rattle.bind_queries.specs.Queries.{items_of, filter_of, grouping_columns, having_of}
use Rattle.bind_queries.specs.Queries.{anchor_of_values}
use Rattle.bind_queries.specs.Selects.{rowed, list_typed, grouped, after_list, with_grouping}
use Rattle.bind_queries.specs.ValueRows.{one_row}
use Rattle.bind_queries.proofs.Layers.{select-value, select-notes, comma-notes, cross-notes}
use Rattle.bind_queries.proofs.Layers.{inner-notes, left-notes, derived-notes}
use Rattle.bind_queries.proofs.Steps.{each-value, each-notes, operands-value, operands-parts}
use Rattle.bind_queries.proofs.Steps.{operands-notes, chain_value, chain_parts, chain_notes}
use Rattle.bind_queries.proofs.Steps.{call_notes, operation_notes, single_notes, row_notes}
use Rattle.bind_queries.proofs.Steps.{member_value, member_parts, member_notes}
use Rattle.bind_queries.proofs.bind.+bind.Goals as goal

pub bind_all-loop-expr-preserved : goal.bind_all-loop-expr-preserved
bind_all-loop-expr-preserved t c = record {
  value = operands-value expression (seen_by c.args.sight.now) c.args.exprs.now
      c.loop-expr.expr-index c.expr-item.result c.loop-expr.parts _
      (omega arith) c.expr-item.is c.in_ok-typed.ensures.parts c.loop-expr.so _ c.in_ok-typed.typed
      c.in_ok-typed.ensures.value c.in_ok-add_operand.ensures ∙ c.loop-expr.invariant.value;
  parts = operands-parts expression (seen_by c.args.sight.now) c.args.exprs.now
      c.loop-expr.expr-index c.expr-item.result c.loop-expr.parts _
      (omega arith) c.expr-item.is c.in_ok-typed.ensures.parts ∙ c.loop-expr.invariant.parts;
  notes = operands-notes expression (seen_by c.args.sight.now) c.args.exprs.now
      c.loop-expr.expr-index c.expr-item.result c.loop-expr.parts _
      (omega arith) c.expr-item.is c.in_ok-typed.ensures.parts c.loop-expr.notes _
      c.in_ok-typed.ensures.notes ∙ c.loop-expr.invariant.notes;
}

pub bind_links-loop-link-preserved : goal.bind_links-loop-link-preserved
bind_links-loop-link-preserved t c = record {
  value = operands-value (λ l. expression l.operand) (seen_by c.args.sight.now) c.args.links.now
      c.loop-link.link-index c.link-item.result c.loop-link.parts _
      (omega arith) c.link-item.is c.in_ok-typed.ensures.parts c.loop-link.so _ c.in_ok-typed.typed
      c.in_ok-typed.ensures.value c.in_ok-add_operand.ensures ∙ c.loop-link.invariant.value;
  parts = operands-parts (λ l. expression l.operand) (seen_by c.args.sight.now) c.args.links.now
      c.loop-link.link-index c.link-item.result c.loop-link.parts _
      (omega arith) c.link-item.is c.in_ok-typed.ensures.parts ∙ c.loop-link.invariant.parts;
  notes = operands-notes (λ l. expression l.operand) (seen_by c.args.sight.now) c.args.links.now
      c.loop-link.link-index c.link-item.result c.loop-link.parts _
      (omega arith) c.link-item.is c.in_ok-typed.ensures.parts c.loop-link.notes _
      c.in_ok-typed.ensures.notes ∙ c.loop-link.invariant.notes;
}

pub bind_items-loop-item-preserved : goal.bind_items-loop-item-preserved
bind_items-loop-item-preserved t c = record {
  value = each-value (λ so i. i.judge (seen_by c.args.sight.now) so) select_item c.args.items.now
      c.loop-item.item-index c.item-item.result c.loop-item.so _
      (omega arith) c.item-item.is c.in_ok-bind_item.ensures.value ∙ c.loop-item.invariant.value;
  notes = each-notes (λ so i. i.judge (seen_by c.args.sight.now) so) select_item c.args.items.now
      c.loop-item.item-index c.item-item.result c.loop-item.so _ c.loop-item.notes _
      (omega arith) c.item-item.is c.in_ok-bind_item.ensures.value c.in_ok-bind_item.ensures.notes ∙
      c.loop-item.invariant.notes;
}

pub bind_rows-loop-row-preserved : goal.bind_rows-loop-row-preserved
bind_rows-loop-row-preserved t c = record {
  value = each-value (one_row (anchor_of_values c.args.values.now) c.args.targets.now
      (seen_by c.args.sight.now)) value_row _ c.loop-row.row-index c.row-item.result c.loop-row.so _
      (omega arith) c.row-item.is c.in_ok-bind_value_row.ensures.value ∙ c.loop-row.invariant.value;
  notes = each-notes (one_row (anchor_of_values c.args.values.now) c.args.targets.now
      (seen_by c.args.sight.now)) value_row _ c.loop-row.row-index c.row-item.result c.loop-row.so _
      c.loop-row.notes _
      (omega arith) c.row-item.is c.in_ok-bind_value_row.ensures.value
      c.in_ok-bind_value_row.ensures.notes ∙ c.loop-row.invariant.notes;
}

pub bind_call-returns-clause-notes : goal.bind_call-returns-clause-notes
bind_call-returns-clause-notes t c =
    on_ok_weaker c.called.result (call_notes (seen_by c.args.sight.now) c.args.parts.now
    c.args.ident.now c.args.args.now (option_copied c.function_in_sight-function.result)
    c.args.notes.now c.note_call.new.notes c.bind_all.new.notes c.called.new.least
    c.in_ok-args.args (search rules) (search rules) (search rules) (search rules))
    c.called.ensures.faults

pub bind_inside-returns-in_ok-operands-in-Operation-clause-notes :
    goal.bind_inside-returns-in_ok-operands-in-Operation-clause-notes
bind_inside-returns-in_ok-operands-in-Operation-clause-notes t c =
    on_ok_weaker c.operated.result (operation_notes (seen_by c.args.sight.now) c.args.parts.now
    c.args.expr.now c.in-Operation.at c.in-Operation.operation c.in-Operation.operands
    c.args.notes.now c.bind_all.new.notes c.operated.new.least
    c.in_ok-operands-in-Operation.operands c.in-Operation.is (search rules) (search rules))
    c.operated.ensures.faults

pub bind_inside-returns-in_ok-first-in-Chain-clause-value :
    goal.bind_inside-returns-in_ok-first-in-Chain-clause-value
bind_inside-returns-in_ok-first-in-Chain-clause-value t c =
    IfOk-weaker c.bind_chain.result _ _ (chain_value (seen_by c.args.sight.now) c.args.parts.now
    c.bind_after.new.parts c.args.expr.now c.in-Chain.first c.in-Chain.links c.in-Chain.is
    c.in_ok-first-in-Chain.first (search rules) (search rules)) (search rules)

pub bind_inside-returns-in_ok-first-in-Chain-clause-parts :
    goal.bind_inside-returns-in_ok-first-in-Chain-clause-parts
bind_inside-returns-in_ok-first-in-Chain-clause-parts t c =
    on_ok_weaker c.bind_chain.result (chain_parts (seen_by c.args.sight.now) c.args.parts.now
    c.bind_after.new.parts c.args.expr.now c.in-Chain.first c.in-Chain.links c.in-Chain.is
    c.in_ok-first-in-Chain.first (search rules) (search rules) c.bind_chain.new.parts)
    (search rules)

pub bind_inside-returns-in_ok-first-in-Chain-clause-notes :
    goal.bind_inside-returns-in_ok-first-in-Chain-clause-notes
bind_inside-returns-in_ok-first-in-Chain-clause-notes t c =
    on_ok_weaker c.bind_chain.result (chain_notes (seen_by c.args.sight.now) c.args.parts.now
    c.bind_after.new.parts c.args.expr.now c.in-Chain.first c.in-Chain.links c.in-Chain.is
    c.in_ok-first-in-Chain.first (search rules) (search rules) c.args.notes.now
    c.bind_after.new.notes c.bind_chain.new.notes (search rules)) (search rules)

pub bind_inside-returns-in_ok-query-in-Subquery-clause-notes :
    goal.bind_inside-returns-in_ok-query-in-Subquery-clause-notes
bind_inside-returns-in_ok-query-in-Subquery-clause-notes t c =
    on_ok_weaker c.single.result (single_notes (seen_by c.args.sight.now) c.args.parts.now
    c.args.expr.now c.in-Subquery.query c.args.notes.now c.bind_typed.new.notes
    c.single.new.least c.in_ok-query-in-Subquery.query c.in-Subquery.is (search rules)
    (search rules)) c.single.ensures.faults

pub bind_inside-returns-in_ok-left-in-InQuery-clause-value :
    goal.bind_inside-returns-in_ok-left-in-InQuery-clause-value
bind_inside-returns-in_ok-left-in-InQuery-clause-value t c =
    IfOk-weaker c.bind_member.result _ _ (member_value (seen_by c.args.sight.now) c.args.parts.now
    c.args.expr.now c.in-InQuery.left c.in-InQuery.at c.in-InQuery.negated c.in-InQuery.query
    c.in-InQuery.is c.in_ok-left-in-InQuery.left (search rules)) (search rules)

pub bind_inside-returns-in_ok-left-in-InQuery-clause-parts :
    goal.bind_inside-returns-in_ok-left-in-InQuery-clause-parts
bind_inside-returns-in_ok-left-in-InQuery-clause-parts t c =
    on_ok_weaker c.bind_member.result (λ h. member_parts (seen_by c.args.sight.now)
    c.args.parts.now c.args.expr.now c.in-InQuery.left c.in-InQuery.at c.in-InQuery.negated
    c.in-InQuery.query c.in-InQuery.is c.bind_after-in-InQuery.new.parts (search rules))
    c.bind_member.ensures.notes

pub bind_inside-returns-in_ok-left-in-InQuery-clause-notes :
    goal.bind_inside-returns-in_ok-left-in-InQuery-clause-notes
bind_inside-returns-in_ok-left-in-InQuery-clause-notes t c =
    on_ok_weaker c.bind_member.result (member_notes (seen_by c.args.sight.now) c.args.parts.now
    c.args.expr.now c.in-InQuery.left c.in-InQuery.at c.in-InQuery.negated c.in-InQuery.query
    c.in-InQuery.is c.in_ok-left-in-InQuery.left (search rules) c.args.notes.now
    c.bind_after-in-InQuery.new.notes c.bind_member.new.notes (search rules)) (search rules)

pub bind_value_row-returns-clause-notes : goal.bind_value_row-returns-clause-notes
bind_value_row-returns-clause-notes t c =
    on_ok_weaker c.put_row.result (row_notes (seen_by c.args.sight.now) c.args.at
    c.args.targets.now c.args.so.now (value_row c.args.row.now) c.args.notes.now
    c.bind_row_values.new.notes c.put_row.new.least c.in_ok-values.values
    c.in_ok-values.ensures.notes c.in_ok-values.ensures.value) c.put_row.ensures.faults

pub bind_row-returns-clause-notes : goal.bind_row-returns-clause-notes
bind_row-returns-clause-notes t c =
    let seen = inside (row_level c.args.opened.now) (seen_by c.args.outside.now) in
    on_ok_weaker c.bind_row_clauses.result (then-notes c.args.notes.now c.bind_filter.new.notes
    c.bind_row_clauses.new.notes (judged_filter (filter_of c.args.select.now) seen)
    (λ conjuncts. with_grouping conjuncts (grouping_columns c.args.select.now) seen)
    c.in_ok-conjuncts.conjuncts (search rules) (search rules)) (search rules)

pub bind_listed-returns-clause-notes : goal.bind_listed-returns-clause-notes
bind_listed-returns-clause-notes t c =
    then-notes c.args.notes.now c.bind_list.new.notes c.bind_having.new.notes
    (listed c.args.targets.now (items_of c.args.select.now) c.args.parts (seen_by c.args.sight.now))
    (after_list (having_of c.args.select.now) (seen_by c.args.sight.now))
    c.in_ok-outputs.outputs
    (cc (c.in_ok-outputs.ensures.notes, c.as_slice.ensures))
    (cc (c.in_ok-outputs.ensures.value, c.as_slice.ensures)) c.in_ok-having.ensures.notes

pub bind_opened-returns-clause-notes : goal.bind_opened-returns-clause-notes
bind_opened-returns-clause-notes t c =
    let select = c.args.select.now in
    let outer = seen_by c.args.outside.now in
    on_ok_weaker c.bind_grouped.result (then-notes c.args.notes.now c.bind_row.new.notes
    c.bind_grouped.new.notes
    (rowed (filter_of select) (grouping_columns select) (inside (row_level c.args.opened) outer))
    (list_typed (anchor_of select) (items_of select) (having_of select)
    (grouped (items_of select) (grouping_columns select) (having_of select)) c.args.targets.now
    outer c.args.opened) c.in_ok-row.row c.in_ok-row.ensures.notes c.in_ok-row.ensures.value)
    c.bind_grouped.ensures.notes

pub bind_from-loop-item-preserved : goal.bind_from-loop-item-preserved
bind_from-loop-item-preserved t c = record {
  value = turns.each-value (λ so item. from_judge item (seen_by c.args.outside.now) so)
      c.args.items.now c.loop-item.item-index c.item-item.result c.loop-item.so _
      (omega arith) c.item-item.is c.in_ok-bind_from_item.ensures.value ∙
      c.loop-item.invariant.value;
  notes = turns.each-notes (λ so item. from_judge item (seen_by c.args.outside.now) so)
      c.args.items.now c.loop-item.item-index c.item-item.result c.loop-item.so _ c.loop-item.notes
      _
      (omega arith) c.item-item.is c.in_ok-bind_from_item.ensures.value
      c.in_ok-bind_from_item.ensures.notes ∙ c.loop-item.invariant.notes;
}

pub bind_select-returns-clause-value : goal.bind_select-returns-clause-value
bind_select-returns-clause-value t c =
    IfOk-weaker c.bind_opened.result _ _ (λ q. select-value c.args.select.now c.args.targets.now
    (seen_by c.args.outside.now) c.in_ok-opened.opened q
    (cc (c.in_ok-opened.ensures.value, c.as_slice.ensures))) (search rules)

pub bind_select-returns-clause-notes : goal.bind_select-returns-clause-notes
bind_select-returns-clause-notes t c =
    on_ok_weaker c.bind_opened.result (select-notes c.args.select.now c.args.targets.now
    (seen_by c.args.outside.now) c.in_ok-opened.opened c.args.notes.now c.bind_from.new.notes
    c.bind_opened.new.notes (cc (c.in_ok-opened.ensures.notes, c.as_slice.ensures))
    (cc (c.in_ok-opened.ensures.value, c.as_slice.ensures))) (search rules)

pub bind_from_item-returns-in_ok-sourced-in-Comma-clause-notes :
    goal.bind_from_item-returns-in_ok-sourced-in-Comma-clause-notes
bind_from_item-returns-in_ok-sourced-in-Comma-clause-notes t c =
    on_ok_weaker c.put_comma.result (comma-notes c.args.item.now c.in-Comma.table
    (seen_by c.args.outside.now) c.args.so.now c.in_ok-sourced-in-Comma.sourced c.args.notes.now
    c.bind_table_ref.new.notes c.put_comma.new.notes (search rules) (search rules)
    c.in-Comma.is) c.put_comma.ensures.notes

pub bind_from_item-returns-in_ok-sourced-in-Cross-clause-notes :
    goal.bind_from_item-returns-in_ok-sourced-in-Cross-clause-notes
bind_from_item-returns-in_ok-sourced-in-Cross-clause-notes t c =
    on_ok_weaker c.put_cross.result (cross-notes c.args.item.now c.in-Cross.table
    (seen_by c.args.outside.now) c.args.so.now c.in_ok-sourced-in-Cross.sourced c.args.notes.now
    c.bind_table_ref-in-Cross.new.notes c.put_cross.new.notes (search rules) (search rules)
    c.in-Cross.is) c.put_cross.ensures.notes

pub bind_from_item-returns-in_ok-sourced-in-Inner-clause-notes :
    goal.bind_from_item-returns-in_ok-sourced-in-Inner-clause-notes
bind_from_item-returns-in_ok-sourced-in-Inner-clause-notes t c =
    on_ok_weaker c.put_joined.result (inner-notes c.args.item.now c.in-Inner.table
    (seen_by c.args.outside.now) c.args.so.now c.in_ok-sourced-in-Inner.sourced c.args.notes.now
    c.bind_table_ref-in-Inner.new.notes c.put_joined.new.notes (search rules)
    (search rules) c.in-Inner.condition c.in-Inner.is) c.put_joined.ensures.notes

pub bind_from_item-returns-in_ok-sourced-in-Left-clause-notes :
    goal.bind_from_item-returns-in_ok-sourced-in-Left-clause-notes
bind_from_item-returns-in_ok-sourced-in-Left-clause-notes t c =
    on_ok_weaker c.put_joined-in-Left.result (left-notes c.args.item.now c.in-Left.table
    (seen_by c.args.outside.now) c.args.so.now c.in_ok-sourced-in-Left.sourced c.args.notes.now
    c.bind_table_ref-in-Left.new.notes c.put_joined-in-Left.new.notes (search rules)
    (search rules) c.in-Left.condition c.in-Left.is) c.put_joined-in-Left.ensures.notes

pub bind_table_ref-returns-in_ok-query-in-Derived-clause-notes :
    goal.bind_table_ref-returns-in_ok-query-in-Derived-clause-notes
bind_table_ref-returns-in_ok-query-in-Derived-clause-notes t c =
    on_ok_weaker c.derived_source.result (derived-notes c.args.table.now c.in-Derived.query
    c.in-Derived.ident c.in-Derived.names (seen_by c.args.outside.now)
    c.in_ok-query-in-Derived.query c.args.notes.now c.bind_typed.new.notes
    c.derived_source.new.notes c.in-Derived.is
    (cc (c.in_ok-query-in-Derived.ensures.notes, c.get.ensures))
    (cc (c.in_ok-query-in-Derived.ensures.value, c.get.ensures))) (search rules)

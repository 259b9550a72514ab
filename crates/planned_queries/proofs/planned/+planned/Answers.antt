use Rattle.std.proofs.Common.{length, refl, sym}
use Rattle.planned_queries.proofs.Parts.{word_taken, call_taken, call_refused, values_taken}
use Rattle.planned_queries.proofs.Parts.{many_taken, many_refused, select_taken, select_refused}
use Rattle.planned_queries.proofs.planned.+planned.Goals as goal

pub is_planned_expr-returns-else-not-takes : goal.is_planned_expr-returns-else-not-takes
is_planned_expr-returns-else-not-takes t c =
    word_taken c.args.functions.now c.args.expr.now c.in-Operation.word c.in-Operation.operands
    c.as_slice.result.now c.len.result c.all_planned.result c.in-Operation.is c.len.ensures
    (sym c.if-not-takes.ensures) c.as_slice.ensures c.all_planned.ensures

pub is_planned_expr-returns-then-callee_planned : goal.is_planned_expr-returns-then-callee_planned
is_planned_expr-returns-then-callee_planned t c =
    call_taken c.args.functions.now c.args.expr.now c.in-Call.name c.in-Call.arguments
    c.as_slice-then-callee_planned.result.now c.len-in-Call.result c.callee_planned.result
    c.all_planned-then-callee_planned.result c.in-Call.is c.as_slice-then-callee_planned.ensures c.len-in-Call.ensures
    c.callee_planned.ensures.planned c.callee_planned.ensures.called c.if-callee_planned.true
    c.all_planned-then-callee_planned.ensures

pub is_planned_expr-returns-else-callee_planned : goal.is_planned_expr-returns-else-callee_planned
is_planned_expr-returns-else-callee_planned t c =
    call_refused c.args.functions.now c.args.expr.now c.in-Call.name c.in-Call.arguments
    c.len-in-Call.result c.callee_planned.result c.in-Call.is c.len-in-Call.ensures
    c.callee_planned.ensures.planned c.if-callee_planned.false

pub is_planned-returns-in-Values : goal.is_planned-returns-in-Values
is_planned-returns-in-Values t c =
    values_taken c.args.functions.now c.args.query.now c.in-Values.rows c.as_slice.result.now
    c.as_slice-in-Values.result.now c.first_width-width.result c.rows_planned.result
    c.in-Values.is c.as_slice.ensures c.as_slice-in-Values.ensures
    (c.first_width-width.ensures c.args.functions.now) c.rows_planned.ensures

pub values_planned-returns-then-values-width : goal.values_planned-returns-then-values-width
values_planned-returns-then-values-width t c =
    many_taken c.args.functions.now c.args.values.now (length c.args.values.now) c.args.width
    c.all_planned.result refl c.if-values-width.true c.all_planned.ensures

pub values_planned-returns-else-values-width : goal.values_planned-returns-else-values-width
values_planned-returns-else-values-width t c =
    many_refused c.args.functions.now c.args.values.now (length c.args.values.now) c.args.width refl
    c.if-values-width.false

pub select_planned-returns-then-tables_planned : goal.select_planned-returns-then-tables_planned
select_planned-returns-then-tables_planned t c =
    select_taken c.args.functions.now c.args.select.now c.tables_planned.result c.lists_planned.result
    c.tables_planned.ensures c.if-tables_planned.true c.lists_planned.ensures

pub select_planned-returns-else-tables_planned : goal.select_planned-returns-else-tables_planned
select_planned-returns-else-tables_planned t c =
    select_refused c.args.functions.now c.args.select.now c.tables_planned.result
    c.tables_planned.ensures c.if-tables_planned.false

use Rattle.call_places.proofs.Meeting.{call_met}
use Rattle.call_places.proofs.calls.+calls.Goals as goal

pub with_expr-returns-in-Call : goal.with_expr-returns-in-Call
with_expr-returns-in-Call t c =
    call_met c.args.functions.now c.args.found c.args.expr.now c.in-Call.name
    c.in-Call.arguments c.as_slice-in-Call.result.now c.len.result c.with_call-inside.result
    c.with_exprs-in-Call.result c.in-Call.is c.len.ensures c.as_slice-in-Call.ensures
    c.with_call-inside.ensures c.with_exprs-in-Call.ensures

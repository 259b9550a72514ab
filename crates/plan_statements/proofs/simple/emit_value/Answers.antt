use Rattle.plan_expressions.specs.Scopes.{env_of}
use Rattle.plan_statements.proofs.Several.{value_emits}
use Rattle.plan_statements.proofs.simple.emit_value.Goals as goal

pub returns : goal.returns
returns c =
    let p = c.args.place.now in
    value_emits p.functions.now c.args.expr.now p (env_of c.in_ok-names.names) c.args.nodes.now
    c.emit_expr.new.draft c.emit_expr.result c.in_ok-names.ensures c.emit_expr.ensures

use Rattle.std.proofs.Common.{Bool, ◌||◌, sym, ap, ◌∙◌}
use Rattle.rel_algebra.specs.Emit.{computed}
use Rattle.catalog_store.specs.View.{tree_of}
use Rattle.plan_expressions.proofs.guards.is_guarded.Goals as goal

pub returns-else-refused : goal.returns-else-refused
returns-else-refused c = λ known. c.is_computed.ensures known ∙
    ap (λ (b : Bool). b || computed (tree_of known c.args.argument.now)) (sym c.if-refused.false)

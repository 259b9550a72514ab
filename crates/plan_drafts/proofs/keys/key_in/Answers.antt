use Rattle.std.proofs.Common.{◌≡◌, map, sym, ap, ◌∙◌}
use Rattle.bound_trees.specs.declared.expr.BoundOperation.{BoundOperation}
use Rattle.rel_algebra.specs.Emit.{key_of}
use Rattle.catalog_store.specs.Catalog.{Catalog}
use Rattle.catalog_store.specs.View.{tree_of, operated}
use Rattle.plan_expressions.specs.Scopes.{env_of}
use Rattle.plan_expressions.proofs.Laws.{if_ok}
use Rattle.plan_drafts.specs.Conjuncts.{held, inner_place, key_between}
use Rattle.plan_drafts.proofs.Waits.{key_of_equality}
use Rattle.plan_drafts.proofs.keys.key_in.Goals as goal

pub returns-then-operands-eq2 : goal.returns-then-operands-eq2
returns-then-operands-eq2 c =
    let e = env_of c.args.scope.now in
    let x = c.index-operands-0.result in
    let y = c.index-operands-1.result in
    if_ok c.key_between.result (λ o. (known : Catalog) →
    held o ≡ key_between (inner_place (tree_of known x)) (tree_of known x) (tree_of known y) e)
    (λ o. (known : Catalog) → held o ≡ key_of
    (operated c.args.operation (map (tree_of known) c.args.operands.now)) e)
    c.key_between.ensures
    (λ o h known. h known
    ∙ key_of_equality known c.in-Comparing.comparison c.args.operands.now x y e
    (sym c.is_equality.ensures ∙ c.if-is_equality.true) c.if-operands-eq2.true
    c.index-operands-0.is c.index-operands-1.is
    ∙ ap (λ (w : BoundOperation). key_of (operated w (map (tree_of known) c.args.operands.now)) e)
    (sym c.in-Comparing.is))

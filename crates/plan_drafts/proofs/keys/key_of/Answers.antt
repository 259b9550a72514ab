use Rattle.std.proofs.Common.{◌≡◌, List, map, sym, ap, ◌∙◌}
use Rattle.bound_trees.specs.declared.expr.BoundExpr.{BoundExpr}
use Rattle.rel_algebra.specs.Emit.{key_of}
use Rattle.catalog_store.specs.Catalog.{Catalog}
use Rattle.catalog_store.specs.View.{tree_of, operated}
use Rattle.catalog_store.proofs.Laws.{tree_of-Operation}
use Rattle.plan_expressions.specs.Scopes.{env_of}
use Rattle.plan_expressions.proofs.Laws.{if_ok}
use Rattle.plan_drafts.specs.Conjuncts.{held}
use Rattle.plan_drafts.proofs.keys.key_of.Goals as goal

pub returns-in-Operation : goal.returns-in-Operation
returns-in-Operation c =
    let e = env_of c.args.scope.now in
    let operation = c.in-Operation.operation in
    if_ok c.key_in.result (λ o. (known : Catalog) →
    held o ≡ key_of (operated operation (map (tree_of known) c.as_slice.result.now)) e)
    (λ o. (known : Catalog) → held o ≡ key_of (tree_of known c.args.conjunct.now) e)
    c.key_in.ensures
    (λ o h known.
    h known ∙ ap (λ (es : List BoundExpr). key_of (operated operation (map (tree_of known) es)) e)
    c.as_slice.ensures
    ∙ ap (λ x. key_of x e) (sym (tree_of-Operation known operation c.in-Operation.operands) ∙
    ap (tree_of known) (sym c.in-Operation.is)))

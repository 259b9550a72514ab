-- One layer of a statement.
use Rattle.std.proofs.Common.{◌≡◌, ◌∙◌, sym, ap}
use Rattle.bound_trees.specs.declared.expr.BoundExpr.{BoundExpr}
use Rattle.bound_trees.specs.declared.statement.BoundStmt.{BoundStmt}
use Rattle.bound_trees.specs.declared.statement.BoundStmt.TheFolds.{fold-roll-BoundStmt}
use Rattle.bound_trees.specs.declared.statement.BoundStmt.TheOpen.{BoundStmt-F}
use Rattle.bound_trees.specs.declared.statement.BoundStmt.TheVariants.{Return, rolls-Return}
use Rattle.catalog_store.specs.Catalog.{Catalog}
use Rattle.routine_form.specs.Calls.{calls_in}
use Rattle.routine_form.specs.Weight.{Weigh, WeighedBranch, itself, stmt_weight, block_weight}
use Rattle.routine_form.specs.Weight.{branch_weight, handler_weight, weight_under, weight}

-- RETURN with an expression
pub return_weight : (known : Catalog) (e : BoundExpr) →
    weight known (Return e) ≡ itself (calls_in known e) 0
return_weight known e =
    ap (λ (s : BoundStmt). weight_under known s 0) (sym (rolls-Return e))
    ∙ ap (λ (w : Weigh). w 0) (fold-roll-BoundStmt Weigh Weigh WeighedBranch Weigh
    (stmt_weight known) (block_weight known) (branch_weight known) handler_weight
    (BoundStmt-F.Return e))

-- The value of a function that may return NULL on NULL input uses what the value itself uses, and
-- has a plan where that has one.
use Rattle.std.proofs.Common.{◌≡◌, refl, ap, ◌∙◌, ℕ, Bool, true, false, length}
use Rattle.std.specs.Prelude.{if◌then◌else◌}
use Rattle.bound_trees.specs.declared.expr.BoundExpr.{BoundExpr}
use Rattle.rel_algebra.specs.Plain.{planned_expr}
use Rattle.catalog_store.specs.Catalog.{Catalog}
use Rattle.catalog_store.specs.Uses.{uses_in}
use Rattle.catalog_store.specs.View.{tree_of}
use Rattle.null_guards.specs.Guards.{guarded}
use Rattle.null_guards.proofs.Laws.{guards_are_seen, guards_are_planned, guards_use_nothing}
use Rattle.bind_rules.specs.Definitions.{Definition}
use Rattle.bind_definitions.specs.Characteristics.{is_null_on_null}
use Rattle.bind_definitions.specs.Making.{guarded_body}

pub guarded_uses : (s : Definition) (e : BoundExpr) → uses_in (guarded_body s e) ≡ uses_in e
guarded_uses s e = by (is_null_on_null s.characteristics)
  where
    by : (b : Bool) → uses_in (if b then guarded (length s.parameters) e else e) ≡ uses_in e
    by true = guards_use_nothing (length s.parameters) e
    by false = refl

pub guarded_planned : (known : Catalog) (s : Definition) (e : BoundExpr) →
    planned_expr (tree_of known (guarded_body s e)) ≡ planned_expr (tree_of known e)
guarded_planned known s e = by (is_null_on_null s.characteristics)
  where
    n : ℕ
    n = length s.parameters

    by : (b : Bool) → planned_expr (tree_of known (if b then guarded n e else e)) ≡ planned_expr
        (tree_of known e)
    by true = ap planned_expr (guards_are_seen known n e) ∙ guards_are_planned n (tree_of known e)
    by false = refl

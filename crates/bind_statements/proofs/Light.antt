-- A function that returns a variable is light, and has a plan.
use Rattle.std.proofs.Common.{◌≡◌, ◌∙◌, sym, ap, ℕ, Bool, true, [], Option, Some}
use Rattle.std.specs.Prelude.{nat_lt, if◌then◌else◌}
use Rattle.bound_trees.specs.declared.expr.BoundExpr.{BoundExpr}
use Rattle.bound_trees.specs.declared.expr.BoundExpr.TheFolds.{fold-roll-BoundExpr}
use Rattle.bound_trees.specs.declared.expr.BoundExpr.TheOpen.{BoundExpr-F}
use Rattle.bound_trees.specs.declared.expr.BoundExpr.TheVariants.{Variable, rolls-Variable}
use Rattle.bound_trees.specs.declared.statement.BoundStmt.TheVariants.{Return}
use Rattle.catalog_store.specs.Catalog.{Catalog}
use Rattle.catalog_store.specs.declared.entry.Object.{Object as NewObject}
use Rattle.routine_form.specs.declared.sum.TheConstants.{HEAVIEST}
use Rattle.routine_form.specs.Calls.{expr_calls, item_calls, query_calls, row_calls, source_calls}
use Rattle.routine_form.specs.Calls.{link_calls, grouping_calls, select_calls, calls_in}
use Rattle.routine_form.specs.Weight.{itself}
use Rattle.routine_form.proofs.Weights.{return_weight}
use Rattle.bind_rules.specs.Definitions.{Definition}
use Rattle.bind_definitions.specs.Making.{planned_function, interpreted, access_of_result}
use Rattle.bind_definitions.specs.Making.{guarded_body, is_light, returning}
use Rattle.bind_direct.specs.declared.bound.Bound.TheVariants as bound
use Rattle.bind_direct.specs.Direct.{is_planned}
use Rattle.bind_statements.specs.Examples.{planned_value}

variable-calls : (known : Catalog) (slot : ℕ) → calls_in known (Variable slot) ≡ 0
variable-calls known slot = ap (calls_in known) (sym (rolls-Variable slot)) ∙
    fold-roll-BoundExpr ℕ ℕ ℕ ℕ ℕ ℕ ℕ ℕ (expr_calls known) item_calls query_calls row_calls
    source_calls link_calls grouping_calls select_calls (BoundExpr-F.Variable slot)

-- RETURN of a variable counts itself alone
variable-light : (known : Catalog) (slot : ℕ) → is_light known (Variable slot) ≡ true
variable-light known slot = ap (λ n. nat_lt n HEAVIEST) (return_weight known (Variable slot)) ∙
    ap (λ n. nat_lt (itself n 0) HEAVIEST) (variable-calls known slot)

-- a function of a variable, with a plan or without one
abbrev either : Catalog → Definition → Bool → NewObject
either known d b = if b
    then planned_function d known (access_of_result d known []) [] (Variable 0)
    else interpreted d known (access_of_result d known []) [] (Return (Variable 0))

pub variable-planned : (known : Catalog) (d : Definition) →
    is_planned (returning d known [] (Variable 0)) ≡ true
variable-planned known d = ap (λ b. is_planned (either known d b)) (variable-light known 0)

-- what it has a plan of
pub variable-value : (known : Catalog) (d : Definition) →
    planned_value (bound.Create d.name.name (returning d known [] (Variable 0))) ≡
    Some (guarded_body d (Variable 0))
variable-value known d = ap (λ b. planned_value (bound.Create d.name.name (either known d b)))
    (variable-light known 0)

-- What the CASE over the parameters means, and what it leaves as it was. ISO/IEC 9075-2, 10.4
-- (routine invocation): a function that returns NULL on NULL input gives NULL where an argument is
-- NULL, and its body is not evaluated.
use Rattle.std.specs.Prelude.{◌≡◌, ◌≤◌, ℕ, true, false, List, length}
use Rattle.sql_values.specs.declared.value.Value.{Value}
use Rattle.sql_values.specs.declared.value.SqlType.{SqlType}
use Rattle.bound_trees.specs.declared.expr.BoundExpr.{BoundExpr}
use Rattle.rel_algebra.specs.Tree.{Expr, Function, Returned, Return}
use Rattle.rel_algebra.specs.World.{World}
use Rattle.rel_algebra.specs.Meaning.{call}
use Rattle.rel_algebra.specs.Plain.{planned_expr}
use Rattle.catalog_store.specs.Catalog.{Catalog}
use Rattle.catalog_store.specs.Uses.{uses_in}
use Rattle.catalog_store.specs.View.{tree_of}
use Rattle.typing_trees.specs.Around.{Around}
use Rattle.typing_trees.specs.Queries.{kind_of}
use Rattle.null_guards.specs.Guards.{guarded, guarded_tree}

-- A function of one RETURN that returns NULL on NULL input means what one of that CASE means which
-- is called on NULL too, whatever the values and the world are, where its expression has a plan. (A
-- function with a plan doesn't call itself; a self-call would judge NULL as the function does.)
abbrev pub NullCallsMean : Type 0
NullCallsMean = (parameters : List SqlType) (returns : SqlType) (e : Expr) (values : List Value)
    (w : World) → planned_expr e ≡ true → length values ≡ length parameters
    → call (Function false parameters returns true (Return e)) values w
    ≡ call (Returned parameters returns (guarded_tree (length parameters) e)) values w

-- the bound CASE stands for the plain one, over any catalog
abbrev pub GuardsAreSeen : Type 0
GuardsAreSeen = (known : Catalog) (n : ℕ) (e : BoundExpr) →
    tree_of known (guarded n e) ≡ guarded_tree n (tree_of known e)

-- the CASE has a plan where the expression has one
abbrev pub GuardsArePlanned : Type 0
GuardsArePlanned = (n : ℕ) (e : Expr) → planned_expr (guarded_tree n e) ≡ planned_expr e

-- the CASE uses what the expression uses
abbrev pub GuardsUseNothing : Type 0
GuardsUseNothing = (n : ℕ) (e : BoundExpr) → uses_in (guarded n e) ≡ uses_in e

-- the CASE is well typed where the expression is, and of its kind, wherever the parameters have
-- slots
abbrev pub GuardsKeepKinds : Type 0
GuardsKeepKinds = (n : ℕ) (e : BoundExpr) (a : Around) → n ≤ length a.slots →
    kind_of (guarded n e) a ≡ kind_of e a

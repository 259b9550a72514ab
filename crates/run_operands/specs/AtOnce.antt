-- Expressions and statements that end the same in each world, whatever calls are of. ISO/IEC 9075-2,
-- 6.25 (value expression).
use Rattle.std.specs.Prelude.{◌≡◌, List, [], map, Result, Ok}
use Rattle.sql_values.specs.declared.value.Value.{Value}
use Rattle.sql_values.specs.declared.value.SqlType.{SqlType}
use Rattle.sql_values.specs.Casts.{assigned}
use Rattle.row_types.specs.Rows.{Row}
use Rattle.bound_trees.specs.declared.expr.BoundExpr.{BoundExpr}
use Rattle.bound_trees.specs.declared.expr.BoundLink.{BoundLink}
use Rattle.bound_trees.specs.declared.expr.BoundOperation.{BoundOperation}
use Rattle.bound_trees.specs.declared.statement.BoundStmt.{BoundStmt}
use Rattle.bound_trees.specs.declared.statement.BoundTarget.{BoundTarget}
use Rattle.rel_algebra.specs.Tree.{Chain, Query, Set}
use Rattle.rel_algebra.specs.World.{Called, Frame, Gives, World}
use Rattle.rel_algebra.specs.Doing.{Next, ends}
use Rattle.rel_algebra.specs.Meaning.{Context, does, ev}
use Rattle.catalog_store.specs.View.{operated}
use Rattle.routine_views.specs.Views.{Known, expr_in, stmt_in, target}
use Rattle.run_choices.specs.Ending.{TellsAnywhere}
use Rattle.run_choices.specs.declared.stop.Stop.{Stop}
use Rattle.run_places.specs.Views.{links_in}

-- an expression has this value, and does nothing else
abbrev pub HasValue : BoundExpr → List Row → Frame → Value → Type 0
HasValue e rows f v = (k : Known) (self : Called) (w : World) →
    ev (expr_in k e) self rows f w ≡ Gives v w

-- a word over operands gives this value, and does nothing else
abbrev pub WordGives : BoundOperation → List BoundExpr → List Row → Frame → Value → Type 0
WordGives word es rows f v = (k : Known) (self : Called) (w : World) →
    ev (operated word (map (expr_in k) es)) self rows f w ≡ Gives v w

-- a chain of operators ends as an answer says, and leaves each world as it is
abbrev pub ChainEndsAs : BoundExpr → List BoundLink → List Row → Frame → Result Value Stop → Type 0
ChainEndsAs first links rows f answer = (k : Known) (self : Called) →
    TellsAnywhere answer (ev (Chain (expr_in k first) (links_in k links)) self rows f)

-- an expression ends as an answer says, and leaves each world as it is
abbrev pub EndsAs : BoundExpr → List Row → Frame → Result Value Stop → Type 0
EndsAs e rows f answer = (k : Known) (self : Called) →
    TellsAnywhere answer (ev (expr_in k e) self rows f)

-- where no row is in sight, an expression has a value that a type takes as this one. 9075-2, 9.2
-- (store assignment)
pub record IsTaken (to : SqlType) (e : BoundExpr) (f : Frame) (v : Value) : Type 0 where
  pub value : Value
  pub has : HasValue e [] f value
  pub taken : assigned to value ≡ Ok v

-- in each world and wherever it stands, SET ends with Next and leaves another frame. 9075-4, 14.5
-- (assignment statement)
abbrev pub IsSet : BoundTarget → BoundExpr → Frame → Frame → Type 0
IsSet t e f g = (k : Known) (c : Context) (w : World) →
    does (Set (target t) (expr_in k e)) c f w ≡ ends Next g w

-- the same of a statement, whatever the cursors in sight
abbrev pub IsDone : BoundStmt → Frame → Frame → Type 0
IsDone stmt f g = (k : Known) (cursors : List Query) (c : Context) (w : World) →
    does (stmt_in k stmt cursors) c f w ≡ ends Next g w

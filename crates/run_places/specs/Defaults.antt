-- What declarations and SET evaluate: units whose value is assigned. ISO/IEC 9075-4, 14.3 (SQL
-- variable declaration) and 14.5 (assignment statement).
use Rattle.std.specs.Prelude.{Option, Some, None, []}
use Rattle.sql_values.specs.declared.value.Value.{Value}
use Rattle.sql_values.specs.declared.value.Value.TheVariants.{Null}
use Rattle.sql_values.specs.declared.value.SqlType.{SqlType}
use Rattle.sql_values.specs.Casts.{assigned}
use Rattle.bound_trees.specs.declared.expr.BoundExpr.{BoundExpr}
use Rattle.rel_algebra.specs.World.{Called, Eval, Frame, ◌>>=◌, give, outcome, unit}
use Rattle.rel_algebra.specs.Meaning.{ev}
use Rattle.routine_views.specs.Views.{Known, expr_in}

-- the value of an expression, as a variable of this type takes it
abbrev pub assigned_in : Known → BoundExpr → SqlType → Called → Frame → Eval Value
assigned_in k e t self f = unit (do
  x ← ev (expr_in k e) self [] f
  outcome (assigned t x))

-- the value with which variables of this type start
abbrev pub default_in : Known → Option BoundExpr → SqlType → Called → Frame → Eval Value
default_in k None t self f = give Null
default_in k (Some e) t self f = assigned_in k e t self f

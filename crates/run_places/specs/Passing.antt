-- What CALL passes, and what it takes back. ISO/IEC 9075-2, 10.4 (routine invocation) and 15.1
-- (call statement).
use Rattle.std.specs.Prelude.{ℕ, List, [], Option, None, Some}
use Rattle.sql_values.specs.declared.value.Value.{Value}
use Rattle.sql_values.specs.declared.value.Value.TheVariants.{Null}
use Rattle.bound_trees.specs.declared.statement.BoundArgument.{BoundArgument}
use Rattle.bound_trees.specs.declared.statement.BoundArgument.TheVariants as argument
use Rattle.catalog_store.specs.declared.entry.ParameterMode.{ParameterMode}
use Rattle.rel_algebra.specs.Tree.{CallItself, CallProcedure, InMode, Mode, Stmt, Target, modes_of}
use Rattle.rel_algebra.specs.World.{Called, Calling, Eval, Frame, ◌>>=◌, give, unit, variable_of}
use Rattle.rel_algebra.specs.Doing.{take_values}
use Rattle.rel_algebra.specs.Meaning.{Context, argue, ev, perform}
use Rattle.routine_views.specs.Routines.{mode_of}
use Rattle.routine_views.specs.Views.{Known, expr_in}
use Rattle.run_places.specs.Cost.{cost}

-- the mode of a parameter; one without a mode is IN
abbrev pub mode_in : Option ParameterMode → Mode
mode_in None = InMode
mode_in (Some m) = mode_of m

-- the value of an argument before its parameter takes it; an OUT value that is given back to the
-- script is NULL
abbrev pub argument_value : Known → Called → Frame → BoundArgument → Eval Value
argument_value k self f (argument.Value e) = ev (expr_in k e) self [] f
argument_value k self f (argument.Variable t) = give (variable_of t.slot f)
argument_value k self f argument.Given = give Null

-- what it may cost
abbrev pub argument_cost : Known → BoundArgument → ℕ
argument_cost k (argument.Value e) = cost (expr_in k e)
argument_cost k (argument.Variable t) = 0
argument_cost k argument.Given = 0

-- arguments, which are a unit, and then the procedure
abbrev pub called_with : (Frame → Eval (List Value)) → Calling → Frame → Eval (List Value)
called_with arguments procedure f = do
  values ← unit (arguments f)
  procedure values

-- what comes back of a CALL
abbrev pub comes_back : Stmt → Context → Frame → Eval (List Value)
comes_back (CallProcedure name routine args) c =
    called_with (argue args (modes_of routine) c.self) (perform routine)
comes_back (CallItself parameters args) c =
    called_with (argue args parameters c.self) c.again
comes_back _ c = λ f. give []

-- and is converted for the variables that take it
abbrev pub comes_into : Stmt → Context → List Target → Frame → Eval (List Value)
comes_into s c targets f = do
  outs ← comes_back s c f
  take_values targets outs

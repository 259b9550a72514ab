-- Worked rows, which hold by computation, whatever the parts are.
use Rattle.std.specs.Prelude.{ℕ, ◌≡◌, true, false, List, [], ◌∷◌, None, codes}
use Rattle.sql_values.specs.declared.value.SqlType.TheVariants.{Integer, Boolean}
use Rattle.row_types.specs.declared.RowType.{RowType}
use Rattle.bound_trees.specs.declared.condition.BoundHandlerType.TheVariants as follows
use Rattle.bound_trees.specs.declared.condition.BoundConditionValue.TheVariants as waited
use Rattle.bound_trees.specs.declared.expr.BoundExpr.{BoundExpr}
use Rattle.bound_trees.specs.declared.query.BoundQuery.{BoundQuery}
use Rattle.bound_trees.specs.declared.statement.BoundArgument.TheVariants as argument
use Rattle.bound_trees.specs.declared.statement.BoundStmt.{BoundStmt}
use Rattle.bound_trees.specs.declared.statement.BoundStmt.TheOpen.{BoundStmt-F}
use Rattle.catalog_store.specs.Catalog.{Entry, Function, FunctionObject, InterpretedObject, missing}
use Rattle.catalog_store.specs.Catalog.{ProcedureObject, TableObject}
use Rattle.catalog_store.specs.declared.entry.DataAccess.TheVariants.{ContainsSql}
use Rattle.catalog_store.specs.declared.entry.ParameterMode.TheVariants as mode
use Rattle.rel_algebra.specs.Tree as tree
use Rattle.rel_algebra.specs.Tree.{Exprs, Arguments, Parameter, Query, Routine, Stmt, Target}
use Rattle.routine_views.specs.Views.{Known, View, called, performed, arguments, expr_in, query_in}
use Rattle.routine_views.specs.Views.{stmt_in, stmt_view, block_view, handler_view}
use Rattle.routine_views.specs.Routines.{inside, routines_of, with_entry}

-- an IN parameter of INTEGER
abbrev number_in : Parameter
number_in = record { mode = tree.InMode; data_type = Integer }

-- in the body of F (x INTEGER), where all routines are of this tree
abbrev in_f : Routine → Known
in_f r = inside (λ name. r) (codes "F") (number_in ∷ [])

-- in no routine
abbrev in_none : Routine → Known
in_none r = record { routines = λ name. r; own = None }

-- calls of the routine in which they stand, and of others
pub record CallsAreSeen : Type 0 where
  pub itself : (r : Routine) (args : Exprs) →
      called (in_f r) (codes "F") args ≡ tree.CallSelf (Integer ∷ []) args
  pub another : (r : Routine) (args : Exprs) →
      called (in_f r) (codes "G") args ≡ tree.Call (codes "G") r args
  pub of_a_script : (r : Routine) (args : Exprs) →
      called (in_none r) (codes "F") args ≡ tree.Call (codes "F") r args
  pub performs_itself : (r : Routine) (args : Arguments) →
      performed (in_f r) (codes "F") args ≡ tree.CallItself (number_in ∷ []) args
  pub performs_another : (r : Routine) (args : Arguments) →
      performed (in_f r) (codes "P") args ≡ tree.CallProcedure (codes "P") r args
  -- P (x, v, ?), with v in slot 2
  pub each_argument : (k : Known) (x : BoundExpr) →
      arguments k (argument.Value x
      ∷ argument.Variable (record { slot = 2; data_type = Boolean }) ∷ argument.Given ∷ [])
      ≡ tree.MoreValues (expr_in k x)
      (tree.MoreTargets (record { slot = 2; data_type = Boolean })
      (tree.MoreGiven tree.NoArgument))

-- OPEN of the cursor in a slot
abbrev opens : Known → ℕ → View
opens k slot = stmt_view k (BoundStmt-F.Open slot)

-- EXIT HANDLER FOR NOT FOUND, with this action
abbrev at_the_end : Known → View → Stmt
at_the_end k action = block_view k (record {
  atomic = true;
  variables = record { first = 1; count = 2; data_type = Integer; default = None } ∷ [];
  first_cursor = 0;
  cursors = [];
  handlers = handler_view (record {
    handler_type = follows.Exit;
    values = waited.NotFound ∷ [];
    action = action;
  }) ∷ [];
  statements = [];
}) []

-- a compound statement with a cursor, which opens this and that of the statement around it
abbrev cursors_in : Known → BoundQuery → Query → Stmt
cursors_in k q outer = block_view k (record {
  atomic = false;
  variables = [];
  first_cursor = 1;
  cursors = q ∷ [];
  handlers = [];
  statements = opens k 1 ∷ opens k 0 ∷ opens k 2 ∷ [];
}) (outer ∷ [])

-- compound statements, their variables, cursors and handlers
pub record CompoundsAreSeen : Type 0 where
  -- OPEN holds the query of its cursor; where there is none, a query without rows
  pub cursors : (k : Known) (q : BoundQuery) (outer : Query) → cursors_in k q outer ≡
      tree.Compound false tree.NoVariable 1 tree.NoHandler
      (tree.MoreStmts (tree.Open 1 (query_in k q)) (tree.MoreStmts (tree.Open 0 outer)
      (tree.MoreStmts (tree.Open 2 (tree.Values tree.NoRow)) tree.NoStmt)))
  -- two variables of one declaration, and a handler with its action
  pub handler : (k : Known) → at_the_end k (stmt_view k (BoundStmt-F.Close 0)) ≡
      tree.Compound true (tree.MoreVariables 2 Integer tree.Without tree.NoVariable) 0
      (tree.MoreHandlers tree.Exit (tree.NotFound ∷ []) (tree.Close 0) tree.NoHandler) tree.NoStmt
  -- the slots of FOR's columns are those after the ones in sight
  pub for : (k : Known) (q : BoundQuery) (slot : ℕ) →
      stmt_view k (BoundStmt-F.For q slot (stmt_view k (BoundStmt-F.Leave 0) ∷ [])) []
      ≡ tree.For (query_in k q) (tree.MoreStmts (tree.Leave 0) tree.NoStmt)

-- a function without a plan, of one INTEGER
abbrev function : List ℕ → BoundStmt → Entry
function name body = record {
  name = name;
  object = InterpretedObject (record {
    parameters = Integer ∷ [];
    returns = Boolean;
    access = ContainsSql;
    height = 1;
    weight = 1;
    uses = [];
    null_call = true;
    self_calling = false;
    body = body;
  });
}

-- P (IN INTEGER, OUT BOOLEAN), which calls itself
abbrev procedure : BoundStmt → Entry
procedure body = record {
  name = codes "P";
  object = ProcedureObject (record {
    modes = mode.In ∷ mode.Out ∷ [];
    parameters = Integer ∷ Boolean ∷ [];
    access = ContainsSql;
    height = 1;
    weight = 1;
    uses = [];
    self_calling = true;
    body = body;
  });
}

-- no routine
abbrev nothing : List ℕ → Routine
nothing name = missing

-- the parameters of P
abbrev of_p : List Parameter
of_p = number_in ∷ record { mode = tree.OutMode; data_type = Boolean } ∷ []

-- what stands around the body of G
abbrev in_g : (List ℕ → Routine) → Known
in_g routines = inside routines (codes "G") (number_in ∷ [])

-- each routine is seen by those made before it
pub record RoutinesAreSeen : Type 0 where
  pub first : (b c : BoundStmt) →
      routines_of (function (codes "F") b ∷ function (codes "G") c ∷ []) (codes "F") ≡
      tree.Function false (Integer ∷ []) Boolean true
      (stmt_in (inside nothing (codes "F") (number_in ∷ [])) b [])
  pub second : (b c : BoundStmt) →
      routines_of (function (codes "F") b ∷ function (codes "G") c ∷ []) (codes "G") ≡
      tree.Function false (Integer ∷ []) Boolean true
      (stmt_in (in_g (with_entry nothing (function (codes "F") b))) c [])
  pub of_procedure : (b : BoundStmt) → routines_of (procedure b ∷ []) (codes "P") ≡
      tree.Procedure true of_p (stmt_in (inside nothing (codes "P") of_p) b [])
  pub planned : (f : Function) → routines_of
      (record { name = codes "F"; object = FunctionObject f } ∷ []) (codes "F") ≡ f.routine
  pub table : (t : RowType) → routines_of
      (record { name = codes "T"; object = TableObject t } ∷ []) (codes "T") ≡ missing
  pub unknown : (b : BoundStmt) → routines_of (procedure b ∷ []) (codes "Q") ≡ missing

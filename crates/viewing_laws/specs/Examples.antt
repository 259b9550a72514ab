-- Worked rows: a table, a function with a plan, one without that calls it, and a procedure that
-- calls both, and itself.
use Rattle.std.specs.Prelude.{◌≡◌, ℕ, true, false, List, [], ◌∷◌, ◌++◌, codes}
use Rattle.std.specs.List.{AllByRecursion}
use Rattle.sql_values.specs.declared.value.SqlType.TheVariants as type
use Rattle.bound_trees.specs.declared.expr.BoundExpr.{BoundExpr}
use Rattle.bound_trees.specs.declared.expr.BoundExpr.TheVariants as expr
use Rattle.bound_trees.specs.declared.query.BoundQuery.{BoundQuery}
use Rattle.bound_trees.specs.declared.query.BoundQuery.TheVariants as query
use Rattle.bound_trees.specs.declared.query.BoundRow.TheVariants as row
use Rattle.bound_trees.specs.declared.statement.BoundArgument.TheVariants as argument
use Rattle.bound_trees.specs.declared.statement.BoundStmt.{BoundStmt}
use Rattle.bound_trees.specs.declared.statement.BoundStmt.TheVariants as bound
use Rattle.rel_algebra.specs.Plain.{planned, planned_expr, planned_routine}
use Rattle.rel_algebra.specs.Tree as tree
use Rattle.rel_algebra.specs.Tree.{Expr, Exprs, Parameter, Routine}
use Rattle.catalog_store.specs.declared.entry.DataAccess.TheVariants.{ContainsSql}
use Rattle.catalog_store.specs.declared.entry.ParameterMode.TheVariants as mode
use Rattle.catalog_store.specs.Catalog.{TableObject, FunctionObject, InterpretedObject}
use Rattle.catalog_store.specs.Catalog.{ProcedureObject, Entry, Catalog, missing, routine_named}
use Rattle.catalog_store.specs.Uses.{calls, reads}
use Rattle.catalog_store.specs.Users.{without}
use Rattle.catalog_store.specs.View.{query_of, tree_of}
use Rattle.routine_views.specs.Views.{expr_in, query_in}
use Rattle.routine_views.specs.Routines.{inside, routines_of}
use Rattle.viewing_laws.specs.Calls.{names_called, query_calls, statement_calls}
use Rattle.viewing_laws.specs.Deciding.{itself, another, callee}
use Rattle.viewing_laws.specs.Planned.{outside}
use Rattle.viewing_laws.specs.Standing.{CallsStandBefore, HeadLists, callers_of}

-- ---- bound trees

-- a call of a function, with one argument
abbrev pub call : List ℕ → BoundExpr → BoundExpr
call name e = expr.Call name (e ∷ [])

-- F (V)
abbrev pub f_of_v : BoundExpr
f_of_v = call (codes "F") (expr.Variable 0)

-- G (V)
abbrev pub g_of_v : BoundExpr
g_of_v = call (codes "G") (expr.Variable 0)

-- VALUES (F (V))
abbrev pub values_f : BoundQuery
values_f = query.Values (row.Row (f_of_v ∷ []) ∷ [])

-- RETURN F (V)
abbrev pub body_g : BoundStmt
body_g = bound.Return f_of_v

-- CALL P (F (G (V)))
abbrev pub body_p : BoundStmt
body_p = bound.Call (record {
  procedure = codes "P";
  arguments = argument.Value (call (codes "F") g_of_v) ∷ [];
})

-- ---- plain trees

-- one expression
abbrev pub one : Expr → Exprs
one e = tree.MoreExprs e tree.NoExpr

-- F (V INTEGER) RETURNS INTEGER: RETURN V
abbrev pub tree_f : Routine
tree_f = tree.Returned (type.Integer ∷ []) type.Integer (tree.Variable 0)

-- a call of F, of this tree
abbrev pub call_f : Routine → Expr → Expr
call_f r e = tree.Call (codes "F") r (one e)

-- G (V INTEGER) RETURNS INTEGER, which returns F (V), where F is of this tree
abbrev pub tree_g : Routine → Routine
tree_g r = tree.Function false (type.Integer ∷ []) type.Integer true
    (tree.Return (call_f r (tree.Variable 0)))

-- IN V INTEGER
abbrev pub of_p : List Parameter
of_p = record { mode = tree.InMode; data_type = type.Integer } ∷ []

-- P (IN V INTEGER), which calls itself, F of this tree and G of that one
abbrev pub tree_p : Routine → Routine → Routine
tree_p f g = tree.Procedure true of_p
    (tree.CallItself of_p
    (tree.MoreValues (call_f f (tree.Call (codes "G") g (one (tree.Variable 0))))
    tree.NoArgument))

-- ---- the catalog

-- a table
abbrev pub table : List ℕ → Entry
table name = record { name = name; object = TableObject (record { columns = []; key = [] }) }

-- F, with its plan
abbrev pub function_f : Entry
function_f = record {
  name = codes "F";
  object = FunctionObject (record {
    parameters = type.Integer ∷ [];
    returns = type.Integer;
    access = ContainsSql;
    height = 1;
    weight = 1;
    uses = [];
    routine = tree_f;
  });
}

-- G, without a plan
abbrev pub function_g : Entry
function_g = record {
  name = codes "G";
  object = InterpretedObject (record {
    parameters = type.Integer ∷ [];
    returns = type.Integer;
    access = ContainsSql;
    height = 2;
    weight = 1;
    uses = codes "F" ∷ [];
    null_call = true;
    self_calling = false;
    body = body_g;
  });
}

-- P
abbrev pub procedure_p : Entry
procedure_p = record {
  name = codes "P";
  object = ProcedureObject (record {
    modes = mode.In ∷ [];
    parameters = type.Integer ∷ [];
    access = ContainsSql;
    height = 3;
    weight = 1;
    uses = codes "G" ∷ codes "F" ∷ [];
    self_calling = true;
    body = body_p;
  });
}

-- T, F, G and P, in the order of their making
abbrev pub known : Catalog
known = table (codes "T") ∷ function_f ∷ function_g ∷ procedure_p ∷ []

-- ---- rows

-- what bodies call, in the order of the text; a table that is read is not called
pub record BodiesCall : Type 0 where
  pub g : statement_calls body_g ≡ codes "F" ∷ []
  pub p : statement_calls body_p ≡ codes "P" ∷ codes "F" ∷ codes "G" ∷ []
  pub values : query_calls values_f ≡ codes "F" ∷ []
  pub tables : names_called (reads (codes "T") ∷ calls (codes "F") 1 ∷ []) ≡ codes "F" ∷ []
  -- each routine calls those before it, and P itself; and their heads list them
  pub before : CallsStandBefore known
  pub listed : AllByRecursion HeadLists known
  -- G, where F is made after it
  pub after : ¬ CallsStandBefore (function_g ∷ function_f ∷ [])
  -- in the body of P a call of P is one of P itself, and one of F is not
  pub own : (m : List ℕ → Routine) → callee (inside m (codes "P") of_p) (codes "P") ≡ itself of_p
  pub other : (m : List ℕ → Routine) →
      callee (inside m (codes "P") of_p) (codes "F") ≡ another (m (codes "F"))

-- what names stand for, as entries come and go
pub record NamesWorked : Type 0 where
  pub f : routines_of known (codes "F") ≡ tree_f
  pub g : routines_of known (codes "G") ≡ tree_g tree_f
  pub p : routines_of known (codes "P") ≡ tree_p tree_f (tree_g tree_f)
  pub t : routines_of known (codes "T") ≡ missing
  pub unknown : routines_of known (codes "Q") ≡ missing
  -- G, where F is made after it
  pub g_before : routines_of (function_g ∷ function_f ∷ []) (codes "G") ≡ tree_g missing
  -- with a table more, and without T, which nothing calls
  pub more : routines_of (known ++ table (codes "U") ∷ []) (codes "G") ≡ tree_g tree_f
  pub none_call : callers_of (codes "T") known ≡ 0
  pub without_table : routines_of (without (codes "T") known) (codes "P") ≡
      tree_p tree_f (tree_g tree_f)
  -- G and P call F, and are others without it
  pub two_call : callers_of (codes "F") known ≡ 2
  pub without_called : routines_of (without (codes "F") known) (codes "G") ≡ tree_g missing

-- What has a plan is the same tree by the views, and what has none may be another.
pub record PlansWorked : Type 0 where
  pub planned_values : planned (query_of known values_f) ≡ true
  pub values : query_in (outside (routines_of known)) values_f ≡
      tree.Values (tree.MoreRows (one (call_f tree_f (tree.Variable 0))) tree.NoRow)
  pub plain_values : query_of known values_f ≡
      tree.Values (tree.MoreRows (one (call_f tree_f (tree.Variable 0))) tree.NoRow)
  -- G has no plan
  pub unplanned : planned_expr (tree_of known g_of_v) ≡ false
  pub seen : expr_in (outside (routines_of known)) g_of_v ≡
      tree.Call (codes "G") (tree_g tree_f) (one (tree.Variable 0))
  pub plain : tree_of known g_of_v ≡ tree.Call (codes "G") missing (one (tree.Variable 0))
  -- in the body of F a call of F is one of F itself
  pub in_f : (m : List ℕ → Routine) → expr_in (inside m (codes "F") of_p) f_of_v ≡
      tree.CallSelf (type.Integer ∷ []) (one (tree.Variable 0))
  -- in the body of G, which has none, it is what it is outside
  pub no_plan : planned_routine (routine_named (codes "G") known) ≡ false
  pub in_g : expr_in (inside (routines_of known) (codes "G") of_p) f_of_v ≡
      call_f tree_f (tree.Variable 0)

-- What the plan of a function in form is to be.
use Rattle.std.specs.Prelude.{◌≡◌, ℕ, ◌++◌, true, false, List, [], ◌∷◌, length}
use Rattle.sql_values.specs.declared.value.SqlType.{SqlType}
use Rattle.sql_values.specs.declared.value.Value.{Value}
use Rattle.row_types.specs.declared.cell.Cell.{Cell}
use Rattle.rel_algebra.specs.Emit.{called_region, scalar_count}
use Rattle.rel_algebra.specs.Endings.{cell_end}
use Rattle.rel_algebra.specs.Joins.{query_width}
use Rattle.rel_algebra.specs.Plain.{Inputs, columns_in, planned, planned_expr}
use Rattle.rel_algebra.specs.Plan.{Scalars, added, cell_of, cells_of, den, shown, sight}
use Rattle.rel_algebra.specs.Removal.{all_removable, is_region}
use Rattle.rel_algebra.specs.Simple.{Nested, Simple, SimpleQuery}
use Rattle.rel_algebra.specs.Theorem.{Fits, one_cell}
use Rattle.rel_algebra.specs.Tree.{Expr, Query}
use Rattle.rel_algebra.specs.WellFormed.{Shaped, ShapedQuery, scalars_fit, tree_fits}
pub use Rattle.rel_algebra.specs.Bodies.{HasTarget}
pub use Rattle.regions.specs.Inline.{outer_columns, region}
pub use Rattle.regions.specs.Meaning.{called_with}
use Rattle.regions.specs.Inline.{Widths, inline, inline_with}
use Rattle.regions.specs.Meaning.{call}
use Rattle.regions.specs.Tree.{Target, Perhaps, Without, With, Stmt, Compound, If, SearchedCase}
use Rattle.regions.specs.Tree.{SimpleCase, Set, SelectInto, Signal, Resignal, GetStatementItems}
use Rattle.regions.specs.Tree.{GetConditionItems, Leave, Return, Stmts, NoStmt, MoreStmts, Branches}
use Rattle.regions.specs.Tree.{NoBranch, MoreBranches, Variables, NoVariable, MoreVariables}
use Rattle.regions.specs.Tree.{Handlers, NoHandler, MoreHandlers, Routine, Body}

-- what holds of an expression that may be left out
abbrev pub PerhapsEach : Perhaps → (Expr → Type 0) → Type 0
PerhapsEach Without P = Unit {0}
PerhapsEach (With e) P = P e

-- of each default of declarations
abbrev pub VariablesEach : Variables → (Expr → Type 0) → Type 0
VariablesEach NoVariable P = Unit {0}
VariablesEach (MoreVariables k t default others) P = PerhapsEach default P × VariablesEach others P

-- what holds of each expression, and of each query with the targets of its SELECT INTO
abbrev mutual
  -- in a statement
  pub Each : Stmt → (Expr → Type 0) → (Query → List Target → Type 0) → Type 0
  Each (Compound atomic variables handlers body) P Q = VariablesEach variables P
      × HandlersEach handlers P Q × AllEach body P Q
  Each (If branches otherwise) P Q = BranchesEach branches P Q × AllEach otherwise P Q
  Each (SearchedCase branches otherwise) P Q = BranchesEach branches P Q × AllEach otherwise P Q
  Each (SimpleCase e branches otherwise) P Q = P e × BranchesEach branches P Q
      × AllEach otherwise P Q
  Each (Set t e) P Q = P e
  Each (SelectInto query targets) P Q = Q query targets
  Each (Signal state text) P Q = PerhapsEach text P
  Each (Resignal state text) P Q = PerhapsEach text P
  Each (GetStatementItems reads) P Q = Unit {0}
  Each (GetConditionItems number reads) P Q = P number
  Each (Leave outwards) P Q = Unit {0}
  Each (Return e) P Q = P e

  -- in statements
  pub AllEach : Stmts → (Expr → Type 0) → (Query → List Target → Type 0) → Type 0
  AllEach NoStmt P Q = Unit {0}
  AllEach (MoreStmts s ss) P Q = Each s P Q × AllEach ss P Q

  -- in tests with their statements
  pub BranchesEach : Branches → (Expr → Type 0) → (Query → List Target → Type 0) → Type 0
  BranchesEach NoBranch P Q = Unit {0}
  BranchesEach (MoreBranches test body others) P Q = P test × AllEach body P Q
      × BranchesEach others P Q

  -- in handlers
  pub HandlersEach : Handlers → (Expr → Type 0) → (Query → List Target → Type 0) → Type 0
  HandlersEach NoHandler P Q = Unit {0}
  HandlersEach (MoreHandlers kind takes action others) P Q = Each action P Q
      × HandlersEach others P Q

-- in the body of a function
abbrev pub RoutineEach : Routine → (Expr → Type 0) → (Query → List Target → Type 0) → Type 0
RoutineEach (Body types returns body) P Q = Each body P Q

-- an expression has a plan
abbrev pub ExprPlanned : Expr → Type 0
ExprPlanned e = planned_expr e ≡ true

-- a query has a plan, and SELECT INTO has one target for each column, and at least one
abbrev pub QueryPlanned : Widths → Query → List Target → Type 0
QueryPlanned S query targets = (planned query ≡ true) × (query_width query S ≡ length targets)
    × HasTarget targets

-- where an expression is written, it has a plan
abbrev pub Planned : Perhaps → Type 0
Planned text = PerhapsEach text ExprPlanned

-- declarations
abbrev pub VariablesFormed : Variables → Type 0
VariablesFormed variables = VariablesEach variables ExprPlanned

-- a statement in form: its expressions and queries have plans
abbrev pub Formed : Stmt → Widths → Type 0
Formed s S = Each s ExprPlanned (QueryPlanned S)

-- statements
abbrev pub AllFormed : Stmts → Widths → Type 0
AllFormed ss S = AllEach ss ExprPlanned (QueryPlanned S)

-- tests with their statements
abbrev pub BranchesFormed : Branches → Widths → Type 0
BranchesFormed branches S = BranchesEach branches ExprPlanned (QueryPlanned S)

-- handlers
abbrev pub HandlersFormed : Handlers → Widths → Type 0
HandlersFormed handlers S = HandlersEach handlers ExprPlanned (QueryPlanned S)

-- a function in form
abbrev pub RoutineFormed : Routine → Widths → Type 0
RoutineFormed r S = RoutineEach r ExprPlanned (QueryPlanned S)

-- the types of a function's parameters
abbrev pub parameters_of : Routine → List SqlType
parameters_of (Body types returns body) = types

-- For all tables, rows outside and values of the parameters, which the given scalars read: the plan
-- has one row, without poison, of one cell, which is the value or the area of the call.
abbrev pub InlinesWith : Type 0
InlinesWith = (r : Routine) (w : Inputs) (o : List (List Cell)) (params : Scalars)
    (values : List Value) → Fits w → RoutineFormed r (columns_in w) →
    length values ≡ length (parameters_of r) → cells_of params (sight w o []) ≡ shown values →
    den (inline_with r (columns_in w) params) w o ≡ one_cell (cell_end (call r values w))

-- the same of the arguments of the whole plan
abbrev pub Inlines : Type 0
Inlines = (r : Routine) (w : Inputs) (o : List (List Cell)) → Fits w → RoutineFormed r
    (columns_in w) → length w.args ≡ length (parameters_of r) →
    den (inline r (columns_in w)) w o ≡ one_cell (cell_end (call r w.args w))

-- ---- the shape

-- each query nested in an expression is simple: names of the body's parameters and variables stand
-- in a run of equalities
abbrev pub ExprSimple : Widths → Expr → Type 0
ExprSimple S e = Simple e S false

-- a query is, and each that is nested in it
abbrev pub QuerySimple : Widths → Query → List Target → Type 0
QuerySimple S query targets = SimpleQuery query S false × Nested query S false

-- of an expression that may be left out
abbrev pub PerhapsSimple : Perhaps → Widths → Type 0
PerhapsSimple text S = PerhapsEach text (ExprSimple S)

-- of declarations
abbrev pub VariablesSimple : Variables → Widths → Type 0
VariablesSimple variables S = VariablesEach variables (ExprSimple S)

-- of a statement
abbrev pub StmtSimple : Stmt → Widths → Type 0
StmtSimple s S = Each s (ExprSimple S) (QuerySimple S)

-- of statements
abbrev pub AllSimple : Stmts → Widths → Type 0
AllSimple ss S = AllEach ss (ExprSimple S) (QuerySimple S)

-- of tests with their statements
abbrev pub BranchesSimple : Branches → Widths → Type 0
BranchesSimple branches S = BranchesEach branches (ExprSimple S) (QuerySimple S)

-- of handlers
abbrev pub HandlersSimple : Handlers → Widths → Type 0
HandlersSimple handlers S = HandlersEach handlers (ExprSimple S) (QuerySimple S)

-- of a function
abbrev pub RoutineSimple : Routine → Widths → Type 0
RoutineSimple r S = RoutineEach r (ExprSimple S) (QuerySimple S)

-- The plan is a chain over Unit; and where each query in the body is simple, each Apply in it can
-- be removed.
pub record Regions : Type 0 where
  -- a chain over Unit
  pub chain : (r : Routine) (S : Widths) (params : Scalars) → is_region (inline_with r S params)
      ≡ true
  -- each Apply can be removed
  pub removable : (r : Routine) (S : Widths) (params : Scalars) → RoutineSimple r S → all_removable
      (inline_with r S params) ≡ true

-- what an expression keeps that is well typed
abbrev pub ExprShaped : Widths → Expr → Type 0
ExprShaped S e = Shaped e S

-- what a query keeps, whose columns are as many as the targets
abbrev pub QueryShaped : Widths → Query → List Target → Type 0
QueryShaped S query targets = ShapedQuery query S × (query_width query S ≡ length targets)

-- of an expression that may be left out
abbrev pub PerhapsShaped : Perhaps → Widths → Type 0
PerhapsShaped text S = PerhapsEach text (ExprShaped S)

-- of declarations
abbrev pub VariablesShaped : Variables → Widths → Type 0
VariablesShaped variables S = VariablesEach variables (ExprShaped S)

-- of a statement
abbrev pub StmtShaped : Stmt → Widths → Type 0
StmtShaped s S = Each s (ExprShaped S) (QueryShaped S)

-- of statements
abbrev pub AllShaped : Stmts → Widths → Type 0
AllShaped ss S = AllEach ss (ExprShaped S) (QueryShaped S)

-- of tests with their statements
abbrev pub BranchesShaped : Branches → Widths → Type 0
BranchesShaped branches S = BranchesEach branches (ExprShaped S) (QueryShaped S)

-- of handlers
abbrev pub HandlersShaped : Handlers → Widths → Type 0
HandlersShaped handlers S = HandlersEach handlers (ExprShaped S) (QueryShaped S)

-- of a function
abbrev pub RoutineShaped : Routine → Widths → Type 0
RoutineShaped r S = RoutineEach r (ExprShaped S) (QueryShaped S)

-- The plan is well formed under rows outside of any widths and for any number of arguments, where
-- the scalars that read the parameters are: so also for none, where these read columns of a row
-- outside.
abbrev pub WellFormedInlines : Type 0
WellFormedInlines = (r : Routine) (S : Widths) (params : Scalars) (ws : List ℕ) (ps : ℕ) →
    RoutineShaped r S → scalars_fit params (0 ∷ ws) ps ≡ true →
    scalar_count params ≡ length (parameters_of r) → tree_fits (inline_with r S params) S ws ps
    ≡ true

-- ---- calls

-- A call, whose arguments stand in the columns from m on: the column that the region adds is the
-- value of the call, or the area of the first argument that has one, or that of the call.
abbrev pub CallsByRegion : Type 0
CallsByRegion = (r : Routine) (w : Inputs) (o : List (List Cell)) (z cs : List Cell) (m k : ℕ) →
    Fits w → RoutineFormed r (columns_in w) → k ≡ length (parameters_of r) →
    length z ≡ m → length cs ≡ k →
    let a = called_region (region r (columns_in w)) m k in
    cell_of a.scalar (sight w o (added a.nodes w o (z ++ cs))) ≡ cell_end (called_with r w cs)

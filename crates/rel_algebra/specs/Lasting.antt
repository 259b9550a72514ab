-- A plan depends on the tables that its query names, those in the bodies of called functions too,
-- and on no others: so a plan that is kept stays the plan of its query while these have their
-- columns.
use Rattle.std.specs.Prelude.{◌≡◌, ℕ, List, false}
use Rattle.sql_values.specs.declared.value.SqlType.{SqlType}
use Rattle.rel_algebra.specs.Bodies as body
use Rattle.rel_algebra.specs.BodyChain.{inline_with}
use Rattle.rel_algebra.specs.Emit.{Env, emit_body, plan, routine_plan, stmt_body}
use Rattle.rel_algebra.specs.Plan.{Scalars}
use Rattle.rel_algebra.specs.Tree.{And, Call, CallSelf, Case, CaseOf, Chain, Coalesce, Column}
use Rattle.rel_algebra.specs.Tree.{Cross, Derived, Exists, Expr, Exprs, From, Returned, Grouped, In}
use Rattle.rel_algebra.specs.Tree.{Inner, LeftOuter, Links, Literal, MoreExprs, MoreLinks, MoreRows}
use Rattle.rel_algebra.specs.Tree.{NoExpr, NoLink, NoRow, Operate, Or, Ordered, Query, Routine}
use Rattle.rel_algebra.specs.Tree.{Rows, Select, Single, Table, Values, Variable}
use Rattle.rel_algebra.specs.Tree.{Function, Perhaps, Without, With, Variables, NoVariable}
use Rattle.rel_algebra.specs.Tree.{MoreVariables, Stmt, Compound, If, SearchedCase, SimpleCase, Set}
use Rattle.rel_algebra.specs.Tree.{SelectInto, Signal, Resignal}
use Rattle.rel_algebra.specs.Tree.{GetConditionItems, Return, Stmts, NoStmt, MoreStmts}
use Rattle.rel_algebra.specs.Tree.{Branches, NoBranch, MoreBranches, Handlers, NoHandler}
use Rattle.rel_algebra.specs.Tree.{MoreHandlers}

-- The plan of a block is the same by S and by R, whatever its parameters are read from. What it
-- evaluates in no case is not in its plan: the text of a RESIGNAL outside of an action, say.
abbrev pub BlockLasts : List SqlType → SqlType → Stmt → (List ℕ → ℕ) → (List ℕ → ℕ) → Type 0
BlockLasts types returns statement S R = (params : Scalars) →
    inline_with (body.Body types returns (stmt_body statement)) S params
    ≡ inline_with (body.Body types returns (stmt_body statement)) R params

-- the tables that a tree names have as many columns by S as by R
abbrev mutual
  -- the tables that an expression names have as many columns by S as by R
  pub Lasts : Expr → (List ℕ → ℕ) → (List ℕ → ℕ) → Type 0
  Lasts (Literal v) S R = Unit {0}
  Lasts (Column level i) S R = Unit {0}
  Lasts (Variable i) S R = Unit {0}
  Lasts (Chain x links) S R = Lasts x S R × LinksLast links S R
  Lasts (Operate op es) S R = AllLast es S R
  Lasts (And es) S R = AllLast es S R
  Lasts (Or es) S R = AllLast es S R
  Lasts (Case arms) S R = AllLast arms S R
  Lasts (CaseOf x test result arms) S R = Lasts x S R × Lasts test S R × Lasts result S R
      × AllLast arms S R
  Lasts (Coalesce es) S R = AllLast es S R
  Lasts (In x q) S R = Lasts x S R × QueryLasts q S R
  Lasts (Exists q) S R = QueryLasts q S R
  Lasts (Single q) S R = QueryLasts q S R
  Lasts (Call name r es) S R = RoutineLasts r S R × AllLast es S R
  Lasts (CallSelf types es) S R = AllLast es S R

  -- the same of a chain's operands
  pub LinksLast : Links → (List ℕ → ℕ) → (List ℕ → ℕ) → Type 0
  LinksLast NoLink S R = Unit {0}
  LinksLast (MoreLinks operator x links) S R = Lasts x S R × LinksLast links S R

  -- the same of several expressions
  pub AllLast : Exprs → (List ℕ → ℕ) → (List ℕ → ℕ) → Type 0
  AllLast NoExpr S R = Unit {0}
  AllLast (MoreExprs x es) S R = Lasts x S R × AllLast es S R

  -- the same of the expression that a called function returns; a block has the same plan
  pub RoutineLasts : Routine → (List ℕ → ℕ) → (List ℕ → ℕ) → Type 0
  RoutineLasts (Returned types returns x) S R = Lasts x S R
  RoutineLasts (Function false types returns null_call statement) S R = BlockLasts types returns
      statement S R
  -- the emission of another routine names no table
  RoutineLasts _ S R = Unit {0}

  -- the same of an expression that may be left out
  pub PerhapsLasts : Perhaps → (List ℕ → ℕ) → (List ℕ → ℕ) → Type 0
  PerhapsLasts Without S R = Unit {0}
  PerhapsLasts (With x) S R = Lasts x S R

  -- the same of declarations
  pub VariablesLast : Variables → (List ℕ → ℕ) → (List ℕ → ℕ) → Type 0
  VariablesLast NoVariable S R = Unit {0}
  VariablesLast (MoreVariables k t default others) S R = PerhapsLasts default S R
      × VariablesLast others S R

  -- the same of a statement in form
  pub StmtLasts : Stmt → (List ℕ → ℕ) → (List ℕ → ℕ) → Type 0
  StmtLasts (Compound atomic variables cursors handlers statements) S R =
      VariablesLast variables S R × HandlersLast handlers S R × StmtsLast statements S R
  StmtLasts (If branches otherwise) S R = BranchesLast branches S R × StmtsLast otherwise S R
  StmtLasts (SearchedCase branches otherwise) S R = BranchesLast branches S R
      × StmtsLast otherwise S R
  StmtLasts (SimpleCase x branches otherwise) S R = Lasts x S R × BranchesLast branches S R
      × StmtsLast otherwise S R
  StmtLasts (Set t x) S R = Lasts x S R
  StmtLasts (SelectInto q targets) S R = QueryLasts q S R
  StmtLasts (Signal state text) S R = PerhapsLasts text S R
  StmtLasts (Resignal state text) S R = PerhapsLasts text S R
  StmtLasts (GetConditionItems area number reads) S R = Lasts number S R
  StmtLasts (Return x) S R = Lasts x S R
  -- the emission of another statement names no table
  StmtLasts _ S R = Unit {0}

  -- the same of statements
  pub StmtsLast : Stmts → (List ℕ → ℕ) → (List ℕ → ℕ) → Type 0
  StmtsLast NoStmt S R = Unit {0}
  StmtsLast (MoreStmts s ss) S R = StmtLasts s S R × StmtsLast ss S R

  -- the same of tests with their statements
  pub BranchesLast : Branches → (List ℕ → ℕ) → (List ℕ → ℕ) → Type 0
  BranchesLast NoBranch S R = Unit {0}
  BranchesLast (MoreBranches test statements others) S R = Lasts test S R
      × StmtsLast statements S R × BranchesLast others S R

  -- the same of handlers
  pub HandlersLast : Handlers → (List ℕ → ℕ) → (List ℕ → ℕ) → Type 0
  HandlersLast NoHandler S R = Unit {0}
  HandlersLast (MoreHandlers kind takes action others) S R = StmtLasts action S R
      × HandlersLast others S R

  -- the same of the rows of VALUES
  pub RowsLast : Rows → (List ℕ → ℕ) → (List ℕ → ℕ) → Type 0
  RowsLast NoRow S R = Unit {0}
  RowsLast (MoreRows es rows) S R = AllLast es S R × RowsLast rows S R

  -- the same of a FROM, whose tables it names
  pub FromLasts : From → (List ℕ → ℕ) → (List ℕ → ℕ) → Type 0
  FromLasts (Table name) S R = S name ≡ R name
  FromLasts (Derived q) S R = QueryLasts q S R
  FromLasts (Cross a b) S R = FromLasts a S R × FromLasts b S R
  FromLasts (Inner a b on) S R = FromLasts a S R × FromLasts b S R × AllLast on S R
  FromLasts (LeftOuter a b on) S R = FromLasts a S R × FromLasts b S R × AllLast on S R

  -- the same of a query
  pub QueryLasts : Query → (List ℕ → ℕ) → (List ℕ → ℕ) → Type 0
  QueryLasts (Select items from tests) S R = AllLast items S R × FromLasts from S R
      × AllLast tests S R
  QueryLasts (Grouped from tests k items ags having list) S R =
      FromLasts from S R × AllLast tests S R × AllLast items S R × AllLast having S R
      × AllLast list S R
  QueryLasts (Values rows) S R = RowsLast rows S R
  QueryLasts (Ordered q keys) S R = QueryLasts q S R

-- what has the same columns has the same plan
pub record LastingPlans : Type 0 where
  -- of a query, whatever its environment
  pub queries : (q : Query) (S R : List ℕ → ℕ) (e : Env) → QueryLasts q S R →
      plan q S e ≡ plan q R e
  -- of a function by itself
  pub routines : (r : Routine) (S R : List ℕ → ℕ) → RoutineLasts r S R →
      routine_plan r S ≡ routine_plan r R
  -- of a block whose statements do
  pub blocks : (types : List SqlType) (returns : SqlType) (s : Stmt) (S R : List ℕ → ℕ) →
      StmtLasts s S R → BlockLasts types returns s S R
  -- the same of a function's body in a call
  pub bodies : (r : Routine) (S R : List ℕ → ℕ) (e : Env) (n : ℕ) → RoutineLasts r S R →
      emit_body r S e n ≡ emit_body r R e n

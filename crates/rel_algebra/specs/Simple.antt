-- Which queries are simple: each query nested in them, and in the bodies of the functions that they
-- call, names nothing outside itself, or names it only in one unbroken run of conjuncts `column =
-- name`, without GROUP BY and HAVING.
use Rattle.std.specs.Prelude.{◌≡◌, ◌⊎◌, ℕ, zero, suc, Bool, true, false, List, ◌∷◌}
use Rattle.sql_values.specs.declared.operators.Comparison.TheVariants.{Equals}
use Rattle.rel_algebra.specs.Emit.{plan, routine_plan, top}
use Rattle.rel_algebra.specs.Joins.{from_width, rows_width}
use Rattle.rel_algebra.specs.Plain.{all_even}
use Rattle.rel_algebra.specs.Removal.{all_removable, less, tree_within}
use Rattle.rel_algebra.specs.Tree.{And, Call, CallSelf, Case, CaseOf, Chain, Coalesce, Column}
use Rattle.rel_algebra.specs.Tree.{Comparing, Cross, Derived, Exists, Expr, Exprs, From, Returned}
use Rattle.rel_algebra.specs.Tree.{Grouped, In, Inner, LeftOuter, Links, Literal, MoreExprs}
use Rattle.rel_algebra.specs.Tree.{MoreLinks, MoreRows, NoExpr, NoLink, NoRow, Operate, Or, Ordered}
use Rattle.rel_algebra.specs.Tree.{Query, Routine, Rows, Select, Single, Table, Values, Variable}
use Rattle.rel_algebra.specs.Tree.{Function, Perhaps, Without, With, Variables, NoVariable}
use Rattle.rel_algebra.specs.Tree.{MoreVariables, Stmt, Compound, If, SearchedCase, SimpleCase, Set}
use Rattle.rel_algebra.specs.Tree.{SelectInto, Signal, Resignal, GetStatementItems}
use Rattle.rel_algebra.specs.Tree.{GetConditionItems, Leave, Return, Stmts, NoStmt, MoreStmts}
use Rattle.rel_algebra.specs.Tree.{Branches, NoBranch, MoreBranches, Handlers, NoHandler}
use Rattle.rel_algebra.specs.Tree.{MoreHandlers}

-- which rows a tree may name: so many of the innermost, or any
pub data Reach : Type 0 where
  Innermost : ℕ → Reach
  AnyRow : Reach

-- the row of a level is one of these
abbrev pub Reaches : Reach → ℕ → Type 0
Reaches (Innermost k) d = less d k ≡ true
Reaches AnyRow d = Unit {0}

-- within one row more
abbrev pub further : Reach → Reach
further (Innermost k) = Innermost (suc k)
further AnyRow = AnyRow

-- Names columns of these rows alone, and parameters only where p is true. Functions see no row
-- outside them, whatever they name.
abbrev mutual
  -- an expression names these rows alone
  pub Names : Expr → Reach → Bool → Type 0
  Names (Literal v) k p = Unit {0}
  Names (Column d i) k p = Reaches k d
  Names (Variable i) k p = p ≡ true
  Names (Chain x links) k p = Names x k p × NamesLinks links k p
  Names (Operate op es) k p = NamesAll es k p
  Names (And es) k p = NamesAll es k p
  Names (Or es) k p = NamesAll es k p
  Names (Case arms) k p = NamesAll arms k p
  Names (CaseOf x test result arms) k p = Names x k p × Names test k p × Names result k p
      × NamesAll arms k p
  Names (Coalesce es) k p = NamesAll es k p
  Names (In x q) k p = Names x k p × NamesQuery q k p
  Names (Exists q) k p = NamesQuery q k p
  Names (Single q) k p = NamesQuery q k p
  Names (Call name r es) k p = NamesAll es k p
  Names (CallSelf types es) k p = Unit {0}

  -- the operands of a chain do
  pub NamesLinks : Links → Reach → Bool → Type 0
  NamesLinks NoLink k p = Unit {0}
  NamesLinks (MoreLinks operator x links) k p = Names x k p × NamesLinks links k p

  -- several expressions do
  pub NamesAll : Exprs → Reach → Bool → Type 0
  NamesAll NoExpr k p = Unit {0}
  NamesAll (MoreExprs x es) k p = Names x k p × NamesAll es k p

  -- a query does, within whose FROM one row more is named
  pub NamesQuery : Query → Reach → Bool → Type 0
  NamesQuery (Select items from tests) k p = NamesFrom from k p × NamesAll tests (further k) p
      × NamesAll items (further k) p
  NamesQuery (Grouped from tests g items ags having list) k p =
      NamesFrom from k p × NamesAll tests (further k) p × NamesAll items (further k) p
      × NamesAll having (further k) p × NamesAll list (further k) p
  NamesQuery (Values rows) k p = NamesRows rows k p
  NamesQuery (Ordered q keys) k p = NamesQuery q k p

  -- the rows of VALUES do
  pub NamesRows : Rows → Reach → Bool → Type 0
  NamesRows NoRow k p = Unit {0}
  NamesRows (MoreRows es rows) k p = NamesAll es k p × NamesRows rows k p

  -- a FROM does
  pub NamesFrom : From → Reach → Bool → Type 0
  NamesFrom (Table t) k p = Unit {0}
  NamesFrom (Derived q) k p = NamesQuery q k p
  NamesFrom (Cross a b) k p = NamesFrom a k p × NamesFrom b k p
  NamesFrom (Inner a b on) k p = NamesFrom a k p × NamesFrom b k p × NamesAll on (further k) p
  NamesFrom (LeftOuter a b on) k p = NamesFrom a k p × NamesFrom b k p × NamesAll on (further k) p

-- column = name or name = column, in a row of n columns
abbrev pub IsKeyed : Expr → ℕ → Type 0
IsKeyed (Operate (Comparing Equals)
    (MoreExprs (Column zero i) (MoreExprs (Column (suc d) j) NoExpr))) n = less i n ≡ true
IsKeyed (Operate (Comparing Equals)
    (MoreExprs (Column (suc d) j) (MoreExprs (Column zero i) NoExpr))) n = less i n ≡ true
IsKeyed (Operate (Comparing Equals) (MoreExprs (Column zero i) (MoreExprs (Variable j) NoExpr))) n =
    less i n ≡ true
IsKeyed (Operate (Comparing Equals) (MoreExprs (Variable j) (MoreExprs (Column zero i) NoExpr))) n =
    less i n ≡ true
IsKeyed _ n = ⊥

-- The run, and after it conjuncts that name nothing outside. Where p is true parameters are
-- arguments of the whole query, which a plan may use anywhere.
abbrev pub InRun : Exprs → ℕ → Bool → Type 0
InRun NoExpr n p = Unit {0}
InRun (MoreExprs x es) n p =
    (IsKeyed x n × InRun es n p) ⊎ (Names x (Innermost 1) p × NamesAll es (Innermost 1) p)

-- conjuncts that name nothing outside, then the run, then conjuncts that name nothing outside
abbrev pub BeforeRun : Exprs → ℕ → Bool → Type 0
BeforeRun NoExpr n p = Unit {0}
BeforeRun (MoreExprs x es) n p = (Names x (Innermost 1) p × BeforeRun es n p)
    ⊎ (IsKeyed x n × InRun es n p)

-- a query that names what is outside in such a run alone, without GROUP BY and HAVING
abbrev pub KeyedQuery : Query → (List ℕ → ℕ) → Bool → Type 0
KeyedQuery (Select items from tests) S p = NamesFrom from (Innermost 0) p
    × BeforeRun tests (from_width from S) p × NamesAll items (Innermost 1) p
KeyedQuery (Grouped from tests zero items (a ∷ ags) NoExpr list) S p =
    NamesFrom from (Innermost 0) p × BeforeRun tests (from_width from S) p
    × NamesAll items (Innermost 1) p
KeyedQuery _ S p = ⊥

-- a nested query of one of the two forms
abbrev pub Nested : Query → (List ℕ → ℕ) → Bool → Type 0
Nested q S p = NamesQuery q (Innermost 0) p ⊎ KeyedQuery q S p

abbrev mutual
  -- an expression whose nested queries are such, in the bodies of called functions too
  pub Simple : Expr → (List ℕ → ℕ) → Bool → Type 0
  Simple (Literal v) S p = Unit {0}
  Simple (Column d i) S p = Unit {0}
  Simple (Variable i) S p = Unit {0}
  Simple (Chain x links) S p = Simple x S p × SimpleLinks links S p
  Simple (Operate op es) S p = SimpleAll es S p
  Simple (And es) S p = SimpleAll es S p
  Simple (Or es) S p = SimpleAll es S p
  Simple (Case arms) S p = SimpleAll arms S p
  Simple (CaseOf x test result arms) S p = Simple x S p × Simple test S p × Simple result S p
      × SimpleAll arms S p
  Simple (Coalesce es) S p = SimpleAll es S p
  Simple (In x q) S p = Simple x S p × Nested q S p × SimpleQuery q S p
  Simple (Exists q) S p = Nested q S p × SimpleQuery q S p
  Simple (Single q) S p = Nested q S p × SimpleQuery q S p
  Simple (Call name r es) S p = SimpleBody r S × SimpleAll es S p
  Simple (CallSelf types es) S p = Unit {0}

  -- the operands of a chain are
  pub SimpleLinks : Links → (List ℕ → ℕ) → Bool → Type 0
  SimpleLinks NoLink S p = Unit {0}
  SimpleLinks (MoreLinks operator x links) S p = Simple x S p × SimpleLinks links S p

  -- several expressions are
  pub SimpleAll : Exprs → (List ℕ → ℕ) → Bool → Type 0
  SimpleAll NoExpr S p = Unit {0}
  SimpleAll (MoreExprs x es) S p = Simple x S p × SimpleAll es S p

  -- the body of a called function is, whose parameters are columns
  pub SimpleBody : Routine → (List ℕ → ℕ) → Type 0
  SimpleBody (Returned types returns x) S = Simple x S false
  SimpleBody (Function false types returns null_call statement) S = SimpleStmt statement S
  SimpleBody _ S = ⊥

  -- an expression that may be left out is, where variables are columns
  pub SimplePerhaps : Perhaps → (List ℕ → ℕ) → Type 0
  SimplePerhaps Without S = Unit {0}
  SimplePerhaps (With x) S = Simple x S false

  -- the defaults of declarations are
  pub SimpleVariables : Variables → (List ℕ → ℕ) → Type 0
  SimpleVariables NoVariable S = Unit {0}
  SimpleVariables (MoreVariables k t default others) S = SimplePerhaps default S
      × SimpleVariables others S

  -- the expressions and queries of a statement in form are
  pub SimpleStmt : Stmt → (List ℕ → ℕ) → Type 0
  SimpleStmt (Compound atomic variables cursors handlers statements) S =
      SimpleVariables variables S × SimpleHandlers handlers S × SimpleStmts statements S
  SimpleStmt (If branches otherwise) S = SimpleBranches branches S × SimpleStmts otherwise S
  SimpleStmt (SearchedCase branches otherwise) S = SimpleBranches branches S
      × SimpleStmts otherwise S
  SimpleStmt (SimpleCase x branches otherwise) S = Simple x S false × SimpleBranches branches S
      × SimpleStmts otherwise S
  SimpleStmt (Set t x) S = Simple x S false
  SimpleStmt (SelectInto q targets) S = Nested q S false × SimpleQuery q S false
  SimpleStmt (Signal state text) S = SimplePerhaps text S
  SimpleStmt (Resignal state text) S = SimplePerhaps text S
  SimpleStmt (GetStatementItems area reads) S = Unit {0}
  SimpleStmt (GetConditionItems area number reads) S = Simple number S false
  SimpleStmt (Leave outwards) S = Unit {0}
  SimpleStmt (Return x) S = Simple x S false
  SimpleStmt _ S = ⊥

  -- those of statements are
  pub SimpleStmts : Stmts → (List ℕ → ℕ) → Type 0
  SimpleStmts NoStmt S = Unit {0}
  SimpleStmts (MoreStmts s ss) S = SimpleStmt s S × SimpleStmts ss S

  -- those of tests with their statements are
  pub SimpleBranches : Branches → (List ℕ → ℕ) → Type 0
  SimpleBranches NoBranch S = Unit {0}
  SimpleBranches (MoreBranches test statements others) S = Simple test S false
      × SimpleStmts statements S × SimpleBranches others S

  -- those of handlers are
  pub SimpleHandlers : Handlers → (List ℕ → ℕ) → Type 0
  SimpleHandlers NoHandler S = Unit {0}
  SimpleHandlers (MoreHandlers kind takes action others) S = SimpleStmt action S
      × SimpleHandlers others S

  -- a query whose nested queries are such
  pub SimpleQuery : Query → (List ℕ → ℕ) → Bool → Type 0
  SimpleQuery (Select items from tests) S p =
      SimpleFrom from S p × SimpleAll tests S p × SimpleAll items S p
  SimpleQuery (Grouped from tests k items ags having list) S p =
      SimpleFrom from S p × SimpleAll tests S p × SimpleAll items S p
      × SimpleAll having S p × SimpleAll list S p
  -- rows of VALUES have one length
  SimpleQuery (Values rows) S p = (all_even (rows_width rows) rows ≡ true) × SimpleRows rows S p
  SimpleQuery (Ordered q keys) S p = SimpleQuery q S p

  -- the rows of VALUES are
  pub SimpleRows : Rows → (List ℕ → ℕ) → Bool → Type 0
  SimpleRows NoRow S p = Unit {0}
  SimpleRows (MoreRows es rows) S p = SimpleAll es S p × SimpleRows rows S p

  -- a FROM is
  pub SimpleFrom : From → (List ℕ → ℕ) → Bool → Type 0
  SimpleFrom (Table t) S p = Unit {0}
  SimpleFrom (Derived q) S p = SimpleQuery q S p
  SimpleFrom (Cross a b) S p = SimpleFrom a S p × SimpleFrom b S p
  SimpleFrom (Inner a b on) S p = SimpleFrom a S p × SimpleFrom b S p × SimpleAll on S p
  SimpleFrom (LeftOuter a b on) S p = SimpleFrom a S p × SimpleFrom b S p × SimpleAll on S p

-- A whole query sees no row outside itself: its plan uses no outer column, whatever the query
-- names; nor does the plan of a function.
pub record ClosedPlans : Type 0 where
  -- of a whole query
  pub queries : (q : Query) (S : List ℕ → ℕ) (n : ℕ) → tree_within (plan q S (top n)) 0 ≡ true
  -- of a function by itself
  pub routines : (r : Routine) (S : List ℕ → ℕ) → tree_within (routine_plan r S) 0 ≡ true

-- The same of a function by itself, whose parameters are arguments of its plan. A block reads them
-- once, and then has them in columns.
abbrev pub SimpleRoutine : Routine → (List ℕ → ℕ) → Type 0
SimpleRoutine (Returned types returns x) S = Simple x S true
SimpleRoutine (Function false types returns null_call statement) S = SimpleStmt statement S
SimpleRoutine _ S = ⊥

-- each Apply of a simple query's plan can be removed, and each of a function's
pub record RemovablePlans : Type 0 where
  -- of a whole query
  pub queries : (q : Query) (S : List ℕ → ℕ) (n : ℕ) → SimpleQuery q S true →
      all_removable (plan q S (top n)) ≡ true
  -- of a function by itself
  pub routines : (r : Routine) (S : List ℕ → ℕ) → SimpleRoutine r S →
      all_removable (routine_plan r S) ≡ true

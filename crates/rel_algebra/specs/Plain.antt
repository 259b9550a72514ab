-- What planned expressions and queries mean by the tables alone: for given tables and rows outside
-- a value or the rows, or the first condition. The law `means_passing` says that this is what they
-- do.
use Rattle.std.specs.Prelude.{ℕ, zero, Bool, true, false, if◌then◌else◌, List, [], ◌∷◌}
use Rattle.std.specs.Prelude.{◌++◌, nat_eq, ◌&&◌, Ok, drop, length}
use Rattle.std.specs.List.{list_any}
use Rattle.sql_values.specs.declared.value.Value.{Value}
use Rattle.sql_values.specs.declared.value.Value.TheVariants.{Null, Bool as Truth}
use Rattle.sql_values.specs.declared.value.SqlType.{SqlType}
use Rattle.sql_values.specs.Casts.{assigned}
use Rattle.sql_values.specs.Values.{is_null, is_true}
use Rattle.sql_values.specs.Operators.{applied}
use Rattle.row_types.specs.Rows.{Row}
use Rattle.row_types.specs.Tables.{rows_named}
use Rattle.rel_algebra.specs.Tree.{Expr, Literal, Column, Variable, Chain, Operate, And, Or, Case}
use Rattle.rel_algebra.specs.Tree.{CaseOf, Coalesce, In, Exists, Single, Call, CallSelf, Links}
use Rattle.rel_algebra.specs.Tree.{NoLink, MoreLinks, Exprs, NoExpr, MoreExprs, count, Routine}
use Rattle.rel_algebra.specs.Tree.{Returned, Rows, NoRow, MoreRows, From, Table, Derived, Cross}
use Rattle.rel_algebra.specs.Tree.{Inner, LeftOuter, Query, Select, Grouped, Values, Ordered}
use Rattle.rel_algebra.specs.Tree.{Function, Target, Stacked, Perhaps, Without, With, Variables}
use Rattle.rel_algebra.specs.Tree.{NoVariable, MoreVariables, Stmt, Compound, If, SearchedCase}
use Rattle.rel_algebra.specs.Tree.{SimpleCase, Set, SelectInto, Signal, Resignal}
use Rattle.rel_algebra.specs.Tree.{GetStatementItems, GetConditionItems, Leave, Return, Stmts}
use Rattle.rel_algebra.specs.Tree.{NoStmt, MoreStmts, Branches, NoBranch, MoreBranches, Handlers}
use Rattle.rel_algebra.specs.Tree.{NoHandler, MoreHandlers, parameters_of}
use Rattle.rel_algebra.specs.Endings.{Ending, ◌>>=◌, ending_of, is_false, equal_values, op_value}
use Rattle.rel_algebra.specs.Endings.{value_at, row_at}
use Rattle.rel_algebra.specs.Groups.{groups}
use Rattle.row_types.specs.Sorting.{in_order}
use Rattle.rel_algebra.specs.Joins.{places, numbered, pairs, or_nulls, single_of, exists_of}
use Rattle.rel_algebra.specs.Joins.{member_of, group_row, rows_width, from_width, query_width}
use Rattle.rel_algebra.specs.Meaning.{assigned_first}
use Rattle.rel_algebra.specs.Bodies as body
use Rattle.rel_algebra.specs.BodyMeaning.{call as body_call}
use Rattle.rel_algebra.specs.Leaves.{answered, valued}
pub use Rattle.rel_algebra.specs.Scopes.{Inputs, columns_in, Scope, within, each_of, kept_if}
pub use Rattle.rel_algebra.specs.Scopes.{one_row, list_if, list_where}

-- a left row with its right rows
abbrev pub joined_row : ℕ → (Row → Ending Bool) → List Row → Row → Ending (List Row)
joined_row n on right l = do
  ms ← each_of (λ r. do
    b ← on (l ++ r)
    Ok (kept_if b (l ++ r))) right
  Ok (or_nulls l n ms)

abbrev mutual
  -- the value of an expression, or the first condition. 6.25 (value expression)
  pub ev : Expr → Inputs → Scope → Ending Value
  ev (Literal v) w f = Ok v
  ev (Column d i) w f = Ok (value_at (row_at f.rows d) i)
  ev (Variable i) w f = Ok (value_at f.params i)
  ev (Chain x links) w f = do
    v ← ev x w f
    ev_links links v w f
  ev (Operate op es) w f = do
    vs ← ev_all es w f
    op_value op vs
  ev (And es) w f = ev_and es (Truth true) w f
  ev (Or es) w f = ev_or es (Truth false) w f
  ev (Case arms) w f = ev_case arms is_true w f
  ev (CaseOf e test result arms) w f = do
    x ← ev e w f
    y ← ev test w f
    if is_true (equal_values x y) then ev result w f
        else ev_case arms (λ z. is_true (equal_values x z)) w f
  ev (Coalesce es) w f = ev_coalesce es w f
  ev (In e q) w f = do
    x ← ev e w f
    rows ← answer q w f
    Ok (member_of x rows)
  ev (Exists q) w f = do
    rows ← answer q w f
    Ok (exists_of rows)
  ev (Single q) w f = do
    rows ← answer q w f
    single_of rows
  ev (Call name r es) w f = do
    vs ← ev_args es (parameters_of r) w f
    call r vs w
  -- no planned expression calls the function in which it stands
  ev (CallSelf types es) w f = Ok Null

  -- goes on from the value of what stands left. 6.27 (numeric value expression)
  pub ev_links : Links → Value → Inputs → Scope → Ending Value
  ev_links NoLink v w f = Ok v
  ev_links (MoreLinks operator x links) v w f = do
    u ← ev x w f
    y ← ending_of (applied operator v u)
    ev_links links y w f

  -- from left to right
  pub ev_all : Exprs → Inputs → Scope → Ending Row
  ev_all NoExpr w f = Ok []
  ev_all (MoreExprs e es) w f = do
    v ← ev e w f
    vs ← ev_all es w f
    Ok (v ∷ vs)

  -- each argument is evaluated and assigned to its parameter before the next
  pub ev_args : Exprs → List SqlType → Inputs → Scope → Ending (List Value)
  ev_args NoExpr types w f = Ok []
  ev_args (MoreExprs e es) types w f = do
    v ← ev e w f
    x ← ending_of (assigned_first types v)
    xs ← ev_args es (drop 1 types) w f
    Ok (x ∷ xs)

  -- row by row
  pub ev_rows : Rows → Inputs → Scope → Ending (List Row)
  ev_rows NoRow w f = Ok []
  ev_rows (MoreRows es rows) w f = do
    r ← ev_all es w f
    rs ← ev_rows rows w f
    Ok (r ∷ rs)

  -- up to the first that is false; NULL where one before it is
  pub ev_and : Exprs → Value → Inputs → Scope → Ending Value
  ev_and NoExpr so_far w f = Ok so_far
  ev_and (MoreExprs e es) so_far w f = do
    v ← ev e w f
    if is_false v then Ok (Truth false) else ev_and es (if is_true v then so_far else Null) w f

  -- up to the first that is true; NULL where one before it is. 6.39 (boolean value expression)
  pub ev_or : Exprs → Value → Inputs → Scope → Ending Value
  ev_or NoExpr so_far w f = Ok so_far
  ev_or (MoreExprs e es) so_far w f = do
    v ← ev e w f
    if is_true v then Ok (Truth true) else ev_or es (if is_false v then so_far else Null) w f

  -- the first result whose test passes
  pub ev_case : Exprs → (Value → Bool) → Inputs → Scope → Ending Value
  ev_case NoExpr passes w f = Ok Null
  ev_case (MoreExprs last NoExpr) passes w f = ev last w f
  ev_case (MoreExprs test (MoreExprs result arms)) passes w f = do
    v ← ev test w f
    if passes v then ev result w f else ev_case arms passes w f

  -- up to the first that isn't NULL
  pub ev_coalesce : Exprs → Inputs → Scope → Ending Value
  ev_coalesce NoExpr w f = Ok Null
  ev_coalesce (MoreExprs e es) w f = do
    v ← ev e w f
    if is_null v then ev_coalesce es w f else Ok v

  -- The body is run anew on parameters of its own, and sees no row; its value is assigned to the
  -- result's type. A body that is a block does what its expressions and queries mean.
  pub call : Routine → List Value → Inputs → Ending Value
  call (Returned types returns e) vs w = do
    v ← ev e w (record { rows = []; params = vs })
    ending_of (assigned returns v)
  call (Function false types returns false statement) vs w =
      body_call (body.Body types returns (stmt_meant statement)) vs w
  -- it returns NULL on NULL input
  call (Function false types returns true statement) vs w =
      if list_any is_null vs then Ok Null
      else body_call (body.Body types returns (stmt_meant statement)) vs w
  -- no planned expression calls another routine
  call _ vs w = Ok Null

  -- an expression that may be left out, as a leaf of a body
  pub perhaps_meant : Perhaps → body.Perhaps
  perhaps_meant Without = body.Without
  perhaps_meant (With e) = body.With (valued (λ w f. ev e w f))

  -- declarations over such leaves
  pub variables_meant : Variables → body.Variables
  variables_meant NoVariable = body.NoVariable
  variables_meant (MoreVariables k t default others) =
      body.MoreVariables k t (perhaps_meant default) (variables_meant others)

  -- a statement in form, over what its expressions and queries mean
  pub stmt_meant : Stmt → body.Stmt
  stmt_meant (Compound atomic variables cursors handlers statements) =
      body.Compound atomic (variables_meant variables) (handlers_meant handlers)
      (stmts_meant statements)
  stmt_meant (If branches otherwise) = body.If (branches_meant branches) (stmts_meant otherwise)
  stmt_meant (SearchedCase branches otherwise) =
      body.SearchedCase (branches_meant branches) (stmts_meant otherwise)
  stmt_meant (SimpleCase e branches otherwise) =
      body.SimpleCase (valued (λ w f. ev e w f)) (branches_meant branches) (stmts_meant otherwise)
  stmt_meant (Set t e) = body.Set t (valued (λ w f. ev e w f))
  stmt_meant (SelectInto q targets) = body.SelectInto (answered (λ w f. answer q w f)) targets
  stmt_meant (Signal state text) = body.Signal state (perhaps_meant text)
  stmt_meant (Resignal state text) = body.Resignal state (perhaps_meant text)
  stmt_meant (GetStatementItems area reads) = body.GetStatementItems reads
  stmt_meant (GetConditionItems area number reads) =
      body.GetConditionItems (valued (λ w f. ev number w f)) reads
  stmt_meant (Leave outwards) = body.Leave outwards
  stmt_meant (Return e) = body.Return (valued (λ w f. ev e w f))
  -- no other statement is in form
  stmt_meant _ = body.Leave 0

  -- statements in order
  pub stmts_meant : Stmts → body.Stmts
  stmts_meant NoStmt = body.NoStmt
  stmts_meant (MoreStmts s ss) = body.MoreStmts (stmt_meant s) (stmts_meant ss)

  -- tests or values with their statements
  pub branches_meant : Branches → body.Branches
  branches_meant NoBranch = body.NoBranch
  branches_meant (MoreBranches test statements others) =
      body.MoreBranches (valued (λ w f. ev test w f)) (stmts_meant statements)
      (branches_meant others)

  -- the handlers of a compound statement
  pub handlers_meant : Handlers → body.Handlers
  handlers_meant NoHandler = body.NoHandler
  handlers_meant (MoreHandlers kind takes action others) =
      body.MoreHandlers kind takes (stmt_meant action) (handlers_meant others)

  -- whether all conjuncts are true: a row leaves at the first that isn't
  pub holds : Exprs → Inputs → Scope → Ending Bool
  holds NoExpr w f = Ok true
  holds (MoreExprs e es) w f = do
    v ← ev e w f
    if is_true v then holds es w f else Ok false

  -- FROM is complete before the first row goes on
  pub answer : Query → Inputs → Scope → Ending (List Row)
  answer (Select items from tests) w f = do
    rows ← from_rows from w f
    each_of (λ r. list_where (holds tests w (within f r)) (ev_all items w (within f r))) rows
  answer (Grouped from tests k items ags having list) w f = do
    rows ← from_rows from w f
    parts ← each_of (λ r. list_where (holds tests w (within f r)) (ev_all items w (within f r)))
        rows
    each_of (λ g. do
      r ← group_row (numbered k ags) g
      list_where (holds having w (within f r)) (ev_all list w (within f r)))
        (groups (places 0 k) parts)
  answer (Values rows) w f = ev_rows rows w f
  answer (Ordered q keys) w f = do
    rows ← answer q w f
    Ok (in_order keys rows)

  -- the left list is made first, then the right one, and only then the pairs
  pub from_rows : From → Inputs → Scope → Ending (List Row)
  from_rows (Table t) w f = Ok (rows_named t w.tables)
  from_rows (Derived q) w f = answer q w f
  from_rows (Cross a b) w f = do
    left ← from_rows a w f
    right ← from_rows b w f
    Ok (pairs left right)
  from_rows (Inner a b on) w f = do
    left ← from_rows a w f
    right ← from_rows b w f
    each_of (λ r. do
      b ← holds on w (within f r)
      Ok (kept_if b r)) (pairs left right)
  from_rows (LeftOuter a b on) w f = do
    left ← from_rows a w f
    right ← from_rows b w f
    each_of (joined_row (from_width b (columns_in w)) (λ r. holds on w (within f r)) right) left

-- these many in each row of VALUES
abbrev pub all_even : ℕ → Rows → Bool
all_even n NoRow = true
all_even n (MoreRows es rows) = nat_eq (count es) n && all_even n rows

-- a query has one column for each target, and at least one; no table tells how many
abbrev pub fills : Query → List Target → Bool
fills q [] = false
fills q (t ∷ targets) = nat_eq (query_width q (λ name. 0)) (length (t ∷ targets))

-- A block sees as many values as it has parameters. A body that is one RETURN reads those that it
-- names.
abbrev pub as_many : Routine → ℕ → Bool
as_many (Returned types returns x) n = true
as_many r n = nat_eq n (length (parameters_of r))

-- Which queries have a plan: each function that they call, in turn, only returns an expression, or
-- its body is a statement in form; and the rows of each VALUES are of one length. A statement is in
-- form that changes no table, moves no cursor, holds no loop and no CALL, and whose expressions and
-- queries have plans; of diagnostics it reads the stacked area.
abbrev mutual
  -- an expression has a plan
  pub planned_expr : Expr → Bool
  planned_expr (Literal v) = true
  planned_expr (Column level i) = true
  planned_expr (Variable i) = true
  planned_expr (Chain x links) = planned_expr x && planned_links links
  planned_expr (Operate op es) = planned_all es
  planned_expr (And es) = planned_all es
  planned_expr (Or es) = planned_all es
  planned_expr (Case arms) = planned_all arms
  planned_expr (CaseOf x test result arms) =
      planned_expr x && (planned_expr test && (planned_expr result && planned_all arms))
  planned_expr (Coalesce es) = planned_all es
  planned_expr (In x q) = planned_expr x && planned q
  planned_expr (Exists q) = planned q
  planned_expr (Single q) = planned q
  planned_expr (Call name r es) =
      planned_routine r && (planned_all es && as_many r (count es))
  planned_expr (CallSelf types es) = false

  -- the operands of a chain have plans
  pub planned_links : Links → Bool
  planned_links NoLink = true
  planned_links (MoreLinks operator x links) = planned_expr x && planned_links links

  -- expressions have plans
  pub planned_all : Exprs → Bool
  planned_all NoExpr = true
  planned_all (MoreExprs x es) = planned_expr x && planned_all es

  -- a function only returns an expression, which has a plan, or its body is in form; it is no part
  -- of itself
  pub planned_routine : Routine → Bool
  planned_routine (Returned types returns x) = planned_expr x
  planned_routine (Function false types returns null_call statement) = planned_stmt statement
  planned_routine _ = false

  -- an expression has a plan, where it isn't left out
  pub planned_perhaps : Perhaps → Bool
  planned_perhaps Without = true
  planned_perhaps (With x) = planned_expr x

  -- the defaults of declarations have plans
  pub planned_variables : Variables → Bool
  planned_variables NoVariable = true
  planned_variables (MoreVariables k t default others) =
      planned_perhaps default && planned_variables others

  -- a statement is in form; a compound statement declares no cursor
  pub planned_stmt : Stmt → Bool
  planned_stmt (Compound atomic variables zero handlers statements) =
      planned_variables variables && (planned_handlers handlers && planned_stmts statements)
  planned_stmt (If branches otherwise) = planned_branches branches && planned_stmts otherwise
  planned_stmt (SearchedCase branches otherwise) =
      planned_branches branches && planned_stmts otherwise
  planned_stmt (SimpleCase x branches otherwise) =
      planned_expr x && (planned_branches branches && planned_stmts otherwise)
  planned_stmt (Set t x) = planned_expr x
  planned_stmt (SelectInto q targets) = planned q && fills q targets
  planned_stmt (Signal state text) = planned_perhaps text
  planned_stmt (Resignal state text) = planned_perhaps text
  planned_stmt (GetStatementItems Stacked reads) = true
  planned_stmt (GetConditionItems Stacked number reads) = planned_expr number
  planned_stmt (Leave outwards) = true
  planned_stmt (Return x) = planned_expr x
  planned_stmt _ = false

  -- statements are in form
  pub planned_stmts : Stmts → Bool
  planned_stmts NoStmt = true
  planned_stmts (MoreStmts s ss) = planned_stmt s && planned_stmts ss

  -- tests have plans, and their statements are in form
  pub planned_branches : Branches → Bool
  planned_branches NoBranch = true
  planned_branches (MoreBranches test statements others) =
      planned_expr test && (planned_stmts statements && planned_branches others)

  -- the actions of handlers are in form
  pub planned_handlers : Handlers → Bool
  planned_handlers NoHandler = true
  planned_handlers (MoreHandlers kind takes action others) =
      planned_stmt action && planned_handlers others

  -- rows of VALUES have plans
  pub planned_rows : Rows → Bool
  planned_rows NoRow = true
  planned_rows (MoreRows es rows) = planned_all es && planned_rows rows

  -- a FROM has a plan
  pub planned_from : From → Bool
  planned_from (Table t) = true
  planned_from (Derived q) = planned q
  planned_from (Cross a b) = planned_from a && planned_from b
  planned_from (Inner a b on) = planned_from a && (planned_from b && planned_all on)
  planned_from (LeftOuter a b on) = planned_from a && (planned_from b && planned_all on)

  -- a query has a plan; the rows of each VALUES are of one length
  pub planned : Query → Bool
  planned (Select items from tests) = planned_all items && (planned_from from && planned_all tests)
  planned (Grouped from tests k items ags having list) =
      planned_from from && (planned_all tests
      && (planned_all items && (planned_all having && planned_all list)))
  planned (Values rows) = all_even (rows_width rows) rows && planned_rows rows
  planned (Ordered q keys) = planned q

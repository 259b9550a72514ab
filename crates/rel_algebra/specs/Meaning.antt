-- What expressions, queries, statements and routines do. ISO/IEC 9075-2, 6.25 (value expression),
-- 7.10 (joined table), 7.13 (group by clause), 7.16 (query specification), 7.17 (query expression),
-- 7.19 (subquery), 10.4 (routine invocation) and 14 (data manipulation); ISO/IEC 9075-4, 14
-- (control statements).
use Rattle.std.specs.Prelude.{ℕ, zero, suc, ◌-◌, Bool, true, false, if◌then◌else◌, List, [], ◌∷◌}
use Rattle.std.specs.Prelude.{◌++◌, drop, replicate, Option, Some, None, Ok, Err}
use Rattle.sql_values.specs.declared.value.Value.{Value}
use Rattle.sql_values.specs.declared.value.Value.TheVariants.{Null, Bool as Truth}
use Rattle.sql_values.specs.declared.value.SqlType.{SqlType}
use Rattle.sql_values.specs.Values.{Outcome, is_null, is_true}
use Rattle.sql_values.specs.Operators.{applied}
use Rattle.sql_values.specs.Casts.{assigned}
use Rattle.sql_conditions.specs.Conditions.{Area}
use Rattle.sql_conditions.specs.declared.condition.EngineCondition.TheVariants.{SeveralRows}
use Rattle.row_types.specs.Rows.{Row}
use Rattle.row_types.specs.Tables.{rows_named}
use Rattle.row_types.specs.Sorting.{in_order}
use Rattle.rel_algebra.specs.Tree.{Expr, Literal, Column, Variable, Chain, Operate, And, Or, Case}
use Rattle.rel_algebra.specs.Tree.{CaseOf, Coalesce, In, Exists, Single, Call, CallSelf, Links}
use Rattle.rel_algebra.specs.Tree.{NoLink, MoreLinks, Exprs, NoExpr, MoreExprs, Perhaps, Without}
use Rattle.rel_algebra.specs.Tree.{With, Routine, Function, Procedure, parameters_of, modes_of}
use Rattle.rel_algebra.specs.Tree.{Rows, NoRow, MoreRows, From, Table, Derived, Cross, Inner}
use Rattle.rel_algebra.specs.Tree.{LeftOuter, Query, Select, Grouped, Values, Ordered, Parameter}
use Rattle.rel_algebra.specs.Tree.{Target, Stmt, Insert, Update, Delete, CallProcedure, CallItself}
use Rattle.rel_algebra.specs.Tree.{Compound, If, SearchedCase, SimpleCase, Set, SelectInto, Loop}
use Rattle.rel_algebra.specs.Tree.{While, Repeat, For, Open, Fetch, Close, Signal, Resignal}
use Rattle.rel_algebra.specs.Tree.{GetStatementItems, GetConditionItems, Leave, Iterate, Return}
use Rattle.rel_algebra.specs.Tree.{Stmts, NoStmt, MoreStmts, Branches, NoBranch, MoreBranches}
use Rattle.rel_algebra.specs.Tree.{Variables, NoVariable, MoreVariables, Handlers, NoHandler}
use Rattle.rel_algebra.specs.Tree.{MoreHandlers, Arguments, NoArgument, MoreValues, MoreTargets}
use Rattle.rel_algebra.specs.Tree.{MoreGiven}
use Rattle.rel_algebra.specs.States.{no_data, case_not_found}
use Rattle.rel_algebra.specs.World.{World, Frame, Eval, Gives, Raises, ◌>>=◌, give, raise, unit}
use Rattle.rel_algebra.specs.World.{outcome, choose, column_of, variable_of, frame_of, no_frame}
use Rattle.rel_algebra.specs.World.{tested, each_kept, each_listed, Called, Calling, no_self}
use Rattle.rel_algebra.specs.World.{no_again, call_of}
use Rattle.rel_algebra.specs.Endings.{Ending, is_false, equal_values, op_value}
use Rattle.rel_algebra.specs.Groups.{groups}
use Rattle.rel_algebra.specs.Joins.{places, numbered, pairs, or_nulls, single_of, exists_of}
use Rattle.rel_algebra.specs.Joins.{member_of, group_row, from_width, table_width}
use Rattle.rel_algebra.specs.Writing.{stored_in, changed, removed}
use Rattle.rel_algebra.specs.Doing.{End, Next, Leaving, Iterating, Returning, Doing, ends, in_turn}
use Rattle.rel_algebra.specs.Doing.{with_more, take_values, completed, storing}
use Rattle.rel_algebra.specs.Handlers.{Handling, Scopes, failing, raising, with_value}
use Rattle.rel_algebra.specs.Loops.{looping, at_once, while_true, until_true, for_each}
use Rattle.rel_algebra.specs.Compounds.{compound}
use Rattle.rel_algebra.specs.Cursors.{opening, fetching, closing, at_cursor}
use Rattle.rel_algebra.specs.Diagnostics.{signalling, resignalling, getting_area, getting_condition}
use Rattle.rel_algebra.specs.Diagnostics.{at_reading}
use Rattle.rel_algebra.specs.Calls.{passed, targets_of, returned, given_back, null_or, calling}

-- the value that the next target takes; with no target left, the value itself
abbrev pub assigned_first : List SqlType → Value → Outcome
assigned_first [] v = Ok v
assigned_first (t ∷ ts) v = assigned t v

-- what ends so without a world, in each world
abbrev pub carried : {A : Type 0} → Ending A → Eval A
carried (Ok a) w = Gives a w
carried (Err area) w = Raises area w

-- Where a statement stands: what a self-call means in an expression, and as a CALL; the handlers in
-- sight; how many compound statements and loops are around it; and the conditions that the
-- innermost action around it handles.
pub record Context : Type 0 where
  -- a self-call in an expression
  pub self : Called
  -- a self-call as a CALL
  pub again : Calling
  -- the handlers in sight
  pub scopes : Scopes
  -- how many compound statements and loops are around it
  pub level : ℕ
  -- what the innermost action around it handles
  pub stacked : Option Area

-- the body of a routine
abbrev pub start_of : Called → Calling → Context
start_of self again = record { self = self; again = again; scopes = []; level = 0; stacked = None }

-- a script statement
abbrev pub no_context : Context
no_context = start_of no_self no_again

-- inside a compound statement or a loop
abbrev pub inside : Context → Context
inside c = record c { level = suc c.level }

-- the same with the handlers of a compound statement in sight
abbrev pub inside_scopes : Scopes → Context → Context
inside_scopes scopes c = record c { scopes = scopes; level = suc c.level }

-- an action, which sees the handlers outside its compound statement
abbrev pub in_action : Scopes → Area → Context → Context
in_action outer area c = record c { scopes = outer; level = suc c.level; stacked = Some area }

-- the level of a label that stands so many compound statements and loops outwards
abbrev pub level_of : ℕ → Context → ℕ
level_of outwards c = c.level - suc outwards

-- INSERT, UPDATE and DELETE raise where no row is met
abbrev pub met : Scopes → ℕ → Doing
met scopes zero = raising scopes no_data
met scopes (suc n) = completed (suc n)

-- the values of the one row; none of no row
abbrev pub one_row : List Target → List Row → Eval (Option (List Value))
one_row targets [] = give None
one_row targets (r ∷ []) = do
  values ← take_values targets r
  give (Some values)
one_row targets _ = raise SeveralRows

-- SELECT INTO: the values of the one row into their variables; no row raises 02000. ISO/IEC
-- 9075-2, 14.7 (select statement: single row)
abbrev pub found : Scopes → List Target → Option (List Value) → Doing
found scopes targets None = raising scopes no_data
found scopes targets (Some values) = storing targets values

abbrev mutual
  -- The value of an expression, by what a self-call means, the rows of the queries around it, the
  -- innermost first, and the frame. Operands are evaluated from left to right.
  pub ev : Expr → Called → List Row → Frame → Eval Value
  ev (Literal v) self rows f = give v
  ev (Column level i) self rows f = give (column_of level i rows)
  ev (Variable i) self rows f = give (variable_of i f)
  ev (Chain e links) self rows f = do
    v ← ev e self rows f
    ev_links links v self rows f
  ev (Operate operation es) self rows f = do
    vs ← ev_all es self rows f
    carried (op_value operation vs)
  ev (And es) self rows f = ev_and es (Truth true) self rows f
  ev (Or es) self rows f = ev_or es (Truth false) self rows f
  ev (Case arms) self rows f = ev_case arms is_true self rows f
  ev (CaseOf e test result arms) self rows f = do
    x ← ev e self rows f
    y ← ev test self rows f
    if is_true (equal_values x y) then ev result self rows f
        else ev_case arms (λ z. is_true (equal_values x z)) self rows f
  ev (Coalesce es) self rows f = ev_coalesce es self rows f
  ev (In e query) self rows f = do
    x ← ev e self rows f
    found ← answer query self rows f
    give (member_of x found)
  ev (Exists query) self rows f = do
    found ← answer query self rows f
    give (exists_of found)
  ev (Single query) self rows f = do
    found ← answer query self rows f
    carried (single_of found)
  ev (Call name routine args) self rows f = do
    values ← ev_args args (parameters_of routine) self rows f
    call routine values
  ev (CallSelf parameters args) self rows f = do
    values ← ev_args args parameters self rows f
    self values

  -- goes on from the value of what stands left
  pub ev_links : Links → Value → Called → List Row → Frame → Eval Value
  ev_links NoLink v self rows f = give v
  ev_links (MoreLinks operator e links) v self rows f = do
    w ← ev e self rows f
    x ← outcome (applied operator v w)
    ev_links links x self rows f

  -- each argument is evaluated and assigned to its parameter before the next
  pub ev_args : Exprs → List SqlType → Called → List Row → Frame → Eval (List Value)
  ev_args NoExpr types self rows f = give []
  ev_args (MoreExprs e es) types self rows f = do
    v ← ev e self rows f
    x ← outcome (assigned_first types v)
    xs ← ev_args es (drop 1 types) self rows f
    give (x ∷ xs)

  -- The body is run anew, in a frame of its own. NULL among the arguments of a self-call is judged
  -- as it is at any other call.
  pub call : Routine → Called
  call (Function calls_itself parameters returns null_call body) =
      null_or null_call (call_of calls_itself no_self (λ self values w. returned returns
      (does body (start_of (null_or null_call self) no_again) (frame_of values) w)))
  call (Procedure calls_itself parameters body) = λ values. give Null

  -- the same of a procedure, which gives the values of its OUT and INOUT parameters
  pub perform : Routine → Calling
  perform (Procedure calls_itself parameters body) =
      call_of calls_itself no_again (λ again values w.
      given_back parameters (does body (start_of no_self again) (frame_of values) w))
  perform (Function calls_itself parameters returns null_call body) = λ values. give []

  -- the values of several expressions
  pub ev_all : Exprs → Called → List Row → Frame → Eval (List Value)
  ev_all NoExpr self rows f = give []
  ev_all (MoreExprs e es) self rows f = do
    v ← ev e self rows f
    vs ← ev_all es self rows f
    give (v ∷ vs)

  -- up to the first that is false; unknown where one before it is
  pub ev_and : Exprs → Value → Called → List Row → Frame → Eval Value
  ev_and NoExpr so_far self rows f = give so_far
  ev_and (MoreExprs e es) so_far self rows f = do
    v ← ev e self rows f
    if is_false v then give (Truth false)
        else ev_and es (if is_true v then so_far else Null) self rows f

  -- up to the first that is true
  pub ev_or : Exprs → Value → Called → List Row → Frame → Eval Value
  ev_or NoExpr so_far self rows f = give so_far
  ev_or (MoreExprs e es) so_far self rows f = do
    v ← ev e self rows f
    if is_true v then give (Truth true)
        else ev_or es (if is_false v then so_far else Null) self rows f

  -- the first result whose test passes
  pub ev_case : Exprs → (Value → Bool) → Called → List Row → Frame → Eval Value
  ev_case NoExpr passes self rows f = give Null
  ev_case (MoreExprs last NoExpr) passes self rows f = ev last self rows f
  ev_case (MoreExprs test (MoreExprs result arms)) passes self rows f = do
    v ← ev test self rows f
    if passes v then ev result self rows f else ev_case arms passes self rows f

  -- up to the first that is not NULL
  pub ev_coalesce : Exprs → Called → List Row → Frame → Eval Value
  ev_coalesce NoExpr self rows f = give Null
  ev_coalesce (MoreExprs e es) self rows f = do
    v ← ev e self rows f
    if is_null v then ev_coalesce es self rows f else give v

  -- whether all conjuncts are true; the first that isn't ends it
  pub holds : Exprs → Called → List Row → Frame → Eval Bool
  holds NoExpr self rows f = give true
  holds (MoreExprs e es) self rows f = do
    v ← ev e self rows f
    choose v (holds es self rows f) (give false)

  -- the rows of VALUES, in turn
  pub ev_rows : Rows → Called → List Row → Frame → Eval (List Row)
  ev_rows NoRow self rows f = give []
  ev_rows (MoreRows r rs) self rows f = do
    values ← ev_all r self rows f
    more ← ev_rows rs self rows f
    give (values ∷ more)

  -- The rows of FROM: those of a table in key order. Of a join the left list is made first, then
  -- the right one, and only then the pairs; each left row goes with the right ones in turn.
  pub from_rows : From → Called → List Row → Frame → Eval (List Row)
  from_rows (Table name) self rows f = λ w. Gives (rows_named name w.tables) w
  from_rows (Derived query) self rows f = answer query self rows f
  from_rows (Cross a b) self rows f = do
    left ← from_rows a self rows f
    right ← from_rows b self rows f
    give (pairs left right)
  from_rows (Inner a b on) self rows f = do
    left ← from_rows a self rows f
    right ← from_rows b self rows f
    each_kept (λ row. tested (holds on self (row ∷ rows) f) (give row)) (pairs left right)
  from_rows (LeftOuter a b on) self rows f = do
    left ← from_rows a self rows f
    right ← from_rows b self rows f
    (λ w. each_listed (λ l. do
      matches ← each_kept (λ r. tested (holds on self ((l ++ r) ∷ rows) f) (give (l ++ r))) right
      give (or_nulls l (from_width b (table_width w.tables)) matches)) left w)

  -- The rows of a query, by the rows of the queries around it. FROM is complete before the first
  -- row goes on: first the conjuncts, and where they are true the select list. Groups are made when
  -- the last row is evaluated; of each in turn the aggregates are finished, then come HAVING and
  -- the list.
  pub answer : Query → Called → List Row → Frame → Eval (List Row)
  answer (Select items from conjuncts) self outer f = do
    rows ← from_rows from self outer f
    each_kept (λ row. tested (holds conjuncts self (row ∷ outer) f)
        (ev_all items self (row ∷ outer) f)) rows
  answer (Grouped from conjuncts k items ags having list) self outer f = do
    rows ← from_rows from self outer f
    parts ← each_kept (λ row. tested (holds conjuncts self (row ∷ outer) f)
        (ev_all items self (row ∷ outer) f)) rows
    each_kept (λ g. do
      row ← carried (group_row (numbered k ags) g)
      tested (holds having self (row ∷ outer) f) (ev_all list self (row ∷ outer) f))
        (groups (places 0 k) parts)
  answer (Values rows) self outer f = ev_rows rows self outer f
  answer (Ordered query keys) self outer f = do
    rows ← answer query self outer f
    give (in_order keys rows)

  -- ---- statements

  -- an expression that may be left out
  pub ev_perhaps : Perhaps → Called → Frame → Eval (Option Value)
  ev_perhaps Without self f = give None
  ev_perhaps (With e) self f = do
    v ← ev e self [] f
    give (Some v)

  -- the arguments of CALL: each is evaluated and assigned to its parameter before the next
  pub argue : Arguments → List Parameter → Called → Frame → Eval (List Value)
  argue NoArgument ps self f = give []
  argue (MoreValues e more) ps self f = do
    v ← ev e self [] f
    x ← outcome (passed ps v)
    xs ← argue more (drop 1 ps) self f
    give (x ∷ xs)
  argue (MoreTargets t more) ps self f = do
    x ← outcome (passed ps (variable_of t.slot f))
    xs ← argue more (drop 1 ps) self f
    give (x ∷ xs)
  argue (MoreGiven more) ps self f = do
    xs ← argue more (drop 1 ps) self f
    give (Null ∷ xs)

  -- what a statement does
  pub does : Stmt → Context → Doing
  does (Insert name listed query) c = with_value c.scopes (λ f. do
    new ← answer query c.self [] f
    stored_in name listed new) (met c.scopes)
  does (Update name targets query) c = with_value c.scopes (λ f. do
    rows ← answer query c.self [] f
    changed name targets rows) (met c.scopes)
  does (Delete name query) c = with_value c.scopes (λ f. do
    rows ← answer query c.self [] f
    removed name rows) (met c.scopes)
  does (CallProcedure name routine args) c =
      calling c.scopes (argue args (modes_of routine) c.self) (perform routine) (targets_of args)
  does (CallItself parameters args) c =
      calling c.scopes (argue args parameters c.self) c.again (targets_of args)
  does (Compound atomic variables cursors handlers body) c =
      compound atomic c.level c.scopes (declare variables c.self) cursors
      (λ outer. handlings handlers c outer)
      (λ scopes. does_all body (inside_scopes scopes c))
  does (If branches otherwise) c = does_branches branches c (does_all otherwise c)
  does (SearchedCase branches otherwise) c = does_branches branches c (does_else otherwise c)
  does (SimpleCase e branches otherwise) c =
      with_value c.scopes (ev e c.self []) (λ x. does_matching branches x c (does_else otherwise c))
  does (Set t e) c = with_value c.scopes (λ f. do
    v ← ev e c.self [] f
    take_values (t ∷ []) (v ∷ [])) (storing (t ∷ []))
  does (SelectInto query targets) c = with_value c.scopes (λ f. do
    rows ← answer query c.self [] f
    one_row targets rows) (found c.scopes targets)
  does (Loop body) c = looping c.level at_once (does_all body (inside c)) at_once
  does (While test body) c =
      looping c.level (while_true c.scopes (ev test c.self [])) (does_all body (inside c)) at_once
  does (Repeat body test) c =
      looping c.level at_once (does_all body (inside c)) (until_true c.scopes (ev test c.self []))
  does (For query body) c = with_value c.scopes (answer query c.self [])
      (λ rows. for_each c.level rows (does_all body (inside c)))
  does (Open slot query) c =
      at_cursor slot (λ cursor. opening cursor slot c.scopes (answer query c.self []))
  does (Fetch slot targets) c = at_cursor slot (λ cursor. fetching cursor slot c.scopes targets)
  does (Close slot) c = at_cursor slot (λ cursor. closing cursor slot c.scopes)
  does (Signal state text) c = signalling state c.scopes (ev_perhaps text c.self)
  does (Resignal state text) c = resignalling c.stacked state c.scopes (ev_perhaps text c.self)
  does (GetStatementItems which reads) c =
      at_reading which c.stacked (λ r. getting_area r c.scopes reads)
  does (GetConditionItems which number reads) c =
      at_reading which c.stacked (λ r. getting_condition r c.scopes (ev number c.self []) reads)
  does (Leave outwards) c = ends (Leaving (level_of outwards c))
  does (Iterate outwards) c = ends (Iterating (level_of outwards c))
  does (Return e) c = with_value c.scopes (ev e c.self []) (λ v. ends (Returning v))

  -- in their order, as long as each ends with Next
  pub does_all : Stmts → Context → Doing
  does_all NoStmt c = ends Next
  does_all (MoreStmts s ss) c = in_turn (does s c) (does_all ss c)

  -- the statements of ELSE, without which CASE raises
  pub does_else : Stmts → Context → Doing
  does_else NoStmt c = failing c.scopes case_not_found
  does_else (MoreStmts s ss) c = in_turn (does s c) (does_all ss c)

  -- the statements of the first test that is true
  pub does_branches : Branches → Context → Doing → Doing
  does_branches NoBranch c otherwise = otherwise
  does_branches (MoreBranches test body more) c otherwise =
      with_value c.scopes (ev test c.self [])
      (λ v. choose v (does_all body c) (does_branches more c otherwise))

  -- the statements of the first value that is equal
  pub does_matching : Branches → Value → Context → Doing → Doing
  does_matching NoBranch x c otherwise = otherwise
  does_matching (MoreBranches e body more) x c otherwise =
      with_value c.scopes (ev e c.self [])
      (λ y. choose (equal_values x y) (does_all body c) (does_matching more x c otherwise))

  -- The variables of a compound statement, after those in sight. A default is a unit, and is
  -- evaluated once for all variables of its declaration.
  pub declare : Variables → Called → Frame → Eval Frame
  declare NoVariable self f = give f
  declare (MoreVariables n t Without more) self f =
      declare more self (with_more (replicate n Null) f)
  declare (MoreVariables n t (With e) more) self f = do
    v ← unit (do
      x ← ev e self [] f
      outcome (assigned t x))
    declare more self (with_more (replicate n v) f)

  -- the handlers of a compound statement, by those outside it
  pub handlings : Handlers → Context → Scopes → List Handling
  handlings NoHandler c outer = []
  handlings (MoreHandlers kind takes action more) c outer =
      record { kind = kind; takes = takes; action = λ area. does action (in_action outer area c) }
      ∷ handlings more c outer

-- what a query makes of one row of FROM: first the conjuncts, and where they are true the select
-- list
abbrev pub record_of : Exprs → Exprs → Called → List Row → Frame → Eval (Option Row)
record_of items conjuncts self rows f =
    tested (holds conjuncts self rows f) (ev_all items self rows f)

-- ---- statements of a script

-- a query that is a statement is a unit
abbrev pub ask : Query → Eval (List Row)
ask query = unit (answer query no_self [] no_frame)

-- what a statement of a script that is no CALL and no query does
abbrev pub run : Stmt → World → End
run s w = does s no_context no_frame w

-- what a CALL of a script gives: the values of the OUT and INOUT parameters
abbrev pub run_call : Routine → Arguments → Eval (List Value)
run_call routine args = do
  values ← unit (argue args (modes_of routine) no_self no_frame)
  perform routine values

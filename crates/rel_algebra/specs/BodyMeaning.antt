-- What bodies do, for given tables, by what their leaves mean. ISO/IEC 9075-4, 14 (control
-- statements), 17.2 (signal statement) and 17.3 (resignal statement), and 9075-2, 23.1 (get
-- diagnostics statement) and 15.2 (return statement).
use Rattle.std.specs.Prelude.{ℕ, suc, pos, ◌-◌, List, [], ◌∷◌, ◌++◌, length, replicate, Option}
use Rattle.std.specs.Prelude.{Some, None, Ok, Err}
use Rattle.sql_values.specs.declared.value.Value.{Value}
use Rattle.sql_values.specs.declared.value.Value.TheVariants.{Null, Int, Str}
use Rattle.sql_values.specs.declared.value.SqlType.{SqlType}
use Rattle.sql_values.specs.Casts.{assigned}
use Rattle.sql_conditions.specs.declared.condition.EngineCondition.TheVariants.{SeveralRows}
use Rattle.sql_conditions.specs.declared.condition.Condition.{Condition}
use Rattle.sql_conditions.specs.Conditions.{Area, area_of}
use Rattle.row_types.specs.Rows.{Row}
use Rattle.rel_algebra.specs.Scopes.{Inputs, Scope as Sight}
use Rattle.row_types.specs.declared.cell.Cell.{Cell}
use Rattle.rel_algebra.specs.Endings.{Ending, ◌>>=◌, after, ending_of, equal_values}
use Rattle.rel_algebra.specs.Plan.{values_of}
use Rattle.rel_algebra.specs.States.{one_condition, no_data, case_not_found, null_text}
use Rattle.rel_algebra.specs.States.{without_return, not_active, not_stacked, invalid_number}
use Rattle.rel_algebra.specs.OnConditions.{item_of, condition_numbered}
pub use Rattle.rel_algebra.specs.World.{choose}
pub use Rattle.rel_algebra.specs.Diagnostics.{or_empty, again_as}
use Rattle.rel_algebra.specs.Bodies.{word_of, Target, Perhaps, Without, With, StatementItem, Number}
use Rattle.rel_algebra.specs.Bodies.{RowCount, StatementRead, ConditionRead, Stmt, Compound, If}
use Rattle.rel_algebra.specs.Bodies.{SearchedCase, SimpleCase, Set, SelectInto, Signal, Resignal}
use Rattle.rel_algebra.specs.Bodies.{GetStatementItems, GetConditionItems, Leave, Return, Stmts}
use Rattle.rel_algebra.specs.Bodies.{NoStmt, MoreStmts, Branches, NoBranch, MoreBranches, Variables}
use Rattle.rel_algebra.specs.Bodies.{NoVariable, MoreVariables, Handlers, NoHandler, MoreHandlers}
use Rattle.rel_algebra.specs.Bodies.{Routine, Body}
use Rattle.rel_algebra.specs.BodyDoing.{Frame, Outcome, Next, Leaving, Returning, Exiting, Raising}
use Rattle.rel_algebra.specs.BodyDoing.{Doing, ends, in_turn, take_values, storing}
use Rattle.rel_algebra.specs.BodyHandlers.{Handling, Scopes, raising, with_value}
use Rattle.rel_algebra.specs.BodyCompounds.{compound}
use Rattle.rel_algebra.specs.Leaves.{ValueLeaf}

-- Where a statement stands: the handlers in sight, how many compound statements are around it, and
-- the conditions that the innermost action around it handles.
pub record Context : Type 0 where
  -- the handlers in sight
  pub scopes : Scopes
  -- how many compound statements are around it
  pub level : ℕ
  -- what the innermost action around it handles
  pub stacked : Option Area

-- the body of a function
abbrev pub no_context : Context
no_context = record { scopes = []; level = 0; stacked = None }

-- inside a compound statement, with its handlers in sight
abbrev pub inside_scopes : Scopes → Context → Context
inside_scopes scopes c = record { scopes = scopes; level = suc c.level; stacked = c.stacked }

-- an action, which sees the handlers outside its compound statement
abbrev pub in_action : Scopes → Area → ℕ → Context
in_action outer area level = record { scopes = outer; level = suc level; stacked = Some area }

-- what a body's expressions see: no row, and the variables
abbrev pub seen : Frame → Sight
seen f = record { rows = []; params = f }

-- the value of an expression in a frame
abbrev pub value_in : Inputs → ValueLeaf → Frame → Ending Value
value_in w e f = e.value w (seen f)

-- ---- SELECT INTO

-- the values of the one row, as the targets take them
abbrev pub one_row : List Target → List Row → Ending (List Value)
one_row targets [] = Err no_data
one_row targets (r ∷ []) = take_values targets r
one_row targets _ = Err (area_of SeveralRows)

-- ---- SIGNAL and RESIGNAL

-- an expression that may be left out
abbrev pub perhaps_in : Inputs → Perhaps → Frame → Ending (Option Value)
perhaps_in w Without f = Ok None
perhaps_in w (With e) f = do
  v ← value_in w e f
  Ok (Some v)

-- a text, where one is written; NULL raises
abbrev pub with_text : Scopes → Option Value → (Option (List ℕ) → Doing) → Doing
with_text scopes None go = go None
with_text scopes (Some (Str s)) go = go (Some s)
with_text scopes (Some v) go = raising scopes null_text

-- SIGNAL: one condition of a state, with its text
abbrev pub signalling : List ℕ → Scopes → (Frame → Ending (Option Value)) → Doing
signalling state scopes message =
    with_value scopes message (λ v. with_text scopes v
    (λ text. raising scopes (one_condition state (or_empty text))))

-- RESIGNAL, by the conditions that the innermost action around it handles
abbrev pub resignalling : Option Area → Option (List ℕ) → Scopes → (Frame → Ending (Option Value)) →
    Doing
resignalling None state scopes message = raising scopes not_active
resignalling (Some area) state scopes message =
    with_value scopes message (λ v. with_text scopes v
    (λ text. raising scopes (again_as state text area)))

-- ---- GET STACKED DIAGNOSTICS

-- ROW_COUNT of a stacked area is 0
abbrev pub statement_item : Area → StatementItem → Value
statement_item area Number = Int (pos (length area))
statement_item area RowCount = Int (pos 0)

-- where statement items are stored
abbrev pub statement_targets : List StatementRead → List Target
statement_targets [] = []
statement_targets (r ∷ rs) = r.target ∷ statement_targets rs

-- the items that are read
abbrev pub statement_values : Area → List StatementRead → List Value
statement_values area [] = []
statement_values area (r ∷ rs) = statement_item area r.item ∷ statement_values area rs

-- where items of a condition are stored
abbrev pub condition_targets : List ConditionRead → List Target
condition_targets [] = []
condition_targets (r ∷ rs) = r.target ∷ condition_targets rs

-- the items that are read of a condition
abbrev pub condition_values : Condition → List ConditionRead → List Value
condition_values c [] = []
condition_values c (r ∷ rs) = item_of (word_of r.item) c ∷ condition_values c rs

-- all values are converted, and then stored
abbrev pub reading_into : Scopes → List Target → List Value → Doing
reading_into scopes ts vs = with_value scopes (λ f. take_values ts vs) (storing ts)

-- GET STACKED DIAGNOSTICS of statement items
abbrev pub getting_area : Option Area → Scopes → List StatementRead → Doing
getting_area None scopes reads = raising scopes not_stacked
getting_area (Some area) scopes reads = reading_into scopes (statement_targets reads)
    (statement_values area reads)

-- the items of a condition; a number without a condition raises
abbrev pub of_condition : Option Condition → Scopes → List ConditionRead → Doing
of_condition None scopes reads = raising scopes invalid_number
of_condition (Some c) scopes reads = reading_into scopes (condition_targets reads)
    (condition_values c reads)

-- GET STACKED DIAGNOSTICS CONDITION: its number is evaluated, and then its items are read
abbrev pub getting_condition : Option Area → Scopes → (Frame → Ending Value) → List ConditionRead →
    Doing
getting_condition None scopes number reads = raising scopes not_stacked
getting_condition (Some area) scopes number reads = with_value scopes number
    (λ n. of_condition (condition_numbered n area) scopes reads)

-- The variables of a compound statement, after those in sight. A default is evaluated once for all
-- variables of its declaration.
abbrev pub declare : Variables → Inputs → Frame → Ending Frame
declare NoVariable w f = Ok f
declare (MoreVariables n t Without more) w f = declare more w (f ++ replicate n Null)
declare (MoreVariables n t (With e) more) w f = do
  x ← value_in w e f
  v ← ending_of (assigned t x)
  declare more w (f ++ replicate n v)

-- ---- the whole

abbrev mutual
  -- what a statement does
  pub does : Stmt → Inputs → Context → Doing
  does (Compound atomic variables handlers body) w c =
      compound atomic c.level c.scopes (declare variables w)
      (λ outer. handlings handlers w c.level outer)
      (λ scopes. does_all body w (inside_scopes scopes c))
  does (If branches otherwise) w c = does_branches branches w c (does_all otherwise w c)
  does (SearchedCase branches otherwise) w c = does_branches branches w c (does_else otherwise w c)
  does (SimpleCase e branches otherwise) w c = with_value c.scopes (value_in w e)
      (λ x. does_matching branches x w c (does_else otherwise w c))
  does (Set t e) w c = with_value c.scopes (λ f. do
    v ← value_in w e f
    take_values (t ∷ []) (v ∷ [])) (storing (t ∷ []))
  does (SelectInto query targets) w c = with_value c.scopes (λ f. do
    rows ← query.answer w (seen f)
    one_row targets rows) (storing targets)
  does (Signal state text) w c = signalling state c.scopes (perhaps_in w text)
  does (Resignal state text) w c = resignalling c.stacked state c.scopes (perhaps_in w text)
  does (GetStatementItems reads) w c = getting_area c.stacked c.scopes reads
  does (GetConditionItems number reads) w c = getting_condition c.stacked c.scopes
      (value_in w number) reads
  does (Leave outwards) w c = ends (Leaving (c.level - suc outwards))
  does (Return e) w c = with_value c.scopes (value_in w e) (λ v. ends (Returning v))

  -- in their order, as long as each ends with Next
  pub does_all : Stmts → Inputs → Context → Doing
  does_all NoStmt w c = ends Next
  does_all (MoreStmts s ss) w c = in_turn (does s w c) (does_all ss w c)

  -- the statements of ELSE, without which CASE raises
  pub does_else : Stmts → Inputs → Context → Doing
  does_else NoStmt w c = raising c.scopes case_not_found
  does_else (MoreStmts s ss) w c = in_turn (does s w c) (does_all ss w c)

  -- the statements of the first test that is true
  pub does_branches : Branches → Inputs → Context → Doing → Doing
  does_branches NoBranch w c otherwise = otherwise
  does_branches (MoreBranches test body more) w c otherwise =
      with_value c.scopes (value_in w test) (λ v. choose v (does_all body w c)
      (does_branches more w c otherwise))

  -- the statements of the first value that is equal
  pub does_matching : Branches → Value → Inputs → Context → Doing → Doing
  does_matching NoBranch x w c otherwise = otherwise
  does_matching (MoreBranches e body more) x w c otherwise =
      with_value c.scopes (value_in w e) (λ y. choose (equal_values x y) (does_all body w c)
      (does_matching more x w c otherwise))

  -- the handlers of a compound statement at a level, by those outside it
  pub handlings : Handlers → Inputs → ℕ → Scopes → List Handling
  handlings NoHandler w level outer = []
  handlings (MoreHandlers kind takes action more) w level outer =
      record {
        kind = kind;
        takes = takes;
        action = λ area. does action w
            (in_action outer area level);
      } ∷ handlings more w level outer

-- a function's value is assigned to its type when the body has ended
abbrev pub returned_or : SqlType → Outcome → Ending Value
returned_or t (Returning v) = ending_of (assigned t v)
returned_or t (Raising area) = Err area
returned_or t Next = Err without_return
returned_or t (Leaving l) = Err without_return
returned_or t (Exiting l area) = Err without_return

-- a call, with the values that the parameters took
abbrev pub call : Routine → List Value → Inputs → Ending Value
call (Body types returns body) values w = returned_or returns
    (does body w no_context values).outcome

-- what a call gives for cells of arguments
abbrev pub called_with : Routine → Inputs → List Cell → Ending Value
called_with r w cs = after (values_of cs) (λ vs. call r vs w)

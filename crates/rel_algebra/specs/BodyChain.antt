-- A body as one chain: each statement becomes steps, by how its leaves are planned.
use Rattle.std.specs.Prelude.{ℕ, zero, suc, ◌+◌, ◌-◌, nat_eq, Bool, true, false, if◌then◌else◌}
use Rattle.std.specs.Prelude.{◌||◌, List, [], ◌∷◌, ◌++◌, length, replicate, codes as text, Option}
use Rattle.std.specs.Prelude.{Some, None}
use Rattle.sql_values.specs.declared.value.Value.TheVariants.{Null, Str, Bool as Truth}
use Rattle.sql_values.specs.declared.value.SqlType.{SqlType}
use Rattle.sql_values.specs.declared.operators.Comparison.TheVariants.{Equals}
use Rattle.rel_algebra.specs.Tree.{Assign, Cast, Comparing, NullTest, Opposite}
use Rattle.rel_algebra.specs.Joins.{places}
use Rattle.rel_algebra.specs.Emissions.{Emitted, Folded, plain, width, joined_nodes, all_values}
use Rattle.rel_algebra.specs.Emissions.{if_values, assigning, asked_where}
use Rattle.rel_algebra.specs.Environments.{Place, at, nowhere, Env as Reading, outward, read}
use Rattle.rel_algebra.specs.Plan.{and_word, coalesce_word}
use Rattle.rel_algebra.specs.Plan.{Scalar, Scalars, constant, column, argument, word, none, more}
use Rattle.rel_algebra.specs.Plan.{case_word, single, strict, on_condition, Nodes, no_node}
use Rattle.rel_algebra.specs.Plan.{extend_by, apply_by, into, aggregate, PlanTree, unit_row, extend}
use Rattle.rel_algebra.specs.Plan.{keep, anew}
use Rattle.rel_algebra.specs.OnConditions.{ItemWord, state_item, number_word, item_word, push_word}
use Rattle.rel_algebra.specs.OnConditions.{retext_word, raise_word}
use Rattle.rel_algebra.specs.Bodies.{word_of, Target, HandlerType, Perhaps, Without, With}
use Rattle.rel_algebra.specs.Bodies.{StatementItem, Number, RowCount, StatementRead, ConditionRead}
use Rattle.rel_algebra.specs.Bodies.{Stmt, Compound, If, SearchedCase, SimpleCase, Set, SelectInto}
use Rattle.rel_algebra.specs.Bodies.{Signal, Resignal, GetStatementItems, GetConditionItems, Leave}
use Rattle.rel_algebra.specs.Bodies.{Return, Stmts, NoStmt, MoreStmts, Branches, NoBranch}
use Rattle.rel_algebra.specs.Bodies.{MoreBranches, Variables, NoVariable, MoreVariables, Handlers}
use Rattle.rel_algebra.specs.Bodies.{NoHandler, MoreHandlers, Routine, Body, parameters_of}
use Rattle.rel_algebra.specs.BodyCompounds.{scopes_in}
use Rattle.rel_algebra.specs.Leaves.{ValueLeaf, QueryLeaf, Widths}
use Rattle.rel_algebra.specs.BodyMeaning.{statement_targets, condition_targets}
use Rattle.rel_algebra.specs.BodySteps.{Step, grow, fat, tag, col, only, two, case_of, code_is}
use Rattle.rel_algebra.specs.BodySteps.{Store, store, acts, jump, steps_tree}
use Rattle.rel_algebra.specs.BodyDispatch.{Env, Emit, Coded, Codes, count, area_in, scope_arms}
use Rattle.rel_algebra.specs.BodyDispatch.{judging, raising_to, store_if, dispatch, action_env}
use Rattle.rel_algebra.specs.BodyDispatch.{whatever, scope_actions, joins, handled}

-- ---- reading

-- where a slot is read
abbrev pub place_at : List ℕ → ℕ → Place
place_at [] x = nowhere
place_at (c ∷ cs) zero = at 0 c
place_at (c ∷ cs) (suc x) = place_at cs x

-- where it is stored; a slot that is not there at a column that is not there
abbrev pub column_at : ℕ → List ℕ → ℕ → ℕ
column_at n [] x = n
column_at n (c ∷ cs) zero = c
column_at n (c ∷ cs) (suc x) = column_at n cs x

-- the variables in sight, as expressions read them
abbrev pub reading : Env → Reading
reading env = record { columns = λ d i. nowhere; params = place_at env.columns }

-- an expression, over a row of n columns
abbrev pub emitted : ValueLeaf → Widths → Env → ℕ → Emitted
emitted e S env n = e.emitted S (reading env) n

-- nodes, and one column more
abbrev pub with_column : Nodes → Scalar → Nodes
with_column nodes s = joined_nodes nodes (extend_by (only s) no_node)

-- columns, and after them whether all of some are values
abbrev pub with_columns : Nodes → Scalars → List ℕ → Nodes
with_columns nodes ss is = joined_nodes nodes
    (extend_by ss (extend_by (only (all_values is)) no_node))

-- the columns from p on into the targets, where column t is a value
abbrev pub target_stores : List Target → Env → ℕ → ℕ → ℕ → List Store
target_stores [] env n t p = []
target_stores (x ∷ ts) env n t p = store_if t p (column_at n env.columns x.slot) ∷ target_stores ts
    env n t (suc p)

-- ---- statements of one step, and what handles what they raise

-- nodes that make column p the last
abbrev pub one_step : Codes → Env → ℕ → ℕ → ℕ → Nodes → ℕ → Scalar → List Store → List Step
one_step codes env here next n pre p goes stores =
    acts here pre (suc p) (judging goes codes env next here p stores) n [] ∷ handled codes env here
    next (next + count codes) n

-- SET: the value, as its target takes it
abbrev pub emit_set : Target → ValueLeaf → Widths → Codes → Emit
emit_set t e S codes env here next n =
    let a = emitted e S env n in let p = width a.nodes n in
    one_step codes env here next n (with_column a.nodes (assigning t.data_type a.scalar)) p
    (tag here)
    (store_if p p (column_at n env.columns t.slot) ∷ [])

-- a return is at code 0
abbrev pub emit_return : ValueLeaf → Widths → Codes → Emit
emit_return e S codes env here next n =
    let a = emitted e S env n in let p = width a.nodes n in
    one_step codes env here next n (with_column a.nodes a.scalar) p (tag 0) (store_if p p 1 ∷ [])

-- columns from p on, as targets take them
abbrev pub assigns : List Target → ℕ → Scalars
assigns [] p = none
assigns (t ∷ ts) p = more (assigning t.data_type (col p)) (assigns ts (suc p))

-- the same, where all of some columns are values
abbrev pub assigns_if : List ℕ → List Target → ℕ → Scalars
assigns_if is [] p = none
assigns_if is (t ∷ ts) p = more (if_values is (assigning t.data_type (col p)))
    (assigns_if is ts (suc p))

-- A query of aggregates alone is folded, as everywhere, so that its Apply can be removed: its list
-- is evaluated whole, and then assigned.
abbrev pub into_folded : Folded → List Target → Codes → Emit
into_folded a targets codes env here next n =
    let k = length targets in let c = a.list n in let p = width c.nodes (n + length a.aggregates) in
    let t = (p + k) + k in
    one_step codes env here next n
    (apply_by (constant (Truth true)) (aggregate a.aggregates) anew a.input
    (joined_nodes c.nodes (extend_by c.scalars
    (with_columns no_node (assigns_if (n ∷ places p k) targets p) (places (p + k) k))))) t
    (tag here)
    (target_stores targets env n t (p + k))

-- a query that is asked for its one row, whose cells are assigned
abbrev pub into_asked : PlanTree → List Target → Codes → Emit
into_asked inner targets codes env here next n =
    let k = length targets in let p = n + k in let t = p + k in
    one_step codes env here next n
    (apply_by (constant (Truth true)) (into k) anew inner
    (with_columns no_node (assigns targets n) (places p k))) t (tag here)
    (target_stores targets env n t p)

-- by whether it is folded
abbrev pub into_by : Option Folded → PlanTree → List Target → Codes → Emit
into_by None inner targets codes = into_asked inner targets codes
into_by (Some a) inner targets codes = into_folded a targets codes

-- SELECT INTO
abbrev pub emit_into : QueryLeaf → List Target → Widths → Codes → Emit
emit_into query targets S codes env here next n = into_by (query.folded S (reading env))
    (query.plan S (reading env)) targets codes env here next n

-- ---- what raises in any case

-- nodes that make column p, an area, which goes its way from a code
abbrev pub raising_step : Codes → Env → ℕ → ℕ → ℕ → ℕ → Nodes → ℕ → Step
raising_step codes env from here base n pre p = acts from pre (suc p)
    (raising_to codes env base here p) n []

-- the same as a whole statement, and what handles it
abbrev pub one_raise : Codes → Env → ℕ → ℕ → ℕ → Nodes → ℕ → List Step
one_raise codes env here next n pre p = raising_step codes env here here next n pre p ∷ handled
    codes env here next (next + count codes) n

-- a new condition of a state, with a text, before the area of c
abbrev pub push : List ℕ → Scalar → Scalar → Scalar
push state text c = word (on_condition (push_word state)) (two text c)

-- a text
abbrev pub text_of : List ℕ → Scalar
text_of s = constant (Str s)

-- one condition of the engine's own
abbrev pub pushing : List ℕ → List ℕ → Scalar
pushing state message = push state (text_of message) (constant Null)

-- an expression, and the empty text where there is none
abbrev pub perhaps_emitted : Perhaps → Widths → Env → ℕ → Emitted
perhaps_emitted Without S env n = plain (text_of [])
perhaps_emitted (With e) S env n = emitted e S env n

-- SIGNAL
abbrev pub emit_signal : List ℕ → Perhaps → Widths → Codes → Emit
emit_signal state text S codes env here next n =
    let a = perhaps_emitted text S env n in let p = width a.nodes n in
    one_raise codes env here next n (with_column a.nodes (push state a.scalar (constant Null))) p

-- the handled area, in column c, again
abbrev pub again : Option (List ℕ) → Perhaps → Scalar → ℕ → Scalar
again None Without s c = word (on_condition raise_word) (only (col c))
again None (With e) s c = word (on_condition retext_word) (two s (col c))
again (Some state) text s c = push state s (col c)

-- RESIGNAL outside of an action
abbrev pub not_active_cell : Scalar
not_active_cell = pushing (text "0K000") (text "resignal when handler not active")

-- GET STACKED DIAGNOSTICS outside of an action
abbrev pub not_stacked_cell : Scalar
not_stacked_cell = pushing (text "0Z002") (text "stacked diagnostics without handler")

-- CASE without ELSE, and no test is true
abbrev pub case_not_found_cell : Scalar
case_not_found_cell = pushing (text "20000") (text "case not found")

-- the function ends without RETURN
abbrev pub without_return_cell : Scalar
without_return_cell = pushing (text "2F005") (text "function ended without RETURN")

-- RESIGNAL, by the column of the handled area
abbrev pub emit_again : Option ℕ → Option (List ℕ) → Perhaps → Widths → Codes → Emit
emit_again None state words S codes env here next n = one_raise codes env here next n
    (with_column no_node not_active_cell) n
emit_again (Some c) state words S codes env here next n =
    let a = perhaps_emitted words S env n in let p = width a.nodes n in
    one_raise codes env here next n (with_column a.nodes (again state words a.scalar c)) p

-- ---- GET STACKED DIAGNOSTICS, of the area in column c

-- NUMBER and ROW_COUNT; that of a stacked area is 0
abbrev pub statement_cell : StatementItem → ℕ → Scalar
statement_cell Number c = word (on_condition number_word) (only (col c))
statement_cell RowCount c = tag 0

-- the same for each target, assigned
abbrev pub statement_cells : List StatementRead → ℕ → Scalars
statement_cells [] c = none
statement_cells (r ∷ rs) c = more (assigning r.target.data_type (statement_cell r.item c))
    (statement_cells rs c)

-- GET STACKED DIAGNOSTICS of statement items
abbrev pub emit_statement_items : Option ℕ → List StatementRead → Codes → Emit
emit_statement_items None reads codes env here next n = one_raise codes env here next n
    (with_column no_node not_stacked_cell) n
emit_statement_items (Some c) reads codes env here next n =
    let k = length reads in
    one_step codes env here next n (with_columns no_node (statement_cells reads c) (places n k))
    (n + k) (tag here)
    (target_stores (statement_targets reads) env n (n + k) n)

-- of the condition whose number stands in column i
abbrev pub item_cell : ItemWord → ℕ → ℕ → Scalar
item_cell item i c = word (on_condition (item_word item)) (two (col i) (col c))

-- the items for each target, assigned
abbrev pub condition_cells : List ConditionRead → ℕ → ℕ → Scalars
condition_cells [] i c = none
condition_cells (r ∷ rs) i c = more (assigning r.target.data_type (item_cell (word_of r.item) i c))
    (condition_cells rs i c)

-- the first item is asked for in any case, so that a number that is not there raises
abbrev pub emit_condition_items : Option ℕ → ValueLeaf → List ConditionRead → Widths → Codes → Emit
emit_condition_items None number reads S codes env here next n = one_raise codes env here next n
    (with_column no_node not_stacked_cell) n
emit_condition_items (Some c) number reads S codes env here next n =
    let a = emitted number S env n in let i = width a.nodes n in let k = suc (length reads) in
    one_step codes env here next n
    (with_columns (with_column a.nodes a.scalar)
    (more (item_cell state_item i c) (condition_cells reads i c)) (places (suc i) k)) (suc i + k)
    (tag here)
    (target_stores (condition_targets reads) env n (suc i + k) (suc (suc i)))

-- ---- tests

-- Steps from one code, which go on at another; what they raise goes to codes from base on; their
-- own begin after those.
abbrev pub Rest : Type 0
Rest = Env → ℕ → ℕ → ℕ → ℕ → ℕ → List Step

-- statements, and then on at here
abbrev pub and_on : Emit → Rest
and_on body env from here base free n = body env from free n ++ jump from here n ∷ []

-- a test, the statements that it chooses, and what else follows
abbrev pub branching : (Env → ℕ → Emitted) → Codes → Emit → Rest → Rest
branching test codes body rest env from here base free n =
    let a = test env n in let p = width a.nodes n in
    acts from (with_column a.nodes a.scalar) (suc p)
    (judging (case_of (col p) (tag free) (tag (suc free))) codes env base here p []) n []
    ∷ (body env free (suc (suc free)) n ++ jump free here n ∷ rest env (suc free) here base
    (suc (suc free)) n)

-- where no test is true, CASE raises
abbrev pub not_found : Codes → Rest
not_found codes env from here base free n = raising_step codes env from here base n
    (with_column no_node case_not_found_cell) n ∷ []

-- IF, and CASE with tests
abbrev pub tested : Codes → Rest → Emit
tested codes rest env here next n =
    let free = next + count codes in rest env here here next free n ++ handled codes env here next
    free n

-- CASE with an operand, which stands in column n until its end
abbrev pub compared_with : ValueLeaf → Widths → Codes → (ℕ → Rest) → Emit
compared_with e S codes rest env here next n =
    let a = emitted e S env n in let p = width a.nodes n in let start = next + count codes in
    let free = suc start in
    acts here (with_column a.nodes a.scalar) (suc p) (judging (tag start) codes env next here p [])
    n (p ∷ [])
    ∷ (rest n env start here next free (suc n) ++ fat no_node (places 0 n) ∷ handled codes env here
    next free n)

-- equal to the operand, in column x
abbrev pub equal_to : ℕ → Emitted → Emitted
equal_to x a = record {
  nodes = a.nodes;
  scalar = word (strict (Comparing Equals))
      (two (col x) a.scalar);
}

-- ---- compound statements

-- another number at one place
abbrev pub set_at : (ℕ → ℕ) → ℕ → ℕ → ℕ → ℕ
set_at f k to n = if nat_eq n k then to else f n

-- k variables more, in the columns from n on
abbrev pub with_variables : Env → ℕ → ℕ → Env
with_variables env n k = record {
  columns = env.columns ++ places n k;
  labels = env.labels;
  exits = env.exits;
  out = env.out;
  stacked = env.stacked;
  level = env.level;
}

-- the code of its handlers at the level of a compound statement that has some
abbrev pub exits_in : List Coded → (ℕ → ℕ) → ℕ → ℕ → ℕ → ℕ
exits_in [] exits level exit = exits
exits_in (h ∷ hs) exits level exit = set_at exits level exit

-- what an ATOMIC compound statement raises goes to a code of its own
abbrev pub out_in : Bool → ℕ → ℕ → ℕ
out_in true sealing out = sealing
out_in false sealing out = out

-- the statements of a compound statement whose variables are declared
abbrev pub inside : Bool → List Coded → Env → ℕ → ℕ → ℕ → Env
inside atomic own env here exit sealing = record {
  columns = env.columns;
  labels = set_at env.labels env.level here;
  exits = exits_in own env.exits env.level exit;
  out = out_in atomic sealing env.out;
  stacked = env.stacked;
  level = suc env.level;
}

-- what its actions at its end see: it is left for no handler of its own again
abbrev pub ending_env : Bool → Env → ℕ → ℕ → Env
ending_env atomic env here sealing = record {
  columns = env.columns;
  labels = set_at env.labels env.level here;
  exits = env.exits;
  out = out_in atomic sealing env.out;
  stacked = env.stacked;
  level = env.level;
}

-- a handler of the compound statement that ends has a code of its own, whatever its kind
abbrev pub its_own : HandlerType → ℕ → ℕ
its_own kind i = i

-- at its end: the area is in column 2, and the actions have codes from first on
abbrev pub ending : List Coded → Env → ℕ → ℕ → ℕ → ℕ → List Step
ending [] env exit first free n = []
ending (h ∷ hs) env exit first free n =
    acts exit no_node n (store 0 (word case_word
    (scope_arms its_own (h ∷ hs) first 2 (only (tag (env.exits env.level))))) ∷ []) n []
    ∷ grow (only (col 2))
    ∷ scope_actions whatever (h ∷ hs) (action_env env env.level (length env.columns) n) first free
    (suc n)

-- one column more where there are handlers
abbrev pub ending_width : List Coded → ℕ → ℕ
ending_width [] n = n
ending_width (h ∷ hs) n = suc n

-- what an ATOMIC one raises goes out to the handlers in sight
abbrev pub sealed_step : Bool → Codes → Env → ℕ → ℕ → ℕ → ℕ → List Step
sealed_step true codes env sealing here base n =
    acts sealing no_node n (store 0 (word case_word (dispatch codes env base here 2)) ∷ []) n []
    ∷ []
sealed_step false codes env sealing here base n = []

-- what is raised as a whole, where it can be, and what handles it
abbrev pub whole_raise : Bool → Bool → Codes → Env → ℕ → ℕ → ℕ → ℕ → ℕ → List Step
whole_raise true atomic codes env sealing here base free n = sealed_step atomic codes env sealing
    here base n ++ handled codes env here base free n
whole_raise false atomic codes env sealing here base free n = []

-- By whether it is ATOMIC, whether it may raise as a whole, the handlers in sight, its declarations
-- and how many variables they make, its handlers and its statements. Codes from next on: what it
-- raises as a whole; it is sealed; it is left for its handlers; it runs; these act at its end.
abbrev pub compounded : Bool → Bool → Codes → Rest → ℕ → List Coded → (Codes → Emit) → Emit
compounded atomic whole codes declares k own body env here next n =
    let sealing = next + count codes in let exit = suc sealing in let runs = suc exit in let first =
    suc runs in let free = first + length own in
    let m = n + k in let within = with_variables env n k in
    let inner : Codes = record {
      handlers = own;
      level = env.level;
      variables =
          length within.columns;
    } ∷ scopes_in atomic codes in
    jump here runs n
    ∷ (declares env runs here next free n
    ++ (body inner (inside atomic own within here exit sealing) runs free m
    ++ (ending own (ending_env atomic within here sealing) exit first free m
    ++ joins runs (suc (length own)) here (ending_width own m) n
    ∷ whole_raise whole atomic codes env sealing here next free n)))

-- how many variables declarations make
abbrev pub variable_count : Variables → ℕ
variable_count NoVariable = 0
variable_count (MoreVariables k t default others) = k + variable_count others

-- whether there is an expression
abbrev pub is_given : Perhaps → Bool
is_given Without = false
is_given (With e) = true

-- whether one has a default, which may raise
abbrev pub has_default : Variables → Bool
has_default NoVariable = false
has_default (MoreVariables k t default others) = is_given default || has_default others

-- NULL, and what a target of a type takes, each of the type's kind: so no column ever changes its
-- kind
abbrev pub null_of : SqlType → Scalar
null_of t = word (strict (Cast t)) (only (constant Null))

-- what a target of a type takes
abbrev pub assigned_as : SqlType → Scalar → Scalar
assigned_as t s = word (strict (Assign t)) (only s)

-- k columns of NULL
abbrev pub null_scalars : SqlType → ℕ → Scalars
null_scalars t zero = none
null_scalars t (suc k) = more (null_of t) (null_scalars t k)

-- a default is evaluated once
abbrev pub declared : Perhaps → ℕ → SqlType → Widths → Codes → Env → ℕ → ℕ → ℕ → ℕ → Step
declared Without k t S codes env from here base n = grow (null_scalars t k)
declared (With e) k t S codes env from here base n =
    let a = emitted e S env n in let p = width a.nodes n in
    acts from (with_column a.nodes (assigned_as t a.scalar)) (suc p)
    (judging (tag from) codes env base here p []) n (replicate k p)

-- declarations, each on the columns of those before it
abbrev pub emit_declares : Variables → Widths → Codes → Rest
emit_declares NoVariable S codes = λ env from here base free n. []
emit_declares (MoreVariables k t default others) S codes = λ env from here base free n.
    declared default k t S codes env from here base n ∷ emit_declares others S codes
    (with_variables env n k) from here base free (n + k)

-- ---- all statements

abbrev mutual
  -- a statement
  pub emit : Stmt → Widths → Codes → Emit
  emit (Compound atomic variables handlers body) S codes =
      compounded atomic (atomic || has_default variables) codes (emit_declares variables S codes)
      (variable_count variables)
      (coded handlers S (scopes_in atomic codes)) (emit_all body S)
  emit (If branches otherwise) S codes = tested codes
      (emit_branches branches S codes (and_on (emit_all otherwise S codes)))
  emit (SearchedCase branches otherwise) S codes = tested codes
      (emit_branches branches S codes (emit_else otherwise S codes))
  emit (SimpleCase e branches otherwise) S codes = compared_with e S codes
      (λ x. emit_matching branches x S codes (emit_else otherwise S codes))
  emit (Set t e) S codes = emit_set t e S codes
  emit (SelectInto query targets) S codes = emit_into query targets S codes
  emit (Signal state text) S codes = emit_signal state text S codes
  emit (Resignal state text) S codes = λ env here next n. emit_again env.stacked state text S codes
      env here next n
  emit (GetStatementItems reads) S codes = λ env here next n. emit_statement_items env.stacked reads
      codes env here next n
  emit (GetConditionItems number reads) S codes = λ env here next n. emit_condition_items
      env.stacked number reads S codes env here next n
  emit (Leave outwards) S codes = λ env here next n. jump here
      (env.labels (env.level - suc outwards)) n ∷ []
  emit (Return e) S codes = emit_return e S codes

  -- statements in order
  pub emit_all : Stmts → Widths → Codes → Emit
  emit_all NoStmt S codes = λ env here next n. []
  emit_all (MoreStmts s ss) S codes = λ env here next n. emit s S codes env here next n ++ emit_all
      ss S codes env here next n

  -- the statements of ELSE, without which CASE raises
  pub emit_else : Stmts → Widths → Codes → Rest
  emit_else NoStmt S codes = not_found codes
  emit_else (MoreStmts s ss) S codes = and_on
      (λ env here next n. emit s S codes env here next n ++ emit_all ss S codes env here next n)

  -- tests with their statements
  pub emit_branches : Branches → Widths → Codes → Rest → Rest
  emit_branches NoBranch S codes otherwise = otherwise
  emit_branches (MoreBranches test body others) S codes otherwise =
      branching (emitted test S) codes (emit_all body S codes)
      (emit_branches others S codes otherwise)

  -- what column x is compared with, with their statements
  pub emit_matching : Branches → ℕ → Widths → Codes → Rest → Rest
  emit_matching NoBranch x S codes otherwise = otherwise
  emit_matching (MoreBranches e body others) x S codes otherwise =
      branching (λ env n. equal_to x (emitted e S env n)) codes (emit_all body S codes)
      (emit_matching others x S codes otherwise)

  -- the handlers of a compound statement, by those outside it
  pub coded : Handlers → Widths → Codes → List Coded
  coded NoHandler S outer = []
  coded (MoreHandlers kind takes action others) S outer =
      record { kind = kind; takes = takes; action = emit action S outer } ∷ coded others S outer

-- ---- the function

-- with k parameters; a return is at code 0, what nothing takes at 1, and at 2 the labels and levels
-- that are not there
abbrev pub top : ℕ → Env
top k = record {
  columns = places 3 k;
  labels = λ l. 2;
  exits = λ l. 2;
  out = 1;
  stacked = None;
  level = 0;
}

-- the area in column 2, which is no value
abbrev pub raised_area : Scalar
raised_area = word case_word (two (area_in 2) (constant Null))

-- what the function returns: the value as its type takes it, the area, or that there was no RETURN
abbrev pub last_cell : SqlType → Scalar
last_cell returns =
    word case_word (more (code_is 0) (more (assigning returns (col 1))
    (more (code_is 1) (more raised_area (only without_return_cell)))))

-- the code, what is returned, the area in flight, and the parameters
abbrev pub first_cells : SqlType → Scalars → Scalars
first_cells returns params = more (tag 3) (more (null_of returns)
    (more (constant (Truth false)) params))

-- the parameters are read once, by these scalars
abbrev pub inline_with : Routine → Widths → Scalars → PlanTree
inline_with (Body types returns body) S params =
    let n = 3 + length types in
    keep (n ∷ []) (extend (only (last_cell returns))
    (steps_tree (emit body S [] (top (length types)) 3 4 n)
    (extend (first_cells returns params) unit_row)))

-- k arguments from i on
abbrev pub arguments : ℕ → ℕ → Scalars
arguments i zero = none
arguments i (suc k) = more (argument i) (arguments (suc i) k)

-- the same, its parameters the arguments of the whole plan
abbrev pub inline : Routine → Widths → PlanTree
inline (Body types returns body) S = inline_with (Body types returns body) S
    (arguments 0 (length types))

-- the columns from i on of the row outside
abbrev pub outer_columns : ℕ → ℕ → Scalars
outer_columns i zero = none
outer_columns i (suc k) = more (column 1 i) (outer_columns (suc i) k)

-- the plan of a function as a region, which reads its parameters from the k columns from m on of
-- the row outside
abbrev pub region : Routine → Widths → ℕ → ℕ → PlanTree
region r S m k = inline_with r S (outer_columns m k)

-- the same value, as one of a type where it is NULL
abbrev pub of_type : SqlType → Scalar → Scalar
of_type t s = word coalesce_word (two s (null_of t))

-- Parameters of these types from the i-th on, as an environment has them, read from a row further
-- in. NULL alone has no kind, so that a parameter is read as one of its type.
abbrev pub read_outward : Reading → ℕ → List SqlType → Scalars
read_outward e i [] = none
read_outward e i (t ∷ ts) =
    more (of_type t (read (outward (e.params i)))) (read_outward e (suc i) ts)

-- what a call of a function emits whose parameters an environment has: an Apply of its plan as a
-- region, which is run where this scalar is TRUE
abbrev pub called_where : Scalar → Routine → Widths → Reading → ℕ → Emitted
called_where when r S e n = asked_where when single
    (inline_with r S (read_outward e 0 (parameters_of r))) n

-- of a function that is called on NULL too
abbrev pub called_body : Routine → Widths → Reading → ℕ → Emitted
called_body = called_where (constant (Truth true))

-- whether what stands at a place is not NULL
abbrev pub known : Place → Scalar
known p = word (strict Opposite) (only (word (strict NullTest) (only (read p))))

-- the same of each parameter of these types, from the i-th on
abbrev pub knowns : Reading → ℕ → List SqlType → Scalars
knowns e i [] = none
knowns e i (t ∷ ts) = more (known (e.params i)) (knowns e (suc i) ts)

-- whether no parameter is NULL
abbrev pub all_known : Reading → List SqlType → Scalar
all_known e [] = constant (Truth true)
all_known e (t ∷ ts) = word and_word (knowns e 0 (t ∷ ts))

-- Of a function that returns NULL on NULL input: its body is run where no parameter is NULL. 10.4
-- (routine invocation)
abbrev pub known_body : Routine → Widths → Reading → ℕ → Emitted
known_body r S e n = called_where (all_known e (parameters_of r)) r S e n

-- The plan of a query.
use Rattle.std.specs.Prelude.{ℕ, zero, suc, ◌+◌, Bool, true, false, List, [], ◌∷◌, ◌++◌, length}
use Rattle.std.specs.Prelude.{Option, Some, None, drop, ◌||◌}
use Rattle.sql_values.specs.declared.value.Value.TheVariants.{Null}
use Rattle.sql_values.specs.declared.value.SqlType.{SqlType}
use Rattle.sql_values.specs.declared.value.SqlType.TheVariants.{Varchar}
use Rattle.sql_values.specs.declared.operators.Comparison.TheVariants.{Equals}
use Rattle.rel_algebra.specs.Tree.{Arithmetic, Comparing, Expr, Literal, Column, Variable, Chain}
use Rattle.rel_algebra.specs.Tree.{Operate, And, Or, Case, CaseOf, Coalesce, In, Exists, Single}
use Rattle.rel_algebra.specs.Tree.{Call, CallSelf, Links, NoLink, MoreLinks, Exprs, NoExpr}
use Rattle.rel_algebra.specs.Tree.{MoreExprs, Routine, Returned, Rows, NoRow, MoreRows, From, Table}
use Rattle.rel_algebra.specs.Tree.{Derived, Cross, Inner, LeftOuter, Query, Select, Grouped, Values}
use Rattle.rel_algebra.specs.Tree.{Ordered, parameters_of, Function, Perhaps, Without, With}
use Rattle.rel_algebra.specs.Tree.{Variables, NoVariable, MoreVariables, Stmt, Compound, If}
use Rattle.rel_algebra.specs.Tree.{SearchedCase, SimpleCase, Set, SelectInto, Signal, Resignal}
use Rattle.rel_algebra.specs.Tree.{GetStatementItems, GetConditionItems, Leave, Return, Stmts}
use Rattle.rel_algebra.specs.Tree.{NoStmt, MoreStmts, Branches, NoBranch, MoreBranches, Handlers}
use Rattle.rel_algebra.specs.Tree.{NoHandler, MoreHandlers}
use Rattle.rel_algebra.specs.Plain.{answer, ev}
use Rattle.rel_algebra.specs.Bodies as body
use Rattle.rel_algebra.specs.BodyChain.{called_body, known_body}
use Rattle.rel_algebra.specs.Leaves.{QueryLeaf, ValueLeaf}
use Rattle.rel_algebra.specs.Joins.{places, numbered, rows_width, from_width}
pub use Rattle.rel_algebra.specs.Plan.{scalar_count}
use Rattle.rel_algebra.specs.Plan.{strict, and_word, or_word, case_word, coalesce_word, constant}
use Rattle.rel_algebra.specs.Plan.{word, none, more, single, exists, PlanTree, unit_row, scan}
use Rattle.rel_algebra.specs.Plan.{filter, keep, cross, left_outer, settle, group, sort}
pub use Rattle.rel_algebra.specs.Environments.{Place, at, given, nowhere, read, outward, below, Env}
pub use Rattle.rel_algebra.specs.Environments.{columns_within, entered, passed, lifted, top}
pub use Rattle.rel_algebra.specs.Environments.{folded_columns, folded_env}
pub use Rattle.rel_algebra.specs.Emissions.{Emitted, EmittedAll, joined_nodes, width, plain}
pub use Rattle.rel_algebra.specs.Emissions.{no_scalar, word_on, first_and, then_columns, asked}
pub use Rattle.rel_algebra.specs.Emissions.{asked_member, checks, all_values, if_values, assigning}
pub use Rattle.rel_algebra.specs.Emissions.{assigning_first, assigning_in, checks_of, if_all}
pub use Rattle.rel_algebra.specs.Emissions.{Folded, first_value, row_stands, folding, ask}
pub use Rattle.rel_algebra.specs.Emissions.{folded_member, ask_member, against, against_on, called}
pub use Rattle.rel_algebra.specs.Emissions.{called_region, truths, all_true, filters, filters_width}
pub use Rattle.rel_algebra.specs.Emissions.{with_place, own_places, listed_by, listed, selected}
pub use Rattle.rel_algebra.specs.Emissions.{nulls, singly, numbers, list_nodes, else_arms}
pub use Rattle.rel_algebra.specs.Emissions.{either_of, either_all, chosen, several, is_plain}
pub use Rattle.rel_algebra.specs.Emissions.{all_plain, scalars_of, values_plan}

-- whether the next target may refuse what it is given
abbrev pub may_refuse : List SqlType → Bool
may_refuse (Varchar n ∷ types) = true
may_refuse _ = false

-- neither a literal nor a name
abbrev pub computed : Expr → Bool
computed (Literal v) = false
computed (Column d i) = false
computed (Variable i) = false
computed _ = true

-- a place in front, where it is wanted
abbrev pub place_if : Bool → ℕ → List ℕ → List ℕ
place_if true i is = i ∷ is
place_if false i is = is

-- the columns from m on of those arguments that may raise: what is computed, and what its parameter
-- may refuse
abbrev pub raising : Exprs → List SqlType → ℕ → List ℕ
raising NoExpr types m = []
raising (MoreExprs x es) types m =
    place_if (may_refuse types || computed x) m (raising es (drop 1 types) (suc m))

-- A conjunct `name = column` is read as `column = name`.
abbrev pub turned : Place → Place → Emitted
turned own other = plain (word (strict (Comparing Equals))
    (more (read own) (more (read other) none)))

-- a conjunct that compares a column with a name from outside: the two places, and whether the name
-- is a column's
pub record Key : Type 0 where
  -- the column of the row itself
  pub own : Place
  -- the name from outside
  pub other : Place
  -- whether that is a column
  pub of_column : Bool

-- a key whose name is the column j of the d-th query outwards
abbrev pub column_key : Env → ℕ → ℕ → ℕ → Key
column_key e i d j = record {
  own = e.columns zero i;
  other = e.columns (suc d) j;
  of_column = true;
}

-- a key whose name is the parameter j
abbrev pub param_key : Env → ℕ → ℕ → Key
param_key e i j = record { own = e.columns zero i; other = e.params j; of_column = false }

-- the key that a conjunct is, where it is `column = name` or `name = column`
abbrev pub key_of : Expr → Env → Option Key
key_of (Operate (Comparing Equals)
    (MoreExprs (Column zero i) (MoreExprs (Column (suc d) j) NoExpr))) e = Some (column_key e i d j)
key_of (Operate (Comparing Equals)
    (MoreExprs (Column (suc d) j) (MoreExprs (Column zero i) NoExpr))) e = Some (column_key e i d j)
key_of (Operate (Comparing Equals) (MoreExprs (Column zero i) (MoreExprs (Variable j) NoExpr))) e =
    Some (param_key e i j)
key_of (Operate (Comparing Equals) (MoreExprs (Variable j) (MoreExprs (Column zero i) NoExpr))) e =
    Some (param_key e i j)
key_of _ e = None

-- Such conjuncts raise nothing, so they may wait. Those whose names are parameters come first, and
-- then those whose names are columns: so the Filters that use outer columns stand in one run,
-- whether parameters are arguments of the plan or columns of a row outside it.
pub record Waiting : Type 0 where
  -- whose names are parameters
  pub params : List Emitted
  -- whose names are columns of rows outside
  pub columns : List Emitted

-- no conjunct waits
abbrev pub none_waits : Waiting
none_waits = record { params = []; columns = [] }

-- the conjuncts that wait, in the order in which they are emitted
abbrev pub all_waiting : Waiting → List Emitted
all_waiting p = p.params ++ p.columns

-- with one more whose name is a parameter
abbrev pub one_param : Emitted → Waiting → Waiting
one_param t p = record { params = p.params ++ t ∷ []; columns = p.columns }

-- with one more whose name is a column of a row outside
abbrev pub one_column : Emitted → Waiting → Waiting
one_column t p = record { params = p.params; columns = p.columns ++ t ∷ [] }

-- a name that reads NULL needs no row outside
abbrev pub key_step : Bool → Place → Emitted → (Waiting → ℕ → List Emitted) → Waiting → ℕ →
    List Emitted
key_step true (at level i) t rest pending n = rest (one_column t pending) n
key_step true (given i) t rest pending n = t ∷ rest pending n
key_step true nowhere t rest pending n = t ∷ rest pending n
key_step false (at level i) t rest pending n = rest (one_param t pending) n
key_step false (given i) t rest pending n = rest (one_param t pending) n
key_step false nowhere t rest pending n = t ∷ rest pending n

-- the rest emits the other conjuncts, from those that wait and the width
abbrev pub test_step : Option Key → Emitted → (Waiting → ℕ → List Emitted) → Waiting → ℕ →
    List Emitted
test_step None a rest pending n = all_waiting pending ++ a ∷ rest none_waits (width a.nodes n)
test_step (Some key) a rest pending n =
    key_step key.of_column key.other (turned key.own key.other) rest pending n

abbrev mutual
  -- an expression, by the numbers of columns of the tables, the environment and the width of the
  -- row. 6.25 (value expression)
  pub emit : Expr → (List ℕ → ℕ) → Env → ℕ → Emitted
  emit (Literal v) S e n = plain (constant v)
  emit (Column d i) S e n = plain (read (e.columns d i))
  emit (Variable i) S e n = plain (read (e.params i))
  emit (Chain x links) S e n = emit_links links (emit x S e n) S e n
  emit (Operate op es) S e n = word_on (strict op) (emit_all es S e n)
  emit (And es) S e n = word_on and_word (emit_all es S e n)
  emit (Or es) S e n = word_on or_word (emit_all es S e n)
  emit (Case arms) S e n = word_on case_word (emit_all arms S e n)
  emit (CaseOf x test result arms) S e n =
      then_columns (singly (emit x S e n)) (λ p k. against_on p
      (first_and (emit test S e (suc p)) (λ m. first_and (emit result S e m) (emit_all arms S e) m)
      (suc p))) n
  emit (Coalesce es) S e n = word_on coalesce_word (emit_all es S e n)
  emit (In x q) S e n = ask_member (folded q S e) (emit x S e n) (plan q S e) n
  emit (Exists q) S e n = ask (folded q S e) exists row_stands (plan q S e) n
  emit (Single q) S e n = ask (folded q S e) single first_value (plan q S e) n
  emit (Call name r es) S e n =
      then_columns (emit_args es (parameters_of r) S e n)
      (λ m k. called (raising es (parameters_of r) m) (emit_body r S (passed m k) (m + k))) n
  -- no planned expression calls the function in which it stands
  emit (CallSelf types es) S e n = plain (constant Null)

  -- goes on from what stands left, on a row of n columns
  pub emit_links : Links → Emitted → (List ℕ → ℕ) → Env → ℕ → Emitted
  emit_links NoLink a S e n = a
  emit_links (MoreLinks operator x links) a S e n =
      emit_links links (word_on (strict (Arithmetic operator))
      (first_and a (λ m. singly (emit x S e m)) n)) S e n

  -- expressions, from left to right
  pub emit_all : Exprs → (List ℕ → ℕ) → Env → ℕ → EmittedAll
  emit_all NoExpr S e n = no_scalar
  emit_all (MoreExprs x es) S e n = first_and (emit x S e n) (emit_all es S e) n

  -- each as its parameter takes it
  pub emit_args : Exprs → List SqlType → (List ℕ → ℕ) → Env → ℕ → EmittedAll
  emit_args NoExpr types S e n = no_scalar
  emit_args (MoreExprs x es) types S e n =
      first_and (assigning_in types (emit x S e n)) (emit_args es (drop 1 types) S e) n

  -- the rows of VALUES, each on the row that the one before leaves. 7.3 (table value constructor)
  pub emit_rows : Rows → (List ℕ → ℕ) → Env → ℕ → List EmittedAll
  emit_rows NoRow S e n = []
  emit_rows (MoreRows es rows) S e n = let a = emit_all es S e n in
      a ∷ emit_rows rows S e (width a.nodes n)

  -- As the result's type takes it; of a block, an Apply of its plan as a region, under the test of
  -- its parameters where it returns NULL on NULL input.
  pub emit_body : Routine → (List ℕ → ℕ) → Env → ℕ → Emitted
  emit_body (Returned types returns x) S e n = assigning_in (returns ∷ []) (emit x S e n)
  emit_body (Function false types returns false statement) S e n =
      called_body (body.Body types returns (stmt_body statement)) S e n
  emit_body (Function false types returns true statement) S e n =
      known_body (body.Body types returns (stmt_body statement)) S e n
  -- no planned expression calls another routine
  emit_body _ S e n = plain (constant Null)

  -- an expression that may be left out, as a leaf of a body: what it means, and its plan
  pub perhaps_body : Perhaps → body.Perhaps
  perhaps_body Without = body.Without
  perhaps_body (With x) =
      body.With (record { value = λ w f. ev x w f; emitted = λ S e n. emit x S e n })

  -- declarations over such leaves
  pub variables_body : Variables → body.Variables
  variables_body NoVariable = body.NoVariable
  variables_body (MoreVariables k t default others) =
      body.MoreVariables k t (perhaps_body default) (variables_body others)

  -- a statement in form over its expressions and queries
  pub stmt_body : Stmt → body.Stmt
  stmt_body (Compound atomic variables cursors handlers statements) =
      body.Compound atomic (variables_body variables) (handlers_body handlers)
      (stmts_body statements)
  stmt_body (If branches otherwise) = body.If (branches_body branches) (stmts_body otherwise)
  stmt_body (SearchedCase branches otherwise) =
      body.SearchedCase (branches_body branches) (stmts_body otherwise)
  stmt_body (SimpleCase x branches otherwise) =
      body.SimpleCase (record { value = λ w f. ev x w f; emitted = λ S e n. emit x S e n })
      (branches_body branches) (stmts_body otherwise)
  stmt_body (Set t x) =
      body.Set t (record { value = λ w f. ev x w f; emitted = λ S e n. emit x S e n })
  stmt_body (SelectInto q targets) = body.SelectInto (record {
    answer = λ w f. answer q w f;
    plan = λ S e. plan q S e;
    folded = λ S e. folded q S e;
  }) targets
  stmt_body (Signal state text) = body.Signal state (perhaps_body text)
  stmt_body (Resignal state text) = body.Resignal state (perhaps_body text)
  stmt_body (GetStatementItems area reads) = body.GetStatementItems reads
  stmt_body (GetConditionItems area number reads) = body.GetConditionItems
      (record { value = λ w f. ev number w f; emitted = λ S e n. emit number S e n }) reads
  stmt_body (Leave outwards) = body.Leave outwards
  stmt_body (Return x) =
      body.Return (record { value = λ w f. ev x w f; emitted = λ S e n. emit x S e n })
  -- no other statement is in form
  stmt_body _ = body.Leave 0

  -- statements in order
  pub stmts_body : Stmts → body.Stmts
  stmts_body NoStmt = body.NoStmt
  stmts_body (MoreStmts s ss) = body.MoreStmts (stmt_body s) (stmts_body ss)

  -- tests or values with their statements
  pub branches_body : Branches → body.Branches
  branches_body NoBranch = body.NoBranch
  branches_body (MoreBranches test statements others) =
      body.MoreBranches (record { value = λ w f. ev test w f; emitted = λ S e n. emit test S e n })
      (stmts_body statements) (branches_body others)

  -- the handlers of a compound statement
  pub handlers_body : Handlers → body.Handlers
  handlers_body NoHandler = body.NoHandler
  handlers_body (MoreHandlers kind takes action others) =
      body.MoreHandlers kind takes (stmt_body action) (handlers_body others)

  -- the conjuncts of WHERE, ON or HAVING, with those that wait. 7.12 (where clause)
  pub emit_tests : Exprs → (List ℕ → ℕ) → Env → Waiting → ℕ → List Emitted
  emit_tests NoExpr S e pending n = all_waiting pending
  emit_tests (MoreExprs x es) S e pending n =
      test_step (key_of x e) (emit x S e n) (emit_tests es S e) pending n

  -- the environment is that of the rows outside
  pub plan : Query → (List ℕ → ℕ) → Env → PlanTree
  plan (Select items from tests) S e =
      let n = from_width from S in let within = entered e n in
      selected (emit_tests tests S within none_waits) (emit_all items S within) n
      (from_plan from S e)
  plan (Grouped from tests k items ags having list) S e =
      let n = from_width from S in let within = entered e n in let m = k + length ags in
      let group_within = entered e m in
      selected (emit_tests having S group_within none_waits) (emit_all list S group_within) m
      (filter (all_values (places k (length ags))) (group (places 0 k) (numbered k ags)
      (selected (emit_tests tests S within none_waits) (emit_all items S within) n
      (from_plan from S e))))
  plan (Values rows) S e = values_plan (rows_width rows) (emit_rows rows S (lifted e) 0)
      (emit_rows rows S (lifted e) 1)
  plan (Ordered q keys) S e = sort keys (plan q S e)

  -- the query as one that is folded, where it is of aggregates alone. 7.13 (group by clause)
  pub folded : Query → (List ℕ → ℕ) → Env → Option Folded
  folded (Grouped from tests zero items (a ∷ ags) NoExpr list) S e =
      let n = from_width from S in let within = entered e n in let m = suc (length ags) in
      Some (record {
        input = selected (emit_tests tests S within none_waits) (emit_all items S within) n
            (from_plan from S e);
        aggregates = numbered 0 (a ∷ ags);
        list = λ p. emit_all list S (folded_env e p m) (p + m);
      })
  folded _ S e = None

  -- the plan of a FROM. 7.6 (table reference) and 7.10 (joined table)
  pub from_plan : From → (List ℕ → ℕ) → Env → PlanTree
  from_plan (Table name) S e = scan name (S name)
  from_plan (Derived q) S e = settle (plan q S e)
  from_plan (Cross a b) S e = cross (from_plan a S e) (from_plan b S e)
  from_plan (Inner a b on) S e =
      let n = from_width a S + from_width b S in
      settle (keep (places 0 n) (filters (emit_tests on S (entered e n) none_waits n)
      (cross (from_plan a S e) (from_plan b S e))))
  from_plan (LeftOuter a b on) S e =
      let n = from_width a S + from_width b S in let c = emit_all on S (entered e n) n in
      left_outer c.nodes (all_true c.scalars) (from_width b S) (from_plan a S e) (from_plan b S e)

-- The plan of a function, by itself: one row of one cell, its parameters the arguments.
abbrev pub routine_plan : Routine → (List ℕ → ℕ) → PlanTree
routine_plan r S = listed (singly (emit_body r S (top (length (parameters_of r))) 0)) 0 unit_row

-- the leaf that an expression is in a body
abbrev pub value_leaf : Expr → ValueLeaf
value_leaf x = record { value = λ w f. ev x w f; emitted = λ S e n. emit x S e n }

-- the leaf that a query is
abbrev pub query_leaf : Query → QueryLeaf
query_leaf q = record {
  answer = λ w f. answer q w f;
  plan = λ S e. plan q S e;
  folded = λ S e. folded q S e;
}

-- Kinds of values, of columns and of scalars; and plans in which each operand has the kind that it
-- is wanted to have. NULL fits each kind.
use Rattle.std.specs.Prelude.{◌≡◌, ℕ, zero, suc, ◌&&◌, Bool, true, false, List, [], ◌∷◌, ◌++◌}
use Rattle.std.specs.Prelude.{length, replicate, drop}
use Rattle.sql_values.specs.declared.value.Value.{Value}
use Rattle.sql_values.specs.declared.value.Value.TheVariants.{Int, Null, Str, Bool as Truth}
use Rattle.sql_values.specs.declared.value.SqlType.{SqlType}
use Rattle.sql_values.specs.declared.value.SqlType.TheVariants.{Integer, Varchar, Boolean}
use Rattle.sql_values.specs.declared.operators.Operator.{Operator}
use Rattle.sql_values.specs.declared.operators.Operator.TheVariants.{Concatenate}
use Rattle.rel_algebra.specs.Emit.{plan, top}
use Rattle.rel_algebra.specs.Joins.{numbered, places, rows_width}
use Rattle.rel_algebra.specs.Plain.{all_even}
use Rattle.rel_algebra.specs.Plan.{Kind, Nodes, PlanTree, Scalar, Scalars, Word, aggregate}
use Rattle.rel_algebra.specs.Plan.{and_word, apply, apply_by, argument, case_word, coalesce_word}
use Rattle.rel_algebra.specs.Plan.{column, constant, cross, exists, extend, extend_by, filter}
use Rattle.rel_algebra.specs.Plan.{group, keep, left_outer, member, more, no_node, none, or_word}
use Rattle.rel_algebra.specs.Plan.{scan, settle, single, sort, strict, unit_row, values, word, Way}
use Rattle.rel_algebra.specs.Plan.{anew, once, lookup, other_places, into, on_condition}
use Rattle.rel_algebra.specs.Tree.{Aggregate, And, AnyOf, Arithmetic, Assign, Avg, Call, CallSelf}
use Rattle.rel_algebra.specs.Tree.{Case, CaseOf, Cast, Chain, CharLength, Coalesce, Column}
use Rattle.rel_algebra.specs.Tree.{Comparing, Count, Cross, Derived, Exists, Expr, Exprs, FalseTest}
use Rattle.rel_algebra.specs.Tree.{From, Returned, Grouped, In, Inner, LeftOuter, Links, Literal}
use Rattle.rel_algebra.specs.Tree.{Max, Min, Modulo, MoreExprs, MoreLinks, MoreRows, Negation}
use Rattle.rel_algebra.specs.Tree.{NoExpr, NoLink, NoRow, NullTest, Operate, Operation, Opposite}
use Rattle.rel_algebra.specs.Tree.{Or, Ordered, Query, Routine, Rows, Select, Single, Substring}
use Rattle.rel_algebra.specs.Tree.{Sum, Table, TrueTest, Values, Variable, parameters_of}
use Rattle.rel_algebra.specs.Tree.{Function, Target, Perhaps, Without, With, Variables, NoVariable}
use Rattle.rel_algebra.specs.Tree.{MoreVariables, Stmt, Compound, If, SearchedCase, SimpleCase, Set}
use Rattle.rel_algebra.specs.Tree.{SelectInto, Signal, Resignal, GetStatementItems}
use Rattle.rel_algebra.specs.Tree.{GetConditionItems, Leave, Return, Stmts, NoStmt, MoreStmts}
use Rattle.rel_algebra.specs.Tree.{Branches, NoBranch, MoreBranches, Handlers, NoHandler}
use Rattle.rel_algebra.specs.Tree.{MoreHandlers}
use Rattle.rel_algebra.specs.BodyMeaning.{statement_targets, condition_targets}
use Rattle.rel_algebra.specs.OnConditions.{ConditionWord, catch_word, matches_word, class_word}
use Rattle.rel_algebra.specs.OnConditions.{number_word, item_word, push_word, retext_word}
use Rattle.rel_algebra.specs.OnConditions.{raise_word}

-- the kind of a value: NULL's, or one of the three data types
pub data DataKind : Type 0 where
  NullKind : DataKind
  IntegerKind : DataKind
  TextKind : DataKind
  BooleanKind : DataKind

-- the kinds of a row's columns
abbrev pub Kinds : Type 0
Kinds = List DataKind

-- the kind of a value
abbrev pub value_kind : Value → DataKind
value_kind Null = NullKind
value_kind (Int n) = IntegerKind
value_kind (Str s) = TextKind
value_kind (Truth b) = BooleanKind

-- of one kind, where NULL fits each
abbrev pub agree : DataKind → DataKind → Bool
agree NullKind b = true
agree IntegerKind NullKind = true
agree IntegerKind IntegerKind = true
agree IntegerKind _ = false
agree TextKind NullKind = true
agree TextKind TextKind = true
agree TextKind _ = false
agree BooleanKind NullKind = true
agree BooleanKind BooleanKind = true
agree BooleanKind _ = false

-- the kind of what may be one or the other. 9.5 (result of data type combinations)
abbrev pub joined_kind : DataKind → DataKind → DataKind
joined_kind NullKind b = b
joined_kind IntegerKind b = IntegerKind
joined_kind TextKind b = TextKind
joined_kind BooleanKind b = BooleanKind

-- the kind of the i-th column
abbrev pub kind_at : Kinds → ℕ → DataKind
kind_at [] i = NullKind
kind_at (k ∷ ks) zero = k
kind_at (k ∷ ks) (suc i) = kind_at ks i

-- the kinds of the i-th row outwards
abbrev pub kinds_row : List Kinds → ℕ → Kinds
kinds_row [] i = []
kinds_row (r ∷ rs) zero = r
kinds_row (r ∷ rs) (suc i) = kinds_row rs i

-- the kinds of the columns at these places
abbrev pub kinds_at : Kinds → List ℕ → Kinds
kinds_at r [] = []
kinds_at r (i ∷ is) = kind_at r i ∷ kinds_at r is

-- of the values of a type
abbrev pub type_kind : SqlType → DataKind
type_kind Integer = IntegerKind
type_kind (Varchar n) = TextKind
type_kind Boolean = BooleanKind

-- of both operands of an operator, and of what it gives
abbrev pub operator_kind : Operator → DataKind
operator_kind Concatenate = TextKind
operator_kind _ = IntegerKind

-- ---- words

-- the kind of what an operation gives. 6.13, 6.27, 6.28, 6.32, 6.39, 8.2, 8.4 and 8.8
abbrev pub op_kind : Operation → DataKind
op_kind Negation = IntegerKind
op_kind (Arithmetic operator) = operator_kind operator
op_kind (Comparing comparison) = BooleanKind
op_kind Modulo = IntegerKind
op_kind CharLength = IntegerKind
op_kind Substring = TextKind
op_kind (Cast t) = type_kind t
op_kind (Assign t) = type_kind t
op_kind Opposite = BooleanKind
op_kind NullTest = BooleanKind
op_kind TrueTest = BooleanKind
op_kind FalseTest = BooleanKind
op_kind AnyOf = BooleanKind

-- each of a kind, where NULL fits each
abbrev pub all_agree : DataKind → Kinds → Bool
all_agree k [] = true
all_agree k (j ∷ ks) = agree k j && all_agree k ks

-- a value of a kind may be cast to a type of another, but for numbers and truth values
abbrev pub castable : DataKind → DataKind → Bool
castable IntegerKind BooleanKind = false
castable BooleanKind IntegerKind = false
castable _ _ = true

-- Operands of the kinds that an operation wants. Over another number of them than it takes it gives
-- NULL, and wants nothing. 6.13, 6.27, 6.28, 6.32, 6.39, 8.2, 8.4 and 8.8
abbrev pub op_good : Operation → Kinds → Bool
op_good Negation (a ∷ []) = agree a IntegerKind
op_good (Arithmetic operator) (a ∷ b ∷ []) =
    agree a (operator_kind operator) && agree b (operator_kind operator)
op_good (Comparing comparison) (a ∷ b ∷ []) = agree a b
op_good Modulo (a ∷ b ∷ []) = agree a IntegerKind && agree b IntegerKind
op_good CharLength (a ∷ []) = agree a TextKind
op_good Substring (a ∷ from ∷ []) = agree a TextKind && agree from IntegerKind
op_good Substring (a ∷ from ∷ count ∷ []) =
    agree a TextKind && (agree from IntegerKind && agree count IntegerKind)
op_good (Cast t) (a ∷ []) = castable a (type_kind t)
op_good (Assign t) (a ∷ []) = agree a (type_kind t)
op_good Opposite (a ∷ []) = agree a BooleanKind
op_good NullTest (a ∷ []) = true
op_good TrueTest (a ∷ []) = agree a BooleanKind
op_good FalseTest (a ∷ []) = agree a BooleanKind
op_good AnyOf (x ∷ ks) = all_agree x ks
op_good _ _ = true

-- each is a truth value. 6.39 (boolean value expression)
abbrev pub tests_good : Kinds → Bool
tests_good [] = true
tests_good (k ∷ ks) = agree k BooleanKind && tests_good ks

-- of tests and results in turn
abbrev pub results_kind : Kinds → DataKind
results_kind [] = NullKind
results_kind (last ∷ []) = last
results_kind (test ∷ result ∷ ks) = joined_kind result (results_kind ks)

-- tests that are truth values, and results of one kind. 6.12 (case expression)
abbrev pub case_good : Kinds → Bool
case_good [] = true
case_good (last ∷ []) = true
case_good (test ∷ result ∷ ks) =
    agree test BooleanKind && (agree result (results_kind ks) && case_good ks)

-- the tests are compared with an operand
abbrev pub against_good : DataKind → Kinds → Bool
against_good k [] = true
against_good k (last ∷ []) = true
against_good k (test ∷ result ∷ ks) =
    agree k test && (agree result (results_kind ks) && against_good k ks)

-- the kind of the first that is a value. 6.12 (case expression), COALESCE
abbrev pub all_kind : Kinds → DataKind
all_kind [] = NullKind
all_kind (k ∷ ks) = joined_kind k (all_kind ks)

-- all of one kind, where NULL fits each
abbrev pub all_good : Kinds → Bool
all_good [] = true
all_good (k ∷ ks) = agree k (all_kind ks) && all_good ks

-- what raises in any case fits each kind
abbrev pub condition_kind : ConditionWord → Kinds → DataKind
condition_kind catch_word ks = kind_at ks 0
condition_kind (matches_word v) ks = BooleanKind
condition_kind (class_word class) ks = BooleanKind
condition_kind number_word ks = IntegerKind
condition_kind (item_word item) ks = TextKind
condition_kind (push_word state) ks = NullKind
condition_kind retext_word ks = kind_at ks 1
condition_kind raise_word ks = kind_at ks 0

-- operands of the kinds that a word on conditions wants
abbrev pub condition_good : ConditionWord → Kinds → Bool
condition_good catch_word (c ∷ []) = true
condition_good (matches_word v) (c ∷ []) = true
condition_good (class_word class) (c ∷ []) = true
condition_good number_word (c ∷ []) = true
condition_good (item_word item) (n ∷ c ∷ []) = agree n IntegerKind
condition_good (push_word state) (s ∷ c ∷ []) = agree s TextKind
condition_good retext_word (s ∷ c ∷ []) = agree s TextKind
condition_good raise_word (c ∷ []) = true
condition_good _ _ = false

-- the kind of what a word gives
abbrev pub word_kind : Word → Kinds → DataKind
word_kind (strict op) ks = op_kind op
word_kind and_word ks = BooleanKind
word_kind or_word ks = BooleanKind
word_kind case_word ks = results_kind ks
word_kind coalesce_word ks = all_kind ks
word_kind (on_condition w) ks = condition_kind w ks

-- operands of the kinds that a word wants
abbrev pub word_good : Word → Kinds → Bool
word_good (strict op) ks = op_good op ks
word_good and_word ks = tests_good ks
word_good or_word ks = tests_good ks
word_good case_word ks = case_good ks
word_good coalesce_word ks = all_good ks
word_good (on_condition w) ks = condition_good w ks

-- the kind of a finished aggregate. 10.9 (aggregate function)
abbrev pub aggregate_kind : Aggregate → DataKind → DataKind
aggregate_kind Count k = IntegerKind
aggregate_kind Sum k = IntegerKind
aggregate_kind Avg k = IntegerKind
aggregate_kind Min k = k
aggregate_kind Max k = k

-- an argument of the kind that an aggregate wants. 10.9 (aggregate function)
abbrev pub aggregate_good : Aggregate → DataKind → Bool
aggregate_good Count k = true
aggregate_good Sum k = agree k IntegerKind
aggregate_good Avg k = agree k IntegerKind
aggregate_good Min k = true
aggregate_good Max k = true

-- the kinds of finished aggregates, over rows of these kinds
abbrev pub aggregate_kinds : List (Aggregate × ℕ) → Kinds → Kinds
aggregate_kinds [] r = []
aggregate_kinds (a ∷ ags) r = aggregate_kind a.0 (kind_at r a.1) ∷ aggregate_kinds ags r

-- the same of several aggregates
abbrev pub aggregates_good : List (Aggregate × ℕ) → Kinds → Bool
aggregates_good [] r = true
aggregates_good (a ∷ ags) r = aggregate_good a.0 (kind_at r a.1) && aggregates_good ags r

-- Scalars, on rows of these kinds, the row itself first, and arguments of these.
abbrev mutual
  -- the kind of a scalar, in sight of rows of these kinds and arguments of these
  pub scalar_kind : Scalar → List Kinds → Kinds → DataKind
  scalar_kind (constant v) ks ps = value_kind v
  scalar_kind (column level i) ks ps = kind_at (kinds_row ks level) i
  scalar_kind (argument i) ks ps = kind_at ps i
  scalar_kind (word w ss) ks ps = word_kind w (scalars_kinds ss ks ps)

  -- the kinds of several scalars
  pub scalars_kinds : Scalars → List Kinds → Kinds → Kinds
  scalars_kinds none ks ps = []
  scalars_kinds (more s ss) ks ps = scalar_kind s ks ps ∷ scalars_kinds ss ks ps

abbrev mutual
  -- a scalar in which each operand has the kind that it is wanted to have
  pub scalar_good : Scalar → List Kinds → Kinds → Bool
  scalar_good (constant v) ks ps = true
  scalar_good (column level i) ks ps = true
  scalar_good (argument i) ks ps = true
  scalar_good (word w ss) ks ps = scalars_good ss ks ps && word_good w (scalars_kinds ss ks ps)

  -- the same of several scalars
  pub scalars_good : Scalars → List Kinds → Kinds → Bool
  scalars_good none ks ps = true
  scalars_good (more s ss) ks ps = scalar_good s ks ps && scalars_good ss ks ps

-- such a scalar, which gives a truth value
abbrev pub is_test : Scalar → List Kinds → Kinds → Bool
is_test s ks ps = scalar_good s ks ps && agree (scalar_kind s ks ps) BooleanKind

-- column by column
abbrev pub join_kinds : Kinds → Kinds → Kinds
join_kinds (a ∷ ks) (b ∷ js) = joined_kind a b ∷ join_kinds ks js
join_kinds _ _ = []

-- two rows, column by column of one kind
abbrev pub agree_all : Kinds → Kinds → Bool
agree_all (a ∷ ks) (b ∷ js) = agree a b && agree_all ks js
agree_all _ _ = true

-- the kinds of the columns of a Values
abbrev pub lists_kinds : List Scalars → List Kinds → Kinds → Kinds
lists_kinds [] ks ps = []
lists_kinds (ss ∷ []) ks ps = scalars_kinds ss ks ps
lists_kinds (ss ∷ other ∷ lists) ks ps =
    join_kinds (scalars_kinds ss ks ps) (lists_kinds (other ∷ lists) ks ps)

-- lists of a Values that agree, each of them good
abbrev pub lists_good : List Scalars → List Kinds → Kinds → Bool
lists_good [] ks ps = true
lists_good (ss ∷ []) ks ps = scalars_good ss ks ps
lists_good (ss ∷ other ∷ lists) ks ps =
    scalars_good ss ks ps && (agree_all (scalars_kinds ss ks ps) (lists_kinds (other ∷ lists) ks ps)
    && lists_good (other ∷ lists) ks ps)

-- the columns that are judged
abbrev pub found_kinds : Way → Kinds → Kinds
found_kinds anew r = r
found_kinds once r = r
found_kinds (lookup keys) r = kinds_at r (other_places keys 0 (length r))

-- a key column and what it is compared with are of one kind
abbrev pub keys_good : List (ℕ × Scalar) → Kinds → List Kinds → Kinds → Bool
keys_good [] r ks ps = true
keys_good (k ∷ keys) r ks ps =
    (scalar_good k.1 ks ps && agree (kind_at r k.0) (scalar_kind k.1 ks ps))
    && keys_good keys r ks ps

-- keys of a Lookup that are compared with scalars of their kind
abbrev pub way_good : Way → Kinds → List Kinds → Kinds → Bool
way_good anew r ks ps = true
way_good once r ks ps = true
way_good (lookup keys) r ks ps = keys_good keys r ks ps

-- the kinds of what an Apply adds, by those of its inner plan
abbrev pub apply_kinds : Kind → Kinds → Kinds
apply_kinds single r = kind_at r 0 ∷ []
apply_kinds exists r = BooleanKind ∷ []
apply_kinds (member s) r = BooleanKind ∷ []
apply_kinds (aggregate ags) r = aggregate_kinds ags r
apply_kinds (into n) r = kinds_at r (places 0 n)

-- what an Apply judges has the kind that this way of judging wants
abbrev pub kind_good : Kind → Kinds → List Kinds → Kinds → Bool
kind_good single r ks ps = true
kind_good exists r ks ps = true
kind_good (member s) r ks ps = scalar_good s ks ps && agree (scalar_kind s ks ps) (kind_at r 0)
kind_good (aggregate ags) r ks ps = aggregates_good ags r
kind_good (into n) r ks ps = true

-- the columns of a plan for tables of these kinds, under rows outside of these
abbrev mutual
  -- the kinds of a plan's columns, by those of the tables, of the rows outside and of the arguments
  pub tree_kinds : PlanTree → (List ℕ → Kinds) → List Kinds → Kinds → Kinds
  tree_kinds unit_row T ks ps = []
  tree_kinds (scan name n) T ks ps = T name
  tree_kinds (values lists) T ks ps = lists_kinds lists ([] ∷ ks) ps
  tree_kinds (extend ss input) T ks ps =
      tree_kinds input T ks ps ++ scalars_kinds ss (tree_kinds input T ks ps ∷ ks) ps
  tree_kinds (apply when kind way inner input) T ks ps =
      tree_kinds input T ks ps ++ apply_kinds kind
      (found_kinds way (tree_kinds inner T (tree_kinds input T ks ps ∷ ks) ps))
  tree_kinds (filter s input) T ks ps = tree_kinds input T ks ps
  tree_kinds (keep is input) T ks ps = kinds_at (tree_kinds input T ks ps) is
  tree_kinds (cross a b) T ks ps = tree_kinds a T ks ps ++ tree_kinds b T ks ps
  tree_kinds (left_outer nodes s n a b) T ks ps = tree_kinds a T ks ps ++ tree_kinds b T ks ps
  tree_kinds (settle input) T ks ps = tree_kinds input T ks ps
  tree_kinds (group keys ags input) T ks ps =
      kinds_at (tree_kinds input T ks ps) keys ++ aggregate_kinds ags (tree_kinds input T ks ps)
  tree_kinds (sort keys input) T ks ps = tree_kinds input T ks ps

  -- the kinds of a row after a run of nodes
  pub nodes_kinds : Nodes → (List ℕ → Kinds) → Kinds → List Kinds → Kinds → Kinds
  nodes_kinds no_node T r ks ps = r
  nodes_kinds (extend_by ss rest) T r ks ps =
      nodes_kinds rest T (r ++ scalars_kinds ss (r ∷ ks) ps) ks ps
  nodes_kinds (apply_by when kind way inner rest) T r ks ps =
      nodes_kinds rest T (r ++ apply_kinds kind (found_kinds way (tree_kinds inner T (r ∷ ks) ps)))
      ks ps

abbrev mutual
  -- a plan in which each operand has the kind that it is wanted to have
  pub tree_good : PlanTree → (List ℕ → Kinds) → List Kinds → Kinds → Bool
  tree_good unit_row T ks ps = true
  tree_good (scan name n) T ks ps = true
  tree_good (values lists) T ks ps = lists_good lists ([] ∷ ks) ps
  tree_good (extend ss input) T ks ps = scalars_good ss (tree_kinds input T ks ps ∷ ks) ps
      && tree_good input T ks ps
  tree_good (apply when kind way inner input) T ks ps =
      (is_test when (tree_kinds input T ks ps ∷ ks) ps
      && (way_good way (tree_kinds inner T (tree_kinds input T ks ps ∷ ks) ps)
      (tree_kinds input T ks ps ∷ ks) ps
      && kind_good kind (found_kinds way (tree_kinds inner T (tree_kinds input T ks ps ∷ ks) ps))
      (tree_kinds input T ks ps ∷ ks) ps))
      && (tree_good inner T (tree_kinds input T ks ps ∷ ks) ps && tree_good input T ks ps)
  tree_good (filter s input) T ks ps =
      is_test s (tree_kinds input T ks ps ∷ ks) ps && tree_good input T ks ps
  tree_good (keep is input) T ks ps = tree_good input T ks ps
  tree_good (cross a b) T ks ps = tree_good a T ks ps && tree_good b T ks ps
  tree_good (left_outer nodes s n a b) T ks ps =
      (nodes_good nodes T (tree_kinds a T ks ps ++ tree_kinds b T ks ps) ks ps
      && is_test s (nodes_kinds nodes T (tree_kinds a T ks ps ++ tree_kinds b T ks ps) ks ps
      ∷ ks) ps)
      && (tree_good a T ks ps && tree_good b T ks ps)
  tree_good (settle input) T ks ps = tree_good input T ks ps
  tree_good (group keys ags input) T ks ps =
      aggregates_good ags (tree_kinds input T ks ps) && tree_good input T ks ps
  tree_good (sort keys input) T ks ps = tree_good input T ks ps

  -- the same of a run of nodes
  pub nodes_good : Nodes → (List ℕ → Kinds) → Kinds → List Kinds → Kinds → Bool
  nodes_good no_node T r ks ps = true
  nodes_good (extend_by ss rest) T r ks ps =
      scalars_good ss (r ∷ ks) ps && nodes_good rest T (r ++ scalars_kinds ss (r ∷ ks) ps) ks ps
  nodes_good (apply_by when kind way inner rest) T r ks ps =
      (is_test when (r ∷ ks) ps && (way_good way (tree_kinds inner T (r ∷ ks) ps) (r ∷ ks) ps
      && kind_good kind (found_kinds way (tree_kinds inner T (r ∷ ks) ps)) (r ∷ ks) ps))
      && (tree_good inner T (r ∷ ks) ps
      && nodes_good rest T (r ++ apply_kinds kind
      (found_kinds way (tree_kinds inner T (r ∷ ks) ps))) ks ps)

-- ---- queries, in sight of rows of these kinds, the innermost first, and parameters of these

-- the kinds of a group's row: its grouping columns, and then its finished aggregates. 7.13 (group
-- by clause)
abbrev pub group_kinds : ℕ → List Aggregate → Kinds → Kinds
group_kinds k ags r = kinds_at r (places 0 k) ++ aggregate_kinds (numbered k ags) r

-- the kind of what a target of a type takes of a value of this kind
abbrev pub assigned_kind : SqlType → DataKind → DataKind
assigned_kind (Varchar n) k = TextKind
assigned_kind _ k = k

-- only a text is cut
abbrev pub takes : SqlType → DataKind → Bool
takes (Varchar n) k = agree k TextKind
takes _ k = true

-- the same for the next of several targets; with no target left, each kind stands
abbrev pub first_kind : List SqlType → DataKind → DataKind
first_kind [] k = k
first_kind (t ∷ types) k = assigned_kind t k

-- and whether it takes the kind
abbrev pub first_takes : List SqlType → DataKind → Bool
first_takes [] k = true
first_takes (t ∷ types) k = takes t k

-- arguments of these kinds, as their parameters take them
abbrev pub args_kinds : Kinds → List SqlType → Kinds
args_kinds [] types = []
args_kinds (k ∷ ks) types = first_kind types k ∷ args_kinds ks (drop 1 types)

-- each is of a kind that its parameter takes
abbrev pub args_good : Kinds → List SqlType → Bool
args_good [] types = true
args_good (k ∷ ks) types = first_takes types k && args_good ks (drop 1 types)

-- a chain's kind, by that of what stands left
abbrev pub links_kind : Links → DataKind → DataKind
links_kind NoLink k = k
links_kind (MoreLinks operator x links) k = links_kind links (operator_kind operator)

abbrev mutual
  -- the kind of an expression. 6.25 (value expression)
  pub expr_kind : Expr → (List ℕ → Kinds) → List Kinds → Kinds → DataKind
  expr_kind (Literal v) T g p = value_kind v
  expr_kind (Column d i) T g p = kind_at (kinds_row g d) i
  expr_kind (Variable i) T g p = kind_at p i
  expr_kind (Chain x links) T g p = links_kind links (expr_kind x T g p)
  expr_kind (Operate op es) T g p = op_kind op
  expr_kind (And es) T g p = BooleanKind
  expr_kind (Or es) T g p = BooleanKind
  expr_kind (Case arms) T g p = results_kind (exprs_kinds arms T g p)
  expr_kind (CaseOf x test result arms) T g p =
      joined_kind (expr_kind result T g p) (results_kind (exprs_kinds arms T g p))
  expr_kind (Coalesce es) T g p = all_kind (exprs_kinds es T g p)
  expr_kind (In x q) T g p = BooleanKind
  expr_kind (Exists q) T g p = BooleanKind
  expr_kind (Single q) T g p = kind_at (query_kinds q T g p) 0
  expr_kind (Call name r es) T g p =
      body_kind r T (args_kinds (exprs_kinds es T g p) (parameters_of r))
  expr_kind (CallSelf types es) T g p = NullKind

  -- the kinds of several expressions
  pub exprs_kinds : Exprs → (List ℕ → Kinds) → List Kinds → Kinds → Kinds
  exprs_kinds NoExpr T g p = []
  exprs_kinds (MoreExprs x es) T g p = expr_kind x T g p ∷ exprs_kinds es T g p

  -- of rows of so many values
  pub rows_kinds : Rows → ℕ → (List ℕ → Kinds) → List Kinds → Kinds → Kinds
  rows_kinds NoRow n T g p = replicate n NullKind
  rows_kinds (MoreRows es rows) n T g p =
      join_kinds (exprs_kinds es T g p) (rows_kinds rows n T g p)

  -- the kind of what a call of a function gives. 10.4 (routine invocation)
  pub body_kind : Routine → (List ℕ → Kinds) → Kinds → DataKind
  body_kind (Returned types returns x) T p = assigned_kind returns (expr_kind x T [] p)
  body_kind (Function false types returns null_call statement) T p = type_kind returns
  body_kind _ T p = NullKind

  -- the kinds of a query's columns. 7.17 (query expression)
  pub query_kinds : Query → (List ℕ → Kinds) → List Kinds → Kinds → Kinds
  query_kinds (Select items from tests) T g p = exprs_kinds items T (from_kinds from T g p ∷ g) p
  query_kinds (Grouped from tests k items ags having list) T g p =
      exprs_kinds list T (group_kinds k ags (exprs_kinds items T (from_kinds from T g p ∷ g) p)
      ∷ g) p
  query_kinds (Values rows) T g p = rows_kinds rows (rows_width rows) T g p
  query_kinds (Ordered q keys) T g p = query_kinds q T g p

  -- the kinds of the columns of a FROM. 7.6 (table reference)
  pub from_kinds : From → (List ℕ → Kinds) → List Kinds → Kinds → Kinds
  from_kinds (Table t) T g p = T t
  from_kinds (Derived q) T g p = query_kinds q T g p
  from_kinds (Cross a b) T g p = from_kinds a T g p ++ from_kinds b T g p
  from_kinds (Inner a b on) T g p = from_kinds a T g p ++ from_kinds b T g p
  from_kinds (LeftOuter a b on) T g p = from_kinds a T g p ++ from_kinds b T g p

-- ---- variables of a block

-- the kinds of tables
abbrev pub Tables : Type 0
Tables = List ℕ → Kinds

-- the kinds of values of these types
abbrev pub type_kinds : List SqlType → Kinds
type_kinds [] = []
type_kinds (t ∷ ts) = type_kind t ∷ type_kinds ts

-- a variable of its type is in sight, and takes values of this kind
abbrev pub Taken : List SqlType → DataKind → Target → Type 0
Taken ts k t = (kind_at (type_kinds ts) t.slot ≡ type_kind t.data_type)
    × (agree k (type_kind t.data_type) ≡ true)

-- each takes values of this kind
abbrev pub EachTaken : List SqlType → DataKind → List Target → Type 0
EachTaken ts k [] = Unit {0}
EachTaken ts k (t ∷ targets) = Taken ts k t × EachTaken ts k targets

-- as many targets as columns, and each takes what its column has
abbrev pub AllTaken : List SqlType → Kinds → List Target → Type 0
AllTaken ts [] [] = Unit {0}
AllTaken ts (k ∷ kk) (t ∷ targets) = Taken ts k t × AllTaken ts kk targets
AllTaken ts _ _ = ⊥

-- the types of the variables that declarations make
abbrev pub declared_types : Variables → List SqlType
declared_types NoVariable = []
declared_types (MoreVariables k t default others) = replicate k t ++ declared_types others

-- Each operand has the kind that it is wanted to have. In a block the types of the variables in
-- sight are given.
abbrev mutual
  -- an expression in which each operand has the kind that it is wanted to have. 6.25 (value
  -- expression)
  pub Typed : Expr → (List ℕ → Kinds) → List Kinds → Kinds → Type 0
  Typed (Literal v) T g p = Unit {0}
  Typed (Column d i) T g p = Unit {0}
  Typed (Variable i) T g p = Unit {0}
  Typed (Chain x links) T g p = Typed x T g p × TypedLinks links (expr_kind x T g p) T g p
  Typed (Operate op es) T g p = TypedAll es T g p × (op_good op (exprs_kinds es T g p) ≡ true)
  Typed (And es) T g p = TypedAll es T g p × (tests_good (exprs_kinds es T g p) ≡ true)
  Typed (Or es) T g p = TypedAll es T g p × (tests_good (exprs_kinds es T g p) ≡ true)
  Typed (Case arms) T g p = TypedAll arms T g p × (case_good (exprs_kinds arms T g p) ≡ true)
  Typed (CaseOf x test result arms) T g p =
      Typed x T g p × Typed test T g p × Typed result T g p × TypedAll arms T g p
      × (against_good (expr_kind x T g p) (expr_kind test T g p ∷ expr_kind result T g p
      ∷ exprs_kinds arms T g p) ≡ true)
  Typed (Coalesce es) T g p = TypedAll es T g p × (all_good (exprs_kinds es T g p) ≡ true)
  Typed (In x q) T g p = Typed x T g p × TypedQuery q T g p
      × (agree (expr_kind x T g p) (kind_at (query_kinds q T g p) 0) ≡ true)
  Typed (Exists q) T g p = TypedQuery q T g p
  Typed (Single q) T g p = TypedQuery q T g p
  Typed (Call name r es) T g p =
      TypedBody r T (args_kinds (exprs_kinds es T g p) (parameters_of r)) × TypedAll es T g p
      × (args_good (exprs_kinds es T g p) (parameters_of r) ≡ true)
  Typed (CallSelf types es) T g p = Unit {0}

  -- on from this kind
  pub TypedLinks : Links → DataKind → (List ℕ → Kinds) → List Kinds → Kinds → Type 0
  TypedLinks NoLink k T g p = Unit {0}
  TypedLinks (MoreLinks operator x links) k T g p =
      (agree k (operator_kind operator) ≡ true) × Typed x T g p
      × (agree (expr_kind x T g p) (operator_kind operator) ≡ true)
      × TypedLinks links (operator_kind operator) T g p

  -- the same of several expressions
  pub TypedAll : Exprs → (List ℕ → Kinds) → List Kinds → Kinds → Type 0
  TypedAll NoExpr T g p = Unit {0}
  TypedAll (MoreExprs x es) T g p = Typed x T g p × TypedAll es T g p

  -- the same of a function's body, whose result takes its kind. 10.4 (routine invocation)
  pub TypedBody : Routine → (List ℕ → Kinds) → Kinds → Type 0
  TypedBody (Returned types returns x) T p =
      Typed x T [] p × (takes returns (expr_kind x T [] p) ≡ true)
  -- a block has its parameters in columns, each of the kind of its type, which also takes NULL
  TypedBody (Function false types returns null_call statement) T p =
      (agree_all p (type_kinds types) ≡ true) × TypedStmt statement T returns types
  TypedBody _ T p = ⊥

  -- the same of an expression that may be left out, whose value this takes
  pub TypedPerhaps : Perhaps → DataKind → Tables → List SqlType → Type 0
  TypedPerhaps Without k T ts = Unit {0}
  TypedPerhaps (With x) k T ts = Typed x T [] (type_kinds ts)
      × (agree (expr_kind x T [] (type_kinds ts)) k ≡ true)

  -- the same of declarations, whose defaults have their types' kinds
  pub TypedVariables : Variables → Tables → List SqlType → Type 0
  TypedVariables NoVariable T ts = Unit {0}
  TypedVariables (MoreVariables k t default others) T ts =
      TypedPerhaps default (type_kind t) T ts × TypedVariables others T (ts ++ replicate k t)

  -- the same of a statement in form of a function that returns a type
  pub TypedStmt : Stmt → Tables → SqlType → List SqlType → Type 0
  TypedStmt (Compound atomic variables cursors handlers statements) T returns ts =
      TypedVariables variables T ts
      × TypedHandlers handlers T returns (ts ++ declared_types variables)
      × TypedStmts statements T returns (ts ++ declared_types variables)
  TypedStmt (If branches otherwise) T returns ts =
      TypedBranches branches BooleanKind T returns ts × TypedStmts otherwise T returns ts
  TypedStmt (SearchedCase branches otherwise) T returns ts =
      TypedBranches branches BooleanKind T returns ts × TypedStmts otherwise T returns ts
  TypedStmt (SimpleCase x branches otherwise) T returns ts =
      Typed x T [] (type_kinds ts)
      × TypedBranches branches (expr_kind x T [] (type_kinds ts)) T returns ts
      × TypedStmts otherwise T returns ts
  TypedStmt (Set t x) T returns ts =
      Typed x T [] (type_kinds ts) × Taken ts (expr_kind x T [] (type_kinds ts)) t
  TypedStmt (SelectInto q targets) T returns ts =
      TypedQuery q T [] (type_kinds ts)
      × AllTaken ts (query_kinds q T [] (type_kinds ts)) targets
  TypedStmt (Signal state text) T returns ts = TypedPerhaps text TextKind T ts
  TypedStmt (Resignal state text) T returns ts = TypedPerhaps text TextKind T ts
  TypedStmt (GetStatementItems area reads) T returns ts =
      EachTaken ts IntegerKind (statement_targets reads)
  TypedStmt (GetConditionItems area number reads) T returns ts =
      Typed number T [] (type_kinds ts)
      × (agree (expr_kind number T [] (type_kinds ts)) IntegerKind ≡ true)
      × EachTaken ts TextKind (condition_targets reads)
  TypedStmt (Leave outwards) T returns ts = Unit {0}
  TypedStmt (Return x) T returns ts = Typed x T [] (type_kinds ts)
      × (agree (expr_kind x T [] (type_kinds ts)) (type_kind returns) ≡ true)
  TypedStmt _ T returns ts = ⊥

  -- the same of statements
  pub TypedStmts : Stmts → Tables → SqlType → List SqlType → Type 0
  TypedStmts NoStmt T returns ts = Unit {0}
  TypedStmts (MoreStmts s ss) T returns ts = TypedStmt s T returns ts × TypedStmts ss T returns ts

  -- the same of tests, or of what an operand of this kind is compared with, and their statements
  pub TypedBranches : Branches → DataKind → Tables → SqlType → List SqlType → Type 0
  TypedBranches NoBranch k T returns ts = Unit {0}
  TypedBranches (MoreBranches x statements others) k T returns ts =
      Typed x T [] (type_kinds ts) × (agree (expr_kind x T [] (type_kinds ts)) k ≡ true)
      × TypedStmts statements T returns ts × TypedBranches others k T returns ts

  -- the same of handlers
  pub TypedHandlers : Handlers → Tables → SqlType → List SqlType → Type 0
  TypedHandlers NoHandler T returns ts = Unit {0}
  TypedHandlers (MoreHandlers kind takes action others) T returns ts =
      TypedStmt action T returns ts × TypedHandlers others T returns ts

  -- the same of a query, whose tests are truth values. 7.16 and 7.17
  pub TypedQuery : Query → (List ℕ → Kinds) → List Kinds → Kinds → Type 0
  TypedQuery (Select items from tests) T g p =
      TypedFrom from T g p × TypedAll tests T (from_kinds from T g p ∷ g) p
      × (tests_good (exprs_kinds tests T (from_kinds from T g p ∷ g) p) ≡ true)
      × TypedAll items T (from_kinds from T g p ∷ g) p
  TypedQuery (Grouped from tests k items ags having list) T g p =
      TypedFrom from T g p × TypedAll tests T (from_kinds from T g p ∷ g) p
      × (tests_good (exprs_kinds tests T (from_kinds from T g p ∷ g) p) ≡ true)
      × TypedAll items T (from_kinds from T g p ∷ g) p
      × (aggregates_good (numbered k ags) (exprs_kinds items T (from_kinds from T g p ∷ g) p)
      ≡ true)
      × TypedAll having T (group_kinds k ags (exprs_kinds items T (from_kinds from T g p ∷ g) p)
      ∷ g) p
      × (tests_good (exprs_kinds having T
      (group_kinds k ags (exprs_kinds items T (from_kinds from T g p ∷ g) p) ∷ g) p) ≡ true)
      × TypedAll list T (group_kinds k ags (exprs_kinds items T (from_kinds from T g p ∷ g) p)
      ∷ g) p
  TypedQuery (Values rows) T g p = (all_even (rows_width rows) rows ≡ true)
      × TypedRows rows (rows_width rows) T g p
  TypedQuery (Ordered q keys) T g p = TypedQuery q T g p

  -- the same of the rows of VALUES, which agree. 7.3 (table value constructor)
  pub TypedRows : Rows → ℕ → (List ℕ → Kinds) → List Kinds → Kinds → Type 0
  TypedRows NoRow n T g p = Unit {0}
  TypedRows (MoreRows es rows) n T g p =
      TypedAll es T g p × (agree_all (exprs_kinds es T g p) (rows_kinds rows n T g p) ≡ true)
      × TypedRows rows n T g p

  -- the same of a FROM. 7.6 (table reference) and 7.10 (joined table)
  pub TypedFrom : From → (List ℕ → Kinds) → List Kinds → Kinds → Type 0
  TypedFrom (Table t) T g p = Unit {0}
  TypedFrom (Derived q) T g p = TypedQuery q T g p
  TypedFrom (Cross a b) T g p = TypedFrom a T g p × TypedFrom b T g p
  TypedFrom (Inner a b on) T g p =
      TypedFrom a T g p × TypedFrom b T g p
      × TypedAll on T ((from_kinds a T g p ++ from_kinds b T g p) ∷ g) p
      × (tests_good (exprs_kinds on T ((from_kinds a T g p ++ from_kinds b T g p) ∷ g) p) ≡ true)
  TypedFrom (LeftOuter a b on) T g p =
      TypedFrom a T g p × TypedFrom b T g p
      × TypedAll on T ((from_kinds a T g p ++ from_kinds b T g p) ∷ g) p
      × (tests_good (exprs_kinds on T ((from_kinds a T g p ++ from_kinds b T g p) ∷ g) p) ≡ true)

-- how many columns tables of these kinds have
abbrev pub table_widths : (List ℕ → Kinds) → List ℕ → ℕ
table_widths T t = length (T t)

-- the plan of a well-typed query: each operand has the kind that it is wanted to have, and the
-- columns are of the query's kinds
pub record Kinded (q : Query) (T : List ℕ → Kinds) (p : Kinds) : Type 0 where
  -- each operand has its kind
  pub good : tree_good (plan q (table_widths T) (top (length p))) T [] p ≡ true
  -- the columns are of the query's kinds
  pub kinds : tree_kinds (plan q (table_widths T) (top (length p))) T [] p ≡ query_kinds q T [] p

-- for every query, and all kinds of tables and arguments
abbrev pub KindedPlans : Type 0
KindedPlans = (q : Query) (T : List ℕ → Kinds) (p : Kinds) → TypedQuery q T [] p → Kinded q T p

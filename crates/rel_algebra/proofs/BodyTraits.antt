-- A trait of plans that what a body adds always has: so its plan has it where those of its leaves
-- do. That each Apply can be removed is one, and that no row further outside is used.
use Rattle.std.proofs.Common.{◌≡◌, ℕ, zero, suc, ◌+◌, ◌-◌, Bool, true, false, cond, pos, ◌||◌, List}
use Rattle.std.proofs.Common.{[], ◌∷◌, ◌++◌, length, Option, Some, None, refl, subst}
use Rattle.sql_values.specs.declared.operators.Comparison.TheVariants.{Equals}
use Rattle.sql_values.specs.declared.value.SqlType.{SqlType}
use Rattle.sql_values.specs.declared.value.SqlType.TheVariants.{Boolean, Integer, Varchar}
use Rattle.sql_values.specs.declared.value.Value.{Value}
use Rattle.sql_values.specs.declared.value.Value.TheVariants.{Null, Int, Bool as Truth}
use Rattle.rel_algebra.specs.Emissions.{Emitted, Folded, all_values, assigning, checks, if_values}
use Rattle.rel_algebra.specs.Emissions.{joined_nodes, width}
use Rattle.rel_algebra.specs.Environments.{Env as Reading}
use Rattle.rel_algebra.specs.Joins.{places}
use Rattle.rel_algebra.specs.OnConditions.{ItemWord, item_word, matches_word, number_word}
use Rattle.rel_algebra.specs.OnConditions.{push_word, raise_word, retext_word, state_item}
use Rattle.rel_algebra.specs.Plan.{Kind, Nodes, PlanTree, Scalar, Scalars, Way, Word, aggregate}
use Rattle.rel_algebra.specs.Plan.{and_word, anew, apply, apply_by, case_word, column, constant}
use Rattle.rel_algebra.specs.Plan.{extend, extend_by, into, keep, more, no_node, none, on_condition}
use Rattle.rel_algebra.specs.Plan.{on_each, or_word, strict, unit_row, word}
use Rattle.rel_algebra.specs.Tree.{AnyOf, Assign, Cast, Comparing, ConditionValue, NotFound}
use Rattle.rel_algebra.specs.Tree.{NullTest, SqlException, SqlWarning, State}
use Rattle.rel_algebra.specs.Bodies.{ConditionRead, Continue, Exit, HandlerType, Number, Perhaps}
use Rattle.rel_algebra.specs.Bodies.{RowCount, StatementItem, StatementRead, Target, Undo, Without}
use Rattle.rel_algebra.specs.Bodies.{With, Variables, NoVariable, MoreVariables, Stmt, Compound, If}
use Rattle.rel_algebra.specs.Bodies.{SearchedCase, SimpleCase, Set, SelectInto, Signal, Resignal}
use Rattle.rel_algebra.specs.Bodies.{GetStatementItems, GetConditionItems, Leave, Return, Stmts}
use Rattle.rel_algebra.specs.Bodies.{NoStmt, MoreStmts, Branches, NoBranch, MoreBranches, Handlers}
use Rattle.rel_algebra.specs.Bodies.{NoHandler, MoreHandlers, Routine, Body, word_of}
use Rattle.rel_algebra.specs.BodyChain.{Rest, again, and_on, assigned_as, assigns, assigns_if}
use Rattle.rel_algebra.specs.BodyChain.{branching, case_not_found_cell, coded, column_at}
use Rattle.rel_algebra.specs.BodyChain.{condition_cells, emit, emit_again, emit_all, emit_branches}
use Rattle.rel_algebra.specs.BodyChain.{emit_condition_items, emit_declares, emit_else}
use Rattle.rel_algebra.specs.BodyChain.{emit_matching, emit_statement_items, emitted, ending}
use Rattle.rel_algebra.specs.BodyChain.{ending_env, ending_width, equal_to, first_cells}
use Rattle.rel_algebra.specs.BodyChain.{has_default, inline_with, inside, into_by, item_cell}
use Rattle.rel_algebra.specs.BodyChain.{its_own, last_cell, not_active_cell, not_found}
use Rattle.rel_algebra.specs.BodyChain.{not_stacked_cell, null_of, null_scalars, one_raise}
use Rattle.rel_algebra.specs.BodyChain.{one_step, perhaps_emitted, push, raised_area, reading}
use Rattle.rel_algebra.specs.BodyChain.{sealed_step, statement_cell, statement_cells, target_stores}
use Rattle.rel_algebra.specs.BodyChain.{text_of, top, variable_count, whole_raise, with_column}
use Rattle.rel_algebra.specs.BodyChain.{with_columns, with_variables, without_return_cell}
use Rattle.rel_algebra.specs.BodyMeaning.{condition_targets, statement_targets}
use Rattle.rel_algebra.specs.BodyCompounds.{scopes_in}
use Rattle.rel_algebra.specs.BodyDispatch.{Coded, Codes, Emit, Env, action_env, actions, aimed}
use Rattle.rel_algebra.specs.BodyDispatch.{area_in, arm, code_or, count, dispatch, general_arms}
use Rattle.rel_algebra.specs.BodyDispatch.{general_tests, handled, has_continue, if_continue}
use Rattle.rel_algebra.specs.BodyDispatch.{is_value, joins, judging, matching, named_arms}
use Rattle.rel_algebra.specs.BodyDispatch.{named_tests, raising_to, scope_actions, scope_arms}
use Rattle.rel_algebra.specs.BodyDispatch.{store_if, tags, whatever}
use Rattle.rel_algebra.specs.Leaves.{QueryLeaf, ValueLeaf, Widths}
use Rattle.rel_algebra.specs.BodySteps.{Step, Store, asked_at, asked_when, case_of, code_is, col}
use Rattle.rel_algebra.specs.BodySteps.{fat, grow, guarded, jump, only, step_tree, steps_tree}
use Rattle.rel_algebra.specs.BodySteps.{store, tag, two}
use Rattle.rel_algebra.proofs.BodyHeld.{AllHold, BranchesHold, HandlersHold, Holds, PerhapsHolds}
use Rattle.rel_algebra.proofs.BodyHeld.{RoutineHolds, VariablesHold}

-- each of scalars has it
abbrev pub AllHave : (Scalar → Type 0) → Scalars → Type 0
AllHave P none = Unit {0}
AllHave P (more s ss) = P s × AllHave P ss

-- What scalars and Applies have: all constants, columns of the row itself, and words over scalars
-- that have it; and an Apply still, where its when is asked at a code alone. The leaves are planned
-- under environments, of which each of a body has what is asked.
pub record Trait : Type 1 where
  -- of a scalar
  pub scalar : Scalar → Type 0
  -- of an Apply
  pub asks : Scalar → Kind → Way → PlanTree → Type 0
  -- of the environment of a leaf
  pub places : Reading → Type 0
  pub constants : (v : Value) → scalar (constant v)
  pub columns : (i : ℕ) → scalar (column 0 i)
  pub words : (w : Word) (ss : Scalars) → AllHave scalar ss → scalar (word w ss)
  pub asked : (k : ℕ) (when : Scalar) (kind : Kind) (way : Way) (inner : PlanTree) →
      asks when kind way inner → asks (asked_when way k when) kind way inner
  pub own_places : (env : Env) → places (reading env)

-- each of nodes has it
abbrev pub NodesHave : Trait → Nodes → Type 0
NodesHave T no_node = Unit {0}
NodesHave T (extend_by ss rest) = AllHave T.scalar ss × NodesHave T rest
NodesHave T (apply_by when kind way inner rest) = T.asks when kind way inner × NodesHave T rest

-- each node of a chain over Unit has it
abbrev pub ChainHas : Trait → PlanTree → Type 0
ChainHas T unit_row = Unit {0}
ChainHas T (extend ss t) = AllHave T.scalar ss × ChainHas T t
ChainHas T (apply when kind way inner t) = T.asks when kind way inner × ChainHas T t
ChainHas T (keep is t) = ChainHas T t
ChainHas T _ = ⊥

-- ---- of leaves

-- what is emitted has it
abbrev pub EmittedHas : Trait → Emitted → Type 0
EmittedHas T a = NodesHave T a.nodes × T.scalar a.scalar

-- an expression's plan has it
abbrev pub ValueHas : Trait → Widths → ValueLeaf → Type 0
ValueHas T S e = (env : Reading) (n : ℕ) → T.places env → EmittedHas T (e.emitted S env n)

-- a folded query has it
abbrev pub FoldedHas : Trait → Option Folded → Type 0
FoldedHas T None = Unit {0}
FoldedHas T (Some a) =
    T.asks (constant (Truth true)) (aggregate a.aggregates) anew a.input
    × ((n : ℕ) → NodesHave T (a.list n).nodes × AllHave T.scalar (a.list n).scalars)

-- a query has it, folded or asked for its one row
pub record QueryHas (T : Trait) (S : Widths) (q : QueryLeaf) (targets : List Target) : Type 0 where
  pub asked : (env : Reading) → T.places env → q.folded S env ≡ None →
      T.asks (constant (Truth true)) (into (length targets)) anew (q.plan S env)
  pub folds : (env : Reading) → T.places env → FoldedHas T (q.folded S env)

-- the leaves of a function have it
abbrev pub RoutineHas : Trait → Widths → Routine → Type 0
RoutineHas T S r = RoutineHolds r (ValueHas T S) (QueryHas T S)

-- ---- nodes

joined_have : (T : Trait) (a b : Nodes) → NodesHave T a → NodesHave T b →
    NodesHave T (joined_nodes a b)
joined_have T no_node b p q = q
joined_have T (extend_by ss a) b p q = (p.0, joined_have T a b p.1 q)
joined_have T (apply_by when kind way inner a) b p q = (p.0, joined_have T a b p.1 q)

asked_have : (T : Trait) (k : ℕ) (nodes : Nodes) → NodesHave T nodes →
    NodesHave T (asked_at k nodes)
asked_have T k no_node h = tt
asked_have T k (extend_by ss rest) h = (h.0, asked_have T k rest h.1)
asked_have T k (apply_by when kind way inner rest) h =
    (T.asked k when kind way inner h.0, asked_have T k rest h.1)

on_each_has : (T : Trait) (nodes : Nodes) (t : PlanTree) → NodesHave T nodes → ChainHas T t →
    ChainHas T (on_each nodes t)
on_each_has T no_node t h k = k
on_each_has T (extend_by ss a) t h k = on_each_has T a (extend ss t) h.1 (h.0, k)
on_each_has T (apply_by when kind way inner a) t h k =
    on_each_has T a (apply when kind way inner t) h.1 (h.0, k)

-- ---- scalars

tag_has : (T : Trait) (n : ℕ) → T.scalar (tag n)
tag_has T n = T.constants (Int (pos n))

two_have : (T : Trait) (s t : Scalar) → T.scalar s → T.scalar t → AllHave T.scalar (two s t)
two_have T s t p q = (p, (q, tt))

code_has : (T : Trait) (k : ℕ) → T.scalar (code_is k)
code_has T k = T.words (strict (Comparing Equals)) (two (col 0) (tag k))
    (two_have T (col 0) (tag k) (T.columns 0) (tag_has T k))

case_has : (T : Trait) (a b c : Scalar) → T.scalar a → T.scalar b → T.scalar c →
    T.scalar (case_of a b c)
case_has T a b c p q r = T.words case_word (more a (two b c)) (p, two_have T b c q r)

assigning_has : (T : Trait) (t : SqlType) (s : Scalar) → T.scalar s → T.scalar (assigning t s)
assigning_has T Integer s h = h
assigning_has T Boolean s h = h
assigning_has T (Varchar n) s h = T.words (strict (Assign (Varchar n))) (more s none) (h, tt)

checks_have : (T : Trait) (is : List ℕ) → AllHave T.scalar (checks is)
checks_have T [] = tt
checks_have T (i ∷ is) = (
  T.words or_word (more (word (strict NullTest) (more (column 0 i) none))
      (more (constant (Truth true)) none)) (
        T.words (strict NullTest) (more (column 0 i) none) (T.columns i, tt),
        (T.constants (Truth true), tt),
      ),
  checks_have T is,
)

all_values_has : (T : Trait) (is : List ℕ) → T.scalar (all_values is)
all_values_has T is = T.words and_word (checks is) (checks_have T is)

if_values_has : (T : Trait) (is : List ℕ) (s : Scalar) → T.scalar s → T.scalar (if_values is s)
if_values_has T [] s h = h
if_values_has T (i ∷ is) s h = T.words case_word (more (all_values (i ∷ is)) (more s none))
    (all_values_has T (i ∷ is), (h, tt))

column_has : (T : Trait) (nodes : Nodes) (s : Scalar) → NodesHave T nodes → T.scalar s →
    NodesHave T (with_column nodes s)
column_has T nodes s h p = joined_have T nodes (extend_by (only s) no_node) h ((p, tt), tt)

columns_have : (T : Trait) (nodes : Nodes) (ss : Scalars) (is : List ℕ) → NodesHave T nodes →
    AllHave T.scalar ss → NodesHave T (with_columns nodes ss is)
columns_have T nodes ss is h p =
    joined_have T nodes (extend_by ss (extend_by (only (all_values is)) no_node)) h
    (p, ((all_values_has T is, tt), tt))

-- ---- steps

-- each of steps has it
abbrev pub StepsHave : Trait → List Step → Type 0
StepsHave T [] = Unit {0}
StepsHave T (grow ss ∷ rest) = AllHave T.scalar ss × StepsHave T rest
StepsHave T (fat nodes is ∷ rest) = NodesHave T nodes × StepsHave T rest

append_have : (T : Trait) (a b : List Step) → StepsHave T a → StepsHave T b → StepsHave T (a ++ b)
append_have T [] b p q = q
append_have T (grow ss ∷ a) b p q = (p.0, append_have T a b p.1 q)
append_have T (fat nodes is ∷ a) b p q = (p.0, append_have T a b p.1 q)

steps_have : (T : Trait) (ss : List Step) (t : PlanTree) → StepsHave T ss → ChainHas T t →
    ChainHas T (steps_tree ss t)
steps_have T [] t h k = k
steps_have T (grow cs ∷ ss) t h k = steps_have T ss (step_tree (grow cs) t) h.1 (h.0, k)
steps_have T (fat nodes is ∷ ss) t h k = steps_have T ss (step_tree (fat nodes is) t) h.1
    (on_each_has T nodes t h.0 k)

-- the new cells of stores have it
abbrev StoresHave : Trait → List Store → Type 0
StoresHave T [] = Unit {0}
StoresHave T (x ∷ xs) = T.scalar x.new × StoresHave T xs

stores_append : (T : Trait) (xs ys : List Store) → StoresHave T xs → StoresHave T ys →
    StoresHave T (xs ++ ys)
stores_append T [] ys p q = q
stores_append T (x ∷ xs) ys p q = (p.0, stores_append T xs ys p.1 q)

guarded_have : (T : Trait) (k : ℕ) (xs : List Store) → StoresHave T xs →
    AllHave T.scalar (guarded k xs)
guarded_have T k [] h = tt
guarded_have T k (x ∷ xs) h = (
  case_has T (code_is k) x.new (col x.column) (code_has T k) h.0 (T.columns x.column),
  guarded_have T k xs h.1,
)

acts_have : (T : Trait) (k : ℕ) (pre : Nodes) (stores : List Store) → NodesHave T pre →
    StoresHave T stores →
    NodesHave T (joined_nodes (asked_at k pre) (extend_by (guarded k stores) no_node))
acts_have T k pre stores h s = joined_have T (asked_at k pre)
    (extend_by (guarded k stores) no_node) (asked_have T k pre h) (guarded_have T k stores s, tt)

jump_has : (T : Trait) (k to n : ℕ) (rest : List Step) → StepsHave T rest →
    StepsHave T (jump k to n ∷ rest)
jump_has T k to n rest h = (acts_have T k no_node (store 0 (tag to) ∷ []) tt (tag_has T to, tt), h)

-- ---- dispatch

matching_has : (T : Trait) (v : ConditionValue) (t : ℕ) → T.scalar (matching v t)
matching_has T v t = T.words (on_condition (matches_word v)) (only (col t)) (T.columns t, tt)

value_has : (T : Trait) (t : ℕ) → T.scalar (is_value t)
value_has T t = T.words (strict NullTest) (only (word (on_condition number_word) (only (col t))))
    (T.words (on_condition number_word) (only (col t)) (T.columns t, tt), tt)

area_has : (T : Trait) (t : ℕ) → T.scalar (area_in t)
area_has T t = T.words (strict NullTest) (only (col t)) (T.columns t, tt)

named_have : (T : Trait) (vs : List ConditionValue) (t : ℕ) → AllHave T.scalar (named_tests vs t)
named_have T [] t = tt
named_have T (State s ∷ vs) t = (matching_has T (State s) t, named_have T vs t)
named_have T (SqlException ∷ vs) t = named_have T vs t
named_have T (SqlWarning ∷ vs) t = named_have T vs t
named_have T (NotFound ∷ vs) t = named_have T vs t

general_have : (T : Trait) (vs : List ConditionValue) (t : ℕ) →
    AllHave T.scalar (general_tests vs t)
general_have T [] t = tt
general_have T (State s ∷ vs) t = general_have T vs t
general_have T (SqlException ∷ vs) t = (matching_has T SqlException t, general_have T vs t)
general_have T (SqlWarning ∷ vs) t = (matching_has T SqlWarning t, general_have T vs t)
general_have T (NotFound ∷ vs) t = (matching_has T NotFound t, general_have T vs t)

arm_has : (T : Trait) (tests : Scalars) (to : ℕ) (rest : Scalars) → AllHave T.scalar tests →
    AllHave T.scalar rest → AllHave T.scalar (arm tests to rest)
arm_has T none to rest p q = q
arm_has T (more t ts) to rest p q = (T.words or_word (more t ts) p, (tag_has T to, q))

named_arms_have : (T : Trait) (to : HandlerType → ℕ → ℕ) (hs : List Coded) (i t : ℕ)
    (rest : Scalars) → AllHave T.scalar rest → AllHave T.scalar (named_arms to hs i t rest)
named_arms_have T to [] i t rest q = q
named_arms_have T to (c ∷ hs) i t rest q = arm_has T (named_tests c.takes t) (to c.kind i)
    (named_arms to hs (suc i) t rest) (named_have T c.takes t)
    (named_arms_have T to hs (suc i) t rest q)

general_arms_have : (T : Trait) (to : HandlerType → ℕ → ℕ) (hs : List Coded) (i t : ℕ)
    (rest : Scalars) → AllHave T.scalar rest → AllHave T.scalar (general_arms to hs i t rest)
general_arms_have T to [] i t rest q = q
general_arms_have T to (c ∷ hs) i t rest q = arm_has T (general_tests c.takes t) (to c.kind i)
    (general_arms to hs (suc i) t rest) (general_have T c.takes t)
    (general_arms_have T to hs (suc i) t rest q)

scope_arms_have : (T : Trait) (to : HandlerType → ℕ → ℕ) (hs : List Coded) (i t : ℕ)
    (rest : Scalars) → AllHave T.scalar rest → AllHave T.scalar (scope_arms to hs i t rest)
scope_arms_have T to hs i t rest q = named_arms_have T to hs i t (general_arms to hs i t rest)
    (general_arms_have T to hs i t rest q)

dispatch_has : (T : Trait) (cs : Codes) (env : Env) (i here t : ℕ) →
    AllHave T.scalar (dispatch cs env i here t)
dispatch_has T [] env i here t = (
  matching_has T SqlException t,
  two_have T (tag env.out) (tag here) (tag_has T env.out) (tag_has T here),
)
dispatch_has T (s ∷ outer) env i here t =
    scope_arms_have T (aimed (env.exits s.level)) s.handlers i t
    (dispatch outer env (i + length s.handlers) here t)
    (dispatch_has T outer env (i + length s.handlers) here t)

judging_has : (T : Trait) (goes : Scalar) (cs : Codes) (env : Env) (base here t : ℕ)
    (stores : List Store) → T.scalar goes → StoresHave T stores →
    StoresHave T (judging goes cs env base here t stores)
judging_has T goes cs env base here t stores p s =
    stores_append T stores (store 0 (code_or goes cs env base here t) ∷ store 2 (area_in t) ∷ []) s (
      T.words case_word (more (is_value t) (more goes (dispatch cs env base here t)))
          (value_has T t, (p, dispatch_has T cs env base here t)),
      (area_has T t, tt),
    )

raising_has : (T : Trait) (cs : Codes) (env : Env) (base here t : ℕ) →
    StoresHave T (raising_to cs env base here t)
raising_has T cs env base here t = (
  T.words case_word (dispatch cs env base here t) (dispatch_has T cs env base here t),
  (area_has T t, tt),
)

if_has : (T : Trait) (t p i : ℕ) → T.scalar (store_if t p i).new
if_has T t p i = case_has T (is_value t) (col p) (col i) (value_has T t) (T.columns p) (T.columns i)

targets_have : (T : Trait) (ts : List Target) (env : Env) (n t p : ℕ) →
    StoresHave T (target_stores ts env n t p)
targets_have T [] env n t p = tt
targets_have T (x ∷ ts) env n t p =
    (if_has T t p (column_at n env.columns x.slot), targets_have T ts env n t (suc p))

-- ---- actions

-- of what is emitted
abbrev EmitHas : Trait → Emit → Type 0
EmitHas T code = (env : Env) (here next n : ℕ) → StepsHave T (code env here next n)

-- of what follows a test
abbrev RestHas : Trait → Rest → Type 0
RestHas T rest = (env : Env) (from here base free n : ℕ) →
    StepsHave T (rest env from here base free n)

-- of actions
abbrev HandlersHave : Trait → List Coded → Type 0
HandlersHave T [] = Unit {0}
HandlersHave T (h ∷ hs) = EmitHas T h.action × HandlersHave T hs

-- of the actions of all handlers in sight
abbrev CodesHave : Trait → Codes → Type 0
CodesHave T [] = Unit {0}
CodesHave T (s ∷ outer) = HandlersHave T s.handlers × CodesHave T outer

continue_has : (T : Trait) (kind : HandlerType) (ss : List Step) → StepsHave T ss →
    StepsHave T (if_continue kind ss)
continue_has T Continue ss h = h
continue_has T Exit ss h = tt
continue_has T Undo ss h = tt

scope_has : (T : Trait) (pick : HandlerType → List Step → List Step) →
    ((kind : HandlerType) (ss : List Step) → StepsHave T ss → StepsHave T (pick kind ss)) →
    (hs : List Coded) → HandlersHave T hs → (env : Env) (i free n : ℕ) →
    StepsHave T (scope_actions pick hs env i free n)
scope_has T pick p [] h env i free n = tt
scope_has T pick p (c ∷ hs) h env i free n = append_have T (pick c.kind (c.action env i free n))
    (scope_actions pick hs env (suc i) free n) (p c.kind (c.action env i free n) (h.0 env i free n))
    (scope_has T pick p hs h.1 env (suc i) free n)

actions_have : (T : Trait) (cs : Codes) → CodesHave T cs → (env : Env) (i free n : ℕ) →
    StepsHave T (actions cs env i free n)
actions_have T [] h env i free n = tt
actions_have T (s ∷ outer) h env i free n =
    append_have T (scope_actions if_continue s.handlers (action_env env s.level s.variables n) i
    free (suc n)) (actions outer env (i + length s.handlers) free n)
    (scope_has T if_continue (continue_has T) s.handlers h.0
    (action_env env s.level s.variables n) i free (suc n))
    (actions_have T outer h.1 env (i + length s.handlers) free n)

tags_have : (T : Trait) (i k : ℕ) → AllHave T.scalar (tags i k)
tags_have T i zero = tt
tags_have T i (suc k) = (tag_has T i, tags_have T (suc i) k)

joins_have : (T : Trait) (i k here m n : ℕ) (rest : List Step) → StepsHave T rest →
    StepsHave T (joins i k here m n ∷ rest)
joins_have T i k here m n rest h = (
  (
    (
      case_has T (word (strict AnyOf) (more (col 0) (tags i k))) (tag here) (col 0)
          (T.words (strict AnyOf) (more (col 0) (tags i k)) (T.columns 0, tags_have T i k))
          (tag_has T here) (T.columns 0),
      tt,
    ),
    tt,
  ),
  h,
)

handled_has : (T : Trait) (cs : Codes) → CodesHave T cs → (env : Env) (here base free n : ℕ) →
    StepsHave T (handled cs env here base free n)
handled_has T cs h env here base free n = elim (has_continue cs) as
    (λ b. StepsHave T (cond b (grow (only (col 2))
    ∷ (actions cs env base free n ++ joins base (count cs) here (suc n) n ∷ [])) [])) [
      | true ↦ (
        (T.columns 2, tt),
        append_have T (actions cs env base free n) (joins base (count cs) here (suc n) n ∷ [])
            (actions_have T cs h env base free n)
            (joins_have T base (count cs) here (suc n) n [] tt),
      )
      | false ↦ tt
    ]

one_has : (T : Trait) (cs : Codes) → CodesHave T cs → (env : Env) (here next n : ℕ) (pre : Nodes)
    (p : ℕ) (goes : Scalar) (stores : List Store) → NodesHave T pre → T.scalar goes →
    StoresHave T stores → StepsHave T (one_step cs env here next n pre p goes stores)
one_has T cs h env here next n pre p goes stores k g s = (
  acts_have T here pre (judging goes cs env next here p stores) k
      (judging_has T goes cs env next here p stores g s),
  handled_has T cs h env here next (next + count cs) n,
)

raise_has : (T : Trait) (cs : Codes) → CodesHave T cs → (env : Env) (here next n : ℕ) (pre : Nodes)
    (p : ℕ) → NodesHave T pre → StepsHave T (one_raise cs env here next n pre p)
raise_has T cs h env here next n pre p k = (
  acts_have T here pre (raising_to cs env next here p) k (raising_has T cs env next here p),
  handled_has T cs h env here next (next + count cs) n,
)

-- ---- expressions and queries

expr_has : (T : Trait) (e : ValueLeaf) (S : Widths) → ValueHas T S e → (env : Env) (n : ℕ) →
    EmittedHas T (emitted e S env n)
expr_has T e S h env n = h (reading env) n (T.own_places env)

text_has : (T : Trait) (text : Perhaps) (S : Widths) → PerhapsHolds text (ValueHas T S) →
    (env : Env) (n : ℕ) → EmittedHas T (perhaps_emitted text S env n)
text_has T Without S h env n = (tt, T.constants _)
text_has T (With e) S h env n = expr_has T e S h env n

assigns_have : (T : Trait) (ts : List Target) (p : ℕ) → AllHave T.scalar (assigns ts p)
assigns_have T [] p = tt
assigns_have T (t ∷ ts) p =
    (assigning_has T t.data_type (col p) (T.columns p), assigns_have T ts (suc p))

ifs_have : (T : Trait) (is : List ℕ) (ts : List Target) (p : ℕ) →
    AllHave T.scalar (assigns_if is ts p)
ifs_have T is [] p = tt
ifs_have T is (t ∷ ts) p = (
  if_values_has T is (assigning t.data_type (col p))
      (assigning_has T t.data_type (col p) (T.columns p)),
  ifs_have T is ts (suc p),
)

into_has : (T : Trait) (query : QueryLeaf) (S : Widths) (ts : List Target) → QueryHas T S query ts →
    (cs : Codes) → CodesHave T cs → (env : Env) (here next n : ℕ)
    (oa : Option Folded) → query.folded S (reading env) ≡ oa →
    StepsHave T (into_by oa (query.plan S (reading env)) ts cs env here next n)
into_has T query S ts s cs h env here next n None is =
    let k = length ts in let t = query.plan S (reading env) in
    one_has T cs h env here next n (apply_by (constant (Truth true)) (into k) anew t
    (with_columns no_node (assigns ts n) (places (n + k) k))) ((n + k) + k) (tag here)
    (target_stores ts env n ((n + k) + k) (n + k)) (
      s.asked (reading env) (T.own_places env) is,
      columns_have T no_node (assigns ts n) (places (n + k) k) tt (assigns_have T ts n),
    )
    (tag_has T here) (targets_have T ts env n ((n + k) + k) (n + k))
into_has T query S ts s cs h env here next n (Some a) is =
    let k = length ts in let c = a.list n in let p = width c.nodes (n + length a.aggregates) in
    let f : FoldedHas T (Some a) = subst (FoldedHas T) is
    (s.folds (reading env) (T.own_places env)) in
    let g = f.1 n in
    let behind = extend_by c.scalars (with_columns no_node (assigns_if (n ∷ places p k) ts p)
    (places (p + k) k)) in
    one_has T cs h env here next n (apply_by (constant (Truth true)) (aggregate a.aggregates) anew
    a.input (joined_nodes c.nodes behind)) ((p + k) + k) (tag here)
    (target_stores ts env n ((p + k) + k) (p + k)) (
      f.0,
      joined_have T c.nodes behind g.0 (
        g.1,
        columns_have T no_node (assigns_if (n ∷ places p k) ts p) (places (p + k) k) tt
            (ifs_have T (n ∷ places p k) ts p),
      ),
    )
    (tag_has T here) (targets_have T ts env n ((p + k) + k) (p + k))

push_has : (T : Trait) (state : List ℕ) (text c : Scalar) → T.scalar text → T.scalar c →
    T.scalar (push state text c)
push_has T state text c p q = T.words (on_condition (push_word state)) (two text c)
    (two_have T text c p q)

pushing_has : (T : Trait) (state message : List ℕ) →
    T.scalar (push state (text_of message) (constant Null))
pushing_has T state message = push_has T state (text_of message) (constant Null) (T.constants _)
    (T.constants Null)

again_cell : (T : Trait) (state : Option (List ℕ)) (text : Perhaps) (s : Scalar) (c : ℕ) →
    T.scalar s → T.scalar (again state text s c)
again_cell T None Without s c h = T.words (on_condition raise_word) (only (col c)) (T.columns c, tt)
again_cell T None (With e) s c h = T.words (on_condition retext_word) (two s (col c))
    (two_have T s (col c) h (T.columns c))
again_cell T (Some state) text s c h = push_has T state s (col c) h (T.columns c)

constant_has : (T : Trait) (s : Scalar) → T.scalar s → (cs : Codes) → CodesHave T cs → (env : Env)
    (here next n : ℕ) → StepsHave T (one_raise cs env here next n (with_column no_node s) n)
constant_has T s p cs h env here next n = raise_has T cs h env here next n (with_column no_node s) n
    (column_has T no_node s tt p)

again_has : (T : Trait) (es : Option ℕ) (state : Option (List ℕ)) (text : Perhaps) (S : Widths) →
    PerhapsHolds text (ValueHas T S) → (cs : Codes) → CodesHave T cs → (env : Env)
    (here next n : ℕ) → StepsHave T (emit_again es state text S cs env here next n)
again_has T None state text S s cs h env here next n =
    constant_has T not_active_cell (pushing_has T _ _) cs h env here next n
again_has T (Some c) state text S s cs h env here next n =
    let a = perhaps_emitted text S env n in let x = text_has T text S s env n in
    raise_has T cs h env here next n (with_column a.nodes (again state text a.scalar c))
    (width a.nodes n) (column_has T a.nodes (again state text a.scalar c) x.0
    (again_cell T state text a.scalar c x.1))

statement_item : (T : Trait) (item : StatementItem) (c : ℕ) → T.scalar (statement_cell item c)
statement_item T Number c = T.words (on_condition number_word) (only (col c)) (T.columns c, tt)
statement_item T RowCount c = tag_has T 0

statement_items : (T : Trait) (reads : List StatementRead) (c : ℕ) →
    AllHave T.scalar (statement_cells reads c)
statement_items T [] c = tt
statement_items T (r ∷ rs) c = (
  assigning_has T r.target.data_type (statement_cell r.item c) (statement_item T r.item c),
  statement_items T rs c,
)

statement_has : (T : Trait) (es : Option ℕ) (reads : List StatementRead) (cs : Codes) →
    CodesHave T cs → (env : Env) (here next n : ℕ) →
    StepsHave T (emit_statement_items es reads cs env here next n)
statement_has T None reads cs h env here next n =
    constant_has T not_stacked_cell (pushing_has T _ _) cs h env here next n
statement_has T (Some c) reads cs h env here next n =
    let k = length reads in let ss = statement_cells reads c in
    one_has T cs h env here next n (with_columns no_node ss (places n k)) (n + k) (tag here)
    (target_stores (statement_targets reads) env n (n + k) n)
    (columns_have T no_node ss (places n k) tt (statement_items T reads c)) (tag_has T here)
    (targets_have T (statement_targets reads) env n (n + k) n)

condition_item : (T : Trait) (item : ItemWord) (i c : ℕ) → T.scalar (item_cell item i c)
condition_item T item i c = T.words (on_condition (item_word item)) (two (col i) (col c))
    (two_have T (col i) (col c) (T.columns i) (T.columns c))

condition_items : (T : Trait) (reads : List ConditionRead) (i c : ℕ) →
    AllHave T.scalar (condition_cells reads i c)
condition_items T [] i c = tt
condition_items T (r ∷ rs) i c = (
  assigning_has T r.target.data_type (item_cell (word_of r.item) i c)
      (condition_item T (word_of r.item) i c),
  condition_items T rs i c,
)

condition_has : (T : Trait) (es : Option ℕ) (number : ValueLeaf) (reads : List ConditionRead)
    (S : Widths) → ValueHas T S number → (cs : Codes) → CodesHave T cs → (env : Env)
    (here next n : ℕ) → StepsHave T (emit_condition_items es number reads S cs env here next n)
condition_has T None number reads S s cs h env here next n =
    constant_has T not_stacked_cell (pushing_has T _ _) cs h env here next n
condition_has T (Some c) number reads S s cs h env here next n =
    let a = emitted number S env n in let x = expr_has T number S s env n in
    let i = width a.nodes n in let k = suc (length reads) in
    let ss = more (item_cell state_item i c) (condition_cells reads i c) in
    one_has T cs h env here next n (with_columns (with_column a.nodes a.scalar) ss
    (places (suc i) k)) (suc i + k) (tag here)
    (target_stores (condition_targets reads) env n (suc i + k) (suc (suc i)))
    (columns_have T (with_column a.nodes a.scalar) ss (places (suc i) k)
    (column_has T a.nodes a.scalar x.0 x.1)
    (condition_item T state_item i c, condition_items T reads i c))
    (tag_has T here) (targets_have T (condition_targets reads) env n (suc i + k) (suc (suc i)))

-- ---- tests

and_on_has : (T : Trait) (body : Emit) → EmitHas T body → RestHas T (and_on body)
and_on_has T body h env from here base free n = append_have T (body env from free n)
    (jump from here n ∷ []) (h env from free n) (jump_has T from here n [] tt)

not_found_has : (T : Trait) (cs : Codes) → RestHas T (not_found cs)
not_found_has T cs env from here base free n = (
  acts_have T from (with_column no_node case_not_found_cell) (raising_to cs env base here n)
      (column_has T no_node case_not_found_cell tt (pushing_has T _ _))
      (raising_has T cs env base here n),
  tt,
)

branching_has : (T : Trait) (test : Env → ℕ → Emitted) →
    ((env : Env) (n : ℕ) → EmittedHas T (test env n)) →
    (cs : Codes) (body : Emit) → EmitHas T body → (rest : Rest) → RestHas T rest →
    RestHas T (branching test cs body rest)
branching_has T test t cs body b rest r env from here base free n =
    let a = test env n in let x = t env n in let p = width a.nodes n in
    let goes = case_of (col p) (tag free) (tag (suc free)) in (
      acts_have T from (with_column a.nodes a.scalar) (judging goes cs env base here p [])
          (column_has T a.nodes a.scalar x.0 x.1)
          (judging_has T goes cs env base here p [] (case_has T (col p) (tag free) (tag (suc free))
          (T.columns p) (tag_has T free) (tag_has T (suc free))) tt),
      append_have T (body env free (suc (suc free)) n)
          (jump free here n ∷ rest env (suc free) here base (suc (suc free)) n)
          (b env free (suc (suc free)) n)
          (jump_has T free here n (rest env (suc free) here base (suc (suc free)) n)
          (r env (suc free) here base (suc (suc free)) n)),
    )

equal_has : (T : Trait) (m : ℕ) (a : Emitted) → EmittedHas T a → EmittedHas T (equal_to m a)
equal_has T m a x = (
  x.0,
  T.words (strict (Comparing Equals)) (two (col m) a.scalar)
      (two_have T (col m) a.scalar (T.columns m) x.1),
)

-- ---- compound statements

ending_has : (T : Trait) (own : List Coded) → HandlersHave T own → (env : Env)
    (exit first free n : ℕ) → StepsHave T (ending own env exit first free n)
ending_has T [] h env exit first free n = tt
ending_has T (c ∷ cs) h env exit first free n =
    let arms = scope_arms its_own (c ∷ cs) first 2 (only (tag (env.exits env.level))) in (
      acts_have T exit no_node (store 0 (word case_word arms) ∷ []) tt (
        T.words case_word arms (scope_arms_have T its_own (c ∷ cs) first 2
            (only (tag (env.exits env.level))) (tag_has T (env.exits env.level), tt)),
        tt,
      ),
      (
        (T.columns 2, tt),
        scope_has T whatever (λ kind ss k. k) (c ∷ cs) h
            (action_env env env.level (length env.columns) n) first free (suc n),
      ),
    )

sealed_has : (T : Trait) (atomic : Bool) (cs : Codes) (env : Env) (sealing here base n : ℕ) →
    StepsHave T (sealed_step atomic cs env sealing here base n)
sealed_has T true cs env sealing here base n = (
  acts_have T sealing no_node (store 0 (word case_word (dispatch cs env base here 2)) ∷ []) tt
      (T.words case_word (dispatch cs env base here 2) (dispatch_has T cs env base here 2), tt),
  tt,
)
sealed_has T false cs env sealing here base n = tt

whole_has : (T : Trait) (whole atomic : Bool) (cs : Codes) → CodesHave T cs →
    (env : Env) (sealing here base free n : ℕ) →
    StepsHave T (whole_raise whole atomic cs env sealing here base free n)
whole_has T true atomic cs h env sealing here base free n =
    append_have T (sealed_step atomic cs env sealing here base n) (handled cs env here base free n)
    (sealed_has T atomic cs env sealing here base n) (handled_has T cs h env here base free n)
whole_has T false atomic cs h env sealing here base free n = tt

null_has : (T : Trait) (t : SqlType) → T.scalar (null_of t)
null_has T t = T.words (strict (Cast t)) (only (constant Null)) (T.constants Null, tt)

nulls_have : (T : Trait) (t : SqlType) (k : ℕ) → AllHave T.scalar (null_scalars t k)
nulls_have T t zero = tt
nulls_have T t (suc k) = (null_has T t, nulls_have T t k)

declares_have : (T : Trait) (vs : Variables) (S : Widths) → VariablesHold vs (ValueHas T S) →
    (cs : Codes) → RestHas T (emit_declares vs S cs)
declares_have T NoVariable S h cs env from here base free n = tt
declares_have T (MoreVariables k t Without others) S h cs env from here base free n = (
  nulls_have T t k,
  declares_have T others S h.1 cs (with_variables env n k) from here base free (n + k),
)
declares_have T (MoreVariables k t (With e) others) S h cs env from here base free n =
    let a = emitted e S env n in let x = expr_has T e S h.0 env n in let p = width a.nodes n in (
      acts_have T from (with_column a.nodes (assigned_as t a.scalar))
          (judging (tag from) cs env base here p [])
          (column_has T a.nodes (assigned_as t a.scalar) x.0
          (T.words (strict (Assign t)) (only a.scalar) (x.1, tt)))
          (judging_has T (tag from) cs env base here p [] (tag_has T from) tt),
      declares_have T others S h.1 cs (with_variables env n k) from here base free (n + k),
    )

scopes_have : (T : Trait) (atomic : Bool) (cs : Codes) → CodesHave T cs →
    CodesHave T (scopes_in atomic cs)
scopes_have T true cs h = tt
scopes_have T false cs h = h

mutual
  stmt_has : (s : Stmt) (T : Trait) (S : Widths) → Holds s (ValueHas T S) (QueryHas T S) →
      (cs : Codes) → CodesHave T cs → EmitHas T (emit s S cs)
  stmt_has (Compound atomic variables handlers body) T S s cs h = λ env here next n.
      let own = coded handlers S (scopes_in atomic cs) in
      let good : HandlersHave T own = coded_have handlers T S s.1 (scopes_in atomic cs)
      (scopes_have T atomic cs h) in
      let sealing = next + count cs in let exit = suc sealing in let runs = suc exit in let first =
      suc runs in let free = first + length own in
      let k = variable_count variables in let m = n + k in let W = with_variables env n k in
      let inner : Codes = record { handlers = own; level = env.level; variables = length W.columns }
      ∷ scopes_in atomic cs in
      let I = inside atomic own W here exit sealing in let N = ending_env atomic W here sealing in
      let raise = whole_raise (atomic || has_default variables) atomic cs env sealing here next free
      n in
      let last = joins runs (suc (length own)) here (ending_width own m) n in
      jump_has T here runs n (emit_declares variables S cs env runs here next free n
      ++ (emit_all body S inner I runs free m ++ (ending own N exit first free m ++ last ∷ raise)))
      (append_have T (emit_declares variables S cs env runs here next free n)
      (emit_all body S inner I runs free m ++ (ending own N exit first free m ++ last ∷ raise))
      (declares_have T variables S s.0 cs env runs here next free n)
      (append_have T (emit_all body S inner I runs free m)
      (ending own N exit first free m ++ last ∷ raise)
      (stmts_have body T S s.2 inner (good, scopes_have T atomic cs h) I runs free m)
      (append_have T (ending own N exit first free m) (last ∷ raise)
      (ending_has T own good N exit first free m)
      (joins_have T runs (suc (length own)) here (ending_width own m) n raise
      (whole_has T (atomic || has_default variables) atomic cs h env sealing here next free n)))))
  stmt_has (If branches otherwise) T S s cs h = λ env here next n.
      append_have T (emit_branches branches S cs (and_on (emit_all otherwise S cs)) env here here
      next (next + count cs) n) (handled cs env here next (next + count cs) n)
      (branches_have branches T S s.0 cs h (and_on (emit_all otherwise S cs))
      (and_on_has T (emit_all otherwise S cs) (stmts_have otherwise T S s.1 cs h)) env here here
      next (next + count cs) n)
      (handled_has T cs h env here next (next + count cs) n)
  stmt_has (SearchedCase branches otherwise) T S s cs h = λ env here next n.
      append_have T (emit_branches branches S cs (emit_else otherwise S cs) env here here next
      (next + count cs) n) (handled cs env here next (next + count cs) n)
      (branches_have branches T S s.0 cs h (emit_else otherwise S cs)
      (else_has otherwise T S s.1 cs h) env here here next (next + count cs) n)
      (handled_has T cs h env here next (next + count cs) n)
  stmt_has (SimpleCase e branches otherwise) T S s cs h = λ env here next n.
      let a = emitted e S env n in let x = expr_has T e S s.0 env n in let p = width a.nodes n in
      let start = next + count cs in (
        acts_have T here (with_column a.nodes a.scalar)
            (judging (tag start) cs env next here p []) (column_has T a.nodes a.scalar x.0 x.1)
            (judging_has T (tag start) cs env next here p [] (tag_has T start) tt),
        append_have T (emit_matching branches n S cs (emit_else otherwise S cs) env start here next
            (suc start) (suc n)) (fat no_node (places 0 n) ∷ handled cs env here next (suc start) n)
            (matching_have branches n T S s.1 cs h (emit_else otherwise S cs)
            (else_has otherwise T S s.2 cs h) env start here next (suc start) (suc n))
            (tt, handled_has T cs h env here next (suc start) n),
      )
  stmt_has (Set t e) T S s cs h = λ env here next n.
      let a = emitted e S env n in let x = expr_has T e S s env n in let p = width a.nodes n in
      one_has T cs h env here next n (with_column a.nodes (assigning t.data_type a.scalar)) p
      (tag here) (store_if p p (column_at n env.columns t.slot) ∷ [])
      (column_has T a.nodes (assigning t.data_type a.scalar) x.0
      (assigning_has T t.data_type a.scalar x.1)) (tag_has T here)
      (if_has T p p (column_at n env.columns t.slot), tt)
  stmt_has (SelectInto query targets) T S s cs h = λ env here next n.
      into_has T query S targets s cs h env here next n (query.folded S (reading env)) refl
  stmt_has (Signal state text) T S s cs h = λ env here next n.
      let a = perhaps_emitted text S env n in let x = text_has T text S s env n in
      raise_has T cs h env here next n (with_column a.nodes (push state a.scalar (constant Null)))
      (width a.nodes n) (column_has T a.nodes (push state a.scalar (constant Null)) x.0
      (push_has T state a.scalar (constant Null) x.1 (T.constants Null)))
  stmt_has (Resignal state text) T S s cs h = λ env here next n.
      again_has T env.stacked state text S s cs h env here next n
  stmt_has (GetStatementItems reads) T S s cs h = λ env here next n.
      statement_has T env.stacked reads cs h env here next n
  stmt_has (GetConditionItems number reads) T S s cs h = λ env here next n.
      condition_has T env.stacked number reads S s cs h env here next n
  stmt_has (Leave outwards) T S s cs h = λ env here next n.
      jump_has T here (env.labels (env.level - suc outwards)) n [] tt
  stmt_has (Return e) T S s cs h = λ env here next n.
      let a = emitted e S env n in let x = expr_has T e S s env n in let p = width a.nodes n in
      one_has T cs h env here next n (with_column a.nodes a.scalar) p (tag 0) (store_if p p 1 ∷ [])
      (column_has T a.nodes a.scalar x.0 x.1) (tag_has T 0) (if_has T p p 1, tt)

  stmts_have : (ss : Stmts) (T : Trait) (S : Widths) → AllHold ss (ValueHas T S) (QueryHas T S) →
      (cs : Codes) → CodesHave T cs → EmitHas T (emit_all ss S cs)
  stmts_have NoStmt T S s cs h = λ env here next n. tt
  stmts_have (MoreStmts x xs) T S s cs h = λ env here next n.
      append_have T (emit x S cs env here next n) (emit_all xs S cs env here next n)
      (stmt_has x T S s.0 cs h env here next n) (stmts_have xs T S s.1 cs h env here next n)

  else_has : (ss : Stmts) (T : Trait) (S : Widths) → AllHold ss (ValueHas T S) (QueryHas T S) →
      (cs : Codes) → CodesHave T cs → RestHas T (emit_else ss S cs)
  else_has NoStmt T S s cs h = not_found_has T cs
  else_has (MoreStmts x xs) T S s cs h =
      and_on_has T
      (λ env here next n. emit x S cs env here next n ++ emit_all xs S cs env here next n)
      (λ env here next n. append_have T (emit x S cs env here next n)
      (emit_all xs S cs env here next n) (stmt_has x T S s.0 cs h env here next n)
      (stmts_have xs T S s.1 cs h env here next n))

  branches_have : (bs : Branches) (T : Trait) (S : Widths) →
      BranchesHold bs (ValueHas T S) (QueryHas T S) → (cs : Codes) → CodesHave T cs →
      (rest : Rest) → RestHas T rest → RestHas T (emit_branches bs S cs rest)
  branches_have NoBranch T S s cs h rest r = r
  branches_have (MoreBranches test body others) T S s cs h rest r =
      branching_has T (emitted test S) (λ env n. expr_has T test S s.0 env n) cs
      (emit_all body S cs) (stmts_have body T S s.1 cs h) (emit_branches others S cs rest)
      (branches_have others T S s.2 cs h rest r)

  matching_have : (bs : Branches) (m : ℕ) (T : Trait) (S : Widths) →
      BranchesHold bs (ValueHas T S) (QueryHas T S) → (cs : Codes) → CodesHave T cs →
      (rest : Rest) → RestHas T rest → RestHas T (emit_matching bs m S cs rest)
  matching_have NoBranch m T S s cs h rest r = r
  matching_have (MoreBranches e body others) m T S s cs h rest r =
      branching_has T (λ env n. equal_to m (emitted e S env n))
      (λ env n. equal_has T m (emitted e S env n) (expr_has T e S s.0 env n)) cs
      (emit_all body S cs) (stmts_have body T S s.1 cs h) (emit_matching others m S cs rest)
      (matching_have others m T S s.2 cs h rest r)

  coded_have : (hs : Handlers) (T : Trait) (S : Widths) →
      HandlersHold hs (ValueHas T S) (QueryHas T S) → (cs : Codes) → CodesHave T cs →
      HandlersHave T (coded hs S cs)
  coded_have NoHandler T S s cs h = tt
  coded_have (MoreHandlers kind takes action others) T S s cs h =
      (stmt_has action T S s.0 cs h, coded_have others T S s.1 cs h)

-- ---- the function

pub last_has : (T : Trait) (returns : SqlType) → T.scalar (last_cell returns)
last_has T returns = T.words case_word (more (code_is 0) (more (assigning returns (col 1))
    (more (code_is 1) (more raised_area (only without_return_cell))))) (
      code_has T 0,
      (
        assigning_has T returns (col 1) (T.columns 1),
        (
          code_has T 1,
          (
            T.words case_word (two (area_in 2) (constant Null))
                (two_have T (area_in 2) (constant Null) (area_has T 2) (T.constants Null)),
            (pushing_has T _ _, tt),
          ),
        ),
      ),
    )

-- The steps of a body have it.
pub body_has : (s : Stmt) (T : Trait) (S : Widths) → Holds s (ValueHas T S) (QueryHas T S) →
    (k n : ℕ) → StepsHave T (emit s S [] (top k) 3 4 n)
body_has s T S h k n = stmt_has s T S h [] tt (top k) 3 4 n

-- The plan of a function has it, where its leaves and the scalars that read its parameters do.
pub inline_has : (r : Routine) (T : Trait) (S : Widths) (params : Scalars) → RoutineHas T S r →
    AllHave T.scalar params → ChainHas T (inline_with r S params)
inline_has (Body types returns body) T S params s p = (
  (last_has T returns, tt),
  steps_have T (emit body S [] (top (length types)) 3 4 (3 + length types))
      (extend (first_cells returns params) unit_row)
      (body_has body T S s (length types) (3 + length types))
      ((tag_has T 3, (null_has T returns, (T.constants (Truth false), p))), tt),
)

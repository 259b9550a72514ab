-- A plan uses no outer column but those that its query names.
use Rattle.std.proofs.Common.{cond, ◌++◌, ◌≡◌, ℕ, zero, suc, ◌+◌, Bool, true, false, ◌&&◌, List, []}
use Rattle.std.proofs.Common.{◌∷◌, length, Option, Some, None, refl, drop}
use Rattle.sql_values.specs.declared.value.SqlType.{SqlType}
use Rattle.sql_values.specs.declared.value.SqlType.TheVariants.{Boolean, Integer, Varchar}
use Rattle.sql_values.specs.declared.value.Value.TheVariants.{Bool as Truth}
use Rattle.sql_values.specs.declared.operators.Comparison.TheVariants.{Equals}
use Rattle.rel_algebra.specs.Emit.{Emitted, EmittedAll, Env, Folded, Key, Place, Waiting, against}
use Rattle.rel_algebra.specs.Emit.{against_on, all_plain, all_true, all_values, all_waiting, ask}
use Rattle.rel_algebra.specs.Emit.{ask_member, assigning, assigning_first, assigning_in, at, below}
use Rattle.rel_algebra.specs.Emit.{called, checks, checks_of, chosen, columns_within, either_all}
use Rattle.rel_algebra.specs.Emit.{else_arms, emit, emit_all, emit_args, emit_body, emit_links}
use Rattle.rel_algebra.specs.Emit.{emit_rows, emit_tests, entered, filters, filters_width}
use Rattle.rel_algebra.specs.Emit.{first_and, first_value, folded, folded_env, folding, from_plan}
use Rattle.rel_algebra.specs.Emit.{given, if_all, if_values, joined_nodes, key_of, key_step, lifted}
use Rattle.rel_algebra.specs.Emit.{list_nodes, listed, listed_by, none_waits, nowhere, nulls}
use Rattle.rel_algebra.specs.Emit.{numbers, one_column, one_param, outward, own_places, passed}
use Rattle.rel_algebra.specs.Emit.{plan, raising, read, routine_plan, row_stands, scalar_count}
use Rattle.rel_algebra.specs.Emit.{scalars_of, selected, several, singly, test_step, then_columns}
use Rattle.rel_algebra.specs.Emit.{top, truths, turned, values_plan, width, word_on}
use Rattle.rel_algebra.specs.Joins.{from_width, places, rows_width}
use Rattle.rel_algebra.specs.Plan.{Kind, Nodes, PlanTree, Scalar, Scalars, apply, apply_by}
use Rattle.rel_algebra.specs.Plan.{argument, case_word, column, constant, cross, exists, extend}
use Rattle.rel_algebra.specs.Plan.{extend_by, filter, member, more, no_node, none, on_each, single}
use Rattle.rel_algebra.specs.Plan.{strict, unit_row, values, word, anew}
use Rattle.rel_algebra.specs.Removal.{kind_stays, less, lists_stay, nodes_within, stays, stays_all}
use Rattle.rel_algebra.specs.Removal.{tree_within, way_stays}
use Rattle.rel_algebra.specs.Simple.{AnyRow, ClosedPlans, Innermost, Names, NamesAll, NamesFrom}
use Rattle.rel_algebra.specs.Simple.{NamesLinks, NamesQuery, NamesRows, Reach, Reaches, further}
use Rattle.rel_algebra.specs.Tree.{And, Arithmetic, Call, CallSelf, Case, CaseOf, Chain, Coalesce}
use Rattle.rel_algebra.specs.Tree.{Column, Comparing, Cross, Derived, Exists, Expr, Exprs, From}
use Rattle.rel_algebra.specs.Tree.{Returned, Grouped, In, Inner, LeftOuter, Links, Literal}
use Rattle.rel_algebra.specs.Tree.{MoreExprs, MoreLinks, MoreRows, NoExpr, NoLink, NoRow, Operate}
use Rattle.rel_algebra.specs.Tree.{Or, Ordered, Query, Routine, Rows, Select, Single, Table, Values}
use Rattle.rel_algebra.specs.Tree.{Variable, parameters_of}
use Rattle.rel_algebra.proofs.Truths.{and_true, left_true, right_true}
pub use Rattle.rel_algebra.proofs.Reading.{PlaceIn}
use Rattle.rel_algebra.specs.Tree.{Function, Perhaps, Without, With, Variables, NoVariable}
use Rattle.rel_algebra.specs.Tree.{MoreVariables, Stmt, Compound, If, SearchedCase, SimpleCase, Set}
use Rattle.rel_algebra.specs.Tree.{SelectInto, Signal, Resignal, GetStatementItems}
use Rattle.rel_algebra.specs.Tree.{GetConditionItems, Leave, Return, Stmts, NoStmt, MoreStmts}
use Rattle.rel_algebra.specs.Tree.{Branches, NoBranch, MoreBranches, Handlers, NoHandler}
use Rattle.rel_algebra.specs.Tree.{MoreHandlers}
use Rattle.rel_algebra.specs.Emit.{branches_body, handlers_body, perhaps_body, stmt_body}
use Rattle.rel_algebra.specs.Emit.{stmts_body, variables_body}
use Rattle.rel_algebra.proofs.BodyHeld.{AllHold, BranchesHold, HandlersHold, Holds, PerhapsHolds}
use Rattle.rel_algebra.proofs.BodyHeld.{VariablesHold}
use Rattle.rel_algebra.specs.Bodies as body
use Rattle.rel_algebra.specs.Emit.{query_leaf, value_leaf}
use Rattle.rel_algebra.specs.BodyChain.{called_body, known_body}
use Rattle.rel_algebra.proofs.BodyCalled.{called_within}
use Rattle.rel_algebra.proofs.BodyKnown.{known_within}
use Rattle.rel_algebra.proofs.BodyInward.{FoldedWithin, QueryWithin, ReadsWithin, ValueWithin}

-- of the levels that are reached, and of the parameters where p is true, the places are within the
-- n innermost rows
abbrev pub EnvIn : Env → Reach → Bool → ℕ → Type 0
EnvIn e k p n = ((d i : ℕ) → Reaches k d → PlaceIn (e.columns d i) n)
    × (p ≡ true → (i : ℕ) → PlaceIn (e.params i) n)

read_stays : (p : Place) (n : ℕ) → PlaceIn p n → stays (read p) n ≡ true
read_stays (at level i) n h = h
read_stays (given i) n h = refl
read_stays nowhere n h = refl

outward_in : (p : Place) (n : ℕ) → PlaceIn p n → PlaceIn (outward p) (suc n)
outward_in (at level i) n h = h
outward_in (given i) n h = tt
outward_in nowhere n h = tt

pub below_in : (m i : ℕ) (p : Place) (n : ℕ) → PlaceIn p n → PlaceIn (below m i p) n
below_in zero i p n h = tt
below_in (suc m) zero p n h = h
below_in (suc m) (suc i) p n h = below_in m i p n h

reaches_back : (k : Reach) (d : ℕ) → Reaches (further k) (suc d) → Reaches k d
reaches_back (Innermost k) d l = l
reaches_back AnyRow d l = tt

pub entered_in : (e : Env) (m : ℕ) (k : Reach) (p : Bool) (n : ℕ) → EnvIn e k p n →
    EnvIn (entered e m) (further k) p (suc n)
entered_in e m k p n h = (columns, λ t i. outward_in (e.params i) n (h.1 t i))
  where
    columns : (d i : ℕ) → Reaches (further k) d → PlaceIn (columns_within e m d i) (suc n)
    columns zero i l = below_in m i (at 0 i) (suc n) refl
    columns (suc d) i l = outward_in (e.columns d i) n (h.0 d i (reaches_back k d l))

lifted_in : (e : Env) (k : Reach) (p : Bool) (n : ℕ) → EnvIn e k p n → EnvIn (lifted e) k p (suc n)
lifted_in e k p n h = (
  λ d i l. outward_in (e.columns d i) n (h.0 d i l),
  λ t i. outward_in (e.params i) n (h.1 t i),
)

pub passed_in : (m j : ℕ) (k : Reach) (p : Bool) (n : ℕ) → EnvIn (passed m j) k p (suc n)
passed_in m j k p n = (λ d i l. tt, λ t i. below_in j i (at 0 (m + i)) (suc n) refl)

pub folded_env_in : (e : Env) (m j : ℕ) (k : Reach) (p : Bool) (n : ℕ) → EnvIn e k p (suc n) →
    EnvIn (folded_env e m j) (further k) p (suc n)
folded_env_in e m j k p n h = (columns, h.1)
  where
    columns : (d i : ℕ) → Reaches (further k) d → PlaceIn ((folded_env e m j).columns d i) (suc n)
    columns zero i l = below_in j i (at 0 (m + i)) (suc n) refl
    columns (suc d) i l = h.0 d i (reaches_back k d l)

-- Emitted nodes and scalars.
abbrev pub Within : Emitted → ℕ → Type 0
Within a n = (nodes_within a.nodes n ≡ true) × (stays a.scalar (suc n) ≡ true)

abbrev pub WithinAll : EmittedAll → ℕ → Type 0
WithinAll a n = (nodes_within a.nodes n ≡ true) × (stays_all a.scalars (suc n) ≡ true)

pub joined_in : (a b : Nodes) (n : ℕ) → nodes_within a n ≡ true → nodes_within b n ≡ true →
    nodes_within (joined_nodes a b) n ≡ true
joined_in no_node b n p q = q
joined_in (extend_by ss a) b n p q =
    and_true (stays_all ss (suc n)) (nodes_within (joined_nodes a b) n)
    (left_true (stays_all ss (suc n)) (nodes_within a n) p)
    (joined_in a b n (right_true (stays_all ss (suc n)) (nodes_within a n) p) q)
joined_in (apply_by when kind way inner a) b n p q =
    let x = stays when (suc n) && (way_stays way (suc n) && kind_stays kind (suc n)) in
    let y = tree_within inner (suc n) in
    let r : (y && nodes_within a n) ≡ true = right_true x (y && nodes_within a n) p in
    and_true x (y && nodes_within (joined_nodes a b) n) (left_true x (y && nodes_within a n) p)
    (and_true y (nodes_within (joined_nodes a b) n) (left_true y (nodes_within a n) r)
    (joined_in a b n (right_true y (nodes_within a n) r) q))

first_and_in : (a : Emitted) (b : ℕ → EmittedAll) (m n : ℕ) → Within a n →
    WithinAll (b (width a.nodes m)) n → WithinAll (first_and a b m) n
first_and_in a b m n p q =
    let c = b (width a.nodes m) in (
      joined_in a.nodes c.nodes n p.0 q.0,
      and_true (stays a.scalar (suc n)) (stays_all c.scalars (suc n)) p.1 q.1,
    )

then_columns_in : (a : EmittedAll) (go : ℕ → ℕ → Emitted) (m n : ℕ) → WithinAll a n →
    Within (go (width a.nodes m) (scalar_count a.scalars)) n →
    Within (then_columns a go m) n
then_columns_in a go m n p q =
    let c = go (width a.nodes m) (scalar_count a.scalars) in (
      joined_in a.nodes (extend_by a.scalars c.nodes) n p.0
          (and_true (stays_all a.scalars (suc n)) (nodes_within c.nodes n) p.1 q.0),
      q.1,
    )

singly_in : (a : Emitted) (n : ℕ) → Within a n → WithinAll (singly a) n
singly_in a n p = (p.0, and_true (stays a.scalar (suc n)) true p.1 refl)

assigning_stays : (t : SqlType) (s : Scalar) (n : ℕ) → stays s n ≡ true →
    stays (assigning t s) n ≡ true
assigning_stays Integer s n h = h
assigning_stays (Varchar i) s n h = and_true (stays s n) true h refl
assigning_stays Boolean s n h = h

assigning_first_stays : (types : List SqlType) (s : Scalar) (n : ℕ) → stays s n ≡ true →
    stays (assigning_first types s) n ≡ true
assigning_first_stays [] s n h = h
assigning_first_stays (t ∷ types) s n h = assigning_stays t s n h

assigning_in_within : (types : List SqlType) (a : Emitted) (n : ℕ) → Within a n →
    Within (assigning_in types a) n
assigning_in_within types a n h = (h.0, assigning_first_stays types a.scalar (suc n) h.1)

checks_stay : (ps : List ℕ) (n : ℕ) → stays_all (checks ps) (suc n) ≡ true
checks_stay [] n = refl
checks_stay (i ∷ ps) n = checks_stay ps n

pub if_values_stays : (ps : List ℕ) (s : Scalar) (n : ℕ) → stays s (suc n) ≡ true →
    stays (if_values ps s) (suc n) ≡ true
if_values_stays [] s n h = h
if_values_stays (i ∷ is) s n h = and_true (stays_all (checks (i ∷ is)) (suc n)) (stays s (suc n)
    && true) (checks_stay (i ∷ is) n)
    (and_true (stays s (suc n)) true h refl)

checks_of_stay : (ss : Scalars) (n : ℕ) → stays_all ss n ≡ true → stays_all (checks_of ss) n ≡ true
checks_of_stay none n h = refl
checks_of_stay (more s ss) n h =
    and_true ((stays s n && true) && true) (stays_all (checks_of ss) n)
    (and_true (stays s n && true) true
    (and_true (stays s n) true (left_true (stays s n) (stays_all ss n) h) refl) refl)
    (checks_of_stay ss n (right_true (stays s n) (stays_all ss n) h))

if_all_stays : (ss : Scalars) (s : Scalar) (n : ℕ) → stays_all ss n ≡ true → stays s n ≡ true →
    stays (if_all ss s) n ≡ true
if_all_stays ss s n p q = and_true (stays_all (checks_of ss) n) (stays s n && true)
    (checks_of_stay ss n p) (and_true (stays s n) true q refl)

first_value_stays : (ss : Scalars) (n : ℕ) → stays_all ss n ≡ true → stays (first_value ss) n ≡ true
first_value_stays none n h = refl
first_value_stays (more s none) n h = left_true (stays s n) true h
first_value_stays (more s (more t ss)) n h =
    if_all_stays (more s (more t ss)) s n h (left_true (stays s n) (stays_all (more t ss) n) h)

row_stands_stays : (ss : Scalars) (n : ℕ) → stays_all ss n ≡ true → stays (row_stands ss) n ≡ true
row_stands_stays ss n h = if_all_stays ss (constant (Truth true)) n h refl

against_stays : (p : ℕ) (ss : Scalars) (n : ℕ) → stays_all ss (suc n) ≡ true →
    stays_all (against p ss) (suc n) ≡ true
against_stays p none n h = refl
against_stays p (more last none) n h = h
against_stays p (more t (more r ss)) n h =
    let x = stays t (suc n) in let y = stays r (suc n) in let z = stays_all ss (suc n) in
    let k : (y && z) ≡ true = right_true x (y && z) h in
    and_true (x && true) (y && stays_all (against p ss) (suc n))
    (and_true x true (left_true x (y && z) h) refl)
    (and_true y (stays_all (against p ss) (suc n)) (left_true y z k)
    (against_stays p ss n (right_true y z k)))

all_true_stays : (ss : Scalars) (n : ℕ) → stays_all ss n ≡ true → stays (all_true ss) n ≡ true
all_true_stays none n h = refl
all_true_stays (more s ss) n h =
    and_true (stays s n && true) (stays_all (truths ss) n)
    (and_true (stays s n) true (left_true (stays s n) (stays_all ss n) h) refl)
    (all_true_stays ss n (right_true (stays s n) (stays_all ss n) h))

turned_in : (own other : Place) (n : ℕ) → PlaceIn own (suc n) → PlaceIn other (suc n) →
    Within (turned own other) n
turned_in own other n p q = (
  refl,
  and_true (stays (read own) (suc n)) (stays (read other) (suc n) && true)
      (read_stays own (suc n) p)
      (and_true (stays (read other) (suc n)) true (read_stays other (suc n) q) refl),
)

-- a conjunct that compares a column with a name from outside
abbrev pub KeyWithin : Option Key → ℕ → Type 0
KeyWithin None n = Unit {0}
KeyWithin (Some key) n = Within (turned key.own key.other) n

pub key_in : (x : Expr) (e : Env) (k : Reach) (p : Bool) (n : ℕ) → Names x k p →
    EnvIn e k p (suc n) → KeyWithin (key_of x e) n
key_in (Operate (Comparing Equals)
    (MoreExprs (Column zero i) (MoreExprs (Column (suc d) j) NoExpr))) e k p n h v =
    turned_in (e.columns zero i) (e.columns (suc d) j) n (v.0 zero i h.0) (v.0 (suc d) j h.1.0)
key_in (Operate (Comparing Equals)
    (MoreExprs (Column (suc d) j) (MoreExprs (Column zero i) NoExpr))) e k p n h v =
    turned_in (e.columns zero i) (e.columns (suc d) j) n (v.0 zero i h.1.0) (v.0 (suc d) j h.0)
key_in (Operate (Comparing Equals) (MoreExprs (Column zero i) (MoreExprs (Variable j) NoExpr))) e k
    p n h v =
    turned_in (e.columns zero i) (e.params j) n (v.0 zero i h.0) (v.1 h.1.0 j)
key_in (Operate (Comparing Equals) (MoreExprs (Variable j) (MoreExprs (Column zero i) NoExpr))) e k
    p n h v =
    turned_in (e.columns zero i) (e.params j) n (v.0 zero i h.1.0) (v.1 h.0 j)
key_in _ e k p n h v = tt

abbrev pub TestsWithin : List Emitted → ℕ → Type 0
TestsWithin [] n = Unit {0}
TestsWithin (a ∷ ems) n = Within a n × TestsWithin ems n

tests_append : (a b : List Emitted) (n : ℕ) → TestsWithin a n → TestsWithin b n →
    TestsWithin (a ++ b) n
tests_append [] b n p q = q
tests_append (x ∷ a) b n p q = (p.0, tests_append a b n p.1 q)

abbrev pub WaitingWithin : Waiting → ℕ → Type 0
WaitingWithin p n = TestsWithin p.params n × TestsWithin p.columns n

all_waiting_in : (p : Waiting) (n : ℕ) → WaitingWithin p n → TestsWithin (all_waiting p) n
all_waiting_in p n h = tests_append p.params p.columns n h.0 h.1

param_in : (p : Waiting) (a : Emitted) (n : ℕ) → WaitingWithin p n → Within a n →
    WaitingWithin (one_param a p) n
param_in p a n h w = (tests_append p.params (a ∷ []) n h.0 (w, tt), h.1)

column_in : (p : Waiting) (a : Emitted) (n : ℕ) → WaitingWithin p n → Within a n →
    WaitingWithin (one_column a p) n
column_in p a n h w = (h.0, tests_append p.columns (a ∷ []) n h.1 (w, tt))

key_step_in : (of_column : Bool) (place : Place) (t : Emitted) (rest : Waiting → ℕ →
    List Emitted) (p : Waiting) (m n : ℕ) → Within t n →
    WaitingWithin p n → ((p : Waiting) (j : ℕ) → WaitingWithin p n → TestsWithin (rest p j) n) →
    TestsWithin (key_step of_column place t rest p m) n
key_step_in true (at level i) t rest p m n k hp go = go (one_column t p) m (column_in p t n hp k)
key_step_in true (given i) t rest p m n k hp go = (k, go p m hp)
key_step_in true nowhere t rest p m n k hp go = (k, go p m hp)
key_step_in false (at level i) t rest p m n k hp go = go (one_param t p) m (param_in p t n hp k)
key_step_in false (given i) t rest p m n k hp go = go (one_param t p) m (param_in p t n hp k)
key_step_in false nowhere t rest p m n k hp go = (k, go p m hp)

step_in : (key : Option Key) (a : Emitted) (rest : Waiting → ℕ → List Emitted) (p : Waiting)
    (m n : ℕ) → KeyWithin key n → Within a n →
    WaitingWithin p n → ((p : Waiting) (j : ℕ) → WaitingWithin p n → TestsWithin (rest p j) n) →
    TestsWithin (test_step key a rest p m) n
step_in None a rest p m n k ha hp go =
    tests_append (all_waiting p) (a ∷ rest none_waits (width a.nodes m)) n (all_waiting_in p n hp)
    (ha, go none_waits (width a.nodes m) (tt, tt))
step_in (Some key) a rest p m n k ha hp go =
    key_step_in key.of_column key.other (turned key.own key.other) rest p m n k hp go

-- a run of nodes over a plan
pub on_each_in : (nodes : Nodes) (t : PlanTree) (n : ℕ) → nodes_within nodes n ≡ true →
    tree_within t n ≡ true → tree_within (on_each nodes t) n ≡ true
on_each_in no_node t n h k = k
on_each_in (extend_by ss a) t n h k =
    on_each_in a (extend ss t) n (right_true (stays_all ss (suc n)) (nodes_within a n) h)
    (and_true (stays_all ss (suc n)) (tree_within t n)
    (left_true (stays_all ss (suc n)) (nodes_within a n) h) k)
on_each_in (apply_by when kind way inner a) t n h k =
    let x = stays when (suc n) && (way_stays way (suc n) && kind_stays kind (suc n)) in
    let y = tree_within inner (suc n) in
    let r : (y && nodes_within a n) ≡ true = right_true x (y && nodes_within a n) h in
    on_each_in a (apply when kind way inner t) n (right_true y (nodes_within a n) r)
    (and_true x (y && tree_within t n) (left_true x (y && nodes_within a n) h)
    (and_true y (tree_within t n) (left_true y (nodes_within a n) r) k))

filters_in : (ems : List Emitted) (input : PlanTree) (n : ℕ) → TestsWithin ems n →
    tree_within input n ≡ true →
    tree_within (filters ems input) n ≡ true
filters_in [] input n h t = t
filters_in (a ∷ ems) input n h t =
    filters_in ems (filter a.scalar (on_each a.nodes input)) n h.1
    (and_true (stays a.scalar (suc n)) (tree_within (on_each a.nodes input) n) h.0.1
    (on_each_in a.nodes input n h.0.0 t))

listed_by_in : (own : Option (List ℕ)) (a : EmittedAll) (m : ℕ) (input : PlanTree) (n : ℕ) →
    WithinAll a n → tree_within input n ≡ true →
    tree_within (listed_by own a m input) n ≡ true
listed_by_in (Some is) a m input n h t = on_each_in a.nodes input n h.0 t
listed_by_in None a m input n h t =
    on_each_in (joined_nodes a.nodes (extend_by a.scalars no_node)) input n
    (joined_in a.nodes (extend_by a.scalars no_node) n h.0
    (and_true (stays_all a.scalars (suc n)) true h.1 refl)) t

listed_in : (a : EmittedAll) (m : ℕ) (input : PlanTree) (n : ℕ) → WithinAll a n →
    tree_within input n ≡ true → tree_within (listed a m input) n ≡ true
listed_in a m input n h t = listed_by_in (own_places a.scalars) a m input n h t

-- Trees.
abbrev pub ExprIn : Expr → Type 0
ExprIn x = (S : List ℕ → ℕ) (k : Reach) (p : Bool) (e : Env) (n m : ℕ) → Names x k p →
    EnvIn e k p (suc n) → Within (emit x S e m) n

abbrev pub EachIn : Exprs → Type 0
EachIn NoExpr = Unit {0}
EachIn (MoreExprs x es) = ExprIn x × EachIn es

abbrev pub BodyIn : Routine → Type 0
BodyIn r = (S : List ℕ → ℕ) (m j n i : ℕ) → Within (emit_body r S (passed m j) i) n

abbrev pub QueryIn : Query → Type 0
QueryIn q = (S : List ℕ → ℕ) (k : Reach) (p : Bool) (e : Env) (n : ℕ) → NamesQuery q k p →
    EnvIn e k p n → tree_within (plan q S e) n ≡ true

abbrev pub FromIn : From → Type 0
FromIn x = (S : List ℕ → ℕ) (k : Reach) (p : Bool) (e : Env) (n : ℕ) → NamesFrom x k p →
    EnvIn e k p n → tree_within (from_plan x S e) n ≡ true

abbrev pub InputWithin : Option Folded → ℕ → Type 0
InputWithin None n = Unit {0}
InputWithin (Some a) n = tree_within a.input n ≡ true

abbrev pub ListsWithin : Option Folded → ℕ → Type 0
ListsWithin None n = Unit {0}
ListsWithin (Some a) n = (j : ℕ) → WithinAll (a.list j) n

abbrev pub FoldIn : Query → Type 0
FoldIn q = (S : List ℕ → ℕ) (k : Reach) (p : Bool) (e : Env) (n : ℕ) → NamesQuery q k p →
    (EnvIn e k p n → InputWithin (folded q S e) n) ×
    (EnvIn e k p (suc n) → ListsWithin (folded q S e) n)

pub all_in : (es : Exprs) → EachIn es →
    (S : List ℕ → ℕ) (k : Reach) (p : Bool) (e : Env) (n m : ℕ) → NamesAll es k p →
    EnvIn e k p (suc n) →
    WithinAll (emit_all es S e m) n
all_in NoExpr h S k p e n m ns v = (refl, refl)
all_in (MoreExprs x es) h S k p e n m ns v =
    first_and_in (emit x S e m) (emit_all es S e) m n (h.0 S k p e n m ns.0 v)
    (all_in es h.1 S k p e n (width (emit x S e m).nodes m) ns.1 v)

args_in : (es : Exprs) → EachIn es →
    (types : List SqlType) (S : List ℕ → ℕ) (k : Reach) (p : Bool) (e : Env) (n m : ℕ) →
    NamesAll es k p →
    EnvIn e k p (suc n) → WithinAll (emit_args es types S e m) n
args_in NoExpr h types S k p e n m ns v = (refl, refl)
args_in (MoreExprs x es) h types S k p e n m ns v =
    let a = emit x S e m in
    first_and_in (assigning_in types a) (emit_args es (drop 1 types) S e) m n
    (assigning_in_within types a n (h.0 S k p e n m ns.0 v))
    (args_in es h.1 (drop 1 types) S k p e n (width a.nodes m) ns.1 v)

pub tests_in : (es : Exprs) → EachIn es →
    (S : List ℕ → ℕ) (k : Reach) (p : Bool) (e : Env) (n m : ℕ) (pending : Waiting) →
    NamesAll es k p →
    EnvIn e k p (suc n) → WaitingWithin pending n → TestsWithin (emit_tests es S e pending m) n
tests_in NoExpr h S k p e n m pending ns v hp = all_waiting_in pending n hp
tests_in (MoreExprs x es) h S k p e n m pending ns v hp =
    step_in (key_of x e) (emit x S e m) (emit_tests es S e) pending m n (key_in x e k p n ns.0 v)
    (h.0 S k p e n m ns.0 v) hp
    (λ q j hq. tests_in es h.1 S k p e n j q ns.1 v hq)

two_in : (a : Emitted) (x : Expr) → ExprIn x →
    (S : List ℕ → ℕ) (k : Reach) (p : Bool) (e : Env) (n m : ℕ) → Names x k p →
    EnvIn e k p (suc n) →
    Within a n → WithinAll (first_and a (λ i. singly (emit x S e i)) m) n
two_in a x hx S k p e n m ns v h = first_and_in a (λ i. singly (emit x S e i)) m n h
    (singly_in (emit x S e (width a.nodes m)) n (hx S k p e n (width a.nodes m) ns v))

abbrev pub EachLink : Links → Type 0
EachLink NoLink = Unit {0}
EachLink (MoreLinks operator x links) = ExprIn x × EachLink links

links_in : (links : Links) → EachLink links →
    (a : Emitted) (S : List ℕ → ℕ) (k : Reach) (p : Bool) (e : Env) (n m : ℕ) →
    NamesLinks links k p →
    EnvIn e k p (suc n) → Within a n → Within (emit_links links a S e m) n
links_in NoLink h a S k p e n m ns v w = w
links_in (MoreLinks operator x links) h a S k p e n m ns v w =
    links_in links h.1 (word_on (strict (Arithmetic operator))
    (first_and a (λ i. singly (emit x S e i)) m)) S k p e n m ns.1 v
    (two_in a x h.0 S k p e n m ns.0 v w)

selected_in : (tests items : Exprs) → EachIn tests → EachIn items →
    (S : List ℕ → ℕ) (k : Reach) (p : Bool) (e : Env) (n m : ℕ) (input : PlanTree) →
    NamesAll tests (further k) p → NamesAll items (further k) p → EnvIn e k p n →
    tree_within input n ≡ true →
    tree_within (selected (emit_tests tests S (entered e m) none_waits)
    (emit_all items S (entered e m)) m input) n ≡ true
selected_in tests items ht hi S k p e n m input nt ni v t =
    let inner = entered e m in let ts = emit_tests tests S inner none_waits m in
    let j = filters_width ts m in let vi = entered_in e m k p n v in
    listed_in (emit_all items S inner j) j (filters ts input) n
    (all_in items hi S (further k) p inner n j ni vi)
    (filters_in ts input n (tests_in tests ht S (further k) p inner n m none_waits nt vi (tt, tt))
    t)

case_of_in : (x test result : Expr) (arms : Exprs) → ExprIn x → ExprIn test → ExprIn result →
    EachIn arms → ExprIn (CaseOf x test result arms)
case_of_in x test result arms hx ht hr ha S k p e n m ns v =
    let a = singly (emit x S e m) in let c = width a.nodes m in
    let all = first_and (emit test S e (suc c))
    (λ i. first_and (emit result S e i) (emit_all arms S e) i) (suc c) in
    let w : WithinAll all n = first_and_in (emit test S e (suc c))
    (λ i. first_and (emit result S e i) (emit_all arms S e) i) (suc c) n
    (ht S k p e n (suc c) ns.1 v)
    (first_and_in (emit result S e _) (emit_all arms S e) _ n (hr S k p e n _ ns.2 v)
    (all_in arms ha S k p e n _ ns.3 v)) in
    then_columns_in a (λ c j.
    against_on c (first_and (emit test S e (suc c))
    (λ i. first_and (emit result S e i) (emit_all arms S e) i) (suc c))) m n
    (singly_in (emit x S e m) n (hx S k p e n m ns.0 v)) (w.0, against_stays c all.scalars n w.1)

call_in : (name : List ℕ) (r : Routine) (es : Exprs) → BodyIn r → EachIn es →
    ExprIn (Call name r es)
call_in name r es hb ha S k p e n m ns v =
    let types = parameters_of r in let a = emit_args es types S e m in let c = width a.nodes m in
    let j = scalar_count a.scalars in
    let b : Within (emit_body r S (passed c j) (c + j)) n = hb S c j n (c + j) in
    then_columns_in a (λ c j. called (raising es types c) (emit_body r S (passed c j) (c + j))) m n
    (args_in es ha types S k p e n m ns v)
    (b.0, if_values_stays (raising es types c) (emit_body r S (passed c j) (c + j)).scalar n b.1)

folding_in : (a : Folded) (use_list : Scalars → Scalar) (j n : ℕ) →
    ((ss : Scalars) (i : ℕ) → stays_all ss i ≡ true → stays (use_list ss) i ≡ true) →
    tree_within a.input (suc n) ≡ true → ((j : ℕ) → WithinAll (a.list j) n) →
    Within (folding a use_list j) n
folding_in a use_list j n hu hi hl = (
  and_true (tree_within a.input (suc n)) (nodes_within (a.list j).nodes n) hi (hl j).0,
  if_values_stays (j ∷ []) (use_list (a.list j).scalars) n (hu (a.list j).scalars (suc n) (hl j).1),
)

ask_in : (oa : Option Folded) (kind : Kind) (use_list : Scalars →
    Scalar) (inner : PlanTree) (j n : ℕ) →
    ((ss : Scalars) (i : ℕ) → stays_all ss i ≡ true → stays (use_list ss) i ≡ true) →
    kind_stays kind (suc n) ≡ true →
    tree_within inner (suc n) ≡ true → InputWithin oa (suc n) → ListsWithin oa n →
    Within (ask oa kind use_list inner j) n
ask_in None kind use_list inner j n hu hk ht hi hl = (
  and_true (kind_stays kind (suc n)) (tree_within inner (suc n) && true) hk
      (and_true (tree_within inner (suc n)) true ht refl),
  refl,
)
ask_in (Some a) kind use_list inner j n hu hk ht hi hl = folding_in a use_list j n hu hi hl

ask_member_in : (oa : Option Folded) (a : Emitted) (inner : PlanTree) (j n : ℕ) → Within a n →
    tree_within inner (suc n) ≡ true →
    InputWithin oa (suc n) → ListsWithin oa n → Within (ask_member oa a inner j) n
ask_member_in None a inner j n ha ht hi hl = (
  joined_in a.nodes (apply_by (constant (Truth true)) (member a.scalar) anew inner no_node) n ha.0
      (and_true (stays a.scalar (suc n)) (tree_within inner (suc n) && true) ha.1
      (and_true (tree_within inner (suc n)) true ht refl)),
  refl,
)
ask_member_in (Some c) a inner j n ha ht hi hl =
    let b = folding c first_value (width a.nodes j) in
    let hb : Within b n = folding_in c first_value (width a.nodes j) n first_value_stays hi hl in (
      joined_in a.nodes b.nodes n ha.0 hb.0,
      and_true (stays a.scalar (suc n)) (stays b.scalar (suc n) && true) ha.1
          (and_true (stays b.scalar (suc n)) true hb.1 refl),
    )

-- VALUES.
nulls_stay : (k n : ℕ) → stays_all (nulls k) n ≡ true
nulls_stay zero n = refl
nulls_stay (suc k) n = nulls_stay k n

abbrev pub RowsIn : Rows → Type 0
RowsIn NoRow = Unit {0}
RowsIn (MoreRows es rows) = EachIn es × RowsIn rows

abbrev pub EachWithin : List EmittedAll → ℕ → Type 0
EachWithin [] n = Unit {0}
EachWithin (a ∷ lists) n = WithinAll a n × EachWithin lists n

rows_in : (rows : Rows) → RowsIn rows →
    (S : List ℕ → ℕ) (k : Reach) (p : Bool) (e : Env) (n m : ℕ) → NamesRows rows k p →
    EnvIn e k p (suc n) →
    EachWithin (emit_rows rows S e m) n
rows_in NoRow h S k p e n m ns v = tt
rows_in (MoreRows es rows) h S k p e n m ns v = (
  all_in es h.0 S k p e n m ns.0 v,
  rows_in rows h.1 S k p e n (width (emit_all es S e m).nodes m) ns.1
      v,
)

list_nodes_in : (lists : List EmittedAll) (n : ℕ) → EachWithin lists n →
    nodes_within (list_nodes lists) n ≡ true
list_nodes_in [] n h = refl
list_nodes_in (a ∷ lists) n h =
    joined_in a.nodes (list_nodes lists) n h.0.0 (list_nodes_in lists n h.1)

pub else_stays : (r : Scalar) (n : ℕ) → stays r n ≡ true → stays_all (else_arms r) n ≡ true
else_stays (word case_word arms) n h = h
else_stays (constant v) n h = refl
else_stays (column level i) n h = and_true (less level n) true h refl
else_stays (argument i) n h = refl
else_stays (word w ss) n h = and_true (stays_all ss n) true h refl

either_stays : (i : ℕ) (ss rs : Scalars) (n : ℕ) → stays_all ss (suc n) ≡ true →
    stays_all rs (suc n) ≡ true →
    stays_all (either_all i ss rs) (suc n) ≡ true
either_stays i none rs n p q = refl
either_stays i (more s ss) none n p q = refl
either_stays i (more s ss) (more r rs) n p q =
    let x = stays s (suc n) in let y = stays r (suc n) in
    and_true (x && stays_all (else_arms r) (suc n)) (stays_all (either_all i ss rs) (suc n))
    (and_true x (stays_all (else_arms r) (suc n)) (left_true x (stays_all ss (suc n)) p)
    (else_stays r (suc n) (left_true y (stays_all rs (suc n)) q)))
    (either_stays i ss rs n (right_true x (stays_all ss (suc n)) p)
    (right_true y (stays_all rs (suc n)) q))

chosen_stay : (k i : ℕ) (lists : List EmittedAll) (n : ℕ) → EachWithin lists n →
    stays_all (chosen k i lists) (suc n) ≡ true
chosen_stay k i [] n h = nulls_stay k (suc n)
chosen_stay k i (a ∷ lists) n h =
    either_stays i a.scalars (chosen k (suc i) lists) n h.0.1 (chosen_stay k (suc i) lists n h.1)

numbers_stay : (i r n : ℕ) → lists_stay (numbers i r) n ≡ true
numbers_stay i zero n = refl
numbers_stay i (suc r) n = numbers_stay (suc i) r n

scalars_stay : (lists : List EmittedAll) (n : ℕ) → EachWithin lists n →
    lists_stay (scalars_of lists) (suc n) ≡ true
scalars_stay [] n h = refl
scalars_stay (a ∷ lists) n h = and_true (stays_all a.scalars (suc n))
    (lists_stay (scalars_of lists) (suc n)) h.0.1 (scalars_stay lists n h.1)

several_in : (k : ℕ) (lists : List EmittedAll) (n : ℕ) → EachWithin lists n →
    tree_within (several k lists) n ≡ true
several_in k lists n h =
    listed_in (record { nodes = list_nodes lists; scalars = chosen k 0 lists }) 1
    (values (numbers 0 (length lists))) n
    (list_nodes_in lists n h, chosen_stay k 0 lists n h) (numbers_stay 0 (length lists) (suc n))

either_within : (b : Bool) (x y : PlanTree) (n : ℕ) → tree_within x n ≡ true →
    tree_within y n ≡ true → tree_within (cond b x y) n ≡ true
either_within true x y n p q = p
either_within false x y n p q = q

values_plan_in : (k : ℕ) (plain lists : List EmittedAll) (n : ℕ) → EachWithin plain n →
    EachWithin lists n →
    tree_within (values_plan k plain lists) n ≡ true
values_plan_in k [] lists n p q = several_in k lists n q
values_plan_in k (a ∷ []) lists n p q = listed_in a 0 unit_row n p.0 refl
values_plan_in k (a ∷ b ∷ others) lists n p q =
    either_within (all_plain (a ∷ b ∷ others)) (values (scalars_of (a ∷ b ∷ others)))
    (several k lists) n (scalars_stay (a ∷ b ∷ others) n p)
    (several_in k lists n q)

-- any row may be named, and any parameter
mutual
  any_expr : (x : Expr) → Names x AnyRow true
  any_expr (Literal v) = tt
  any_expr (Column d i) = tt
  any_expr (Variable i) = refl
  any_expr (Chain x links) = (any_expr x, any_links links)
  any_expr (Operate op es) = any_all es
  any_expr (And es) = any_all es
  any_expr (Or es) = any_all es
  any_expr (Case arms) = any_all arms
  any_expr (CaseOf x test result arms) = (any_expr x, any_expr test, any_expr result, any_all arms)
  any_expr (Coalesce es) = any_all es
  any_expr (In x q) = (any_expr x, any_query q)
  any_expr (Exists q) = any_query q
  any_expr (Single q) = any_query q
  any_expr (Call name r es) = any_all es
  any_expr (CallSelf types es) = tt

  any_links : (links : Links) → NamesLinks links AnyRow true
  any_links NoLink = tt
  any_links (MoreLinks operator x links) = (any_expr x, any_links links)

  any_all : (es : Exprs) → NamesAll es AnyRow true
  any_all NoExpr = tt
  any_all (MoreExprs x es) = (any_expr x, any_all es)

  any_query : (q : Query) → NamesQuery q AnyRow true
  any_query (Select items from tests) = (any_from from, any_all tests, any_all items)
  any_query (Grouped from tests g items ags having list) =
      (any_from from, any_all tests, any_all items, any_all having, any_all list)
  any_query (Values rows) = any_rows rows
  any_query (Ordered q keys) = any_query q

  any_rows : (rows : Rows) → NamesRows rows AnyRow true
  any_rows NoRow = tt
  any_rows (MoreRows es rows) = (any_all es, any_rows rows)

  any_from : (x : From) → NamesFrom x AnyRow true
  any_from (Table t) = tt
  any_from (Derived q) = any_query q
  any_from (Cross a b) = (any_from a, any_from b)
  any_from (Inner a b on) = (any_from a, any_from b, any_all on)
  any_from (LeftOuter a b on) = (any_from a, any_from b, any_all on)

-- where what is read stays, its places do
place_in : (p : Place) (n : ℕ) → stays (read p) n ≡ true → PlaceIn p n
place_in (at level i) n h = h
place_in (given i) n h = tt
place_in nowhere n h = tt

env_in : (e : Env) (n : ℕ) → ReadsWithin e n → EnvIn e AnyRow true n
env_in e n h =
    (λ d i r. place_in (e.columns d i) n (h.0 d i), λ t i. place_in (e.params i) n (h.1 i))

-- the leaf that an expression is
leaf_in : (x : Expr) → ExprIn x → (S : List ℕ → ℕ) (n : ℕ) → ValueWithin S n (value_leaf x)
leaf_in x hx S n = λ e m h. hx S AnyRow true e n m (any_expr x) (env_in e (suc n) h)

-- that of SELECT INTO
folded_in : (oa : Option Folded) (n : ℕ) → InputWithin oa (suc n) → ListsWithin oa n →
    FoldedWithin oa n
folded_in None n h k = tt
folded_in (Some a) n h k = (h, k)

into_in : (q : Query) (targets : List body.Target) (S : List ℕ → ℕ) (n : ℕ) →
    NamesQuery q AnyRow true → QueryIn q → FoldIn q → QueryWithin S n (query_leaf q) targets
into_in q targets S n ns hq hf = record {
  plan = λ e h. hq S AnyRow true e (suc n) ns (env_in e (suc n) h);
  folds = λ e h. folded_in (folded q S e) n
      ((hf S AnyRow true e (suc n) ns).0 (env_in e (suc n) h))
      ((hf S AnyRow true e n ns).1 (env_in e (suc n) h));
}

-- the places that are passed to a body stay
passed_reads_in : (m j n : ℕ) (i : ℕ) → stays (read ((passed m j).params i)) (suc n) ≡ true
passed_reads_in m j n i =
    read_stays ((passed m j).params i) (suc n) ((passed_in m j AnyRow true n).1 refl i)

mutual
  pub expr_in : (x : Expr) → ExprIn x
  expr_in (Literal v) = λ S k p e n m ns v. (refl, refl)
  expr_in (Column d i) = λ S k p e n m ns v. (refl, read_stays (e.columns d i) (suc n) (v.0 d i ns))
  expr_in (Variable i) = λ S k p e n m ns v. (refl, read_stays (e.params i) (suc n) (v.1 ns i))
  expr_in (Chain x links) = λ S k p e n m ns v.
      links_in links (each_link links) (emit x S e m) S k p e n m ns.1 v
      (expr_in x S k p e n m ns.0 v)
  expr_in (Operate op es) = λ S k p e n m ns v. all_in es (each_in es) S k p e n m ns v
  expr_in (And es) = λ S k p e n m ns v. all_in es (each_in es) S k p e n m ns v
  expr_in (Or es) = λ S k p e n m ns v. all_in es (each_in es) S k p e n m ns v
  expr_in (Case arms) = λ S k p e n m ns v. all_in arms (each_in arms) S k p e n m ns v
  expr_in (CaseOf x test result arms) =
      case_of_in x test result arms (expr_in x) (expr_in test) (expr_in result) (each_in arms)
  expr_in (Coalesce es) = λ S k p e n m ns v. all_in es (each_in es) S k p e n m ns v
  expr_in (In x q) = λ S k p e n m ns v.
      ask_member_in (folded q S e) (emit x S e m) (plan q S e) m n (expr_in x S k p e n m ns.0 v)
      (query_in q S k p e (suc n) ns.1 v)
      ((fold_in q S k p e (suc n) ns.1).0 v) ((fold_in q S k p e n ns.1).1 v)
  expr_in (Exists q) = λ S k p e n m ns v.
      ask_in (folded q S e) exists row_stands (plan q S e) m n row_stands_stays refl
      (query_in q S k p e (suc n) ns v)
      ((fold_in q S k p e (suc n) ns).0 v) ((fold_in q S k p e n ns).1 v)
  expr_in (Single q) = λ S k p e n m ns v.
      ask_in (folded q S e) single first_value (plan q S e) m n first_value_stays refl
      (query_in q S k p e (suc n) ns v)
      ((fold_in q S k p e (suc n) ns).0 v) ((fold_in q S k p e n ns).1 v)
  expr_in (Call name r es) = call_in name r es (body_in r) (each_in es)
  expr_in (CallSelf types es) = λ S k p e n m ns v. (refl, refl)

  pub each_link : (links : Links) → EachLink links
  each_link NoLink = tt
  each_link (MoreLinks operator x links) = (expr_in x, each_link links)

  pub each_in : (es : Exprs) → EachIn es
  each_in NoExpr = tt
  each_in (MoreExprs x es) = (expr_in x, each_in es)

  pub body_in : (r : Routine) → BodyIn r
  body_in (Returned types returns x) = λ S m j n i.
      assigning_in_within (returns ∷ []) (emit x S (passed m j) i) n
      (expr_in x S AnyRow true (passed m j) n i (any_expr x) (passed_in m j AnyRow true n))
  body_in (Function false types returns false statement) = λ S m j n i.
      called_within (body.Body types returns (stmt_body statement)) S n
      (stmt_in statement S (suc n)) (passed m j) i (passed_reads_in m j n)
  body_in (Function false types returns true statement) = λ S m j n i.
      known_within (body.Body types returns (stmt_body statement)) S n
      (stmt_in statement S (suc n)) (passed m j) i (passed_reads_in m j n)
  body_in _ = λ S m j n i. (refl, refl)

  pub perhaps_in : (text : Perhaps) (S : List ℕ → ℕ) (n : ℕ) →
      PerhapsHolds (perhaps_body text) (ValueWithin S n)
  perhaps_in Without S n = tt
  perhaps_in (With x) S n = leaf_in x (expr_in x) S n

  pub variables_in : (vs : Variables) (S : List ℕ → ℕ) (n : ℕ) →
      VariablesHold (variables_body vs) (ValueWithin S n)
  variables_in NoVariable S n = tt
  variables_in (MoreVariables k t default others) S n =
      (perhaps_in default S n, variables_in others S n)

  pub stmt_in : (s : Stmt) (S : List ℕ → ℕ) (n : ℕ) →
      Holds (stmt_body s) (ValueWithin S n) (QueryWithin S n)
  stmt_in (Compound atomic variables cursors handlers statements) S n = (
    variables_in variables S n,
    handlers_in handlers S n,
    stmts_in statements S n,
  )
  stmt_in (If branches otherwise) S n =
      (branches_in branches S n, stmts_in otherwise S n)
  stmt_in (SearchedCase branches otherwise) S n =
      (branches_in branches S n, stmts_in otherwise S n)
  stmt_in (SimpleCase x branches otherwise) S n = (
    leaf_in x (expr_in x) S n,
    branches_in branches S n,
    stmts_in otherwise S n,
  )
  stmt_in (Set t x) S n = leaf_in x (expr_in x) S n
  stmt_in (SelectInto q targets) S n = into_in q targets S n (any_query q) (query_in q) (fold_in q)
  stmt_in (Signal state text) S n = perhaps_in text S n
  stmt_in (Resignal state text) S n = perhaps_in text S n
  stmt_in (GetStatementItems area reads) S n = tt
  stmt_in (GetConditionItems area number reads) S n = leaf_in number (expr_in number) S n
  stmt_in (Leave outwards) S n = tt
  stmt_in (Return x) S n = leaf_in x (expr_in x) S n
  stmt_in _ S n = tt

  pub stmts_in : (ss : Stmts) (S : List ℕ → ℕ) (n : ℕ) →
      AllHold (stmts_body ss) (ValueWithin S n) (QueryWithin S n)
  stmts_in NoStmt S n = tt
  stmts_in (MoreStmts s ss) S n = (stmt_in s S n, stmts_in ss S n)

  pub branches_in : (bs : Branches) (S : List ℕ → ℕ) (n : ℕ) →
      BranchesHold (branches_body bs) (ValueWithin S n) (QueryWithin S n)
  branches_in NoBranch S n = tt
  branches_in (MoreBranches test statements others) S n = (
    leaf_in test (expr_in test) S n,
    stmts_in statements S n,
    branches_in others S n,
  )

  pub handlers_in : (hs : Handlers) (S : List ℕ → ℕ) (n : ℕ) →
      HandlersHold (handlers_body hs) (ValueWithin S n) (QueryWithin S n)
  handlers_in NoHandler S n = tt
  handlers_in (MoreHandlers kind takes action others) S n =
      (stmt_in action S n, handlers_in others S n)

  pub query_in : (q : Query) → QueryIn q
  query_in (Select items from tests) = λ S k p e n ns v.
      selected_in tests items (each_in tests) (each_in items) S k p e n (from_width from S)
      (from_plan from S e) ns.1 ns.2 v
      (from_in from S k p e n ns.0 v)
  query_in (Grouped from tests g items ags having list) = λ S k p e n ns v.
      selected_in having list (each_in having) (each_in list) S k p e n (g + length ags) _ ns.3 ns.4
      v
      (and_true (stays (all_values (places g (length ags))) (suc n)) _
      (checks_stay (places g (length ags)) n)
      (selected_in tests items (each_in tests) (each_in items) S k p e n (from_width from S)
      (from_plan from S e) ns.1 ns.2 v
      (from_in from S k p e n ns.0 v)))
  query_in (Values rows) = λ S k p e n ns v.
      values_plan_in (rows_width rows) (emit_rows rows S (lifted e) 0)
      (emit_rows rows S (lifted e) 1) n
      (rows_in rows (rows_each rows) S k p (lifted e) n 0 ns (lifted_in e k p n v))
      (rows_in rows (rows_each rows) S k p (lifted e) n 1 ns (lifted_in e k p n v))
  query_in (Ordered q keys) = λ S k p e n ns v. query_in q S k p e n ns v

  pub rows_each : (rows : Rows) → RowsIn rows
  rows_each NoRow = tt
  rows_each (MoreRows es rows) = (each_in es, rows_each rows)

  pub fold_in : (q : Query) → FoldIn q
  fold_in (Grouped from tests zero items (a ∷ ags) NoExpr list) = λ S k p e n ns. (
    λ v. selected_in tests items (each_in tests) (each_in items) S k p e n (from_width from S)
        (from_plan from S e) ns.1 ns.2 v
        (from_in from S k p e n ns.0 v),
    λ v j. all_in list (each_in list) S (further k) p (folded_env e j (suc (length ags))) n
        (j + suc (length ags)) ns.4
        (folded_env_in e j (suc (length ags)) k p n v),
  )
  fold_in _ = λ S k p e n ns. (λ v. tt, λ v. tt)

  pub from_in : (x : From) → FromIn x
  from_in (Table t) = λ S k p e n ns v. refl
  from_in (Derived q) = λ S k p e n ns v. query_in q S k p e n ns v
  from_in (Cross a b) = λ S k p e n ns v. and_true (tree_within (from_plan a S e) n)
      (tree_within (from_plan b S e) n) (from_in a S k p e n ns.0 v)
      (from_in b S k p e n ns.1 v)
  from_in (Inner a b on) = λ S k p e n ns v.
      let m = from_width a S + from_width b S in
      filters_in (emit_tests on S (entered e m) none_waits m)
      (cross (from_plan a S e) (from_plan b S e)) n
      (tests_in on (each_in on) S (further k) p (entered e m) n m none_waits ns.2
      (entered_in e m k p n v) (tt, tt))
      (and_true (tree_within (from_plan a S e) n) (tree_within (from_plan b S e) n)
      (from_in a S k p e n ns.0 v) (from_in b S k p e n ns.1 v))
  from_in (LeftOuter a b on) = λ S k p e n ns v.
      let m = from_width a S + from_width b S in let c = emit_all on S (entered e m) m in
      let w : WithinAll c n = all_in on (each_in on) S (further k) p (entered e m) n m ns.2
      (entered_in e m k p n v) in
      and_true (nodes_within c.nodes n && stays (all_true c.scalars) (suc n))
      (tree_within (from_plan a S e) n && tree_within (from_plan b S e) n)
      (and_true (nodes_within c.nodes n) (stays (all_true c.scalars) (suc n)) w.0
      (all_true_stays c.scalars (suc n) w.1))
      (and_true (tree_within (from_plan a S e) n) (tree_within (from_plan b S e) n)
      (from_in a S k p e n ns.0 v) (from_in b S k p e n ns.1 v))

closed_routine : (r : Routine) (S : List ℕ → ℕ) → tree_within (routine_plan r S) 0 ≡ true
closed_routine (Returned types returns x) S =
    let a = emit x S (top (length types)) 0 in let b = assigning_in (returns ∷ []) a in
    listed_in (singly b) 0 unit_row 0
    (singly_in b 0 (assigning_in_within (returns ∷ []) a 0
    (expr_in x S AnyRow true (top (length types)) 0 0 (any_expr x)
    (λ d i l. tt, λ t i. below_in (length types) i (given i) 1 tt)))) refl
closed_routine (Function false types returns false statement) S =
    let b = called_body (body.Body types returns (stmt_body statement)) S (top (length types)) 0 in
    listed_in (singly b) 0 unit_row 0
    (singly_in b 0 (called_within (body.Body types returns (stmt_body statement)) S 0
    (stmt_in statement S 1) (top (length types)) 0
    (λ i. read_stays (below (length types) i (given i)) 1
    (below_in (length types) i (given i) 1 tt)))) refl
closed_routine (Function false types returns true statement) S =
    let b = known_body (body.Body types returns (stmt_body statement)) S (top (length types)) 0 in
    listed_in (singly b) 0 unit_row 0
    (singly_in b 0 (known_within (body.Body types returns (stmt_body statement)) S 0
    (stmt_in statement S 1) (top (length types)) 0
    (λ i. read_stays (below (length types) i (given i)) 1
    (below_in (length types) i (given i) 1 tt)))) refl
closed_routine _ S = refl

pub closed_plans : ClosedPlans
closed_plans = record {
  queries = λ q S n. query_in q S AnyRow true (top n) 0 (any_query q) (
    λ d i l. tt,
    λ t i. below_in n i (given i) 0 tt,
  );
  routines = closed_routine;
}

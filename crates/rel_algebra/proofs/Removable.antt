-- Each Apply of a simple query's plan can be removed.
use Rattle.std.proofs.Common.{cond, ◌++◌, ◌≡◌, ℕ, zero, suc, ◌+◌, Bool, true, false, ◌&&◌, ◌||◌}
use Rattle.std.proofs.Common.{not, List, [], ◌∷◌, length, Option, Some, None, refl, drop}
use Rattle.sql_values.specs.declared.value.SqlType.{SqlType}
use Rattle.sql_values.specs.declared.value.Value.TheVariants.{Bool as Truth}
use Rattle.rel_algebra.specs.Emit.{Emitted, EmittedAll, Env, Folded, Key, Place, Waiting, all_plain}
use Rattle.rel_algebra.specs.Emit.{all_waiting, ask, ask_member, assigning_in, at, below, chosen}
use Rattle.rel_algebra.specs.Emit.{emit, emit_all, emit_args, emit_body, emit_links, emit_rows}
use Rattle.rel_algebra.specs.Emit.{emit_tests, entered, filters, filters_width, first_and}
use Rattle.rel_algebra.specs.Emit.{first_value, folded, folded_env, folding, from_plan, given}
use Rattle.rel_algebra.specs.Emit.{joined_nodes, key_of, key_step, lifted, list_nodes, listed}
use Rattle.rel_algebra.specs.Emit.{listed_by, none_waits, nowhere, numbers, one_column, one_param}
use Rattle.rel_algebra.specs.Emit.{own_places, passed, plan, routine_plan, row_stands, scalar_count}
use Rattle.rel_algebra.specs.Emit.{scalars_of, selected, several, singly, test_step, top, turned}
use Rattle.rel_algebra.specs.Emit.{values_plan, width, word_on}
use Rattle.rel_algebra.specs.Joins.{from_width, rows_width}
use Rattle.rel_algebra.specs.Plan.{aggregate, anew, Kind, Nodes, PlanTree, Scalar, Scalars, apply}
use Rattle.rel_algebra.specs.Plan.{apply_by, constant, cross, exists, extend, extend_by, filter}
use Rattle.rel_algebra.specs.Plan.{member, no_node, on_each, single, strict, unit_row, values}
use Rattle.rel_algebra.specs.Removal.{is_anew, all_removable, nodes_removable, removable}
use Rattle.rel_algebra.specs.Simple.{Nested}
use Rattle.rel_algebra.specs.Simple.{RemovablePlans, Simple, SimpleAll, SimpleBody, SimpleFrom}
use Rattle.rel_algebra.specs.Simple.{SimpleLinks, SimpleQuery, SimpleRoutine, SimpleRows}
use Rattle.rel_algebra.specs.Tree.{And, Arithmetic, Call, CallSelf, Case, CaseOf, Chain, Coalesce}
use Rattle.rel_algebra.specs.Tree.{Column, Cross, Derived, Exists, Expr, Exprs, From, Returned}
use Rattle.rel_algebra.specs.Tree.{Grouped, In, Inner, LeftOuter, Links, Literal, MoreExprs}
use Rattle.rel_algebra.specs.Tree.{MoreLinks, MoreRows, NoExpr, NoLink, NoRow, Operate, Or, Ordered}
use Rattle.rel_algebra.specs.Tree.{Query, Routine, Rows, Select, Single, Table, Values, Variable}
use Rattle.rel_algebra.specs.Tree.{parameters_of}
use Rattle.rel_algebra.proofs.Truths.{and_true, left_true, right_true}
use Rattle.rel_algebra.proofs.Chains.{Given, InputRemovable, entered_given, folded_given}
use Rattle.rel_algebra.proofs.Chains.{lifted_given, nested_folded, nested_removable}
use Rattle.rel_algebra.proofs.Moves.{NotGiven, below_free}
use Rattle.rel_algebra.proofs.Within.{PlaceIn, below_in}
pub use Rattle.rel_algebra.proofs.FoldedParts.{NodesOk, PartsOk}
use Rattle.rel_algebra.specs.Tree.{Function, Perhaps, Without, With, Variables, NoVariable}
use Rattle.rel_algebra.specs.Tree.{MoreVariables, Stmt, Compound, If, SearchedCase, SimpleCase, Set}
use Rattle.rel_algebra.specs.Tree.{SelectInto, Signal, Resignal, GetStatementItems}
use Rattle.rel_algebra.specs.Tree.{GetConditionItems, Leave, Return, Stmts, NoStmt, MoreStmts}
use Rattle.rel_algebra.specs.Tree.{Branches, NoBranch, MoreBranches, Handlers, NoHandler}
use Rattle.rel_algebra.specs.Tree.{MoreHandlers}
use Rattle.rel_algebra.specs.Emit.{branches_body, handlers_body, perhaps_body, stmt_body}
use Rattle.rel_algebra.specs.Emit.{stmts_body, variables_body}
use Rattle.rel_algebra.proofs.BodyHeld.{AllHold, BranchesHold, HandlersHold, Holds, PerhapsHolds}
use Rattle.rel_algebra.proofs.BodyHeld.{VariablesHold}
use Rattle.rel_algebra.specs.Bodies as body
use Rattle.rel_algebra.specs.Emit.{query_leaf}
use Rattle.rel_algebra.specs.BodyChain.{all_known, called_body, known_body}
use Rattle.rel_algebra.specs.Plan.{into}
use Rattle.rel_algebra.specs.Simple.{SimpleBranches, SimpleHandlers, SimplePerhaps, SimpleStmt}
use Rattle.rel_algebra.specs.Simple.{SimpleStmts, SimpleVariables}
use Rattle.rel_algebra.proofs.BodyCalled.{called_removable}
use Rattle.rel_algebra.proofs.BodyHeld.{QueryRemovable, ValueRemovable}

joined_ok : (a b : Nodes) → nodes_removable a ≡ true → nodes_removable b ≡ true →
    nodes_removable (joined_nodes a b) ≡ true
joined_ok no_node b p q = q
joined_ok (extend_by ss a) b p q = joined_ok a b p q
joined_ok (apply_by when kind way inner a) b p q =
    let x = (not (is_anew way) || removable kind inner) && all_removable inner in
    and_true x (nodes_removable (joined_nodes a b)) (left_true x (nodes_removable a) p)
    (joined_ok a b (right_true x (nodes_removable a) p) q)

on_each_ok : (nodes : Nodes) (t : PlanTree) → nodes_removable nodes ≡ true →
    all_removable t ≡ true → all_removable (on_each nodes t) ≡ true
on_each_ok no_node t h k = k
on_each_ok (extend_by ss a) t h k = on_each_ok a (extend ss t) h k
on_each_ok (apply_by when kind way inner a) t h k =
    let x = (not (is_anew way) || removable kind inner) && all_removable inner in
    on_each_ok a (apply when kind way inner t) (right_true x (nodes_removable a) h)
    (and_true x (all_removable t) (left_true x (nodes_removable a) h) k)

abbrev pub ExprOk : Expr → Type 0
ExprOk x = (S : List ℕ → ℕ) (p : Bool) (e : Env) (m : ℕ) → Simple x S p → Given e p →
    NodesOk (emit x S e m).nodes

abbrev pub EachOk : Exprs → Type 0
EachOk NoExpr = Unit {0}
EachOk (MoreExprs x es) = ExprOk x × EachOk es

abbrev pub BodyOk : Routine → Type 0
BodyOk r = (S : List ℕ → ℕ) (m k j : ℕ) → SimpleBody r S →
    NodesOk (emit_body r S (passed m k) j).nodes

abbrev pub QueryOk : Query → Type 0
QueryOk q = (S : List ℕ → ℕ) (p : Bool) (e : Env) → SimpleQuery q S p → Given e p →
    all_removable (plan q S e) ≡ true

abbrev pub FromOk : From → Type 0
FromOk x = (S : List ℕ → ℕ) (p : Bool) (e : Env) → SimpleFrom x S p → Given e p →
    all_removable (from_plan x S e) ≡ true

abbrev pub FoldOk : Query → Type 0
FoldOk q = (S : List ℕ → ℕ) (p : Bool) (e : Env) → SimpleQuery q S p → Given e p →
    PartsOk (folded q S e)

all_ok : (es : Exprs) → EachOk es → (S : List ℕ → ℕ) (p : Bool) (e : Env) (m : ℕ) →
    SimpleAll es S p → Given e p → NodesOk (emit_all es S e m).nodes
all_ok NoExpr h S p e m s g = refl
all_ok (MoreExprs x es) h S p e m s g =
    let a = emit x S e m in joined_ok a.nodes (emit_all es S e (width a.nodes m)).nodes
    (h.0 S p e m s.0 g)
    (all_ok es h.1 S p e (width a.nodes m) s.1 g)

args_ok : (es : Exprs) → EachOk es →
    (types : List SqlType) (S : List ℕ → ℕ) (p : Bool) (e : Env) (m : ℕ) → SimpleAll es S p →
    Given e p →
    NodesOk (emit_args es types S e m).nodes
args_ok NoExpr h types S p e m s g = refl
args_ok (MoreExprs x es) h types S p e m s g =
    let a = emit x S e m in joined_ok a.nodes
    (emit_args es (drop 1 types) S e (width a.nodes m)).nodes (h.0 S p e m s.0 g)
    (args_ok es h.1 (drop 1 types) S p e (width a.nodes m) s.1 g)

two_ok : (a : Emitted) (x : Expr) → ExprOk x → (S : List ℕ → ℕ) (p : Bool) (e : Env) (m : ℕ) →
    Simple x S p → Given e p → NodesOk a.nodes →
    NodesOk (first_and a (λ i. singly (emit x S e i)) m).nodes
two_ok a x hx S p e m s g h =
    joined_ok a.nodes (emit x S e (width a.nodes m)).nodes h (hx S p e (width a.nodes m) s g)

abbrev pub LinksOk : Links → Type 0
LinksOk NoLink = Unit {0}
LinksOk (MoreLinks operator x links) = ExprOk x × LinksOk links

links_ok : (links : Links) → LinksOk links →
    (a : Emitted) (S : List ℕ → ℕ) (p : Bool) (e : Env) (m : ℕ) → SimpleLinks links S p →
    Given e p →
    NodesOk a.nodes → NodesOk (emit_links links a S e m).nodes
links_ok NoLink h a S p e m s g w = w
links_ok (MoreLinks operator x links) h a S p e m s g w =
    links_ok links h.1 (word_on (strict (Arithmetic operator))
    (first_and a (λ i. singly (emit x S e i)) m)) S p e m s.1 g
    (two_ok a x h.0 S p e m s.0 g w)

-- Conjuncts.
abbrev pub TestsOk : List Emitted → Type 0
TestsOk [] = Unit {0}
TestsOk (a ∷ ems) = NodesOk a.nodes × TestsOk ems

tests_append : (a b : List Emitted) → TestsOk a → TestsOk b → TestsOk (a ++ b)
tests_append [] b p q = q
tests_append (x ∷ a) b p q = (p.0, tests_append a b p.1 q)

abbrev pub WaitingOk : Waiting → Type 0
WaitingOk w = TestsOk w.params × TestsOk w.columns

key_step_ok : (of_column : Bool) (place own other : Place) (rest : Waiting → ℕ →
    List Emitted) (w : Waiting) (m : ℕ) → WaitingOk w →
    ((u : Waiting) (j : ℕ) → WaitingOk u → TestsOk (rest u j)) →
    TestsOk (key_step of_column place (turned own other) rest w m)
key_step_ok true (at level i) own other rest w m hw go = go (one_column (turned own other) w) m
    (hw.0, tests_append w.columns (turned own other ∷ []) hw.1 (refl, tt))
key_step_ok true (given i) own other rest w m hw go = (refl, go w m hw)
key_step_ok true nowhere own other rest w m hw go = (refl, go w m hw)
key_step_ok false (at level i) own other rest w m hw go = go (one_param (turned own other) w) m
    (tests_append w.params (turned own other ∷ []) hw.0 (refl, tt), hw.1)
key_step_ok false (given i) own other rest w m hw go = go (one_param (turned own other) w) m
    (tests_append w.params (turned own other ∷ []) hw.0 (refl, tt), hw.1)
key_step_ok false nowhere own other rest w m hw go = (refl, go w m hw)

step_ok : (key : Option Key) (a : Emitted) (rest : Waiting → ℕ → List Emitted) (w : Waiting)
    (m : ℕ) → NodesOk a.nodes → WaitingOk w →
    ((u : Waiting) (j : ℕ) → WaitingOk u → TestsOk (rest u j)) → TestsOk (test_step key a rest w m)
step_ok None a rest w m ha hw go =
    tests_append (all_waiting w) (a ∷ rest none_waits (width a.nodes m))
    (tests_append w.params w.columns hw.0 hw.1)
    (ha, go none_waits (width a.nodes m) (tt, tt))
step_ok (Some key) a rest w m ha hw go =
    key_step_ok key.of_column key.other key.own key.other rest w m hw go

emitted_ok : (es : Exprs) → EachOk es →
    (S : List ℕ → ℕ) (p : Bool) (e : Env) (m : ℕ) (w : Waiting) → SimpleAll es S p → Given e p →
    WaitingOk w →
    TestsOk (emit_tests es S e w m)
emitted_ok NoExpr h S p e m w s g hw = tests_append w.params w.columns hw.0 hw.1
emitted_ok (MoreExprs x es) h S p e m w s g hw =
    step_ok (key_of x e) (emit x S e m) (emit_tests es S e) w m (h.0 S p e m s.0 g) hw
    (λ u j hu. emitted_ok es h.1 S p e j u s.1 g hu)

filters_ok : (ems : List Emitted) (input : PlanTree) → TestsOk ems → all_removable input ≡ true →
    all_removable (filters ems input) ≡ true
filters_ok [] input h t = t
filters_ok (a ∷ ems) input h t =
    filters_ok ems (filter a.scalar (on_each a.nodes input)) h.1 (on_each_ok a.nodes input h.0 t)

tests_ok : (es : Exprs) → EachOk es →
    (S : List ℕ → ℕ) (p : Bool) (e : Env) (m : ℕ) (input : PlanTree) → SimpleAll es S p →
    Given e p →
    all_removable input ≡ true → all_removable (filters (emit_tests es S e none_waits m) input)
    ≡ true
tests_ok es h S p e m input s g t = filters_ok (emit_tests es S e none_waits m) input
    (emitted_ok es h S p e m none_waits s g (tt, tt)) t

listed_by_ok : (own : Option (List ℕ)) (a : EmittedAll) (m : ℕ) (input : PlanTree) →
    NodesOk a.nodes → all_removable input ≡ true →
    all_removable (listed_by own a m input) ≡ true
listed_by_ok (Some is) a m input h t = on_each_ok a.nodes input h t
listed_by_ok None a m input h t =
    on_each_ok (joined_nodes a.nodes (extend_by a.scalars no_node)) input
    (joined_ok a.nodes (extend_by a.scalars no_node) h refl) t

listed_ok : (a : EmittedAll) (m : ℕ) (input : PlanTree) → NodesOk a.nodes →
    all_removable input ≡ true → all_removable (listed a m input) ≡ true
listed_ok a m input h t = listed_by_ok (own_places a.scalars) a m input h t

selected_ok : (tests items : Exprs) → EachOk tests → EachOk items →
    (S : List ℕ → ℕ) (p : Bool) (e : Env) (m : ℕ) (input : PlanTree) →
    SimpleAll tests S p → SimpleAll items S p → Given e p → all_removable input ≡ true →
    all_removable (selected (emit_tests tests S (entered e m) none_waits)
    (emit_all items S (entered e m)) m input) ≡ true
selected_ok tests items ht hi S p e m input st si g t =
    let inner = entered e m in let ts = emit_tests tests S inner none_waits m in
    let j = filters_width ts m in let gi = entered_given e m p g in
    listed_ok (emit_all items S inner j) j (filters ts input) (all_ok items hi S p inner j si gi)
    (tests_ok tests ht S p inner m input st gi t)

case_of_ok : (x test result : Expr) (arms : Exprs) → ExprOk x → ExprOk test → ExprOk result →
    EachOk arms → ExprOk (CaseOf x test result arms)
case_of_ok x test result arms hx ht hr ha S p e m s g =
    let a = emit x S e m in let c = suc (width a.nodes m) in let b = emit test S e c in
    let d = emit result S e (width b.nodes c) in let f = emit_all
    arms S e (width d.nodes (width b.nodes c)) in
    joined_ok a.nodes (extend_by (singly a).scalars
    (joined_nodes b.nodes (joined_nodes d.nodes f.nodes))) (hx S p e m s.0 g)
    (joined_ok b.nodes (joined_nodes d.nodes f.nodes) (ht S p e c s.1 g)
    (joined_ok d.nodes f.nodes (hr S p e (width b.nodes c) s.2 g)
    (all_ok arms ha S p e (width d.nodes (width b.nodes c)) s.3 g)))

call_ok : (name : List ℕ) (r : Routine) (es : Exprs) → BodyOk r → EachOk es →
    ExprOk (Call name r es)
call_ok name r es hb ha S p e m s g =
    let types = parameters_of r in let a = emit_args es types S e m in let c = width a.nodes m in
    let k = scalar_count a.scalars in
    joined_ok a.nodes (extend_by a.scalars (emit_body r S (passed c k) (c + k)).nodes)
    (args_ok es ha types S p e m s.1 g) (hb S c k (c + k) s.0)

-- Queries inside.
one_removed : (kind : Kind) (inner : PlanTree) → removable kind inner ≡ true →
    all_removable inner ≡ true → (removable kind inner && all_removable inner) ≡ true
one_removed kind inner h k = and_true (removable kind inner) (all_removable inner) h k

ask_ok : (oa : Option Folded) (kind : Kind) (use_list : Scalars →
    Scalar) (inner : PlanTree) (j : ℕ) → (oa ≡ None → removable kind inner ≡ true) →
    all_removable inner ≡ true → InputRemovable oa → PartsOk oa →
    NodesOk (ask oa kind use_list inner j).nodes
ask_ok None kind use_list inner j hr hi hf hp =
    and_true (removable kind inner && all_removable inner) true
    (one_removed kind inner (hr refl) hi) refl
ask_ok (Some a) kind use_list inner j hr hi hf hp =
    and_true (removable (aggregate a.aggregates) a.input && all_removable a.input)
    (nodes_removable (a.list j).nodes)
    (one_removed (aggregate a.aggregates) a.input hf hp.0) (hp.1 j)

ask_member_ok : (oa : Option Folded) (a : Emitted) (inner : PlanTree) (j : ℕ) → NodesOk a.nodes →
    (oa ≡ None → removable (member a.scalar) inner ≡ true) →
    all_removable inner ≡ true → InputRemovable oa → PartsOk oa →
    NodesOk (ask_member oa a inner j).nodes
ask_member_ok None a inner j ha hr hi hf hp =
    joined_ok a.nodes (apply_by (constant (Truth true)) (member a.scalar) anew inner no_node) ha
    (and_true (removable (member a.scalar) inner && all_removable inner) true
    (one_removed (member a.scalar) inner (hr refl) hi) refl)
ask_member_ok (Some c) a inner j ha hr hi hf hp =
    joined_ok a.nodes (folding c first_value (width a.nodes j)).nodes ha
    (and_true (removable (aggregate c.aggregates) c.input && all_removable c.input)
    (nodes_removable (c.list (width a.nodes j)).nodes)
    (one_removed (aggregate c.aggregates) c.input hf hp.0)
    (hp.1 (width a.nodes j)))

-- VALUES.
abbrev pub RowsOk : Rows → Type 0
RowsOk NoRow = Unit {0}
RowsOk (MoreRows es rows) = EachOk es × RowsOk rows

abbrev pub EachNodesOk : List EmittedAll → Type 0
EachNodesOk [] = Unit {0}
EachNodesOk (a ∷ lists) = NodesOk a.nodes × EachNodesOk lists

rows_ok : (rows : Rows) → RowsOk rows → (S : List ℕ → ℕ) (p : Bool) (e : Env) (m : ℕ) →
    SimpleRows rows S p → Given e p →
    EachNodesOk (emit_rows rows S e m)
rows_ok NoRow h S p e m s g = tt
rows_ok (MoreRows es rows) h S p e m s g =
    (all_ok es h.0 S p e m s.0 g, rows_ok rows h.1 S p e (width (emit_all es S e m).nodes m) s.1 g)

list_nodes_ok : (lists : List EmittedAll) → EachNodesOk lists → NodesOk (list_nodes lists)
list_nodes_ok [] h = refl
list_nodes_ok (a ∷ lists) h = joined_ok a.nodes (list_nodes lists) h.0 (list_nodes_ok lists h.1)

several_ok : (k : ℕ) (lists : List EmittedAll) → EachNodesOk lists → all_removable (several k lists)
    ≡ true
several_ok k lists h = listed_ok (record { nodes = list_nodes lists; scalars = chosen k 0 lists }) 1
    (values (numbers 0 (length lists)))
    (list_nodes_ok lists h) refl

either_ok : (b : Bool) (x y : PlanTree) → all_removable x ≡ true → all_removable y ≡ true →
    all_removable (cond b x y) ≡ true
either_ok true x y p q = p
either_ok false x y p q = q

values_plan_ok : (k : ℕ) (first lists : List EmittedAll) → EachNodesOk first → EachNodesOk lists →
    all_removable (values_plan k first lists) ≡ true
values_plan_ok k [] lists p q = several_ok k lists q
values_plan_ok k (a ∷ []) lists p q = listed_ok a 0 unit_row p.0 refl
values_plan_ok k (a ∷ b ∷ others) lists p q = either_ok (all_plain (a ∷ b ∷ others))
    (values (scalars_of (a ∷ b ∷ others))) (several k lists) refl
    (several_ok k lists q)

below_not_given : (k i m : ℕ) → NotGiven (below k i (at 0 m))
below_not_given k i m = below_free k i (at 0 m) tt

-- the leaf of SELECT INTO
pub into_ok : (q : Query) (targets : List body.Target) (S : List ℕ → ℕ) → Nested q S false →
    SimpleQuery q S false → QueryOk q → FoldOk q → QueryRemovable S (query_leaf q) targets
into_ok q targets S n s hq hf = record {
  inside = λ e g. hq S false e s g;
  asked = λ e g is k. nested_removable q S e false g s n (into k) is;
  parts = λ e g. hf S false e s g;
  input = λ e g. nested_folded q S e false g s n;
}

mutual
  pub expr_ok : (x : Expr) → ExprOk x
  expr_ok (Literal c) = λ S p e m s g. refl
  expr_ok (Column d i) = λ S p e m s g. refl
  expr_ok (Variable i) = λ S p e m s g. refl
  expr_ok (Chain x links) = λ S p e m s g.
      links_ok links (each_link links) (emit x S e m) S p e m s.1 g (expr_ok x S p e m s.0 g)
  expr_ok (Operate op es) = all_ok es (each_ok es)
  expr_ok (And es) = all_ok es (each_ok es)
  expr_ok (Or es) = all_ok es (each_ok es)
  expr_ok (Case arms) = all_ok arms (each_ok arms)
  expr_ok (CaseOf x test result arms) =
      case_of_ok x test result arms (expr_ok x) (expr_ok test) (expr_ok result) (each_ok arms)
  expr_ok (Coalesce es) = all_ok es (each_ok es)
  expr_ok (In x q) = λ S p e m s g.
      ask_member_ok (folded q S e) (emit x S e m) (plan q S e) m (expr_ok x S p e m s.0 g)
      (nested_removable q S e p g s.2 s.1 (member (emit x S e m).scalar))
      (query_ok q S p e s.2 g) (nested_folded q S e p g s.2 s.1) (fold_ok q S p e s.2 g)
  expr_ok (Exists q) = λ S p e m s g.
      ask_ok (folded q S e) exists row_stands (plan q S e) m
      (nested_removable q S e p g s.1 s.0 exists) (query_ok q S p e s.1 g)
      (nested_folded q S e p g s.1 s.0) (fold_ok q S p e s.1 g)
  expr_ok (Single q) = λ S p e m s g.
      ask_ok (folded q S e) single first_value (plan q S e) m
      (nested_removable q S e p g s.1 s.0 single) (query_ok q S p e s.1 g)
      (nested_folded q S e p g s.1 s.0) (fold_ok q S p e s.1 g)
  expr_ok (Call name r es) = call_ok name r es (body_ok r) (each_ok es)
  expr_ok (CallSelf types es) = λ S p e m s g. refl

  pub each_link : (links : Links) → LinksOk links
  each_link NoLink = tt
  each_link (MoreLinks operator x links) = (expr_ok x, each_link links)

  pub each_ok : (es : Exprs) → EachOk es
  each_ok NoExpr = tt
  each_ok (MoreExprs x es) = (expr_ok x, each_ok es)

  pub body_ok : (r : Routine) → BodyOk r
  body_ok (Returned types returns x) =
      λ S m k j s. expr_ok x S false (passed m k) j s (λ i. below_not_given k i (m + i))
  body_ok (Function false types returns false statement) = λ S m k j s.
      called_removable (constant (Truth true)) (body.Body types returns (stmt_body statement)) S
      (stmt_ok statement S s) (passed m k) j
  body_ok (Function false types returns true statement) = λ S m k j s.
      called_removable (all_known (passed m k) types)
      (body.Body types returns (stmt_body statement)) S (stmt_ok statement S s) (passed m k) j
  body_ok _ = λ S m k j s. absurd s

  pub perhaps_ok : (text : Perhaps) (S : List ℕ → ℕ) → SimplePerhaps text S →
      PerhapsHolds (perhaps_body text) (ValueRemovable S)
  perhaps_ok Without S p = tt
  perhaps_ok (With x) S p = λ e m g. expr_ok x S false e m p g

  pub variables_ok : (vs : Variables) (S : List ℕ → ℕ) → SimpleVariables vs S →
      VariablesHold (variables_body vs) (ValueRemovable S)
  variables_ok NoVariable S p = tt
  variables_ok (MoreVariables k t default others) S p =
      (perhaps_ok default S p.0, variables_ok others S p.1)

  pub stmt_ok : (s : Stmt) (S : List ℕ → ℕ) → SimpleStmt s S →
      Holds (stmt_body s) (ValueRemovable S) (QueryRemovable S)
  stmt_ok (Compound atomic variables cursors handlers statements) S p = (
    variables_ok variables S p.0,
    handlers_ok handlers S p.1,
    stmts_ok statements S p.2,
  )
  stmt_ok (If branches otherwise) S p =
      (branches_ok branches S p.0, stmts_ok otherwise S p.1)
  stmt_ok (SearchedCase branches otherwise) S p =
      (branches_ok branches S p.0, stmts_ok otherwise S p.1)
  stmt_ok (SimpleCase x branches otherwise) S p = (
    λ e m g. expr_ok x S false e m p.0 g,
    branches_ok branches S p.1,
    stmts_ok otherwise S p.2,
  )
  stmt_ok (Set t x) S p = λ e m g. expr_ok x S false e m p g
  stmt_ok (SelectInto q targets) S p = into_ok q targets S p.0 p.1 (query_ok q) (fold_ok q)
  stmt_ok (Signal state text) S p = perhaps_ok text S p
  stmt_ok (Resignal state text) S p = perhaps_ok text S p
  stmt_ok (GetStatementItems area reads) S p = tt
  stmt_ok (GetConditionItems area number reads) S p = λ e m g. expr_ok number S false e m p g
  stmt_ok (Leave outwards) S p = tt
  stmt_ok (Return x) S p = λ e m g. expr_ok x S false e m p g
  stmt_ok _ S p = absurd p

  pub stmts_ok : (ss : Stmts) (S : List ℕ → ℕ) → SimpleStmts ss S →
      AllHold (stmts_body ss) (ValueRemovable S) (QueryRemovable S)
  stmts_ok NoStmt S p = tt
  stmts_ok (MoreStmts s ss) S p = (stmt_ok s S p.0, stmts_ok ss S p.1)

  pub branches_ok : (bs : Branches) (S : List ℕ → ℕ) → SimpleBranches bs S →
      BranchesHold (branches_body bs) (ValueRemovable S) (QueryRemovable S)
  branches_ok NoBranch S p = tt
  branches_ok (MoreBranches test statements others) S p = (
    λ e m g. expr_ok test S false e m p.0 g,
    stmts_ok statements S p.1,
    branches_ok others S p.2,
  )

  pub handlers_ok : (hs : Handlers) (S : List ℕ → ℕ) → SimpleHandlers hs S →
      HandlersHold (handlers_body hs) (ValueRemovable S) (QueryRemovable S)
  handlers_ok NoHandler S p = tt
  handlers_ok (MoreHandlers kind takes action others) S p =
      (stmt_ok action S p.0, handlers_ok others S p.1)

  pub query_ok : (q : Query) → QueryOk q
  query_ok (Select items from tests) = λ S p e s g.
      selected_ok tests items (each_ok tests) (each_ok items) S p e (from_width from S)
      (from_plan from S e) s.1 s.2 g (from_ok from S p e s.0 g)
  query_ok (Grouped from tests k items ags having list) = λ S p e s g.
      selected_ok having list (each_ok having) (each_ok list) S p e (k + length ags) _ s.3 s.4 g
      (selected_ok tests items (each_ok tests) (each_ok items) S p e (from_width from S)
      (from_plan from S e) s.1 s.2 g (from_ok from S p e s.0 g))
  query_ok (Values rows) = λ S p e s g.
      values_plan_ok (rows_width rows) (emit_rows rows S (lifted e) 0)
      (emit_rows rows S (lifted e) 1)
      (rows_ok rows (rows_each rows) S p (lifted e) 0 s.1 (lifted_given e p g))
      (rows_ok rows (rows_each rows) S p (lifted e) 1 s.1 (lifted_given e p g))
  query_ok (Ordered q keys) = λ S p e s g. query_ok q S p e s g

  pub rows_each : (rows : Rows) → RowsOk rows
  rows_each NoRow = tt
  rows_each (MoreRows es rows) = (each_ok es, rows_each rows)

  pub fold_ok : (q : Query) → FoldOk q
  fold_ok (Grouped from tests zero items (a ∷ ags) NoExpr list) = λ S p e s g. (
    selected_ok tests items (each_ok tests) (each_ok items) S p e (from_width from S)
        (from_plan from S e) s.1 s.2 g (from_ok from S p e s.0 g),
    λ j. all_ok list (each_ok list) S p (folded_env e j (suc (length ags)))
        (j + suc (length ags)) s.4 (folded_given e j (suc (length ags)) p g),
  )
  fold_ok _ = λ S p e s g. tt

  pub from_ok : (x : From) → FromOk x
  from_ok (Table t) = λ S p e s g. refl
  from_ok (Derived q) = λ S p e s g. query_ok q S p e s g
  from_ok (Cross a b) = λ S p e s g. and_true (all_removable (from_plan a S e))
      (all_removable (from_plan b S e)) (from_ok a S p e s.0 g)
      (from_ok b S p e s.1 g)
  from_ok (Inner a b on) = λ S p e s g.
      let m = from_width a S + from_width b S in
      tests_ok on (each_ok on) S p (entered e m) m (cross (from_plan a S e) (from_plan b S e)) s.2
      (entered_given e m p g)
      (and_true (all_removable (from_plan a S e)) (all_removable (from_plan b S e))
      (from_ok a S p e s.0 g) (from_ok b S p e s.1 g))
  from_ok (LeftOuter a b on) = λ S p e s g.
      let m = from_width a S + from_width b S in
      and_true (nodes_removable (emit_all on S (entered e m) m).nodes)
      (all_removable (from_plan a S e) && all_removable (from_plan b S e))
      (all_ok on (each_ok on) S p (entered e m) m s.2 (entered_given e m p g))
      (and_true (all_removable (from_plan a S e)) (all_removable (from_plan b S e))
      (from_ok a S p e s.0 g) (from_ok b S p e s.1 g))

below_given : (n i : ℕ) → PlaceIn (below n i (given i)) 0
below_given n i = below_in n i (given i) 0 tt

routine_ok : (r : Routine) (S : List ℕ → ℕ) → SimpleRoutine r S → all_removable (routine_plan r S)
    ≡ true
routine_ok (Returned types returns x) S s =
    let a = emit x S (top (length types)) 0 in
    listed_ok (singly (assigning_in (returns ∷ []) a)) 0 unit_row
    (expr_ok x S true (top (length types)) 0 s (λ i. below_given (length types) i)) refl
routine_ok (Function false types returns false statement) S s =
    let r = body.Body types returns (stmt_body statement) in
    listed_ok (singly (called_body r S (top (length types)) 0)) 0 unit_row
    (called_removable (constant (Truth true)) r S (stmt_ok statement S s) (top (length types)) 0)
    refl
routine_ok (Function false types returns true statement) S s =
    let r = body.Body types returns (stmt_body statement) in let e = top (length types) in
    listed_ok (singly (known_body r S e 0)) 0 unit_row
    (called_removable (all_known e types) r S (stmt_ok statement S s) e 0) refl
routine_ok _ S s = absurd s

pub removable_plans : RemovablePlans
removable_plans = record {
  queries = λ q S n s. query_ok q S true (top n) s (λ i. below_given n i);
  routines = routine_ok;
}

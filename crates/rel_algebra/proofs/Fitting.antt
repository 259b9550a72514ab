-- The plan of a query is well formed, kinds of values aside.
use Rattle.std.proofs.Common.{◌≡◌, ℕ, zero, suc, ◌+◌, ◌≤◌, Bool, true, false, cond, ◌&&◌, nat_eq}
use Rattle.std.proofs.Common.{List, [], ◌∷◌, length, Option, Some, None, refl, ap, sym, ◌∙◌, subst}
use Rattle.std.proofs.Common.{arith, drop, ◌||◌, ◌<◌}
use Rattle.sql_values.specs.declared.value.SqlType.{SqlType}
use Rattle.sql_values.specs.declared.value.Value.TheVariants.{Bool as Truth}
use Rattle.rel_algebra.specs.Emit.{Emitted, EmittedAll, Env, Folded, Waiting, against_on, all_plain}
use Rattle.rel_algebra.specs.Emit.{all_true, all_values, all_waiting, ask, ask_member, assigning_in}
use Rattle.rel_algebra.specs.Emit.{called, checks, chosen, computed, either_all, else_arms, emit}
use Rattle.rel_algebra.specs.Emit.{emit_all, emit_args, emit_body, emit_links, emit_rows}
use Rattle.rel_algebra.specs.Emit.{emit_tests, entered, filters, filters_width, first_and}
use Rattle.rel_algebra.specs.Emit.{first_value, folded, folded_env, folding, from_plan, given}
use Rattle.rel_algebra.specs.Emit.{is_plain, key_of, lifted, list_nodes, may_refuse, none_waits}
use Rattle.rel_algebra.specs.Emit.{nulls, numbers, passed, place_if, plan, raising, routine_plan}
use Rattle.rel_algebra.specs.Emit.{row_stands, scalar_count, scalars_of, selected, several, singly}
use Rattle.rel_algebra.specs.Emit.{top, values_plan, width, word_on}
use Rattle.rel_algebra.specs.Joins.{query_width}
use Rattle.rel_algebra.specs.Joins.{from_width, numbered, places, rows_width}
use Rattle.rel_algebra.specs.Plain.{all_even}
use Rattle.rel_algebra.specs.Plan.{anew, Kind, PlanTree, Scalar, Scalars, apply_by, argument}
use Rattle.rel_algebra.specs.Plan.{case_word, column, constant, cross, exists, filter, group}
use Rattle.rel_algebra.specs.Plan.{kind_width, member, more, no_node, none, single, strict}
use Rattle.rel_algebra.specs.Plan.{unit_row, values, word}
use Rattle.rel_algebra.specs.Removal.{less, tree_width}
use Rattle.rel_algebra.specs.Tree.{Aggregate, And, Arithmetic, Call, CallSelf, Case, CaseOf, Chain}
use Rattle.rel_algebra.specs.Tree.{Coalesce, Column, Cross, Derived, Exists, Expr, Exprs, From}
use Rattle.rel_algebra.specs.Tree.{Returned, Grouped, In, Inner, LeftOuter, Links, Literal}
use Rattle.rel_algebra.specs.Tree.{MoreExprs, MoreLinks, MoreRows, NoExpr, NoLink, NoRow, Operate}
use Rattle.rel_algebra.specs.Tree.{Or, Ordered, Query, Routine, Rows, Select, Single, Table, Values}
use Rattle.rel_algebra.specs.Tree.{Variable, count, parameters_of}
use Rattle.rel_algebra.specs.WellFormed.{Shaped, ShapedAll, ShapedBody, ShapedFrom, ShapedLinks}
use Rattle.rel_algebra.specs.WellFormed.{ShapedQuery, ShapedRows, WellFormedPlans, aggregates_fit}
use Rattle.rel_algebra.specs.WellFormed.{columns_fit, has_column, keys_fit, kind_fits, lists_fit}
use Rattle.rel_algebra.specs.WellFormed.{nodes_fit, scalar_fits, scalars_fit, tree_fits}
use Rattle.rel_algebra.proofs.Counts.{EachCount, args_count, numbered_long, plain_width, rows_count}
use Rattle.rel_algebra.proofs.FittingNodes.{EnvFits, Fit, FitAll, TestsFit, WaitingFits}
use Rattle.rel_algebra.proofs.FittingNodes.{against_fits, all_true_fits, assigning_in_fits, at_join}
use Rattle.rel_algebra.proofs.FittingNodes.{below_fits, check_fits, entered_fits, env_more}
use Rattle.rel_algebra.proofs.FittingNodes.{equals_itself, filters_fit, filters_tree_width}
use Rattle.rel_algebra.proofs.FittingNodes.{first_and_fits, first_value_fits, folded_fits}
use Rattle.rel_algebra.proofs.FittingNodes.{if_values_fits, join_fits, key_fits, lifted_fits}
use Rattle.rel_algebra.proofs.FittingNodes.{listed_fits, lt_less, one_at_join, passed_fits}
use Rattle.rel_algebra.proofs.FittingNodes.{places_fit, read_fits, row_stands_fits, scalar_more}
use Rattle.rel_algebra.proofs.FittingNodes.{scalars_more, singly_fits, step_fits, then_columns_fits}
use Rattle.rel_algebra.proofs.FittingNodes.{waits_alone, waits_both}
use Rattle.rel_algebra.proofs.Truths.{and_true, left_true, right_true}
use Rattle.rel_algebra.proofs.Widths.{Even, EvenFrom, from_plan_width, places_long, plan_width}
use Rattle.rel_algebra.proofs.Widths.{selected_width, width_join, width_more}
pub use Rattle.rel_algebra.proofs.FoldedParts.{FoldedFits}
use Rattle.rel_algebra.specs.Tree.{Function, Perhaps, Without, With, Variables, NoVariable}
use Rattle.rel_algebra.specs.Tree.{MoreVariables, Stmt, Compound, If, SearchedCase, SimpleCase, Set}
use Rattle.rel_algebra.specs.Tree.{SelectInto, Signal, Resignal, GetStatementItems}
use Rattle.rel_algebra.specs.Tree.{GetConditionItems, Leave, Return, Stmts, NoStmt, MoreStmts}
use Rattle.rel_algebra.specs.Tree.{Branches, NoBranch, MoreBranches, Handlers, NoHandler}
use Rattle.rel_algebra.specs.Tree.{MoreHandlers}
use Rattle.rel_algebra.specs.Emit.{branches_body, handlers_body, perhaps_body, stmt_body}
use Rattle.rel_algebra.specs.Emit.{stmts_body, variables_body}
use Rattle.rel_algebra.proofs.BodyHeld.{AllHold, BranchesHold, HandlersHold, Holds, PerhapsHolds}
use Rattle.rel_algebra.proofs.BodyHeld.{VariablesHold}
use Rattle.rel_algebra.specs.Bodies as body
use Rattle.rel_algebra.specs.Emit.{query_leaf}
use Rattle.rel_algebra.specs.BodyChain.{called_body, known_body}
use Rattle.rel_algebra.specs.WellFormed.{ShapedBranches, ShapedHandlers, ShapedPerhaps, ShapedStmt}
use Rattle.rel_algebra.specs.WellFormed.{ShapedStmts, ShapedVariables}
use Rattle.rel_algebra.proofs.BodyCalled.{called_fits}
use Rattle.rel_algebra.proofs.BodyKnown.{known_fits}
use Rattle.rel_algebra.proofs.BodyHeld.{CountIs, QueryFits as LeafFits, ValueFits}
use Rattle.rel_algebra.proofs.Blocks.{list_counted}

-- Trees.
abbrev pub ExprFits : Expr → Type 0
ExprFits x = (S : List ℕ → ℕ) (e : Env) (m : ℕ) (ws : List ℕ) (ps : ℕ) → Shaped x S →
    EnvFits e (m ∷ ws) ps → Fit (emit x S e m) S m ws ps

abbrev pub EachFits : Exprs → Type 0
EachFits NoExpr = Unit {0}
EachFits (MoreExprs x es) = ExprFits x × EachFits es

abbrev pub BodyFits : Routine → Type 0
BodyFits r = (S : List ℕ → ℕ) (m k : ℕ) (ws : List ℕ) (ps : ℕ) → ShapedBody r S →
    Fit (emit_body r S (passed m k) (m + k)) S (m + k) ws ps

abbrev pub QueryFits : Query → Type 0
QueryFits q = (S : List ℕ → ℕ) (e : Env) (ws : List ℕ) (ps : ℕ) → ShapedQuery q S →
    EnvFits e ws ps → tree_fits (plan q S e) S ws ps ≡ true

abbrev pub FromFits : From → Type 0
FromFits x = (S : List ℕ → ℕ) (e : Env) (ws : List ℕ) (ps : ℕ) → ShapedFrom x S → EnvFits e ws ps →
    tree_fits (from_plan x S e) S ws ps ≡ true

abbrev pub FoldFits : Query → Type 0
FoldFits q = (S : List ℕ → ℕ) (e : Env) (m : ℕ) (ws : List ℕ) (ps : ℕ) → ShapedQuery q S →
    EnvFits e (m ∷ ws) ps → FoldedFits (folded q S e) S m ws ps

all_fit : (es : Exprs) → EachFits es → (S : List ℕ → ℕ) (e : Env) (m : ℕ) (ws : List ℕ) (ps : ℕ) →
    ShapedAll es S → EnvFits e (m ∷ ws) ps →
    FitAll (emit_all es S e m) S m ws ps
all_fit NoExpr h S e m ws ps s v = (refl, refl)
all_fit (MoreExprs x es) h S e m ws ps s v =
    let a = emit x S e m in
    first_and_fits a (emit_all es S e) S m ws ps (h.0 S e m ws ps s.0 v)
    (all_fit es h.1 S e (width a.nodes m) ws ps s.1
    (env_more e m (width a.nodes m) ws ps (width_more a.nodes m) v))

args_fit : (es : Exprs) → EachFits es →
    (types : List SqlType) (S : List ℕ → ℕ) (e : Env) (m : ℕ) (ws : List ℕ) (ps : ℕ) →
    ShapedAll es S →
    EnvFits e (m ∷ ws) ps → FitAll (emit_args es types S e m) S m ws ps
args_fit NoExpr h types S e m ws ps s v = (refl, refl)
args_fit (MoreExprs x es) h types S e m ws ps s v =
    let a = emit x S e m in
    first_and_fits (assigning_in types a) (emit_args es (drop 1 types) S e) S m ws ps
    (assigning_in_fits types a S m ws ps (h.0 S e m ws ps s.0 v))
    (args_fit es h.1 (drop 1 types) S e (width a.nodes m) ws ps s.1
    (env_more e m (width a.nodes m) ws ps (width_more a.nodes m) v))

tests_fit : (es : Exprs) → EachFits es →
    (S : List ℕ → ℕ) (e : Env) (m : ℕ) (ws : List ℕ) (ps : ℕ) (pending : Waiting) → ShapedAll es S →
    EnvFits e (m ∷ ws) ps → WaitingFits pending S m ws ps →
    TestsFit (emit_tests es S e pending m) S m ws ps
tests_fit NoExpr h S e m ws ps pending s v hp = waits_alone (all_waiting pending) S m ws ps
    (waits_both pending.params pending.columns S m ws ps hp.0 hp.1)
tests_fit (MoreExprs x es) h S e m ws ps pending s v hp =
    let a = emit x S e m in
    step_fits (key_of x e) a (emit_tests es S e) pending S m ws ps (key_fits x e S m ws ps v)
    (h.0 S e m ws ps s.0 v) hp
    (λ q hq. tests_fit es h.1 S e m ws ps q s.1 v hq)
    (tests_fit es h.1 S e (width a.nodes m) ws ps none_waits s.1
    (env_more e m (width a.nodes m) ws ps (width_more a.nodes m) v) (tt, tt))

filters_more : (ems : List Emitted) (m : ℕ) → m ≤ filters_width ems m
filters_more [] m = omega arith
filters_more (a ∷ ems) m = let j = width_more a.nodes m in
    let k = filters_more ems (width a.nodes m) in omega (arith, j, k)

selected_fits : (tests items : Exprs) → EachFits tests → EachFits items →
    (S : List ℕ → ℕ) (e : Env) (m : ℕ) (ws : List ℕ) (ps : ℕ) (input : PlanTree) →
    ShapedAll tests S → ShapedAll items S → EnvFits e ws ps →
    tree_width input ≡ m → tree_fits input S ws ps ≡ true →
    tree_fits (selected (emit_tests tests S (entered e m) none_waits)
    (emit_all items S (entered e m)) m input) S ws ps ≡ true
selected_fits tests items ht hi S e m ws ps input st si v l t =
    let inner = entered e m in let ts = emit_tests tests S inner none_waits m in
    let j = filters_width ts m in
    listed_fits (emit_all items S inner j) j (filters ts input) S ws ps
    (filters_tree_width ts input m l)
    (all_fit items hi S inner j ws ps si (entered_fits e m j ws ps (filters_more ts m) v))
    (filters_fit ts input S m ws ps l
    (tests_fit tests ht S inner m ws ps none_waits st (entered_fits e m m ws ps (omega arith) v)
    (tt, tt)) t)

case_of_fits : (x test result : Expr) (arms : Exprs) → ExprFits x → ExprFits test →
    ExprFits result → EachFits arms →
    ExprFits (CaseOf x test result arms)
case_of_fits x test result arms hx ht hr ha S e m ws ps s v =
    let a = singly (emit x S e m) in let c = width a.nodes m in
    let go : ℕ → ℕ → Emitted = λ c k.
    against_on c (first_and (emit test S e (suc c))
    (λ i. first_and (emit result S e i) (emit_all arms S e) i)
    (suc c)) in
    then_columns_fits a go S m ws ps (singly_fits (emit x S e m) S m ws ps (hx S e m ws ps s.0 v))
    (subst (λ (n : ℕ). Fit (go c 1) S n ws ps) (let i : suc c ≡ c + 1 = omega arith in i)
    (arms_fit c (env_more e m (suc c) ws ps (let k = width_more a.nodes m in omega (arith, k)) v)))
  where
    arms_fit : (c : ℕ) → EnvFits e (suc c ∷ ws) ps →
        Fit (against_on c (first_and (emit test S e (suc c))
        (λ i. first_and (emit result S e i) (emit_all arms S e) i) (suc c))) S (suc c) ws ps
    arms_fit c u =
        let b = emit test S e (suc c) in let n = width b.nodes (suc c) in
        let r = emit result S e n in let j = width r.nodes n in
        let un = env_more e (suc c) n ws ps (width_more b.nodes (suc c)) u in
        let all = first_and b (λ i. first_and (emit result S e i) (emit_all arms S e) i) (suc c) in
        let w : FitAll all S (suc c) ws ps = first_and_fits b
        (λ i. first_and (emit result S e i) (emit_all arms S e) i) S (suc c) ws ps
        (ht S e (suc c) ws ps s.1 u)
        (first_and_fits r (emit_all arms S e) S n ws ps (hr S e n ws ps s.2 un)
        (all_fit arms ha S e j ws ps s.3 (env_more e n j ws ps (width_more r.nodes n) un))) in (
          w.0,
          against_fits c all.scalars (width all.nodes (suc c)) ws ps
              (lt_less c (width all.nodes (suc c)) (let k = width_more all.nodes (suc c) in
              omega (arith, k))) w.1,
        )

place_fits : (b : Bool) (i : ℕ) (is : List ℕ) (n : ℕ) → i < n → columns_fit is n ≡ true →
    columns_fit (place_if b i is) n ≡ true
place_fits true i is n l h = and_true (less i n) (columns_fit is n) (lt_less i n l) h
place_fits false i is n l h = h

raising_fit : (es : Exprs) (types : List SqlType) (m n : ℕ) → m + count es ≤ n →
    columns_fit (raising es types m) n ≡ true
raising_fit NoExpr types m n h = refl
raising_fit (MoreExprs x es) types m n h = place_fits (may_refuse types || computed x) m
    (raising es (drop 1 types) (suc m)) n (omega arith)
    (raising_fit es (drop 1 types) (suc m) n (omega arith))

call_fits : (name : List ℕ) (r : Routine) (es : Exprs) → BodyFits r → EachFits es →
    ExprFits (Call name r es)
call_fits name r es hb ha S e m ws ps s v =
    let types = parameters_of r in let a = emit_args es types S e m in let c = width a.nodes m in
    let k = scalar_count a.scalars in
    let b = emit_body r S (passed c k) (c + k) in
    let w : Fit b S (c + k) ws ps = hb S c k ws ps s.0 in
    then_columns_fits a (λ c k. called (raising es types c) (emit_body r S (passed c k) (c + k))) S
    m ws ps
    (args_fit es ha types S e m ws ps s.1 v) (
      w.0,
      if_values_fits (raising es types c) b.scalar (width b.nodes (c + k)) ws ps
          (raising_fit es types c (width b.nodes (c + k))
          (let i = args_count es types S e m in let j = width_more b.nodes (c + k) in
          omega (arith, i, j))) w.1,
    )

-- Queries inside.
asked_fits : (kind : Kind) (inner : PlanTree) (S : List ℕ → ℕ) (m : ℕ) (ws : List ℕ) (ps : ℕ) →
    kind_fits kind (tree_width inner) (m ∷ ws) ps ≡ true →
    tree_fits inner S (m ∷ ws) ps ≡ true →
    nodes_fit (apply_by (constant (Truth true)) kind anew inner no_node) S m ws ps ≡ true
asked_fits kind inner S m ws ps hk ht = and_true (kind_fits kind (tree_width inner) (m ∷ ws) ps)
    (tree_fits inner S (m ∷ ws) ps && true) hk
    (and_true (tree_fits inner S (m ∷ ws) ps) true ht refl)

folding_fits : (a : Folded) (use_list : Scalars → Scalar) (S : List ℕ →
    ℕ) (m : ℕ) (ws : List ℕ) (ps : ℕ) →
    ((ss : Scalars) (us : List ℕ) (qs : ℕ) → scalars_fit ss us qs ≡ true →
    scalar_fits (use_list ss) us qs ≡ true) → FoldedFits (Some a) S m ws ps →
    Fit (folding a use_list m) S m ws ps
folding_fits a use_list S m ws ps hu h =
    let c = a.list m in let n = m + length a.aggregates in (
      and_true (aggregates_fit a.aggregates (tree_width a.input)) (tree_fits a.input S (m ∷ ws) ps
          && nodes_fit c.nodes S n ws ps) h.0
          (and_true (tree_fits a.input S (m ∷ ws) ps) (nodes_fit c.nodes S n ws ps) h.1 h.2.0),
      if_values_fits (m ∷ []) (use_list c.scalars) (width c.nodes n) ws ps
          (and_true (less m (width c.nodes n)) true
          (lt_less m (width c.nodes n) (let k = width_more c.nodes n in let l = h.3 in
          omega (arith, k, l)))
          refl)
          (hu c.scalars (width c.nodes n ∷ ws) ps h.2.1),
    )

ask_fits : (oa : Option Folded) (kind : Kind) (use_list : Scalars →
    Scalar) (inner : PlanTree) (S : List ℕ → ℕ) (m : ℕ) (ws : List ℕ) (ps : ℕ) →
    ((ss : Scalars) (us : List ℕ) (qs : ℕ) → scalars_fit ss us qs ≡ true →
    scalar_fits (use_list ss) us qs ≡ true) →
    kind_width kind ≡ 1 → kind_fits kind (tree_width inner) (m ∷ ws) ps ≡ true →
    tree_fits inner S (m ∷ ws) ps ≡ true → FoldedFits oa S m ws ps → Fit
    (ask oa kind use_list inner m) S m ws ps
ask_fits None kind use_list inner S m ws ps hu hw hk ht hf = (
  asked_fits kind inner S m ws ps hk ht,
  lt_less m (m + kind_width kind)
      (omega (arith, hw)),
)
ask_fits (Some a) kind use_list inner S m ws ps hu hw hk ht hf =
    folding_fits a use_list S m ws ps hu hf

ask_member_fits : (oa : Option Folded) (a : Emitted) (inner : PlanTree) (S : List ℕ →
    ℕ) (m : ℕ) (ws : List ℕ) (ps : ℕ) → Fit a S m ws ps →
    tree_width inner ≡ 1 → tree_fits inner S (width a.nodes m ∷ ws) ps ≡ true →
    FoldedFits oa S (width a.nodes m) ws ps →
    Fit (ask_member oa a inner m) S m ws ps
ask_member_fits None a inner S m ws ps ha hw ht hf =
    let n = width a.nodes m in (
      join_fits a.nodes (apply_by (constant (Truth true)) (member a.scalar) anew inner no_node) S m
          ws ps ha.0
          (asked_fits (member a.scalar) inner S n ws ps
          (and_true (scalar_fits a.scalar (n ∷ ws) ps) (nat_eq (tree_width inner) 1) ha.1
          (equals_itself (tree_width inner) 1 hw)) ht),
      one_at_join a.nodes (apply_by (constant (Truth true)) (member a.scalar) anew inner no_node) m
          (column 0 n) ws ps (lt_less n (n + 1) (omega arith)),
    )
ask_member_fits (Some c) a inner S m ws ps ha hw ht hf =
    let n = width a.nodes m in let b = folding c first_value n in
    let hb : Fit b S n ws ps = folding_fits c first_value S n ws ps first_value_fits hf
    in (
      join_fits a.nodes b.nodes S m ws ps ha.0 hb.0,
      at_join a.nodes b.nodes m (more a.scalar (more b.scalar none)) ws ps
          (and_true (scalar_fits a.scalar (width b.nodes n ∷ ws) ps)
          (scalar_fits b.scalar (width b.nodes n ∷ ws) ps && true)
          (scalar_more a.scalar n (width b.nodes n) ws ps (width_more b.nodes n) ha.1)
          (and_true (scalar_fits b.scalar (width b.nodes n ∷ ws) ps) true hb.1 refl)),
    )

numbered_fit : (ags : List Aggregate) (i n : ℕ) → i + length ags ≤ n →
    aggregates_fit (numbered i ags) n ≡ true
numbered_fit [] i n h = refl
numbered_fit (a ∷ ags) i n h =
    and_true (less i n) (aggregates_fit (numbered (suc i) ags) n) (lt_less i n (omega arith))
    (numbered_fit ags (suc i) n (omega arith))

-- VALUES.
nulls_fit : (k : ℕ) (ws : List ℕ) (ps : ℕ) → scalars_fit (nulls k) ws ps ≡ true
nulls_fit zero ws ps = refl
nulls_fit (suc k) ws ps = nulls_fit k ws ps

abbrev pub RowsFits : Rows → Type 0
RowsFits NoRow = Unit {0}
RowsFits (MoreRows es rows) = EachFits es × RowsFits rows

abbrev pub EachFit : List EmittedAll → (List ℕ → ℕ) → ℕ → List ℕ → ℕ → Type 0
EachFit [] S m ws ps = Unit {0}
EachFit (a ∷ lists) S m ws ps = FitAll a S m ws ps × EachFit lists S (width a.nodes m) ws ps

rows_fits : (rows : Rows) → RowsFits rows →
    (S : List ℕ → ℕ) (e : Env) (m : ℕ) (ws : List ℕ) (ps : ℕ) → ShapedRows rows S →
    EnvFits e (m ∷ ws) ps →
    EachFit (emit_rows rows S e m) S m ws ps
rows_fits NoRow h S e m ws ps s v = tt
rows_fits (MoreRows es rows) h S e m ws ps s v =
    let a = emit_all es S e m in (
      all_fit es h.0 S e m ws ps s.0 v,
      rows_fits rows h.1 S e (width a.nodes m) ws ps s.1
          (env_more e m (width a.nodes m) ws ps (width_more a.nodes m) v),
    )

list_nodes_fit : (lists : List EmittedAll) (S : List ℕ → ℕ) (m : ℕ) (ws : List ℕ) (ps : ℕ) →
    EachFit lists S m ws ps →
    nodes_fit (list_nodes lists) S m ws ps ≡ true
list_nodes_fit [] S m ws ps h = refl
list_nodes_fit (a ∷ lists) S m ws ps h = join_fits a.nodes (list_nodes lists) S m ws ps h.0.0
    (list_nodes_fit lists S (width a.nodes m) ws ps h.1)

else_fits : (r : Scalar) (ws : List ℕ) (ps : ℕ) → scalar_fits r ws ps ≡ true →
    scalars_fit (else_arms r) ws ps ≡ true
else_fits (word case_word arms) ws ps h = h
else_fits (constant v) ws ps h = refl
else_fits (column level i) ws ps h = and_true (has_column ws level i) true h refl
else_fits (argument i) ws ps h = and_true (less i ps) true h refl
else_fits (word w ss) ws ps h = and_true (scalars_fit ss ws ps) true h refl

either_fits : (i : ℕ) (ss rs : Scalars) (n : ℕ) (ws : List ℕ) (ps : ℕ) → less 0 n ≡ true →
    scalars_fit ss (n ∷ ws) ps ≡ true →
    scalars_fit rs (n ∷ ws) ps ≡ true → scalars_fit (either_all i ss rs) (n ∷ ws) ps ≡ true
either_fits i none rs n ws ps l p q = refl
either_fits i (more s ss) none n ws ps l p q = refl
either_fits i (more s ss) (more r rs) n ws ps l p q =
    let c = less 0 n in let x = scalar_fits s (n ∷ ws) ps in let y = scalar_fits r (n ∷ ws) ps in
    let xs = scalars_fit ss (n ∷ ws) ps in let ys =
    scalars_fit rs (n ∷ ws) ps in let z = scalars_fit (else_arms r) (n ∷ ws) ps in
    and_true ((c && true) && (x && z)) (scalars_fit (either_all i ss rs) (n ∷ ws) ps)
    (and_true (c && true) (x && z) (and_true c true l refl)
    (and_true x z (left_true x xs p) (else_fits r (n ∷ ws) ps (left_true y ys q))))
    (either_fits i ss rs n ws ps l (right_true x xs p) (right_true y ys q))

-- the lists' scalars on the row that has the columns of all
chosen_fits : (k i : ℕ) (lists : List EmittedAll) (S : List ℕ →
    ℕ) (m n : ℕ) (ws : List ℕ) (ps : ℕ) → less 0 n ≡ true →
    width (list_nodes lists) m ≤ n → EachFit lists S m ws ps →
    scalars_fit (chosen k i lists) (n ∷ ws) ps ≡ true
chosen_fits k i [] S m n ws ps l h f = nulls_fit k (n ∷ ws) ps
chosen_fits k i (a ∷ lists) S m n ws ps l h f =
    let j = width a.nodes m in let e = width_join a.nodes (list_nodes lists) m in
    let g = width_more (list_nodes lists) j in
    either_fits i a.scalars (chosen k (suc i) lists) n ws ps l
    (scalars_more a.scalars j n ws ps (omega (arith, e, g, h)) f.0.1)
    (chosen_fits k (suc i) lists S j n ws ps l (omega (arith, e, h)) f.1)

numbers_fit : (i r : ℕ) (ws : List ℕ) (ps : ℕ) → lists_fit (numbers i r) 1 ws ps ≡ true
numbers_fit i zero ws ps = refl
numbers_fit i (suc r) ws ps = numbers_fit (suc i) r ws ps

-- one column, or no list
numbers_values : (r : ℕ) (S : List ℕ → ℕ) (ws : List ℕ) (ps : ℕ) →
    tree_fits (values (numbers 0 r)) S ws ps ≡ true
numbers_values zero S ws ps = refl
numbers_values (suc r) S ws ps = numbers_fit 0 (suc r) (0 ∷ ws) ps

scalars_of_fit : (lists : List EmittedAll) (k : ℕ) (S : List ℕ → ℕ) (m : ℕ) (ws : List ℕ) (ps : ℕ) →
    all_plain lists ≡ true → EachCount k lists →
    EachFit lists S m ws ps → lists_fit (scalars_of lists) k (m ∷ ws) ps ≡ true
scalars_of_fit [] k S m ws ps p c f = refl
scalars_of_fit (a ∷ lists) k S m ws ps p c f =
    let pa = left_true (is_plain a.nodes) (all_plain lists) p in
    let j : width a.nodes m ≡ m = plain_width a.nodes m pa in
    and_true (nat_eq (scalar_count a.scalars) k && scalars_fit a.scalars (m ∷ ws) ps)
    (lists_fit (scalars_of lists) k (m ∷ ws) ps)
    (and_true (nat_eq (scalar_count a.scalars) k) (scalars_fit a.scalars (m ∷ ws) ps)
    (equals_itself (scalar_count a.scalars) k c.0)
    (subst (λ (n : ℕ). scalars_fit a.scalars (n ∷ ws) ps ≡ true) j f.0.1))
    (scalars_of_fit lists k S m ws ps (right_true (is_plain a.nodes) (all_plain lists) p) c.1
    (subst (λ (n : ℕ). EachFit lists S n ws ps) j f.1))

several_fits : (k : ℕ) (a : EmittedAll) (lists : List EmittedAll) (S : List ℕ →
    ℕ) (ws : List ℕ) (ps : ℕ) → EachFit (a ∷ lists) S 1 ws ps →
    tree_fits (several k (a ∷ lists)) S ws ps ≡ true
several_fits k a lists S ws ps h =
    let all = a ∷ lists in let n = width (list_nodes all) 1 in
    listed_fits (record { nodes = list_nodes all; scalars = chosen k 0 all }) 1
    (values (numbers 0 (length all))) S ws ps refl (
      list_nodes_fit all S 1 ws ps h,
      chosen_fits k 0 all S 1 n ws ps (lt_less 0 n (let j = width_more (list_nodes all) 1 in
          omega (arith, j)))
          (omega arith) h,
    ) (numbers_values (length all) S ws ps)

either_tree_fits : (b : Bool) (x y : PlanTree) (S : List ℕ → ℕ) (ws : List ℕ) (ps : ℕ) →
    (b ≡ true → tree_fits x S ws ps ≡ true) →
    tree_fits y S ws ps ≡ true → tree_fits (cond b x y) S ws ps ≡ true
either_tree_fits true x y S ws ps p q = p refl
either_tree_fits false x y S ws ps p q = q

values_fits : (rows : Rows) → RowsFits rows → (k : ℕ) → k ≡ rows_width rows →
    all_even k rows ≡ true →
    (S : List ℕ → ℕ) (e : Env) (ws : List ℕ) (ps : ℕ) →
    ShapedRows rows S → EnvFits e ws ps →
    tree_fits (values_plan k (emit_rows rows S (lifted e) 0) (emit_rows rows S (lifted e) 1)) S ws
    ps ≡ true
values_fits NoRow h k w even S e ws ps s v =
    subst (λ (n : ℕ). tree_fits (several n []) S ws ps ≡ true) (sym w) refl
values_fits (MoreRows es NoRow) h k w even S e ws ps s v =
    listed_fits (emit_all es S (lifted e) 0) 0 unit_row S ws ps refl
    (all_fit es h.0 S (lifted e) 0 ws ps s.0 (lifted_fits e 0 ws ps v)) refl
values_fits (MoreRows es (MoreRows fs rows)) h k w even S e ws ps s v =
    let all = MoreRows es (MoreRows fs rows) in let first = emit_rows all S (lifted e) 0 in
    let a = emit_all es S (lifted e) 1 in
    either_tree_fits (all_plain first) (values (scalars_of first))
    (several k (emit_rows all S (lifted e) 1)) S ws ps
    (λ p. let c = rows_count all k S (lifted e) 0 even in
    scalars_of_fit first (scalar_count (emit_all es S (lifted e) 0).scalars) S 0 ws ps p
    (subst (λ (j : ℕ). EachCount j first) (sym c.0) c)
    (rows_fits all h S (lifted e) 0 ws ps s (lifted_fits e 0 ws ps v)))
    (several_fits k a (emit_rows (MoreRows fs rows) S (lifted e) (width a.nodes 1)) S ws ps
    (rows_fits all h S (lifted e) 1 ws ps s (lifted_fits e 1 ws ps v)))

-- GROUP BY.
grouped_fits : (k : ℕ) (ags : List Aggregate) (input : PlanTree) (S : List ℕ →
    ℕ) (ws : List ℕ) (ps : ℕ) → tree_width input ≡ k + length ags →
    tree_fits input S ws ps ≡ true →
    tree_fits (filter (all_values (places k (length ags)))
    (group (places 0 k) (numbered k ags) input)) S ws ps ≡ true
grouped_fits k ags input S ws ps e t =
    let n = tree_width input in let m = length (places 0 k) + length (numbered k ags) in
    let i = places_long 0 k in let j = numbered_long ags k in
    and_true (scalars_fit (checks (places k (length ags))) (m ∷ ws) ps)
    ((columns_fit (places 0 k) n && aggregates_fit (numbered k ags) n) && tree_fits input S ws ps)
    (check_fits (places k (length ags)) m ws ps (places_fit k (length ags) m (omega (arith, i, j))))
    (and_true (columns_fit (places 0 k) n && aggregates_fit (numbered k ags) n)
    (tree_fits input S ws ps)
    (and_true (columns_fit (places 0 k) n) (aggregates_fit (numbered k ags) n)
    (places_fit 0 k n (omega (arith, e)))
    (numbered_fit ags k n (omega (arith, e)))) t)

shaped_even : (q : Query) (S : List ℕ → ℕ) → ShapedQuery q S → Even q
shaped_even (Select items from tests) S s = tt
shaped_even (Grouped from tests k items ags having list) S s = tt
shaped_even (Values rows) S s = s.0
shaped_even (Ordered q keys) S s = shaped_even q S s.0

shaped_even_from : (x : From) (S : List ℕ → ℕ) → ShapedFrom x S → EvenFrom x
shaped_even_from (Table t) S s = tt
shaped_even_from (Derived q) S s = shaped_even q S s
shaped_even_from (Cross a b) S s = (shaped_even_from a S s.0, shaped_even_from b S s.1)
shaped_even_from (Inner a b on) S s = (shaped_even_from a S s.0, shaped_even_from b S s.1)
shaped_even_from (LeftOuter a b on) S s = (shaped_even_from a S s.0, shaped_even_from b S s.1)

-- operators
two_fits : (a : Emitted) (x : Expr) → ExprFits x →
    (S : List ℕ → ℕ) (e : Env) (m : ℕ) (ws : List ℕ) (ps : ℕ) → Shaped x S → EnvFits e (m ∷ ws) ps →
    Fit a S m ws ps → FitAll (first_and a (λ i. singly (emit x S e i)) m) S m ws ps
two_fits a x hx S e m ws ps s v h =
    let n = width a.nodes m in
    first_and_fits a (λ i. singly (emit x S e i)) S m ws ps h (singly_fits (emit x S e n) S n ws ps
    (hx S e n ws ps s (env_more e m n ws ps (width_more a.nodes m) v)))

abbrev pub LinksFits : Links → Type 0
LinksFits NoLink = Unit {0}
LinksFits (MoreLinks operator x links) = ExprFits x × LinksFits links

links_fit : (links : Links) → LinksFits links →
    (a : Emitted) (S : List ℕ → ℕ) (e : Env) (m : ℕ) (ws : List ℕ) (ps : ℕ) → ShapedLinks links S →
    EnvFits e (m ∷ ws) ps → Fit a S m ws ps → Fit (emit_links links a S e m) S m ws ps
links_fit NoLink h a S e m ws ps s v w = w
links_fit (MoreLinks operator x links) h a S e m ws ps s v w =
    links_fit links h.1 (word_on (strict (Arithmetic operator))
    (first_and a (λ i. singly (emit x S e i)) m)) S e m ws ps s.1 v
    (two_fits a x h.0 S e m ws ps s.0 v w)

-- the leaf of SELECT INTO
pub into_fits : (q : Query) (targets : List body.Target) (S : List ℕ → ℕ) →
    query_width q S ≡ length targets → ShapedQuery q S → QueryFits q → FoldFits q →
    LeafFits S (query_leaf q) targets
into_fits q targets S w s hq hf = record {
  fits = λ e ws ps v. hq S e ws ps s v;
  wide = λ e. plan_width q S e (shaped_even q S s) ∙ w;
  folds = λ e m ws ps v. hf S e m ws ps s v;
  counted = λ e. subst (λ (k : ℕ). CountIs (folded q S e) k) w (list_counted q S e);
}

mutual
  pub expr_fits : (x : Expr) → ExprFits x
  expr_fits (Literal c) = λ S e m ws ps s v. (refl, refl)
  expr_fits (Column d i) = λ S e m ws ps s v.
      (refl, read_fits (e.columns d i) (m ∷ ws) ps (v.0 d i))
  expr_fits (Variable i) = λ S e m ws ps s v. (refl, read_fits (e.params i) (m ∷ ws) ps (v.1 i))
  expr_fits (Chain x links) = λ S e m ws ps s v. links_fit links (each_link links)
      (emit x S e m) S e m ws ps s.1 v (expr_fits x S e m ws ps s.0 v)
  expr_fits (Operate op es) = all_fit es (each_fits es)
  expr_fits (And es) = all_fit es (each_fits es)
  expr_fits (Or es) = all_fit es (each_fits es)
  expr_fits (Case arms) = all_fit arms (each_fits arms)
  expr_fits (CaseOf x test result arms) = case_of_fits x test result arms (expr_fits x)
      (expr_fits test) (expr_fits result) (each_fits arms)
  expr_fits (Coalesce es) = all_fit es (each_fits es)
  expr_fits (In x q) = λ S e m ws ps s v.
      let a = emit x S e m in let u = env_more e m (width a.nodes m) ws ps
      (width_more a.nodes m) v in
      ask_member_fits (folded q S e) a (plan q S e) S m ws ps (expr_fits x S e m ws ps s.0 v)
      (plan_width q S e (shaped_even q S s.2) ∙ s.1)
      (query_fits q S e (width a.nodes m ∷ ws) ps s.2 u)
      (fold_fits q S e (width a.nodes m) ws ps s.2 u)
  expr_fits (Exists q) = λ S e m ws ps s v.
      ask_fits (folded q S e) exists row_stands (plan q S e) S m ws ps row_stands_fits refl refl
      (query_fits q S e (m ∷ ws) ps s v)
      (fold_fits q S e m ws ps s v)
  expr_fits (Single q) = λ S e m ws ps s v.
      ask_fits (folded q S e) single first_value (plan q S e) S m ws ps first_value_fits refl
      (equals_itself (tree_width (plan q S e)) 1 (plan_width q S e (shaped_even q S s.1) ∙ s.0))
      (query_fits q S e (m ∷ ws) ps s.1 v)
      (fold_fits q S e m ws ps s.1 v)
  expr_fits (Call name r es) = call_fits name r es (body_fits r) (each_fits es)
  expr_fits (CallSelf types es) = λ S e m ws ps s v. (refl, refl)

  pub each_link : (links : Links) → LinksFits links
  each_link NoLink = tt
  each_link (MoreLinks operator x links) = (expr_fits x, each_link links)

  pub each_fits : (es : Exprs) → EachFits es
  each_fits NoExpr = tt
  each_fits (MoreExprs x es) = (expr_fits x, each_fits es)

  pub body_fits : (r : Routine) → BodyFits r
  body_fits (Returned types returns x) = λ S m k ws ps s.
      assigning_in_fits (returns ∷ []) (emit x S (passed m k) (m + k)) S (m + k) ws ps
      (expr_fits x S (passed m k) (m + k) ws ps s (passed_fits m k (m + k) ws ps (omega arith)))
  body_fits (Function false types returns false statement) = λ S m k ws ps s.
      called_fits (body.Body types returns (stmt_body statement)) S (stmt_fits statement S s)
      (passed m k) (m + k) ws ps (passed_fits m k (m + k) ws ps (omega arith))
  body_fits (Function false types returns true statement) = λ S m k ws ps s.
      known_fits (body.Body types returns (stmt_body statement)) S (stmt_fits statement S s)
      (passed m k) (m + k) ws ps (passed_fits m k (m + k) ws ps (omega arith))
  body_fits _ = λ S m k ws ps s. absurd s

  pub perhaps_fits : (text : Perhaps) (S : List ℕ → ℕ) → ShapedPerhaps text S →
      PerhapsHolds (perhaps_body text) (ValueFits S)
  perhaps_fits Without S p = tt
  perhaps_fits (With x) S p = λ ws ps e m v. expr_fits x S e m ws ps p v

  pub variables_fits : (vs : Variables) (S : List ℕ → ℕ) → ShapedVariables vs S →
      VariablesHold (variables_body vs) (ValueFits S)
  variables_fits NoVariable S p = tt
  variables_fits (MoreVariables k t default others) S p =
      (perhaps_fits default S p.0, variables_fits others S p.1)

  pub stmt_fits : (s : Stmt) (S : List ℕ → ℕ) → ShapedStmt s S →
      Holds (stmt_body s) (ValueFits S) (LeafFits S)
  stmt_fits (Compound atomic variables cursors handlers statements) S p = (
    variables_fits variables S p.0,
    handlers_fits handlers S p.1,
    stmts_fits statements S p.2,
  )
  stmt_fits (If branches otherwise) S p =
      (branches_fits branches S p.0, stmts_fits otherwise S p.1)
  stmt_fits (SearchedCase branches otherwise) S p =
      (branches_fits branches S p.0, stmts_fits otherwise S p.1)
  stmt_fits (SimpleCase x branches otherwise) S p = (
    λ ws ps e m v. expr_fits x S e m ws ps p.0 v,
    branches_fits branches S p.1,
    stmts_fits otherwise S p.2,
  )
  stmt_fits (Set t x) S p = λ ws ps e m v. expr_fits x S e m ws ps p v
  stmt_fits (SelectInto q targets) S p = into_fits q targets S p.0 p.1 (query_fits q) (fold_fits q)
  stmt_fits (Signal state text) S p = perhaps_fits text S p
  stmt_fits (Resignal state text) S p = perhaps_fits text S p
  stmt_fits (GetStatementItems area reads) S p = tt
  stmt_fits (GetConditionItems area number reads) S p =
      λ ws ps e m v. expr_fits number S e m ws ps p v
  stmt_fits (Leave outwards) S p = tt
  stmt_fits (Return x) S p = λ ws ps e m v. expr_fits x S e m ws ps p v
  stmt_fits _ S p = absurd p

  pub stmts_fits : (ss : Stmts) (S : List ℕ → ℕ) → ShapedStmts ss S →
      AllHold (stmts_body ss) (ValueFits S) (LeafFits S)
  stmts_fits NoStmt S p = tt
  stmts_fits (MoreStmts s ss) S p = (stmt_fits s S p.0, stmts_fits ss S p.1)

  pub branches_fits : (bs : Branches) (S : List ℕ → ℕ) → ShapedBranches bs S →
      BranchesHold (branches_body bs) (ValueFits S) (LeafFits S)
  branches_fits NoBranch S p = tt
  branches_fits (MoreBranches test statements others) S p = (
    λ ws ps e m v. expr_fits test S e m ws ps p.0 v,
    stmts_fits statements S p.1,
    branches_fits others S p.2,
  )

  pub handlers_fits : (hs : Handlers) (S : List ℕ → ℕ) → ShapedHandlers hs S →
      HandlersHold (handlers_body hs) (ValueFits S) (LeafFits S)
  handlers_fits NoHandler S p = tt
  handlers_fits (MoreHandlers kind takes action others) S p =
      (stmt_fits action S p.0, handlers_fits others S p.1)

  pub query_fits : (q : Query) → QueryFits q
  query_fits (Select items from tests) = λ S e ws ps s v.
      selected_fits tests items (each_fits tests) (each_fits items) S e (from_width from S) ws ps
      (from_plan from S e) s.1 s.2 v
      (from_plan_width from S e (shaped_even_from from S s.0)) (from_fits from S e ws ps s.0 v)
  query_fits (Grouped from tests k items ags having list) = λ S e ws ps s v.
      let n = from_width from S in
      let input = selected (emit_tests tests S (entered e n) none_waits)
      (emit_all items S (entered e n)) n
      (from_plan from S e) in
      let w : tree_width (filter (all_values (places k (length ags)))
      (group (places 0 k) (numbered k ags) input)) ≡ k + length ags =
      (let i = places_long 0 k in let j = numbered_long ags k in omega (arith, i, j)) in
      selected_fits having list (each_fits having) (each_fits list) S e (k + length ags) ws ps
      (filter (all_values (places k (length ags))) (group (places 0 k) (numbered k ags) input)) s.3
      s.4 v w
      (grouped_fits k ags input S ws ps
      (selected_width (emit_tests tests S (entered e n) none_waits) items S (entered e n) n
      (from_plan from S e) ∙
      s.5)
      (selected_fits tests items (each_fits tests) (each_fits items) S e n ws ps
      (from_plan from S e) s.1 s.2 v
      (from_plan_width from S e (shaped_even_from from S s.0)) (from_fits from S e ws ps s.0 v)))
  query_fits (Values rows) =
      λ S e ws ps s v. values_fits rows (rows_each rows) (rows_width rows) refl s.0 S e ws ps s.1 v
  query_fits (Ordered q keys) = λ S e ws ps s v.
      and_true (keys_fit keys (tree_width (plan q S e))) (tree_fits (plan q S e) S ws ps)
      (ap (keys_fit keys) (plan_width q S e (shaped_even q S s.0)) ∙ s.1)
      (query_fits q S e ws ps s.0 v)

  pub rows_each : (rows : Rows) → RowsFits rows
  rows_each NoRow = tt
  rows_each (MoreRows es rows) = (each_fits es, rows_each rows)

  pub fold_fits : (q : Query) → FoldFits q
  fold_fits (Grouped from tests zero items (a ∷ ags) NoExpr list) = λ S e m ws ps s v.
      let n = from_width from S in
      let input = selected (emit_tests tests S (entered e n) none_waits)
      (emit_all items S (entered e n)) n
      (from_plan from S e) in
      let all = a ∷ ags in let k = suc (length ags) in
      let w : tree_width input ≡ count items = selected_width
      (emit_tests tests S (entered e n) none_waits) items S (entered e n) n
      (from_plan from S e) in
      let l : length (numbered 0 all) ≡ k = numbered_long all 0 in (
        numbered_fit all 0 (tree_width input) (let c = s.5 in omega (arith, w, c)),
        selected_fits tests items (each_fits tests) (each_fits items) S e n (m ∷ ws) ps
            (from_plan from S e) s.1 s.2 v
            (from_plan_width from S e (shaped_even_from from S s.0))
            (from_fits from S e (m ∷ ws) ps s.0 v),
        subst (λ (j : ℕ). FitAll (emit_all list S (folded_env e m k) (m + k)) S (m + j) ws ps)
            (sym l)
            (all_fit list (each_fits list) S (folded_env e m k) (m + k) ws ps s.4
            (folded_fits e m k (m + k) ws ps (omega arith)
            (env_more e m (m + k) ws ps (omega arith) v))),
        omega (arith, l),
      )
  fold_fits _ = λ S e m ws ps s v. tt

  pub from_fits : (x : From) → FromFits x
  from_fits (Table t) = λ S e ws ps s v. equals_itself (S t) (S t) refl
  from_fits (Derived q) = λ S e ws ps s v. query_fits q S e ws ps s v
  from_fits (Cross a b) = λ S e ws ps s v. and_true (tree_fits (from_plan a S e) S ws ps)
      (tree_fits (from_plan b S e) S ws ps)
      (from_fits a S e ws ps s.0 v) (from_fits b S e ws ps s.1 v)
  from_fits (Inner a b on) = λ S e ws ps s v.
      let n = from_width a S + from_width b S in
      let ts = emit_tests on S (entered e n) none_waits n in
      let both_sides = cross (from_plan a S e)
      (from_plan b S e) in
      let w : tree_width both_sides
      ≡ n = (let i = from_plan_width a S e (shaped_even_from a S s.0) in
      let j = from_plan_width b S e
      (shaped_even_from b S s.1) in omega (arith, i, j)) in
      and_true (columns_fit (places 0 n) (tree_width (filters ts both_sides)))
      (tree_fits (filters ts both_sides) S ws ps)
      (places_fit 0 n (tree_width (filters ts both_sides))
      (let i = filters_tree_width ts both_sides n w in let j = filters_more ts n in omega
      (arith, i, j)))
      (filters_fit ts both_sides S n ws ps w
      (tests_fit on (each_fits on) S (entered e n) n ws ps none_waits s.2
      (entered_fits e n n ws ps (omega arith) v) (tt, tt))
      (and_true (tree_fits (from_plan a S e) S ws ps) (tree_fits (from_plan b S e) S ws ps)
      (from_fits a S e ws ps s.0 v)
      (from_fits b S e ws ps s.1 v)))
  from_fits (LeftOuter a b on) = λ S e ws ps s v.
      let nb = from_width b S in let n = from_width a S + nb in
      let c = emit_all on S (entered e n) n in let j = tree_width (from_plan a S e) + nb in
      let f : FitAll c S n ws ps = all_fit on (each_fits on) S (entered e n) n ws ps s.2
      (entered_fits e n n ws ps (omega arith) v) in
      let w : j ≡ n = ap (λ i. i + nb) (from_plan_width a S e (shaped_even_from a S s.0)) in
      and_true (nodes_fit c.nodes S j ws ps
      && scalar_fits (all_true c.scalars) (width c.nodes j ∷ ws) ps)
      (nat_eq (tree_width (from_plan b S e)) nb
      && (tree_fits (from_plan a S e) S ws ps && tree_fits (from_plan b S e) S ws ps))
      (subst (λ (i : ℕ). (nodes_fit c.nodes S i ws ps
      && scalar_fits (all_true c.scalars) (width c.nodes i ∷ ws) ps) ≡ true) (sym w)
      (and_true (nodes_fit c.nodes S n ws ps)
      (scalar_fits (all_true c.scalars) (width c.nodes n ∷ ws) ps) f.0
      (all_true_fits c.scalars (width c.nodes n ∷ ws) ps f.1)))
      (and_true (nat_eq (tree_width (from_plan b S e)) nb) (tree_fits (from_plan a S e) S ws ps
      && tree_fits (from_plan b S e) S ws ps)
      (equals_itself (tree_width (from_plan b S e)) nb
      (from_plan_width b S e (shaped_even_from b S s.1)))
      (and_true (tree_fits (from_plan a S e) S ws ps) (tree_fits (from_plan b S e) S ws ps)
      (from_fits a S e ws ps s.0 v)
      (from_fits b S e ws ps s.1 v)))

routine_fits : (r : Routine) (S : List ℕ → ℕ) → ShapedBody r S →
    tree_fits (routine_plan r S) S [] (length (parameters_of r)) ≡ true
routine_fits (Returned types returns x) S s =
    let n = length types in let a = emit x S (top n) 0 in let b = assigning_in (returns ∷ []) a in
    listed_fits (singly b) 0 unit_row S [] n refl
    (singly_fits b S 0 [] n (assigning_in_fits (returns ∷ []) a S 0 [] n
    (expr_fits x S (top n) 0 [] n s (
      λ d i. tt,
      λ i. below_fits n i (given i) (0 ∷ []) n (λ l. l),
    )))) refl
routine_fits (Function false types returns false statement) S s =
    let n = length types in let r = body.Body types returns (stmt_body statement) in
    let b = called_body r S (top n) 0 in
    listed_fits (singly b) 0 unit_row S [] n refl
    (singly_fits b S 0 [] n (called_fits r S (stmt_fits statement S s) (top n) 0 [] n (
      λ d i. tt,
      λ i. below_fits n i (given i) (0 ∷ []) n (λ l. l),
    ))) refl
routine_fits (Function false types returns true statement) S s =
    let n = length types in let r = body.Body types returns (stmt_body statement) in
    let b = known_body r S (top n) 0 in
    listed_fits (singly b) 0 unit_row S [] n refl
    (singly_fits b S 0 [] n (known_fits r S (stmt_fits statement S s) (top n) 0 [] n (
      λ d i. tt,
      λ i. below_fits n i (given i) (0 ∷ []) n (λ l. l),
    ))) refl
routine_fits _ S s = absurd s

pub well_formed_plans : WellFormedPlans
well_formed_plans = record {
  queries = λ q S n s. query_fits q S (top n) [] n s (
    λ d i. tt,
    λ i. below_fits n i (given i) [] n (λ l. l),
  );
  routines = routine_fits;
}

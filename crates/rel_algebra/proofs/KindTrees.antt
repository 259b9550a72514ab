-- The plan of a well-typed query: each operand has the kind that it is wanted to have.
use Rattle.std.proofs.Common.{◌≡◌, ℕ, zero, suc, ◌+◌, Bool, true, false, cond, ◌&&◌, nat_eq, List}
use Rattle.std.proofs.Common.{[], ◌∷◌, ◌++◌, length, replicate, Option, Some, None, refl, ap, sym}
use Rattle.std.proofs.Common.{◌∙◌, subst, arith, drop}
use Rattle.std.proofs.lemmas.List.{append-nil, length-replicate}
use Rattle.sql_values.specs.declared.value.SqlType.{SqlType}
use Rattle.sql_values.specs.declared.value.Value.TheVariants.{Bool as Truth}
use Rattle.sql_values.specs.declared.operators.Comparison.TheVariants.{Equals}
use Rattle.rel_algebra.specs.Emit.{Emitted, EmittedAll, Env, Folded, Key, Place, Waiting}
use Rattle.rel_algebra.specs.Emit.{against_on, all_plain, all_true, all_values, all_waiting, ask}
use Rattle.rel_algebra.specs.Emit.{ask_member, asked, assigning_in, at, called, chosen, either_all}
use Rattle.rel_algebra.specs.Emit.{else_arms, emit, emit_all, emit_args, emit_body, emit_links}
use Rattle.rel_algebra.specs.Emit.{emit_rows, emit_tests, entered, filters, filters_width}
use Rattle.rel_algebra.specs.Emit.{first_and, first_value, folded, folded_env, folding, from_plan}
use Rattle.rel_algebra.specs.Emit.{given, is_plain, key_of, key_step, lifted, list_nodes, listed}
use Rattle.rel_algebra.specs.Emit.{none_waits, nowhere, nulls, numbers, one_column, one_param}
use Rattle.rel_algebra.specs.Emit.{passed, plan, raising, read, row_stands, scalar_count}
use Rattle.rel_algebra.specs.Emit.{scalars_of}
use Rattle.rel_algebra.specs.Emit.{selected, several, singly, test_step, top, turned, values_plan}
use Rattle.rel_algebra.specs.Emit.{width, word_on}
use Rattle.rel_algebra.specs.Joins.{from_width, numbered, places, query_width, rows_width}
use Rattle.rel_algebra.specs.Kinds.{BooleanKind, DataKind, IntegerKind, KindedPlans, Kinds}
use Rattle.rel_algebra.specs.Kinds.{NullKind, Typed, TypedAll, TypedBody, TypedFrom, TypedLinks}
use Rattle.rel_algebra.specs.Kinds.{TypedQuery, TypedRows, aggregate_kinds, aggregates_good, agree}
use Rattle.rel_algebra.specs.Kinds.{agree_all, apply_kinds, args_good, args_kinds, body_kind}
use Rattle.rel_algebra.specs.Kinds.{case_good, expr_kind, exprs_kinds, first_kind, first_takes}
use Rattle.rel_algebra.specs.Kinds.{from_kinds, group_kinds, is_test, join_kinds, joined_kind}
use Rattle.rel_algebra.specs.Kinds.{kind_at, kind_good, kinds_at, links_kind, lists_good}
use Rattle.rel_algebra.specs.Kinds.{lists_kinds, nodes_good, nodes_kinds, operator_kind}
use Rattle.rel_algebra.specs.Kinds.{query_kinds, results_kind, rows_kinds, scalar_good, scalar_kind}
use Rattle.rel_algebra.specs.Kinds.{scalars_good, scalars_kinds, table_widths, tests_good}
use Rattle.rel_algebra.specs.Kinds.{tree_good, tree_kinds, word_good, word_kind}
use Rattle.rel_algebra.specs.Plain.{all_even}
use Rattle.rel_algebra.specs.Plan.{Kind, Nodes, PlanTree, Scalar, Scalars, Word, and_word, apply_by}
use Rattle.rel_algebra.specs.Plan.{case_word, coalesce_word, constant, cross, exists, extend_by}
use Rattle.rel_algebra.specs.Plan.{filter, group, member, more, no_node, none, or_word, single}
use Rattle.rel_algebra.specs.Plan.{strict, unit_row, values, anew}
use Rattle.rel_algebra.specs.Tree.{Aggregate, And, Arithmetic, Call, CallSelf, Case, CaseOf, Chain}
use Rattle.rel_algebra.specs.Tree.{Coalesce, Column, Comparing, Cross, Derived, Exists, Expr, Exprs}
use Rattle.rel_algebra.specs.Tree.{From, Returned, Grouped, In, Inner, LeftOuter, Links, Literal}
use Rattle.rel_algebra.specs.Tree.{MoreExprs, MoreLinks, MoreRows, NoExpr, NoLink, NoRow, Operate}
use Rattle.rel_algebra.specs.Tree.{Or, Ordered, Query, Routine, Rows, Select, Single, Table, Values}
use Rattle.rel_algebra.specs.Tree.{Variable, count, parameters_of}
use Rattle.rel_algebra.proofs.Truths.{and_true, both, equal_numbers, left_true, never, right_true}
use Rattle.rel_algebra.proofs.Counts.{numbered_long, plain_width}
use Rattle.rel_algebra.proofs.KindNodes.{FoldIs, KindsAgree, KindsRead, PlanIs, TestsGood, Yields}
use Rattle.rel_algebra.proofs.KindNodes.{YieldsAll, after_grow, after_join, after_long}
use Rattle.rel_algebra.proofs.KindNodes.{aggregates_long, below_kind, entered_kinds, filters_are}
use Rattle.rel_algebra.proofs.KindNodes.{filters_grow, filters_kinds, filters_long, first_and_kinds}
use Rattle.rel_algebra.proofs.KindNodes.{folded_kinds, good_join, kinds_wider, lifted_kinds}
use Rattle.rel_algebra.proofs.KindNodes.{listed_is, passed_kinds, read_on, singly_kinds}
use Rattle.rel_algebra.proofs.KindNodes.{then_columns_kinds}
use Rattle.rel_algebra.proofs.KindRows.{KindsGrow, first_kinds_columns, kinds_grow_at}
use Rattle.rel_algebra.proofs.KindRows.{kinds_grow_by, kinds_grow_same, kinds_grow_trans}
use Rattle.rel_algebra.proofs.KindRows.{kinds_grown_column}
use Rattle.rel_algebra.proofs.KindWords.{Has, HaveAll, against_has, agree_null, agree_turned}
use Rattle.rel_algebra.proofs.KindWords.{all_true_has}
use Rattle.rel_algebra.proofs.KindWords.{all_values_has, assigning_first_has, else_good, else_kind}
use Rattle.rel_algebra.proofs.KindWords.{first_value_has, if_values_has, join_null, read_good}
use Rattle.rel_algebra.proofs.KindWords.{row_stands_has, tested, turned_test}
use Rattle.rel_algebra.proofs.Widths.{Even}
use Rattle.rel_algebra.specs.Tree.{Function, Perhaps, Without, With, Variables, NoVariable}
use Rattle.rel_algebra.specs.Tree.{MoreVariables, Stmt, Compound, If, SearchedCase, SimpleCase, Set}
use Rattle.rel_algebra.specs.Tree.{SelectInto, Signal, Resignal, GetStatementItems}
use Rattle.rel_algebra.specs.Tree.{GetConditionItems, Leave, Return, Stmts, NoStmt, MoreStmts}
use Rattle.rel_algebra.specs.Tree.{Branches, NoBranch, MoreBranches, Handlers, NoHandler}
use Rattle.rel_algebra.specs.Tree.{MoreHandlers}
use Rattle.rel_algebra.specs.Emit.{branches_body, handlers_body, perhaps_body, stmt_body}
use Rattle.rel_algebra.specs.Emit.{stmts_body, variables_body}
use Rattle.rel_algebra.specs.Emit.{query_leaf, value_leaf}
use Rattle.rel_algebra.specs.Kinds.{TextKind, TypedBranches, TypedHandlers, TypedPerhaps, TypedStmt}
use Rattle.rel_algebra.specs.Kinds.{TypedStmts, TypedVariables, declared_types, type_kind}
use Rattle.rel_algebra.specs.Kinds.{type_kinds}
use Rattle.rel_algebra.proofs.BodyKindsHeld.{AllKinds, BranchesKinds, Gives, HandlersKinds, Kinded}
use Rattle.rel_algebra.proofs.BodyKindsHeld.{PerhapsGives, QueryKinds as LeafKinds, StmtKinds}
use Rattle.rel_algebra.proofs.BodyKindsHeld.{VariablesKinds, made_types}
use Rattle.rel_algebra.proofs.BodyKindsRoutines.{called_kinds, known_kinds}

-- How many columns queries have.
exprs_long : (es : Exprs) (T : List ℕ → Kinds) (g : List Kinds) (p : Kinds) →
    length (exprs_kinds es T g p) ≡ count es
exprs_long NoExpr T g p = refl
exprs_long (MoreExprs x es) T g p = ap suc (exprs_long es T g p)

join_long : (a b : Kinds) (n : ℕ) → length a ≡ n → length b ≡ n → length (join_kinds a b) ≡ n
join_long [] [] n h k = h
join_long [] (b ∷ bs) n h k = h
join_long (a ∷ ks) [] n h k = k
join_long (a ∷ ks) (b ∷ bs) zero h k = absurd (omega arith)
join_long (a ∷ ks) (b ∷ bs) (suc n) h k = ap suc (join_long ks bs n (omega arith) (omega arith))

even_long : (es : Exprs) (n : ℕ) (T : List ℕ → Kinds) (g : List Kinds) (p : Kinds) →
    nat_eq (count es) n ≡ true → length (exprs_kinds es T g p) ≡ n
even_long es n T g p h = exprs_long es T g p ∙ equal_numbers (count es) n h

rows_long : (rows : Rows) (n : ℕ) (T : List ℕ → Kinds) (g : List Kinds) (p : Kinds) →
    all_even n rows ≡ true → length (rows_kinds rows n T g p) ≡ n
rows_long NoRow n T g p h = length-replicate n NullKind
rows_long (MoreRows es rows) n T g p h =
    join_long (exprs_kinds es T g p) (rows_kinds rows n T g p) n
    (even_long es n T g p (left_true (nat_eq (count es) n) (all_even n rows) h))
    (rows_long rows n T g p (right_true (nat_eq (count es) n) (all_even n rows) h))

typed_even : (q : Query) (T : List ℕ → Kinds) (g : List Kinds) (p : Kinds) → TypedQuery q T g p →
    Even q
typed_even (Select items from tests) T g p ty = tt
typed_even (Grouped from tests k items ags having list) T g p ty = tt
typed_even (Values rows) T g p ty = ty.0
typed_even (Ordered q keys) T g p ty = typed_even q T g p ty

query_long : (q : Query) (T : List ℕ → Kinds) (g : List Kinds) (p : Kinds) → Even q →
    length (query_kinds q T g p) ≡ query_width q (table_widths T)
query_long (Select items from tests) T g p h = exprs_long items T (from_kinds from T g p ∷ g) p
query_long (Grouped from tests k items ags having list) T g p h = exprs_long list T
    (group_kinds k ags (exprs_kinds items T (from_kinds from T g p ∷ g) p) ∷ g) p
query_long (Values rows) T g p h = rows_long rows (rows_width rows) T g p h
query_long (Ordered q keys) T g p h = query_long q T g p h

from_long : (x : From) (T : List ℕ → Kinds) (g : List Kinds) (p : Kinds) → TypedFrom x T g p →
    length (from_kinds x T g p) ≡ from_width x (table_widths T)
from_long (Table t) T g p ty = refl
from_long (Derived q) T g p ty = query_long q T g p (typed_even q T g p ty)
from_long (Cross a b) T g p ty = kinds_wider (from_kinds a T g p) (from_kinds b T g p) _ _
    (from_long a T g p ty.0) (from_long b T g p ty.1)
from_long (Inner a b on) T g p ty = kinds_wider (from_kinds a T g p) (from_kinds b T g p) _ _
    (from_long a T g p ty.0) (from_long b T g p ty.1)
from_long (LeftOuter a b on) T g p ty = kinds_wider (from_kinds a T g p) (from_kinds b T g p) _ _
    (from_long a T g p ty.0) (from_long b T g p ty.1)

kinds_at_long : (r : Kinds) (i k : ℕ) → length (kinds_at r (places i k)) ≡ k
kinds_at_long r i zero = refl
kinds_at_long r i (suc k) = ap suc (kinds_at_long r (suc i) k)

-- Trees.
abbrev pub ExprKinds : Expr → Type 0
ExprKinds x = (T : List ℕ → Kinds) (g : List Kinds) (p : Kinds) (e : Env) (r : Kinds)
    (ks : List Kinds) (ps : Kinds) (n : ℕ) → length r ≡ n →
    KindsRead e r ks ps g p → Typed x T g p →
    Yields (emit x (table_widths T) e n) T r ks ps (expr_kind x T g p)

abbrev pub EachKinds : Exprs → Type 0
EachKinds NoExpr = Unit {0}
EachKinds (MoreExprs x es) = ExprKinds x × EachKinds es

abbrev pub BodyKinds : Routine → Type 0
BodyKinds f = (T : List ℕ → Kinds) (p : Kinds) (m : ℕ) (r : Kinds) (ks : List Kinds) (ps : Kinds) →
    length r ≡ m → TypedBody f T p → Yields
    (emit_body f (table_widths T) (passed m (length p)) (m + length p)) T (r ++ p) ks ps
    (body_kind f T p)

abbrev pub QueryKinds : Query → Type 0
QueryKinds q = (T : List ℕ → Kinds) (g : List Kinds) (p : Kinds) (e : Env) (ks : List Kinds)
    (ps : Kinds) → KindsAgree e ks ps g p → TypedQuery q T g
    p → PlanIs (plan q (table_widths T) e) T ks ps (query_kinds q T g p)

abbrev pub FromKinds : From → Type 0
FromKinds x = (T : List ℕ → Kinds) (g : List Kinds) (p : Kinds) (e : Env) (ks : List Kinds)
    (ps : Kinds) → KindsAgree e ks ps g p → TypedFrom x T g p
    → PlanIs (from_plan x (table_widths T) e) T ks ps (from_kinds x T g p)

abbrev pub FoldKinds : Query → Type 0
FoldKinds q = (T : List ℕ → Kinds) (g : List Kinds) (p : Kinds) (e : Env) (r : Kinds)
    (ks : List Kinds) (ps : Kinds) (n : ℕ) → length r ≡ n →
    KindsRead e r ks ps g p → TypedQuery q T g p →
    FoldIs (folded q (table_widths T) e) T r ks ps n (query_kinds q T g p)

all_kinds : (es : Exprs) → EachKinds es →
    (T : List ℕ → Kinds) (g : List Kinds) (p : Kinds) (e : Env) (r : Kinds) (ks : List Kinds)
    (ps : Kinds) (n : ℕ) → length r ≡ n →
    KindsRead e r ks ps g p → TypedAll es T g p →
    YieldsAll (emit_all es (table_widths T) e n) T r ks ps (exprs_kinds es T g p)
all_kinds NoExpr h T g p e r ks ps n l rd ty = (refl, λ z k. (refl, refl))
all_kinds (MoreExprs x es) h T g p e r ks ps n l rd ty =
    let a = emit x (table_widths T) e n in
    first_and_kinds a (emit_all es (table_widths T) e) n T r ks ps (expr_kind x T g p)
    (exprs_kinds es T g p) l (h.0 T g p e r ks ps n l rd ty.0)
    (λ z lz gz. all_kinds es h.1 T g p e z ks ps (width a.nodes n) lz
    (read_on e r z ks ps g p rd gz) ty.1)

assigned_kinds : (types : List SqlType) (a : Emitted) (T : List ℕ →
    Kinds) (r : Kinds) (ks : List Kinds) (ps : Kinds) (k : DataKind) →
    Yields a T r ks ps k → first_takes types k ≡ true →
    Yields (assigning_in types a) T r ks ps (first_kind types k)
assigned_kinds types a T r ks ps k y g =
    (y.0, λ z h. assigning_first_has types a.scalar (z ∷ ks) ps k (y.1 z h) g)

given_kinds : (es : Exprs) → EachKinds es → (types : List SqlType)
    (T : List ℕ → Kinds) (g : List Kinds) (p : Kinds) (e : Env) (r : Kinds) (ks : List Kinds)
    (ps : Kinds) (n : ℕ) → length r ≡ n →
    KindsRead e r ks ps g p → TypedAll es T g p → args_good (exprs_kinds es T g p) types ≡ true →
    YieldsAll (emit_args es types (table_widths T) e n) T r ks ps
    (args_kinds (exprs_kinds es T g p) types)
given_kinds NoExpr h types T g p e r ks ps n l rd ty ok = (refl, λ z k. (refl, refl))
given_kinds (MoreExprs x es) h types T g p e r ks ps n l rd ty ok =
    let a = emit x (table_widths T) e n in let k = expr_kind x T g p in
    let kk = exprs_kinds es T g p in let rest = drop 1 types in
    first_and_kinds (assigning_in types a) (emit_args es rest (table_widths T) e) n T r ks ps
    (first_kind types k) (args_kinds kk rest) l
    (assigned_kinds types a T r ks ps k (h.0 T g p e r ks ps n l rd ty.0)
    (left_true (first_takes types k) (args_good kk rest) ok))
    (λ z lz gz. given_kinds es h.1 rest T g p e z ks ps (width a.nodes n) lz
    (read_on e r z ks ps g p rd gz) ty.1
    (right_true (first_takes types k) (args_good kk rest) ok))

word_kinds : (wd : Word) (a : EmittedAll) (T : List ℕ → Kinds) (r : Kinds) (ks : List Kinds)
    (ps : Kinds) (kk : Kinds) → YieldsAll a T r ks ps kk →
    word_good wd kk ≡ true → Yields (word_on wd a) T r ks ps (word_kind wd kk)
word_kinds wd a T r ks ps kk y h = (
  y.0,
  λ z g. let v = y.1 z g in (
    ap (word_kind wd) v.0,
    and_true (scalars_good a.scalars (z ∷ ks) ps)
        (word_good wd (scalars_kinds a.scalars (z ∷ ks) ps)) v.1 (ap (word_good wd) v.0 ∙ h),
  ),
)

case_of_kinds : (x test result : Expr) (arms : Exprs) → ExprKinds x → ExprKinds test →
    ExprKinds result → EachKinds arms →
    ExprKinds (CaseOf x test result arms)
case_of_kinds x test result arms hx ht hr ha T g p e r ks ps n l rd ty =
    let S = table_widths T in let a = singly (emit x S e n) in let k = expr_kind x T g p in
    let go : ℕ → ℕ → Emitted = λ c j.
    against_on c (first_and (emit test S e (suc c))
    (λ i. first_and (emit result S e i) (emit_all arms S e) i)
    (suc c)) in
    then_columns_kinds a go n T r (k ∷ []) ks ps
    (results_kind (expr_kind test T g p ∷ expr_kind result T g p ∷ exprs_kinds arms T g p)) l
    (singly_kinds (emit x S e n) T r ks ps k (hx T g p e r ks ps n l rd ty.0))
    (λ z lz gz lc. arms_kinds z (width a.nodes n) lz
    (read_on e r (z ++ k ∷ []) ks ps g p rd (kinds_grow_trans r z _ gz (kinds_grow_by z (k ∷ [])))))
  where
    arms_kinds : (z : Kinds) (c : ℕ) → length z ≡ c →
        KindsRead e (z ++ expr_kind x T g p ∷ []) ks ps g p →
        Yields (against_on c (first_and (emit test (table_widths T) e (suc c))
        (λ i. first_and (emit result (table_widths T) e i) (emit_all arms (table_widths T) e) i)
        (suc c))) T (z ++ expr_kind x T g p ∷ []) ks ps
        (results_kind (expr_kind test T g p ∷ expr_kind result T g p ∷ exprs_kinds arms T g p))
    arms_kinds z c lz q =
        let S = table_widths T in let k = expr_kind x T g p in let row = z ++ k ∷ [] in
        let all = first_and (emit test S e (suc c))
        (λ i. first_and (emit result S e i) (emit_all arms S e) i) (suc c) in
        let long : length row ≡ suc c = kinds_wider z (k ∷ []) c 1 lz refl
        ∙ (let s : c + 1 ≡ suc c = omega arith in s) in
        let y : YieldsAll all T row ks ps (expr_kind test T g p ∷ expr_kind result T g p
        ∷ exprs_kinds arms T g p) =
        first_and_kinds (emit test S e (suc c))
        (λ i. first_and (emit result S e i) (emit_all arms S e) i) (suc c) T row ks ps
        (expr_kind test T g p)
        (expr_kind result T g p ∷ exprs_kinds arms T g p) long
        (ht T g p e row ks ps (suc c) long q ty.1)
        (λ u lu gu. first_and_kinds (emit result S e _) (emit_all arms S e) _ T u ks ps
        (expr_kind result T g p) (exprs_kinds arms T g p) lu
        (hr T g p e u ks ps _ lu (read_on e row u ks ps g p q gu) ty.2)
        (λ v lv gv. all_kinds arms ha T g p e v ks ps _ lv
        (read_on e row v ks ps g p q (kinds_grow_trans row u v gu gv)) ty.3)) in (
          y.0,
          λ v gv. against_has c all.scalars (v ∷ ks) ps k (expr_kind test T g p
              ∷ expr_kind result T g p ∷ exprs_kinds arms T g p)
              (kinds_grown_column z v k c lz
              (kinds_grow_trans row _ v (after_grow all.nodes T row ks ps) gv)) (y.1 v gv) ty.4,
        )

call_kinds : (name : List ℕ) (f : Routine) (es : Exprs) → BodyKinds f → EachKinds es →
    ExprKinds (Call name f es)
call_kinds name f es hb ha T g p e r ks ps n l rd ty =
    let S = table_widths T in let types = parameters_of f in let a = emit_args es types S e n in
    let kk = args_kinds (exprs_kinds es T g p) types in
    then_columns_kinds a (λ m k. called (raising es types m) (emit_body f S (passed m k) (m + k))) n
    T r kk ks ps (body_kind f T kk) l
    (given_kinds es ha types T g p e r ks ps n l rd ty.1 ty.2)
    (λ z lz gz lc. called_kinds z (width a.nodes n) (scalar_count a.scalars) lz lc)
  where
    called_kinds : (z : Kinds) (m k : ℕ) → length z ≡ m →
        length (args_kinds (exprs_kinds es T g p) (parameters_of f)) ≡ k →
        Yields (called (raising es (parameters_of f) m)
        (emit_body f (table_widths T) (passed m k) (m + k))) T
        (z ++ args_kinds (exprs_kinds es T g p) (parameters_of f)) ks ps
        (body_kind f T (args_kinds (exprs_kinds es T g p) (parameters_of f)))
    called_kinds z m k lz lc =
        let kk = args_kinds (exprs_kinds es T g p) (parameters_of f) in
        let b = emit_body f (table_widths T) (passed m k) (m + k) in
        let y : Yields b T (z ++ kk) ks ps (body_kind f T kk) =
        subst (λ (j : ℕ). Yields (emit_body f (table_widths T) (passed m j) (m + j)) T
        (z ++ kk) ks ps (body_kind f T kk)) lc
        (hb T kk m z ks ps lz ty.0) in (
          y.0,
          λ v gv. if_values_has (raising es (parameters_of f) m) b.scalar (v ∷ ks) ps
              (body_kind f T kk) (y.1 v gv),
        )

-- Queries inside.
asked_kinds : (kind : Kind) (inner : PlanTree) (n : ℕ) (T : List ℕ →
    Kinds) (r : Kinds) (ks : List Kinds) (ps : Kinds) (k : DataKind) → length r ≡ n →
    kind_good kind (tree_kinds inner T (r ∷ ks) ps) (r ∷ ks) ps ≡ true →
    tree_good inner T (r ∷ ks) ps ≡ true →
    apply_kinds kind (tree_kinds inner T (r ∷ ks) ps) ≡ k ∷ [] →
    Yields (asked kind inner n) T r ks ps k
asked_kinds kind inner n T r ks ps k l hk ht e = (
  and_true (kind_good kind (tree_kinds inner T (r ∷ ks) ps) (r ∷ ks) ps)
      (tree_good inner T (r ∷ ks) ps && true) hk
      (and_true (tree_good inner T (r ∷ ks) ps) true ht refl),
  λ z g. (kinds_grown_column r z k n l (subst (λ (j : Kinds). KindsGrow (r ++ j) z) e g), refl),
)

folding_kinds : (a : Folded) (use_list : Scalars → Scalar) (pick : Kinds → DataKind) →
    ((ss : Scalars) (js : List Kinds) (qs : Kinds) → scalars_good ss js qs ≡ true →
    Has (use_list ss) js qs (pick (scalars_kinds ss js qs))) →
    (n : ℕ) (T : List ℕ → Kinds) (r : Kinds) (ks : List Kinds) (ps kk : Kinds) →
    FoldIs (Some a) T r ks ps n kk →
    Yields (folding a use_list n) T r ks ps (pick kk)
folding_kinds a use_list pick hu n T r ks ps kk h =
    let c = a.list n in let inner = tree_kinds a.input T (r ∷ ks) ps in
    let row = r ++ aggregate_kinds a.aggregates inner in (
      and_true (aggregates_good a.aggregates inner) (tree_good a.input T (r ∷ ks) ps
          && nodes_good c.nodes T row ks ps) h.0
          (and_true (tree_good a.input T (r ∷ ks) ps) (nodes_good c.nodes T row ks ps) h.1 h.2.0),
      λ z g. let v = h.2.1 z g in let u = hu c.scalars (z ∷ ks) ps v.1 in
          if_values_has (n ∷ []) (use_list c.scalars) (z ∷ ks) ps (pick kk)
          (u.0 ∙ ap pick v.0, u.1),
    )

ask_kinds : (oa : Option Folded) (kind : Kind) (use_list : Scalars → Scalar) (pick : Kinds →
    DataKind) →
    ((ss : Scalars) (js : List Kinds) (qs : Kinds) → scalars_good ss js qs ≡ true →
    Has (use_list ss) js qs (pick (scalars_kinds ss js qs))) →
    (inner : PlanTree) (n : ℕ) (T : List ℕ → Kinds) (r : Kinds) (ks : List Kinds) (ps kk : Kinds) →
    Yields (asked kind inner n) T r ks ps (pick kk) →
    FoldIs oa T r ks ps n kk → Yields (ask oa kind use_list inner n) T r ks ps (pick kk)
ask_kinds None kind use_list pick hu inner n T r ks ps kk y h = y
ask_kinds (Some a) kind use_list pick hu inner n T r ks ps kk y h =
    folding_kinds a use_list pick hu n T r ks ps kk h

-- IN, with the kind of the query's first column
member_kinds : (oa : Option Folded) (a : Emitted) (inner : PlanTree) (n : ℕ) (T : List ℕ →
    Kinds) (r : Kinds) (ks : List Kinds) (ps kk : Kinds)
    (k : DataKind) → length r ≡ n → Yields a T r ks ps k →
    PlanIs inner T (nodes_kinds a.nodes T r ks ps ∷ ks) ps kk →
    agree k (kind_at kk 0) ≡ true →
    FoldIs oa T (nodes_kinds a.nodes T r ks ps) ks ps (width a.nodes n) kk →
    Yields (ask_member oa a inner n) T r ks
    ps BooleanKind
member_kinds None a inner n T r ks ps kk k l y hi hk hf =
    let q = nodes_kinds a.nodes T r ks ps in let m = width a.nodes n in
    let v = y.1 q (kinds_grow_same q) in
    let b : Yields (asked (member a.scalar) inner m) T q ks ps BooleanKind =
    asked_kinds (member a.scalar) inner m T q ks ps BooleanKind (after_long a.nodes T r ks ps n l)
    (and_true (scalar_good a.scalar (q ∷ ks) ps)
    (agree (scalar_kind a.scalar (q ∷ ks) ps) (kind_at (tree_kinds inner T (q ∷ ks) ps) 0)) v.1
    (both agree _ _ _ _ v.0 (ap (λ (j : Kinds). kind_at j 0) hi.1) ∙ hk)) hi.0 refl in (
      good_join a.nodes (apply_by (constant (Truth true)) (member a.scalar) anew inner no_node) T r
          ks ps y.0 b.0,
      λ z g. b.1 z (subst (λ (j : Kinds). KindsGrow j z)
          (after_join a.nodes (apply_by (constant (Truth true)) (member a.scalar) anew inner
          no_node) T r ks
          ps) g),
    )
member_kinds (Some c) a inner n T r ks ps kk k l y hi hk hf =
    let q = nodes_kinds a.nodes T r ks ps in let m = width a.nodes n in
    let b = folding c first_value m in
    let w : Yields b T q ks ps (kind_at kk 0) = folding_kinds c first_value
    (λ (j : Kinds). kind_at j 0) first_value_has m T q ks ps kk hf in (
      good_join a.nodes b.nodes T r ks ps y.0 w.0,
      λ z g.
          let g' : KindsGrow (nodes_kinds b.nodes T q ks ps) z =
          subst (λ (j : Kinds). KindsGrow j z) (after_join a.nodes b.nodes T r ks ps) g in
          let va = y.1 z (kinds_grow_trans q _ z (after_grow b.nodes T q ks ps) g') in
          let vb = w.1 z g' in (
            refl,
            and_true (scalar_good a.scalar (z ∷ ks) ps
                && (scalar_good b.scalar (z ∷ ks) ps && true))
                (agree (scalar_kind a.scalar (z ∷ ks) ps) (scalar_kind b.scalar (z ∷ ks) ps)
                && true)
                (and_true (scalar_good a.scalar (z ∷ ks) ps) (scalar_good b.scalar (z ∷ ks) ps
                && true) va.1
                (and_true (scalar_good b.scalar (z ∷ ks) ps) true vb.1 refl))
                (and_true (agree (scalar_kind a.scalar (z ∷ ks) ps)
                (scalar_kind b.scalar (z ∷ ks) ps)) true (both agree _ _ _ _ va.0 vb.0 ∙ hk)
                refl),
          ),
    )

-- Conjuncts.
abbrev pub KeyGood : Option Key → Kinds → List Kinds → Kinds → Type 0
KeyGood None r ks ps = Unit {0}
KeyGood (Some key) r ks ps = is_test (turned key.own key.other).scalar (r ∷ ks) ps ≡ true

key_good : (x : Expr) (T : List ℕ → Kinds) (g : List Kinds) (p : Kinds) (e : Env) (r : Kinds)
    (ks : List Kinds) (ps : Kinds) →
    KindsAgree e (r ∷ ks) ps g p → Typed x T g p → KeyGood (key_of x e) r ks ps
key_good (Operate (Comparing Equals)
    (MoreExprs (Column zero i) (MoreExprs (Column (suc d) j) NoExpr))) T g p e r ks ps a ty =
    turned_test (e.columns zero i) (e.columns (suc d) j) (r ∷ ks) ps _ _ (a.0 zero i)
    (a.0 (suc d) j) ty.1
key_good (Operate (Comparing Equals)
    (MoreExprs (Column (suc d) j) (MoreExprs (Column zero i) NoExpr))) T g p e r ks ps a ty =
    turned_test (e.columns zero i) (e.columns (suc d) j) (r ∷ ks) ps _ _ (a.0 zero i)
    (a.0 (suc d) j) (agree_turned _ _ ty.1)
key_good (Operate (Comparing Equals) (MoreExprs (Column zero i) (MoreExprs (Variable j) NoExpr))) T
    g p e r ks ps a ty =
    turned_test (e.columns zero i) (e.params j) (r ∷ ks) ps _ _ (a.0 zero i) (a.1 j) ty.1
key_good (Operate (Comparing Equals) (MoreExprs (Variable j) (MoreExprs (Column zero i) NoExpr))) T
    g p e r ks ps a ty =
    turned_test (e.columns zero i) (e.params j) (r ∷ ks) ps _ _ (a.0 zero i) (a.1 j)
    (agree_turned _ _ ty.1)
key_good _ T g p e r ks ps a ty = tt

abbrev pub WaitsGood : List Emitted → Kinds → List Kinds → Kinds → Type 0
WaitsGood [] r ks ps = Unit {0}
WaitsGood (a ∷ ems) r ks ps = (a.nodes ≡ no_node) × (is_test a.scalar (r ∷ ks) ps ≡ true)
    × WaitsGood ems r ks ps

waits_more : (ems : List Emitted) (own other : Place) (r : Kinds) (ks : List Kinds) (ps : Kinds) →
    WaitsGood ems r ks ps →
    is_test (turned own other).scalar (r ∷ ks) ps ≡ true →
    WaitsGood (ems ++ turned own other ∷ []) r ks ps
waits_more [] own other r ks ps h k = (refl, k, tt)
waits_more (a ∷ ems) own other r ks ps h k = (h.0, h.1, waits_more ems own other r ks ps h.2 k)

waits_both : (a b : List Emitted) (r : Kinds) (ks : List Kinds) (ps : Kinds) → WaitsGood a r ks ps →
    WaitsGood b r ks ps → WaitsGood (a ++ b) r ks ps
waits_both [] b r ks ps h k = k
waits_both (x ∷ a) b r ks ps h k = (h.0, h.1, waits_both a b r ks ps h.2 k)

abbrev pub WaitingGood : Waiting → Kinds → List Kinds → Kinds → Type 0
WaitingGood w r ks ps = WaitsGood w.params r ks ps × WaitsGood w.columns r ks ps

waits_then : (ems rest : List Emitted) (T : List ℕ → Kinds) (r : Kinds) (ks : List Kinds)
    (ps : Kinds) → WaitsGood ems r ks ps →
    TestsGood rest T r ks ps → TestsGood (ems ++ rest) T r ks ps
waits_then [] rest T r ks ps h t = t
waits_then (a ∷ ems) rest T r ks ps h t = (
  subst (λ (ns : Nodes). nodes_good ns T r ks ps ≡ true) (sym h.0) refl,
  subst (λ (ns : Nodes). is_test a.scalar (nodes_kinds ns T r ks ps ∷ ks) ps ≡ true) (sym h.0) h.1,
  subst (λ (ns : Nodes). TestsGood (ems ++ rest) T (nodes_kinds ns T r ks ps) ks ps) (sym h.0)
      (waits_then ems rest T r ks ps h.2 t),
)

key_step_good : (of_column : Bool) (place own other : Place) (rest : Waiting → ℕ →
    List Emitted) (w : Waiting) (n : ℕ) (T : List ℕ → Kinds)
    (r : Kinds) (ks : List Kinds) (ps : Kinds) → is_test (turned own other).scalar (r ∷ ks) ps
    ≡ true → WaitingGood w r ks ps →
    ((u : Waiting) → WaitingGood u r ks ps → TestsGood (rest u n) T r ks ps) →
    TestsGood (key_step of_column place (turned own other) rest w n) T r ks ps
key_step_good true (at level i) own other rest w n T r ks ps k hw go =
    go (one_column (turned own other) w)
    (hw.0, waits_more w.columns own other r ks ps hw.1 k)
key_step_good true (given i) own other rest w n T r ks ps k hw go = (refl, k, go w hw)
key_step_good true nowhere own other rest w n T r ks ps k hw go = (refl, k, go w hw)
key_step_good false (at level i) own other rest w n T r ks ps k hw go =
    go (one_param (turned own other) w)
    (waits_more w.params own other r ks ps hw.0 k, hw.1)
key_step_good false (given i) own other rest w n T r ks ps k hw go =
    go (one_param (turned own other) w)
    (waits_more w.params own other r ks ps hw.0 k, hw.1)
key_step_good false nowhere own other rest w n T r ks ps k hw go = (refl, k, go w hw)

step_good : (key : Option Key) (a : Emitted) (rest : Waiting → ℕ → List Emitted) (w : Waiting)
    (n : ℕ) (T : List ℕ → Kinds) (r : Kinds)
    (ks : List Kinds) (ps : Kinds) (k : DataKind) → KeyGood key r ks ps → Yields a T r ks ps k →
    agree k BooleanKind ≡ true →
    WaitingGood w r ks ps → ((u : Waiting) → WaitingGood u r ks ps →
    TestsGood (rest u n) T r ks ps) → TestsGood (rest none_waits (width a.nodes n)) T
    (nodes_kinds a.nodes T r ks ps) ks ps → TestsGood (test_step key a rest w n) T r ks ps
step_good None a rest w n T r ks ps k hk y b hw go after_it =
    let q = nodes_kinds a.nodes T r ks ps in
    waits_then (all_waiting w) (a ∷ rest none_waits (width a.nodes n)) T r ks ps
    (waits_both w.params w.columns r ks ps hw.0 hw.1)
    (y.0, tested a.scalar (q ∷ ks) ps k (y.1 q (kinds_grow_same q)) b, after_it)
step_good (Some key) a rest w n T r ks ps k hk y b hw go after_it =
    key_step_good key.of_column key.other key.own key.other rest w n T r ks ps hk hw
    go

tests_kinds : (es : Exprs) → EachKinds es →
    (T : List ℕ → Kinds) (g : List Kinds) (p : Kinds) (e : Env) (r : Kinds) (ks : List Kinds)
    (ps : Kinds) (n : ℕ) (pending : Waiting) →
    length r ≡ n → KindsRead e r ks ps g p → TypedAll es T g p → tests_good (exprs_kinds es T g p)
    ≡ true → WaitingGood pending r ks ps →
    TestsGood (emit_tests es (table_widths T) e pending n) T r ks ps
tests_kinds NoExpr h T g p e r ks ps n pending l rd ty t hp =
    subst (λ (ems : List Emitted). TestsGood ems T r ks ps)
    (append-nil (all_waiting pending))
    (waits_then (all_waiting pending) [] T r ks ps
    (waits_both pending.params pending.columns r ks ps hp.0 hp.1)
    tt)
tests_kinds (MoreExprs x es) h T g p e r ks ps n pending l rd ty t hp =
    let S = table_widths T in let a = emit x S e n in let k = expr_kind x T g p in
    step_good (key_of x e) a (emit_tests es S e) pending n T r ks ps k
    (key_good x T g p e r ks ps (rd r (kinds_grow_same r)) ty.0)
    (h.0 T g p e r ks ps n l rd ty.0)
    (left_true (agree k BooleanKind) (tests_good (exprs_kinds es T g p)) t) hp
    (λ q hq. tests_kinds es h.1 T g p e r ks ps n q l rd ty.1
    (right_true (agree k BooleanKind) (tests_good (exprs_kinds es T g p)) t) hq)
    (tests_kinds es h.1 T g p e (nodes_kinds a.nodes T r ks ps) ks ps (width a.nodes n) none_waits
    (after_long a.nodes T r ks ps n l)
    (read_on e r (nodes_kinds a.nodes T r ks ps) ks ps g p rd (after_grow a.nodes T r ks ps)) ty.1
    (right_true (agree k BooleanKind) (tests_good (exprs_kinds es T g p)) t) (tt, tt))

selected_is : (tests items : Exprs) → EachKinds tests → EachKinds items →
    (T : List ℕ → Kinds) (g : List Kinds) (p : Kinds) (e : Env) (r : Kinds) (ks : List Kinds)
    (ps : Kinds) (n : ℕ) (input : PlanTree) → length r ≡ n →
    KindsAgree e ks ps g p →
    TypedAll tests T (r ∷ g) p → tests_good (exprs_kinds tests T (r ∷ g) p) ≡ true →
    TypedAll items T (r ∷ g) p → PlanIs input T ks ps r →
    PlanIs (selected (emit_tests tests (table_widths T) (entered e n) none_waits)
    (emit_all items (table_widths T) (entered e n)) n input) T ks ps
    (exprs_kinds items T (r ∷ g) p)
selected_is tests items ht hi T g p e r ks ps n input l ag tests_ty tg ti hin =
    let S = table_widths T in let inner = entered e n in
    let ts = emit_tests tests S inner none_waits n in let m = filters_width ts n in
    let rd : KindsRead inner r ks ps (r ∷ g) p = entered_kinds e n r ks ps g p l ag in
    let q = filters_kinds ts T r ks ps in
    let good : TestsGood ts T r ks ps = tests_kinds tests ht T (r ∷ g) p inner r ks ps n none_waits
    l rd tests_ty tg (tt, tt) in
    listed_is (emit_all items S inner m) m (filters ts input) T q (exprs_kinds items T (r ∷ g) p) ks
    ps (filters_long ts T r ks ps n l)
    (all_kinds items hi T (r ∷ g) p inner q ks ps m (filters_long ts T r ks ps n l)
    (read_on inner r q ks ps (r ∷ g) p rd (filters_grow ts T r ks ps))
    ti)
    (filters_are ts input T r ks ps good hin)

-- VALUES.
nulls_are : (c : ℕ) (ks : List Kinds) (ps : Kinds) → scalars_kinds (nulls c) ks ps
    ≡ replicate c NullKind
nulls_are zero ks ps = refl
nulls_are (suc c) ks ps = ap (λ (j : Kinds). NullKind ∷ j) (nulls_are c ks ps)

nulls_good : (c : ℕ) (ks : List Kinds) (ps : Kinds) → scalars_good (nulls c) ks ps ≡ true
nulls_good zero ks ps = refl
nulls_good (suc c) ks ps = nulls_good c ks ps

abbrev pub RowsKinds : Rows → Type 0
RowsKinds NoRow = Unit {0}
RowsKinds (MoreRows es rows) = EachKinds es × RowsKinds rows

join_nulls : (a : Kinds) (n : ℕ) → length a ≡ n → join_kinds a (replicate n NullKind) ≡ a
join_nulls [] n h = refl
join_nulls (k ∷ a) zero h = absurd (omega arith)
join_nulls (k ∷ a) (suc n) h = both (λ (x : DataKind) (xs : Kinds). x ∷ xs) _ _ _ _ (join_null k)
    (join_nulls a n (omega arith))

-- two lists on the row that has a number
either_are : (i : ℕ) (ss rs : Scalars) (z : Kinds) (ks : List Kinds) (ps a b : Kinds) →
    kind_at z 0 ≡ IntegerKind → HaveAll ss (z ∷ ks) ps a →
    HaveAll rs (z ∷ ks) ps b → agree_all a b ≡ true →
    HaveAll (either_all i ss rs) (z ∷ ks) ps (join_kinds a b)
either_are i none rs z ks ps a b o h k g = (ap (λ (j : Kinds). join_kinds j b) h.0, refl)
either_are i (more s ss) none z ks ps a b o h k g = (both join_kinds _ _ _ _ h.0 k.0, refl)
either_are i (more s ss) (more r rs) z ks ps a b o h k g =
    let sk = scalar_kind s (z ∷ ks) ps in let rk = scalar_kind r (z ∷ ks) ps in
    let ssk = scalars_kinds ss (z ∷ ks) ps in let rsk = scalars_kinds rs
    (z ∷ ks) ps in
    let sg = scalar_good s (z ∷ ks) ps in let rg = scalar_good r (z ∷ ks) ps in
    let ssg = scalars_good ss (z ∷ ks) ps in let rsg = scalars_good rs
    (z ∷ ks) ps in
    let g' : (agree sk rk && agree_all ssk rsk) ≡ true = both agree_all _ _ _ _ h.0 k.0 ∙ g in
    let rest = either_are i ss rs z ks ps ssk rsk o (refl, right_true sg ssg h.1) (
      refl,
      right_true rg rsg k.1,
    )
    (right_true (agree sk rk) (agree_all ssk rsk) g') in
    let e = agree (kind_at z 0) IntegerKind in let ek = scalars_kinds (else_arms r) (z ∷ ks) ps in
    let eg = scalars_good (else_arms r) (z ∷ ks) ps in
    let el = else_good r (z ∷ ks) ps (left_true rg rsg k.1) in (
      both (λ (x : DataKind) (j : Kinds). joined_kind sk x ∷ j) _ _ _ _
          (else_kind r (z ∷ ks) ps) rest.0 ∙ both join_kinds _ _ _ _ h.0 k.0,
      and_true (((true && (true && true)) && e) && (sg && eg)
          && (true && (agree sk (results_kind ek) && case_good ek)))
          (scalars_good (either_all i ss rs) (z ∷ ks) ps)
          (and_true (((true && (true && true)) && e) && (sg && eg)) (true
          && (agree sk (results_kind ek) && case_good ek))
          (and_true ((true && (true && true)) && e) (sg && eg) (ap (λ j. agree j IntegerKind) o)
          (and_true sg eg (left_true sg ssg h.1) el.0))
          (and_true (agree sk (results_kind ek)) (case_good ek)
          (ap (agree sk) (else_kind r (z ∷ ks) ps) ∙ left_true (agree sk rk) (agree_all ssk rsk)
          g') el.1)) rest.1,
    )

-- all lists on the row that has their columns
chosen_are : (rows : Rows) → RowsKinds rows →
    (c i : ℕ) (T : List ℕ → Kinds) (g : List Kinds) (p : Kinds) (e : Env) (r : Kinds)
    (ks : List Kinds) (ps : Kinds) (n : ℕ) → length r ≡ n →
    KindsRead e r ks ps g p → TypedRows rows c T g p →
    (nodes_good (list_nodes (emit_rows rows (table_widths T) e n)) T r ks ps ≡ true)
    × ((z : Kinds) → kind_at z 0 ≡ IntegerKind →
    KindsGrow (nodes_kinds (list_nodes (emit_rows rows (table_widths T) e n)) T r ks ps) z → HaveAll
    (chosen c i (emit_rows rows (table_widths T) e n)) (z ∷ ks) ps (rows_kinds rows c T g p))
chosen_are NoRow h c i T g p e r ks ps n l rd ty =
    (refl, λ z o k. (nulls_are c (z ∷ ks) ps, nulls_good c (z ∷ ks) ps))
chosen_are (MoreRows es rows) h c i T g p e r ks ps n l rd ty =
    let S = table_widths T in let a = emit_all es S e n in let q = nodes_kinds a.nodes T r ks ps in
    let rest = emit_rows rows S e (width a.nodes n) in
    let y = all_kinds es h.0 T g p e r ks ps n l rd ty.0 in
    let more_of = chosen_are rows h.1 c (suc i) T g p e q ks ps (width a.nodes n)
    (after_long a.nodes T r ks ps n l)
    (read_on e r q ks ps g p rd (after_grow a.nodes T r ks ps)) ty.2 in (
      good_join a.nodes (list_nodes rest) T r ks ps y.0 more_of.0,
      λ z o k.
          let k' : KindsGrow (nodes_kinds (list_nodes rest) T q ks ps) z =
          subst (λ (j : Kinds). KindsGrow j z)
          (after_join a.nodes (list_nodes rest) T r ks ps) k in
          either_are i a.scalars (chosen c (suc i) rest) z ks ps (exprs_kinds es T g p)
          (rows_kinds rows c T g p) o
          (y.1 z (kinds_grow_trans q _ z (after_grow (list_nodes rest) T q ks ps) k'))
          (more_of.1 z o k') ty.1,
    )

numbers_are : (i r : ℕ) (T : List ℕ → Kinds) (ks : List Kinds) (ps : Kinds) →
    (lists_good (numbers i (suc r)) ks ps ≡ true)
    × (lists_kinds (numbers i (suc r)) ks ps ≡ IntegerKind ∷ [])
numbers_are i zero T ks ps = (refl, refl)
numbers_are i (suc r) T ks ps =
    let h = numbers_are (suc i) r T ks ps in (
      and_true (agree_all (IntegerKind ∷ []) (lists_kinds (numbers (suc i) (suc r)) ks ps))
          (lists_good (numbers (suc i) (suc r)) ks ps)
          (ap (agree_all (IntegerKind ∷ [])) h.1) h.0,
      ap (join_kinds (IntegerKind ∷ [])) h.1,
    )

several_is : (es : Exprs) (rows : Rows) → RowsKinds (MoreRows es rows) →
    (c : ℕ) (T : List ℕ → Kinds) (g : List Kinds) (p : Kinds) (e : Env) (ks : List Kinds)
    (ps : Kinds) → KindsAgree e ks ps g p →
    TypedRows (MoreRows es rows) c T g p →
    PlanIs (several c (emit_rows (MoreRows es rows) (table_widths T) (lifted e) 1)) T ks ps
    (rows_kinds (MoreRows es rows) c T g p)
several_is es rows h c T g p e ks ps ag ty =
    let S = table_widths T in let inner = lifted e in
    let lists = emit_rows (MoreRows es rows) S inner 1 in
    let r : Kinds = IntegerKind ∷ [] in
    let rd : KindsRead inner r ks ps g p = lifted_kinds e r ks ps g p ag in
    let y = chosen_are (MoreRows es rows) h c 0 T g p inner r ks ps 1 refl rd ty in
    listed_is (record { nodes = list_nodes lists; scalars = chosen c 0 lists }) 1
    (values (numbers 0 (length lists))) T r
    (rows_kinds (MoreRows es rows) c T g p) ks ps refl (
      y.0,
      λ z k. y.1 z (kinds_grow_at r z 0
          (kinds_grow_trans r _ z (after_grow (list_nodes lists) T r ks ps) k) (omega arith)) k,
    )
    (numbers_are 0 (length (emit_rows rows S inner (width (emit_all es S inner 1).nodes 1))) T
    ([] ∷ ks) ps)

plain_kinds : (a : Nodes) (T : List ℕ → Kinds) (r : Kinds) (ks : List Kinds) (ps : Kinds) →
    is_plain a ≡ true → nodes_kinds a T r ks ps ≡ r
plain_kinds no_node T r ks ps h = refl
plain_kinds (extend_by ss a) T r ks ps h = never h
plain_kinds (apply_by when kind way inner a) T r ks ps h = never h

plain_are : (es : Exprs) (rows : Rows) → EachKinds es → RowsKinds rows → (c : ℕ) →
    all_even c (MoreRows es rows) ≡ true →
    (T : List ℕ → Kinds) (g : List Kinds) (p : Kinds) (e : Env) (ks : List Kinds) (ps : Kinds)
    (n : ℕ) → length {A = DataKind} [] ≡ n →
    KindsRead e [] ks ps g p →
    TypedRows (MoreRows es rows) c T g p →
    all_plain (emit_rows (MoreRows es rows) (table_widths T) e n) ≡ true →
    (lists_good (scalars_of (emit_rows (MoreRows es rows) (table_widths T) e n)) ([] ∷ ks) ps
    ≡ true) ×
    (lists_kinds (scalars_of (emit_rows (MoreRows es rows) (table_widths T) e n)) ([] ∷ ks) ps
    ≡ rows_kinds (MoreRows es rows) c T g p)
plain_are es NoRow he h c even T g p e ks ps n l rd ty pl =
    let a = emit_all es (table_widths T) e n in
    let pa : is_plain a.nodes ≡ true = left_true (is_plain a.nodes) true pl in
    let v = (all_kinds es he T g p e [] ks ps n l rd ty.0).1 []
    (subst (λ (j : Kinds). KindsGrow j []) (sym (plain_kinds a.nodes T [] ks ps pa))
    (kinds_grow_same [])) in (
      v.1,
      v.0 ∙ sym (join_nulls (exprs_kinds es T g p) c
          (even_long es c T g p (left_true (nat_eq (count es) c) true even))),
    )
plain_are es (MoreRows fs rows) he h c even T g p e ks ps n l rd ty pl =
    let S = table_widths T in let a = emit_all es S e n in let m = width a.nodes n in
    let rest = emit_rows (MoreRows fs rows) S e m in
    let pa : is_plain a.nodes ≡ true = left_true (is_plain a.nodes) (all_plain rest) pl in
    let v = (all_kinds es he T g p e [] ks ps n l rd ty.0).1 []
    (subst (λ (j : Kinds). KindsGrow j []) (sym (plain_kinds a.nodes T [] ks ps pa))
    (kinds_grow_same [])) in
    let u = plain_are fs rows h.0 h.1 c
    (right_true (nat_eq (count es) c) (all_even c (MoreRows fs rows)) even) T g p e ks ps m
    (l ∙ sym (plain_width a.nodes n pa)) rd ty.2 (right_true (is_plain a.nodes) (all_plain rest) pl)
    in
    let x = scalars_good a.scalars ([] ∷ ks) ps in
    let lk = lists_kinds (scalars_of rest) ([] ∷ ks) ps in (
      and_true x (agree_all (scalars_kinds a.scalars ([] ∷ ks) ps) lk
          && lists_good (scalars_of rest) ([] ∷ ks) ps) v.1
          (and_true (agree_all (scalars_kinds a.scalars ([] ∷ ks) ps) lk)
          (lists_good (scalars_of rest) ([] ∷ ks) ps)
          (both agree_all _ _ _ _ v.0 u.1 ∙ ty.1) u.0),
      both join_kinds _ _ _ _ v.0 u.1,
    )

either_is : (b : Bool) (x y : PlanTree) (T : List ℕ → Kinds) (ks : List Kinds) (ps r : Kinds) →
    (b ≡ true → PlanIs x T ks ps r) → PlanIs y T ks ps r →
    PlanIs (cond b x y) T ks ps r
either_is true x y T ks ps r p q = p refl
either_is false x y T ks ps r p q = q

values_are : (rows : Rows) → RowsKinds rows → (c : ℕ) → c ≡ rows_width rows →
    all_even c rows ≡ true →
    (T : List ℕ → Kinds) (g : List Kinds) (p : Kinds) (e : Env) (ks : List Kinds) (ps : Kinds) →
    KindsAgree e ks ps g p → TypedRows rows c T g p →
    PlanIs (values_plan c (emit_rows rows (table_widths T) (lifted e) 0)
    (emit_rows rows (table_widths T) (lifted e) 1)) T ks ps
    (rows_kinds rows c T g p)
values_are NoRow h c w even T g p e ks ps ag ty =
    subst (λ (n : ℕ). PlanIs (several n []) T ks ps (replicate n NullKind)) (sym w) (refl, refl)
values_are (MoreRows es NoRow) h c w even T g p e ks ps ag ty =
    let i : PlanIs (listed (emit_all es (table_widths T) (lifted e) 0) 0 unit_row) T ks ps
    (exprs_kinds es T g p) =
    listed_is (emit_all es (table_widths T) (lifted e) 0) 0 unit_row T []
    (exprs_kinds es T g p) ks ps refl
    (all_kinds es h.0 T g p (lifted e) [] ks ps 0 refl (lifted_kinds e [] ks ps g p ag) ty.0) (
      refl,
      refl,
    ) in (
      i.0,
      i.1 ∙ sym (join_nulls (exprs_kinds es T g p) c
          (even_long es c T g p (left_true (nat_eq (count es) c) true even))),
    )
values_are (MoreRows es (MoreRows fs rows)) h c w even T g p e ks ps ag ty =
    let S = table_widths T in let all = MoreRows es (MoreRows fs rows) in
    let first = emit_rows all S (lifted e) 0 in
    either_is (all_plain first) (values (scalars_of first))
    (several c (emit_rows all S (lifted e) 1)) T ks ps (rows_kinds all c T g p)
    (λ b. plain_are es (MoreRows fs rows) h.0 h.1 c even T g p (lifted e) ks ps 0 refl
    (lifted_kinds e [] ks ps g p ag) ty b)
    (several_is es (MoreRows fs rows) h c T g p e ks ps ag ty)

-- GROUP BY.
grouped_is : (k : ℕ) (ags : List Aggregate) (input : PlanTree) (T : List ℕ →
    Kinds) (ks : List Kinds) (ps r : Kinds) → PlanIs input T ks ps r →
    aggregates_good (numbered k ags) r ≡ true →
    PlanIs (filter (all_values (places k (length ags))) (group (places 0 k) (numbered k ags) input))
    T ks ps (group_kinds k ags r)
grouped_is k ags input T ks ps r h a =
    let t = group (places 0 k) (numbered k ags) input in let j = tree_kinds t T ks ps in (
      and_true (is_test (all_values (places k (length ags))) (j ∷ ks) ps)
          (aggregates_good (numbered k ags) (tree_kinds input T ks ps) && tree_good input T ks ps)
          (tested (all_values (places k (length ags))) (j ∷ ks) ps BooleanKind
          (all_values_has (places k (length ags)) (j ∷ ks) ps) refl)
          (and_true (aggregates_good (numbered k ags) (tree_kinds input T ks ps))
          (tree_good input T ks ps)
          (ap (aggregates_good (numbered k ags)) h.1 ∙ a) h.0),
      ap (λ (z : Kinds). kinds_at z (places 0 k) ++ aggregate_kinds (numbered k ags) z) h.1,
    )

group_long : (k : ℕ) (ags : List Aggregate) (r : Kinds) → length (group_kinds k ags r)
    ≡ k + length ags
group_long k ags r = kinds_wider (kinds_at r (places 0 k)) (aggregate_kinds (numbered k ags) r) k
    (length ags) (kinds_at_long r 0 k)
    (aggregates_long (numbered k ags) r ∙ numbered_long ags k)

cross_are : (a b : From) → FromKinds a → FromKinds b →
    (T : List ℕ → Kinds) (g : List Kinds) (p : Kinds) (e : Env) (ks : List Kinds) (ps : Kinds) →
    KindsAgree e ks ps g p → TypedFrom a T g p → TypedFrom b T g p →
    PlanIs (cross (from_plan a (table_widths T) e) (from_plan b (table_widths T) e)) T ks ps
    (from_kinds a T g p ++ from_kinds b T g p)
cross_are a b ha hb T g p e ks ps ag ta tb =
    let ia = ha T g p e ks ps ag ta in let ib = hb T g p e ks ps ag tb in (
      and_true (tree_good (from_plan a (table_widths T) e) T ks ps)
          (tree_good (from_plan b (table_widths T) e) T ks ps) ia.0 ib.0,
      both
          (λ (x z : Kinds). x ++ z) _ _ _ _ ia.1 ib.1,
    )

-- operators
two_kinds : (a : Emitted) (x : Expr) → ExprKinds x →
    (T : List ℕ → Kinds) (g : List Kinds) (p : Kinds) (e : Env) (r : Kinds) (ks : List Kinds)
    (ps : Kinds) (n : ℕ) (k : DataKind) → length r ≡ n →
    KindsRead e r ks ps g p → Typed x T g p → Yields a T r ks ps k →
    YieldsAll (first_and a (λ i. singly (emit x (table_widths T) e i)) n) T r ks ps
    (k ∷ expr_kind x T g p ∷ [])
two_kinds a x hx T g p e r ks ps n k l rd ty y =
    first_and_kinds a (λ i. singly (emit x (table_widths T) e i)) n T r ks ps k (expr_kind x T g p
    ∷ []) l y
    (λ z lz gz. singly_kinds (emit x (table_widths T) e (width a.nodes n)) T z ks ps
    (expr_kind x T g p)
    (hx T g p e z ks ps (width a.nodes n) lz (read_on e r z ks ps g p rd gz) ty))

abbrev pub LinksKinds : Links → Type 0
LinksKinds NoLink = Unit {0}
LinksKinds (MoreLinks operator x links) = ExprKinds x × LinksKinds links

links_are : (links : Links) → LinksKinds links →
    (a : Emitted) (T : List ℕ → Kinds) (g : List Kinds) (p : Kinds) (e : Env) (r : Kinds)
    (ks : List Kinds) (ps : Kinds) (n : ℕ) (k : DataKind) →
    length r ≡ n → KindsRead e r ks ps g p → TypedLinks links k T g p → Yields a T r ks ps k →
    Yields (emit_links links a (table_widths T) e n) T r ks ps (links_kind links k)
links_are NoLink h a T g p e r ks ps n k l rd ty y = y
links_are (MoreLinks operator x links) h a T g p e r ks ps n k l rd ty y =
    let b = first_and a (λ i. singly (emit x (table_widths T) e i)) n in
    links_are links h.1 (word_on (strict (Arithmetic operator)) b) T g p e r ks ps n
    (operator_kind operator) l rd ty.3
    (word_kinds (strict (Arithmetic operator)) b T r ks ps (k ∷ expr_kind x T g p ∷ [])
    (two_kinds a x h.0 T g p e r ks ps n k l rd ty.1 y)
    (and_true (agree k (operator_kind operator))
    (agree (expr_kind x T g p) (operator_kind operator)) ty.0 ty.2))

-- ---- leaves of a body, in sight of variables of these types

abbrev leaf_kinded : (x : Expr) → ExprKinds x → (T : List ℕ → Kinds) (ts : List SqlType) →
    Typed x T [] (type_kinds ts) → Kinded T ts (value_leaf x)
leaf_kinded x hx T ts ty = record {
  kind = expr_kind x T [] (type_kinds ts);
  yields = λ e r ks ps n l rd. hx T [] (type_kinds ts) e r ks ps n l rd ty;
}

leaf_gives : (x : Expr) → ExprKinds x → (T : List ℕ → Kinds) (ts : List SqlType) (k : DataKind) →
    Typed x T [] (type_kinds ts) → agree (expr_kind x T [] (type_kinds ts)) k ≡ true →
    Gives T ts k (value_leaf x)
leaf_gives x hx T ts k ty a = record { own = leaf_kinded x hx T ts ty; takes = a }

into_kinds : (q : Query) → QueryKinds q → FoldKinds q → (T : List ℕ → Kinds) (ts : List SqlType) →
    TypedQuery q T [] (type_kinds ts) →
    LeafKinds T (type_kinds ts) (query_kinds q T [] (type_kinds ts)) (query_leaf q)
into_kinds q hq hf T ts ty = record {
  asked = λ e ks ps ag. hq T [] (type_kinds ts) e ks ps ag ty;
  folds = λ e r ks ps n l rd. hf T [] (type_kinds ts) e r ks ps n l rd ty;
}

made_same : (vs : Variables) → made_types (variables_body vs) ≡ declared_types vs
made_same NoVariable = refl
made_same (MoreVariables k t default others) =
    ap (λ (us : List SqlType). replicate k t ++ us) (made_same others)

-- the types take the parameters that a call passes
agree_at : (p q : Kinds) (j : ℕ) → agree_all p q ≡ true → agree (kind_at p j) (kind_at q j) ≡ true
agree_at [] q j h = refl
agree_at (a ∷ p) [] zero h = agree_null a
agree_at (a ∷ p) [] (suc j) h = agree_null (kind_at p j)
agree_at (a ∷ p) (b ∷ q) zero h = left_true (agree a b) (agree_all p q) h
agree_at (a ∷ p) (b ∷ q) (suc j) h = agree_at p q j (right_true (agree a b) (agree_all p q) h)

passed_are : (m : ℕ) (r p q : Kinds) (ks : List Kinds) (ps : Kinds) → length r ≡ m →
    agree_all p q ≡ true → (j : ℕ) →
    agree (scalar_kind (read ((passed m (length p)).params j)) ((r ++ p) ∷ ks) ps) (kind_at q j)
    ≡ true
passed_are m r p q ks ps l h j =
    ap (λ (k : DataKind). agree k (kind_at q j))
    ((passed_kinds m r p ks ps l (r ++ p) (kinds_grow_same (r ++ p))).1 j) ∙ agree_at p q j h

mutual
  pub expr_kinds : (x : Expr) → ExprKinds x
  expr_kinds (Literal c) = λ T g p e r ks ps n l rd ty. (refl, λ z k. (refl, refl))
  expr_kinds (Column d i) = λ T g p e r ks ps n l rd ty.
      (refl, λ z k. ((rd z k).0 d i, read_good (e.columns d i) (z ∷ ks) ps))
  expr_kinds (Variable i) =
      λ T g p e r ks ps n l rd ty. (refl, λ z k. ((rd z k).1 i, read_good (e.params i) (z ∷ ks) ps))
  expr_kinds (Chain x links) = λ T g p e r ks ps n l rd ty.
      links_are links (each_link links) (emit x (table_widths T) e n) T g p e r ks ps n
      (expr_kind x T g p) l rd ty.1
      (expr_kinds x T g p e r ks ps n l rd ty.0)
  expr_kinds (Operate op es) = λ T g p e r ks ps n l rd ty.
      word_kinds (strict op) (emit_all es (table_widths T) e n) T r ks ps (exprs_kinds es T g p)
      (all_kinds es (each_kinds es) T g p e r ks ps n l rd ty.0) ty.1
  expr_kinds (And es) = λ T g p e r ks ps n l rd ty.
      word_kinds and_word (emit_all es (table_widths T) e n) T r ks ps (exprs_kinds es T g p)
      (all_kinds es (each_kinds es) T g p e r ks ps n l rd ty.0) ty.1
  expr_kinds (Or es) = λ T g p e r ks ps n l rd ty.
      word_kinds or_word (emit_all es (table_widths T) e n) T r ks ps (exprs_kinds es T g p)
      (all_kinds es (each_kinds es) T g p e r ks ps n l rd ty.0) ty.1
  expr_kinds (Case es) = λ T g p e r ks ps n l rd ty.
      word_kinds case_word (emit_all es (table_widths T) e n) T r ks ps (exprs_kinds es T g p)
      (all_kinds es (each_kinds es) T g p e r ks ps n l rd ty.0) ty.1
  expr_kinds (CaseOf x test result arms) = case_of_kinds x test result arms (expr_kinds x)
      (expr_kinds test) (expr_kinds result) (each_kinds arms)
  expr_kinds (Coalesce es) = λ T g p e r ks ps n l rd ty.
      word_kinds coalesce_word (emit_all es (table_widths T) e n) T r ks ps (exprs_kinds es T g p)
      (all_kinds es (each_kinds es) T g p e r ks ps n l rd ty.0) ty.1
  expr_kinds (In x q) = λ T g p e r ks ps n l rd ty.
      let S = table_widths T in let a = emit x S e n in let z = nodes_kinds a.nodes T r ks ps in
      let u = read_on e r z ks ps g p rd
      (after_grow a.nodes T r ks ps) in
      member_kinds (folded q S e) a (plan q S e) n T r ks ps (query_kinds q T g p)
      (expr_kind x T g p) l (expr_kinds x T g p e r ks ps n l rd ty.0)
      (query_are q T g p e (z ∷ ks) ps (u z (kinds_grow_same z)) ty.1) ty.2
      (fold_are q T g p e z ks ps (width a.nodes n) (after_long a.nodes T r ks ps n l) u ty.1)
  expr_kinds (Exists q) = λ T g p e r ks ps n l rd ty.
      let S = table_widths T in
      let i = query_are q T g p e (r ∷ ks) ps (rd r (kinds_grow_same r)) ty in
      ask_kinds (folded q S e) exists row_stands (λ j. BooleanKind) row_stands_has
      (plan q S e) n T r ks ps (query_kinds q T g p)
      (asked_kinds exists (plan q S e) n T r ks ps BooleanKind l refl i.0 refl)
      (fold_are q T g p e r ks ps n l rd ty)
  expr_kinds (Single q) = λ T g p e r ks ps n l rd ty.
      let S = table_widths T in
      let i = query_are q T g p e (r ∷ ks) ps (rd r (kinds_grow_same r)) ty in
      ask_kinds (folded q S e) single first_value (λ j. kind_at j 0) first_value_has
      (plan q S e) n T r ks ps (query_kinds q T g p)
      (asked_kinds single (plan q S e) n T r ks ps (kind_at (query_kinds q T g p) 0) l refl i.0
      (ap (λ (j : Kinds). kind_at j 0 ∷ []) i.1))
      (fold_are q T g p e r ks ps n l rd ty)
  expr_kinds (Call name f es) = call_kinds name f es (body_kinds f) (each_kinds es)
  expr_kinds (CallSelf types es) = λ T g p e r ks ps n l rd ty. (refl, λ z k. (refl, refl))

  pub each_link : (links : Links) → LinksKinds links
  each_link NoLink = tt
  each_link (MoreLinks operator x links) = (expr_kinds x, each_link links)

  pub each_kinds : (es : Exprs) → EachKinds es
  each_kinds NoExpr = tt
  each_kinds (MoreExprs x es) = (expr_kinds x, each_kinds es)

  pub body_kinds : (f : Routine) → BodyKinds f
  body_kinds (Returned types returns x) = λ T p m r ks ps l ty.
      assigned_kinds (returns ∷ []) (emit x (table_widths T) (passed m (length p)) (m + length p)) T
      (r ++ p) ks ps (expr_kind x T [] p)
      (expr_kinds x T [] p (passed m (length p)) (r ++ p) ks ps (m + length p)
      (kinds_wider r p m (length p) l refl) (passed_kinds m r p ks ps l)
      ty.0) ty.1
  body_kinds (Function false types returns false statement) = λ T p m r ks ps l ty.
      called_kinds types returns (stmt_body statement) T (stmt_kinds statement T returns types ty.1)
      (passed m (length p)) (m + length p) (r ++ p) ks ps (kinds_wider r p m (length p) l refl)
      (λ j g. passed_are m r p (type_kinds types) ks ps l ty.0 j)
  body_kinds (Function false types returns true statement) = λ T p m r ks ps l ty.
      known_kinds types returns (stmt_body statement) T (stmt_kinds statement T returns types ty.1)
      (passed m (length p)) (m + length p) (r ++ p) ks ps (kinds_wider r p m (length p) l refl)
      (λ j g. passed_are m r p (type_kinds types) ks ps l ty.0 j)
  body_kinds _ = λ T p m r ks ps l ty. absurd ty

  pub perhaps_kinds : (text : Perhaps) (k : DataKind) (T : List ℕ → Kinds) (ts : List SqlType) →
      TypedPerhaps text k T ts → PerhapsGives T ts k (perhaps_body text)
  perhaps_kinds Without k T ts ty = tt
  perhaps_kinds (With x) k T ts ty = leaf_gives x (expr_kinds x) T ts k ty.0 ty.1

  pub variables_kinds : (vs : Variables) (T : List ℕ → Kinds) (ts : List SqlType) →
      TypedVariables vs T ts → VariablesKinds (variables_body vs) T ts
  variables_kinds NoVariable T ts ty = tt
  variables_kinds (MoreVariables k t default others) T ts ty = (
    perhaps_kinds default (type_kind t) T ts ty.0,
    variables_kinds others T (ts ++ replicate k t) ty.1,
  )

  pub stmt_kinds : (s : Stmt) (T : List ℕ → Kinds) (returns : SqlType) (ts : List SqlType) →
      TypedStmt s T returns ts → StmtKinds (stmt_body s) T returns ts
  stmt_kinds (Compound atomic variables cursors handlers statements) T returns ts ty =
      let same = sym (made_same variables) in (
        variables_kinds variables T ts ty.0,
        subst (λ (us : List SqlType). HandlersKinds (handlers_body handlers) T returns (ts ++ us))
            same (handlers_kinds handlers T returns (ts ++ declared_types variables) ty.1),
        subst (λ (us : List SqlType). AllKinds (stmts_body statements) T returns (ts ++ us)) same
            (stmts_kinds statements T returns (ts ++ declared_types variables) ty.2),
      )
  stmt_kinds (If branches otherwise) T returns ts ty =
      let tests = branches_kinds branches BooleanKind T returns ts ty.0 in
      (tests, stmts_kinds otherwise T returns ts ty.1)
  stmt_kinds (SearchedCase branches otherwise) T returns ts ty =
      let tests = branches_kinds branches BooleanKind T returns ts ty.0 in
      (tests, stmts_kinds otherwise T returns ts ty.1)
  stmt_kinds (SimpleCase x branches otherwise) T returns ts ty = (
    leaf_kinded x (expr_kinds x) T ts ty.0,
    branches_kinds branches (expr_kind x T [] (type_kinds ts)) T returns ts ty.1,
    stmts_kinds otherwise T returns ts ty.2,
  )
  stmt_kinds (Set t x) T returns ts ty =
      record { own = leaf_kinded x (expr_kinds x) T ts ty.0; taken = ty.1 }
  stmt_kinds (SelectInto q targets) T returns ts ty = record {
    columns = query_kinds q T [] (type_kinds ts);
    own = into_kinds q (query_are q) (fold_are q) T ts ty.0;
    taken = ty.1;
  }
  stmt_kinds (Signal state text) T returns ts ty = perhaps_kinds text TextKind T ts ty
  stmt_kinds (Resignal state text) T returns ts ty = perhaps_kinds text TextKind T ts ty
  stmt_kinds (GetStatementItems area reads) T returns ts ty = ty
  stmt_kinds (GetConditionItems area number reads) T returns ts ty =
      (leaf_gives number (expr_kinds number) T ts IntegerKind ty.0 ty.1, ty.2)
  stmt_kinds (Leave outwards) T returns ts ty = tt
  stmt_kinds (Return x) T returns ts ty =
      leaf_gives x (expr_kinds x) T ts (type_kind returns) ty.0 ty.1
  stmt_kinds _ T returns ts ty = absurd ty

  pub stmts_kinds : (ss : Stmts) (T : List ℕ → Kinds) (returns : SqlType) (ts : List SqlType) →
      TypedStmts ss T returns ts → AllKinds (stmts_body ss) T returns ts
  stmts_kinds NoStmt T returns ts ty = tt
  stmts_kinds (MoreStmts s ss) T returns ts ty =
      (stmt_kinds s T returns ts ty.0, stmts_kinds ss T returns ts ty.1)

  pub branches_kinds : (bs : Branches) (k : DataKind) (T : List ℕ → Kinds) (returns : SqlType)
      (ts : List SqlType) → TypedBranches bs k T returns ts →
      BranchesKinds (branches_body bs) k T returns ts
  branches_kinds NoBranch k T returns ts ty = tt
  branches_kinds (MoreBranches x statements others) k T returns ts ty = (
    leaf_gives x (expr_kinds x) T ts k ty.0 ty.1,
    stmts_kinds statements T returns ts ty.2,
    branches_kinds others k T returns ts ty.3,
  )

  pub handlers_kinds : (hs : Handlers) (T : List ℕ → Kinds) (returns : SqlType)
      (ts : List SqlType) → TypedHandlers hs T returns ts →
      HandlersKinds (handlers_body hs) T returns ts
  handlers_kinds NoHandler T returns ts ty = tt
  handlers_kinds (MoreHandlers kind takes action others) T returns ts ty =
      (stmt_kinds action T returns ts ty.0, handlers_kinds others T returns ts ty.1)

  pub query_are : (q : Query) → QueryKinds q
  query_are (Select items from tests) = λ T g p e ks ps ag ty.
      selected_is tests items (each_kinds tests) (each_kinds items) T g p e
      (from_kinds from T g p) ks ps (from_width from (table_widths T))
      (from_plan from (table_widths T) e) (from_long from T g p ty.0) ag ty.1 ty.2 ty.3
      (from_are from T g p e ks ps ag ty.0)
  query_are (Grouped from tests k items ags having list) = λ T g p e ks ps ag ty.
      let S = table_widths T in let n = from_width from S in let r = from_kinds from T g p in
      let input = selected
      (emit_tests tests S (entered e n) none_waits) (emit_all items S (entered e n)) n
      (from_plan from S e) in
      selected_is having list (each_kinds having) (each_kinds list) T g p e
      (group_kinds k ags (exprs_kinds items T (r ∷ g) p)) ks ps (k + length ags)
      (filter (all_values (places k (length ags))) (group (places 0 k) (numbered k ags) input))
      (group_long k ags (exprs_kinds items T (r ∷ g) p)) ag ty.5 ty.6 ty.7
      (grouped_is k ags input T ks ps (exprs_kinds items T (r ∷ g) p)
      (selected_is tests items (each_kinds tests) (each_kinds items) T g p e r ks ps n
      (from_plan from S e) (from_long from T g p ty.0) ag ty.1 ty.2
      ty.3 (from_are from T g p e ks ps ag ty.0)) ty.4)
  query_are (Values rows) = λ T g p e ks ps ag ty. values_are rows (rows_each rows)
      (rows_width rows) refl ty.0 T g p e ks ps ag ty.1
  query_are (Ordered q keys) = λ T g p e ks ps ag ty. query_are q T g p e ks ps ag ty

  pub rows_each : (rows : Rows) → RowsKinds rows
  rows_each NoRow = tt
  rows_each (MoreRows es rows) = (each_kinds es, rows_each rows)

  pub fold_are : (q : Query) → FoldKinds q
  fold_are (Grouped from tests zero items (a ∷ ags) NoExpr list) = λ T g p e r ks ps n l rd ty.
      let S = table_widths T in let m = from_width from S in let fk = from_kinds from T g p in
      let input = selected
      (emit_tests tests S (entered e m) none_waits) (emit_all items S (entered e m)) m
      (from_plan from S e) in
      let ag = rd r (kinds_grow_same r) in let ik = exprs_kinds items T (fk ∷ g) p in
      let all = numbered 0 (a ∷ ags) in let c = suc (length ags) in
      let i : PlanIs input T (r ∷ ks) ps ik = selected_is tests items (each_kinds tests)
      (each_kinds items) T g p e fk (r ∷ ks) ps m
      (from_plan from S e) (from_long from T g p ty.0) ag ty.1 ty.2 ty.3
      (from_are from T g p e (r ∷ ks) ps ag ty.0) in
      let long : length (aggregate_kinds all ik) ≡ c = aggregates_long all ik
      ∙ numbered_long (a ∷ ags) 0 in (
        ap (aggregates_good all) i.1 ∙ ty.4,
        i.0,
        subst (λ (j : Kinds). YieldsAll (emit_all list S (folded_env e n c) (n + c)) T
            (r ++ aggregate_kinds all j) ks ps
            (exprs_kinds list T (group_kinds 0 (a ∷ ags) ik ∷ g) p)) (sym i.1)
            (all_kinds list (each_kinds list) T (aggregate_kinds all ik ∷ g) p (folded_env e n c)
            (r ++ aggregate_kinds all ik) ks ps (n + c)
            (kinds_wider r (aggregate_kinds all ik) n c l long)
            (folded_kinds e r (aggregate_kinds all ik) n c ks ps g p l long rd) ty.7),
      )
  fold_are _ = λ T g p e r ks ps n l rd ty. tt

  pub from_are : (x : From) → FromKinds x
  from_are (Table t) = λ T g p e ks ps ag ty. (refl, refl)
  from_are (Derived q) = λ T g p e ks ps ag ty. query_are q T g p e ks ps ag ty
  from_are (Cross a b) = λ T g p e ks ps ag ty.
      cross_are a b (from_are a) (from_are b) T g p e ks ps ag ty.0 ty.1
  from_are (Inner a b on) = λ T g p e ks ps ag ty.
      let S = table_widths T in let n = from_width a S + from_width b S in
      let r = from_kinds a T g p ++ from_kinds b T g p in
      let ts = emit_tests on S (entered e n) none_waits n in
      let both_sides = cross (from_plan a S e) (from_plan b S e) in
      let l : length r ≡ n = from_long (Cross a b) T g p (ty.0, ty.1) in
      let i = filters_are ts both_sides T r ks ps
      (tests_kinds on (each_kinds on) T (r ∷ g) p (entered e n) r ks ps n none_waits l
      (entered_kinds e n r ks ps g p l ag) ty.2 ty.3 (tt, tt))
      (cross_are a b (from_are a) (from_are b) T g p e ks ps ag ty.0 ty.1) in (
        i.0,
        ap (λ (j : Kinds). kinds_at j (places 0 n)) i.1
            ∙ first_kinds_columns r (filters_kinds ts T r ks ps) n l (filters_grow ts T r ks ps),
      )
  from_are (LeftOuter a b on) = λ T g p e ks ps ag ty.
      let S = table_widths T in let n = from_width a S + from_width b S in
      let r = from_kinds a T g p ++ from_kinds b T g p in let c = emit_all on S
      (entered e n) n in
      let l : length r ≡ n = from_long (Cross a b) T g p (ty.0, ty.1) in
      let ia = from_are a T g p e ks ps ag ty.0 in let ib = from_are b T g p e ks ps ag ty.1 in
      let y : YieldsAll c T r ks ps (exprs_kinds on T (r ∷ g) p) = all_kinds on (each_kinds on) T
      (r ∷ g) p (entered e n) r ks ps n l
      (entered_kinds e n r ks ps g p l ag) ty.2 in
      let q = nodes_kinds c.nodes T r ks ps in let v = y.1 q (kinds_grow_same q) in
      let row : tree_kinds (from_plan a S e) T ks ps ++ tree_kinds (from_plan b S e) T ks ps ≡ r =
      both (λ (x z : Kinds). x ++ z) _ _ _ _ ia.1 ib.1 in (
        and_true _ (tree_good (from_plan a S e) T ks ps && tree_good (from_plan b S e) T ks ps)
            (subst (λ (j : Kinds). (nodes_good c.nodes T j ks ps
            && is_test (all_true c.scalars) (nodes_kinds c.nodes T j ks ps ∷ ks) ps) ≡ true)
            (sym row)
            (and_true (nodes_good c.nodes T r ks ps) (is_test (all_true c.scalars) (q ∷ ks) ps) y.0
            (tested (all_true c.scalars) (q ∷ ks) ps BooleanKind
            (all_true_has c.scalars (q ∷ ks) ps v.1 (ap tests_good v.0 ∙ ty.3)) refl)))
            (and_true (tree_good (from_plan a S e) T ks ps) (tree_good (from_plan b S e) T ks ps)
            ia.0 ib.0),
        row,
      )

pub kinded_plans : KindedPlans
kinded_plans q T p ty =
    let i = query_are q T [] p (top (length p)) [] p (
      λ d i. refl,
      λ i. below_kind p i (given i) [] p (λ h. refl),
    ) ty in
    record { good = i.0; kinds = i.1 }

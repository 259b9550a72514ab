-- The conjuncts of a query, and those of them that wait.
use Rattle.std.proofs.Common.{ℕ, ◌≡◌, zero, suc, ◌<◌, ◌≤◌, ◌+◌, ◌∷◌, [], ◌++◌, map, reverse}
use Rattle.std.proofs.Common.{slice_index_or, arith, List, Option, Some, None, true, false, length}
use Rattle.std.proofs.Common.{drop, get_or, refl, sym, ap, ◌∙◌, subst, Result, OnOk}
use Rattle.plan_queries.proofs.Ends.{on_ok, on_any}
use Rattle.std.proofs.lemmas.List.{drop_all}
use Rattle.sql_values.specs.declared.operators.Comparison.{Comparison}
use Rattle.sql_values.specs.declared.operators.Comparison.TheVariants.{Equals}
use Rattle.bound_trees.specs.declared.expr.BoundExpr.{BoundExpr}
use Rattle.bound_trees.specs.declared.expr.BoundOperation.TheVariants.{Comparing as BoundComparing}
use Rattle.catalog_store.specs.Catalog.{Catalog}
use Rattle.catalog_store.specs.View.{tree_of, operated}
use Rattle.block_plans.specs.Callees.{Callees, width_in}
use Rattle.block_plans.proofs.Laws.{key_seen}
use Rattle.block_plans.specs.View.{expr_seen, exprs_seen}
use Rattle.rel_algebra.specs.declared.scalar.Scalar.{Scalar as ScalarCode}
use Rattle.rel_algebra.specs.Tree.{Comparing, Expr, NoExpr, MoreExprs, Operate, Column, Variable}
use Rattle.rel_algebra.specs.Tree.{Literal, Chain, And, Or, Case, CaseOf, Coalesce, In, Exists}
use Rattle.rel_algebra.specs.Tree.{Single, Call, CallSelf}
use Rattle.rel_algebra.specs.Plan.{Scalar, PlanTree, filter, on_each}
use Rattle.rel_algebra.specs.PlanView.{scalar_of}
use Rattle.rel_algebra.specs.Emit.{Env, Key, Emitted, Waiting, none_waits, all_waiting, turned}
use Rattle.rel_algebra.specs.Emit.{key_of, key_step, test_step, emit, emit_tests, filters}
use Rattle.rel_algebra.specs.Emit.{filters_width, width, entered}
use Rattle.plan_expressions.specs.declared.draft.Draft.{Draft}
use Rattle.plan_expressions.specs.Drafts.{drafted}
use Rattle.plan_expressions.specs.Emission.{Emits}
use Rattle.plan_expressions.specs.Scopes.{place_of}
use Rattle.plan_expressions.proofs.Laws.{rest, turned_last}
use Rattle.plan_drafts.proofs.Laws.{filters-after, width-after, waiting-wide}
use Rattle.plan_drafts.specs.Conjuncts.{inner_place, key_with, other_key, key_between, is_equality}
use Rattle.plan_drafts.specs.Conjuncts.{held, plain_of, waiting_of}
use Rattle.plan_drafts.specs.declared.keys.Key.{Key as KeyCode}
use Rattle.plan_drafts.specs.declared.keys.Waiting.{Waiting as WaitingCode}

-- ---- the loop

pub record Filtering (k : Callees) (e : Env) (es : List BoundExpr) (i : ℕ) (start now : Draft)
    (w : WaitingCode) : Type 0 where
  pub tree : filters (emit_tests (exprs_seen k (drop i es)) (width_in k) e (waiting_of w)
      (drafted now).width) (drafted now).tree
      ≡ filters (emit_tests (exprs_seen k es) (width_in k) e none_waits (drafted start).width)
      (drafted start).tree
  pub width : filters_width (emit_tests (exprs_seen k (drop i es)) (width_in k) e (waiting_of w)
      (drafted now).width) (drafted now).width
      ≡ filters_width (emit_tests (exprs_seen k es) (width_in k) e none_waits (drafted start).width)
      (drafted start).width

pub filtering_first : (k : Callees) (e : Env) (es : List BoundExpr) (start : Draft)
    (w : WaitingCode) → waiting_of w ≡ none_waits → Filtering k e es 0 start start w
filtering_first k e es start w h = record {
  tree = ap (λ p. filters (emit_tests (exprs_seen k es) (width_in k) e p (drafted start).width)
      (drafted start).tree) h;
  width = ap (λ p. filters_width (emit_tests (exprs_seen k es) (width_in k) e p
      (drafted start).width)
      (drafted start).width) h;
}

-- what is left begins with the conjunct at its place
tests_at : (k : Callees) (e : Env) (es : List BoundExpr) (i : ℕ) (x : BoundExpr) (p : Waiting)
    (n : ℕ) → i < length es → x ≡ get_or es i x →
    emit_tests (exprs_seen k (drop i es)) (width_in k) e p n
    ≡ test_step (key_of (expr_seen k x) e) (emit (expr_seen k x) (width_in k) e n)
    (emit_tests (exprs_seen k (drop (i + 1) es)) (width_in k) e) p n
tests_at k e es i x p n h is = ap (λ (xs : List BoundExpr). emit_tests (exprs_seen k xs)
    (width_in k) e p n) (rest es i x h is)

-- a conjunct more
pub filtering_next : (k : Callees) (e : Env) (es : List BoundExpr) (i : ℕ) (x : BoundExpr)
    (start old new : Draft) (v w : WaitingCode) → i < length es → x ≡ get_or es i x →
    ((go : Waiting → ℕ → List Emitted) → filters (go (waiting_of w) (drafted new).width)
    (drafted new).tree ≡ filters (test_step (key_of (expr_seen k x) e)
    (emit (expr_seen k x) (width_in k) e (drafted old).width) go (waiting_of v) (drafted old).width)
    (drafted old).tree) →
    ((go : Waiting → ℕ → List Emitted) → filters_width (go (waiting_of w) (drafted new).width)
    (drafted new).width ≡ filters_width (test_step (key_of (expr_seen k x) e)
    (emit (expr_seen k x) (width_in k) e (drafted old).width) go (waiting_of v) (drafted old).width)
    (drafted old).width) →
    Filtering k e es i start old v → Filtering k e es (i + 1) start new w
filtering_next k e es i x start old new v w h is tree wide f =
    let n = (drafted old).width in
    let go : Waiting → ℕ → List Emitted = emit_tests (exprs_seen k (drop (i + 1) es)) (width_in k) e
    in
    let at = tests_at k e es i x (waiting_of v) n h is in
    record {
      tree = tree go ∙ ap (λ ts. filters ts (drafted old).tree) (sym at) ∙ f.tree;
      width = wide go ∙ ap (λ ts. filters_width ts n) (sym at) ∙ f.width;
    }

-- what the catalog tells of a conjunct
pub there_key : (k : Callees) (x : BoundExpr) (e : Env) (o : Option KeyCode) →
    ((known : Catalog) → held o ≡ key_of (tree_of known x) e) →
    held o ≡ key_of (expr_seen k x) e
there_key k x e o h = h k.known ∙ sym (key_seen k x e)

-- a key
key_step-there : (k : Callees) (e : Env) (x : BoundExpr) (o : Option KeyCode) (key : KeyCode)
    (a : Emitted) (go : Waiting → ℕ → List Emitted) (p : Waiting) (n : ℕ) → o ≡ Some key →
    held o ≡ key_of (expr_seen k x) e →
    key_step key.of_column (place_of key.other) (turned (place_of key.own) (place_of key.other)) go
    p n ≡ test_step (key_of (expr_seen k x) e) a go p n
key_step-there k e x o key a go p n some there =
    ap (λ (q : Option Key). test_step q a go p n) (sym (ap held some) ∙ there)

pub key_tree : {B : Type 0} → (k : Callees) (e : Env) (x : BoundExpr) (o : Option KeyCode)
    (key : KeyCode) (old new : Draft) (v w : WaitingCode) (r : Result Unit B) → o ≡ Some key →
    held o ≡ key_of (expr_seen k x) e →
    OnOk r ((go : Waiting → ℕ → List Emitted) →
    filters (go (waiting_of w) (drafted new).width) (drafted new).tree ≡ filters
    (key_step key.of_column (place_of key.other) (turned (place_of key.own) (place_of key.other)) go
    (waiting_of v) (drafted old).width) (drafted old).tree) →
    OnOk r ((go : Waiting → ℕ → List Emitted) →
    filters (go (waiting_of w) (drafted new).width) (drafted new).tree ≡ filters
    (test_step (key_of (expr_seen k x) e) (emit (expr_seen k x) (width_in k) e (drafted old).width)
    go
    (waiting_of v) (drafted old).width) (drafted old).tree)
key_tree k e x o key old new v w r some there made =
    on_ok r ((go : Waiting → ℕ → List Emitted) →
    filters (go (waiting_of w) (drafted new).width) (drafted new).tree ≡ filters
    (key_step key.of_column (place_of key.other) (turned (place_of key.own) (place_of key.other)) go
    (waiting_of v) (drafted old).width) (drafted old).tree)
    ((go : Waiting → ℕ → List Emitted) →
    filters (go (waiting_of w) (drafted new).width) (drafted new).tree ≡ filters
    (test_step (key_of (expr_seen k x) e) (emit (expr_seen k x) (width_in k) e (drafted old).width)
    go
    (waiting_of v) (drafted old).width) (drafted old).tree) made
    (λ h go. h go ∙ ap (λ ts. filters ts (drafted old).tree) (key_step-there k e x o key
    (emit (expr_seen k x) (width_in k) e (drafted old).width) go (waiting_of v) (drafted old).width
    some there))

pub key_width : {B : Type 0} → (k : Callees) (e : Env) (x : BoundExpr) (o : Option KeyCode)
    (key : KeyCode) (old new : Draft) (v w : WaitingCode) (r : Result Unit B) → o ≡ Some key →
    held o ≡ key_of (expr_seen k x) e →
    OnOk r ((go : Waiting → ℕ → List Emitted) →
    filters_width (go (waiting_of w) (drafted new).width) (drafted new).width ≡ filters_width
    (key_step key.of_column (place_of key.other) (turned (place_of key.own) (place_of key.other)) go
    (waiting_of v) (drafted old).width) (drafted old).width) →
    OnOk r ((go : Waiting → ℕ → List Emitted) →
    filters_width (go (waiting_of w) (drafted new).width) (drafted new).width ≡ filters_width
    (test_step (key_of (expr_seen k x) e) (emit (expr_seen k x) (width_in k) e (drafted old).width)
    go
    (waiting_of v) (drafted old).width) (drafted old).width)
key_width k e x o key old new v w r some there made =
    on_ok r ((go : Waiting → ℕ → List Emitted) →
    filters_width (go (waiting_of w) (drafted new).width) (drafted new).width ≡ filters_width
    (key_step key.of_column (place_of key.other) (turned (place_of key.own) (place_of key.other)) go
    (waiting_of v) (drafted old).width) (drafted old).width)
    ((go : Waiting → ℕ → List Emitted) →
    filters_width (go (waiting_of w) (drafted new).width) (drafted new).width ≡ filters_width
    (test_step (key_of (expr_seen k x) e) (emit (expr_seen k x) (width_in k) e (drafted old).width)
    go
    (waiting_of v) (drafted old).width) (drafted old).width) made
    (λ h go. h go ∙ ap (λ ts. filters_width ts (drafted old).width) (key_step-there k e x o key
    (emit (expr_seen k x) (width_in k) e (drafted old).width) go (waiting_of v) (drafted old).width
    some there))

-- another conjunct: all that wait go before it
one_tree : (k : Callees) (e : Env) (x : BoundExpr) (o : Option KeyCode)
    (old flushed between new : Draft) (v w : WaitingCode) (s : Scalar) (go : Waiting → ℕ →
    List Emitted) → o ≡ None → held o ≡ key_of (expr_seen k x) e →
    (drafted flushed).tree ≡ filters (all_waiting (waiting_of v)) (drafted old).tree →
    (drafted flushed).width ≡ (drafted old).width → waiting_of w ≡ none_waits →
    Emits flushed between s (emit (expr_seen k x) (width_in k) e (drafted flushed).width) →
    (drafted new).tree ≡ filter s (drafted between).tree →
    (drafted new).width ≡ (drafted between).width →
    filters (go (waiting_of w) (drafted new).width) (drafted new).tree ≡ filters
    (test_step (key_of (expr_seen k x) e) (emit (expr_seen k x) (width_in k) e (drafted old).width)
    go
    (waiting_of v) (drafted old).width) (drafted old).tree
one_tree k e x o old flushed between new v w s go no_such there tree wide fresh d made same =
    let S = width_in k in
    let n = (drafted old).width in
    let a = emit (expr_seen k x) S e n in
    let emitted : emit (expr_seen k x) S e (drafted flushed).width ≡ a =
    ap (emit (expr_seen k x) S e) wide in
    let wide_now : (drafted new).width ≡ width a.nodes n = same ∙ d.columns ∙
    (λ j. width (emitted j).nodes (wide j)) in
    let tree_now : (drafted new).tree ≡ filter a.scalar
    (on_each a.nodes (filters (all_waiting (waiting_of v)) (drafted old).tree)) =
    made ∙ (λ j. filter ((d.scalar ∙ ap (λ y. y.scalar) emitted) j)
    ((d.tree ∙ (λ q. on_each (emitted q).nodes (tree q))) j)) in
    (λ j. filters (go (fresh j) (wide_now j)) (tree_now j)) ∙
    sym (filters-after (all_waiting (waiting_of v)) (a ∷ go none_waits (width a.nodes n))
    (drafted old).tree)
    ∙ ap (λ (q : Option Key). filters (test_step q a go (waiting_of v) n) (drafted old).tree)
    (sym (ap held no_such) ∙ there)

one_width : (k : Callees) (e : Env) (x : BoundExpr) (o : Option KeyCode)
    (old flushed between new : Draft) (v w : WaitingCode) (s : Scalar) (go : Waiting → ℕ →
    List Emitted) → o ≡ None → held o ≡ key_of (expr_seen k x) e →
    (drafted flushed).width ≡ (drafted old).width → waiting_of w ≡ none_waits →
    Emits flushed between s (emit (expr_seen k x) (width_in k) e (drafted flushed).width) →
    (drafted new).width ≡ (drafted between).width →
    filters_width (go (waiting_of w) (drafted new).width) (drafted new).width ≡ filters_width
    (test_step (key_of (expr_seen k x) e) (emit (expr_seen k x) (width_in k) e (drafted old).width)
    go
    (waiting_of v) (drafted old).width) (drafted old).width
one_width k e x o old flushed between new v w s go no_such there wide fresh d same =
    let S = width_in k in
    let n = (drafted old).width in
    let a = emit (expr_seen k x) S e n in
    let emitted : emit (expr_seen k x) S e (drafted flushed).width ≡ a =
    ap (emit (expr_seen k x) S e) wide in
    let wide_now : (drafted new).width ≡ width a.nodes n = same ∙ d.columns ∙
    (λ j. width (emitted j).nodes (wide j)) in
    (λ j. filters_width (go (fresh j) (wide_now j)) (wide_now j))
    ∙ ap (λ m. filters_width (a ∷ go none_waits (width a.nodes n)) m) (sym (waiting-wide v n))
    ∙ sym (width-after (all_waiting (waiting_of v)) (a ∷ go none_waits (width a.nodes n)) n)
    ∙ ap (λ (q : Option Key). filters_width (test_step q a go (waiting_of v) n) n)
    (sym (ap held no_such) ∙ there)

pub other_tree : {B : Type 0} → (k : Callees) (e : Env) (x : BoundExpr) (o : Option KeyCode)
    (old flushed between new : Draft) (v w : WaitingCode) (s : Scalar) (r : Result Unit B) →
    o ≡ None → held o ≡ key_of (expr_seen k x) e →
    (drafted flushed).tree ≡ filters (all_waiting (waiting_of v)) (drafted old).tree →
    (drafted flushed).width ≡ (drafted old).width → waiting_of w ≡ none_waits →
    Emits flushed between s (emit (expr_seen k x) (width_in k) e (drafted flushed).width) →
    OnOk r ((drafted new).tree ≡ filter s (drafted between).tree) →
    (drafted new).width ≡ (drafted between).width →
    OnOk r ((go : Waiting → ℕ → List Emitted) →
    filters (go (waiting_of w) (drafted new).width) (drafted new).tree ≡ filters
    (test_step (key_of (expr_seen k x) e) (emit (expr_seen k x) (width_in k) e (drafted old).width)
    go
    (waiting_of v) (drafted old).width) (drafted old).tree)
other_tree k e x o old flushed between new v w s r no_such there tree wide fresh d made same =
    on_ok r ((drafted new).tree ≡ filter s (drafted between).tree)
    ((go : Waiting → ℕ → List Emitted) →
    filters (go (waiting_of w) (drafted new).width) (drafted new).tree ≡ filters
    (test_step (key_of (expr_seen k x) e) (emit (expr_seen k x) (width_in k) e (drafted old).width)
    go
    (waiting_of v) (drafted old).width) (drafted old).tree) made
    (λ h go. one_tree k e x o old flushed between new v w s go no_such there tree wide fresh d h
    same)

pub other_width : {B : Type 0} → (k : Callees) (e : Env) (x : BoundExpr) (o : Option KeyCode)
    (old flushed between new : Draft) (v w : WaitingCode) (s : Scalar) (r : Result Unit B) →
    o ≡ None → held o ≡ key_of (expr_seen k x) e →
    (drafted flushed).width ≡ (drafted old).width → waiting_of w ≡ none_waits →
    Emits flushed between s (emit (expr_seen k x) (width_in k) e (drafted flushed).width) →
    (drafted new).width ≡ (drafted between).width →
    OnOk r ((go : Waiting → ℕ → List Emitted) →
    filters_width (go (waiting_of w) (drafted new).width) (drafted new).width ≡ filters_width
    (test_step (key_of (expr_seen k x) e) (emit (expr_seen k x) (width_in k) e (drafted old).width)
    go
    (waiting_of v) (drafted old).width) (drafted old).width)
other_width k e x o old flushed between new v w s r no_such there wide fresh d same =
    on_any r ((go : Waiting → ℕ → List Emitted) →
    filters_width (go (waiting_of w) (drafted new).width) (drafted new).width ≡ filters_width
    (test_step (key_of (expr_seen k x) e) (emit (expr_seen k x) (width_in k) e (drafted old).width)
    go
    (waiting_of v) (drafted old).width) (drafted old).width)
    (λ go. one_width k e x o old flushed between new v w s go no_such there wide fresh d same)

-- pairs by the names of the rows outside
pub pairs_filtered : {B : Type 0} → (k : Callees) (e within : Env) (on : List BoundExpr)
    (start new : Draft) (columns : ℕ) (r : Result Unit B) → columns ≡ (drafted start).width →
    within ≡ entered e columns →
    OnOk r ((drafted new).tree ≡ filters (emit_tests (exprs_seen k on) (width_in k) within
    none_waits
    (drafted start).width) (drafted start).tree) →
    OnOk r ((drafted new).tree ≡ filters (emit_tests (exprs_seen k on) (width_in k)
    (entered e (drafted start).width) none_waits (drafted start).width) (drafted start).tree)
pairs_filtered k e within on start new columns r same env made =
    subst (λ (q : Env). OnOk r ((drafted new).tree ≡ filters (emit_tests (exprs_seen k on)
    (width_in k) q none_waits (drafted start).width) (drafted start).tree))
    (env ∙ ap (entered e) same) made

-- no conjunct is left
pub filtering_done : {B : Type 0} → (k : Callees) (e : Env) (es : List BoundExpr) (i : ℕ)
    (start now new : Draft) (w : WaitingCode) (r : Result Unit B) → length es ≤ i →
    Filtering k e es i start now w →
    OnOk r ((drafted new).tree ≡ filters (all_waiting (waiting_of w)) (drafted now).tree) →
    OnOk r ((drafted new).tree ≡ filters (emit_tests (exprs_seen k es) (width_in k) e none_waits
    (drafted start).width) (drafted start).tree)
filtering_done k e es i start now new w r h f made =
    on_ok r ((drafted new).tree ≡ filters (all_waiting (waiting_of w)) (drafted now).tree)
    ((drafted new).tree ≡ filters (emit_tests (exprs_seen k es) (width_in k) e none_waits
    (drafted start).width) (drafted start).tree) made
    (λ tree. tree ∙ ap (λ (xs : List BoundExpr). filters
    (emit_tests (exprs_seen k xs) (width_in k) e (waiting_of w) (drafted now).width)
    (drafted now).tree) (sym (drop_all i es h)) ∙ f.tree)

pub filtering_wide : {B : Type 0} → (k : Callees) (e : Env) (es : List BoundExpr) (i : ℕ)
    (start now new : Draft) (w : WaitingCode) (r : Result Unit B) → length es ≤ i →
    Filtering k e es i start now w → OnOk r ((drafted new).width ≡ (drafted now).width) →
    OnOk r ((drafted new).width ≡ filters_width
    (emit_tests (exprs_seen k es) (width_in k) e none_waits (drafted start).width)
    (drafted start).width)
filtering_wide k e es i start now new w r h f made =
    on_ok r ((drafted new).width ≡ (drafted now).width) ((drafted new).width ≡ filters_width
    (emit_tests (exprs_seen k es) (width_in k) e none_waits (drafted start).width)
    (drafted start).width) made
    (λ same. same ∙ sym (waiting-wide w (drafted now).width)
    ∙ ap (λ (xs : List BoundExpr). filters_width
    (emit_tests (exprs_seen k xs) (width_in k) e (waiting_of w) (drafted now).width)
    (drafted now).width) (sym (drop_all i es h)) ∙ f.width)

-- Calls: the arguments, and the body of what is run.
use Rattle.std.proofs.Common.{ℕ, ◌≡◌, ◌+◌, ◌∷◌, [], List, Option, None, Some, IsSome, length, map}
use Rattle.std.proofs.Common.{drop, suc, Result, IfOk, refl, sym, ap, ◌∙◌, subst}
use Rattle.sql_values.specs.declared.value.SqlType.{SqlType}
use Rattle.bound_trees.specs.declared.expr.BoundExpr.{BoundExpr}
use Rattle.rel_algebra.specs.declared.scalar.Scalar.{Scalar as ScalarCode}
use Rattle.rel_algebra.specs.Tree.{Expr, Call, Routine, Returned, parameters_of}
use Rattle.rel_algebra.specs.Plan.{Scalar, Nodes, extend}
use Rattle.rel_algebra.specs.PlanView.{scalar_of, scalars_of}
use Rattle.rel_algebra.specs.Emit.{Env, Emitted, emit, emit_args, emit_body, passed, top, raising}
use Rattle.rel_algebra.specs.Emit.{checks, scalar_count, width, assigning, assigning_in}
use Rattle.rel_algebra.specs.Merged.{moved}
use Rattle.rel_algebra.proofs.Laws.{merged_plans}
use Rattle.catalog_store.specs.Catalog.{Catalog, routine_named}
use Rattle.catalog_store.specs.Kept.{HasPlan}
use Rattle.catalog_store.specs.View.{exprs, exprs_of, tree_of}
use Rattle.catalog_store.specs.declared.entry.FunctionPlan.{FunctionPlan}
use Rattle.catalog_store.specs.declared.entry.RoutineRecord.{RoutineRecord}
use Rattle.plan_expressions.specs.declared.draft.Draft.{Draft}
use Rattle.plan_expressions.specs.Drafts.{drafted}
use Rattle.plan_expressions.specs.Emission.{Emits, EmitsAll, guarded}
use Rattle.plan_expressions.specs.Merging.{HasRun}
use Rattle.plan_expressions.proofs.Laws.{if_ok, length-map, scalars-counted}
use Rattle.block_plans.specs.Blocks.{IsRun}
use Rattle.block_plans.specs.Callees.{Callees, callee, width_in, without_blocks}
use Rattle.block_plans.specs.View.{expr_seen, exprs_seen}
use Rattle.block_plans.specs.declared.blocks.BlockPlan.{BlockPlan}
use Rattle.block_plans.proofs.Laws.{bare_views, raising_seen}
use Rattle.plan_queries.specs.Cost.{cost, routine_cost}
use Rattle.plan_queries.proofs.Emitting.{call_emits, result_emits}

-- ---- arguments

-- as many scalars as arguments
args-counted : (es : List Expr) (types : List SqlType) (S : List ℕ → ℕ) (e : Env) (n : ℕ) →
    scalar_count (emit_args (exprs es) types S e n).scalars ≡ length es
args-counted [] types S e n = refl
args-counted (x ∷ es) types S e n = ap suc
    (args-counted es (drop 1 types) S e (width (assigning_in types (emit x S e n)).nodes n))

pub args_many : (k : Callees) (es : List BoundExpr) (types : List SqlType) (e : Env)
    (start new : Draft) (ss : List ScalarCode) →
    EmitsAll start new (scalars_of ss)
    (emit_args (exprs_seen k es) types (width_in k) e (drafted start).width) →
    length es ≡ length ss
args_many k es types e start new ss d =
    sym (length-map (expr_seen k) es)
    ∙ sym (args-counted (map (expr_seen k) es) types (width_in k) e (drafted start).width)
    ∙ ap scalar_count (sym d.scalars) ∙ scalars-counted ss

-- ---- bodies

-- a plan of a body by itself, merged after so many arguments, is the body over these
pub kept_body : (r : Routine) (S : List ℕ → ℕ) (first count : ℕ) (old new : Draft) (s : Scalar) →
    (drafted old).width ≡ first + count →
    Emits old new s (moved (record { by = (drafted old).width; from = first }) 0
    (emit_body r S (top count) 0)) →
    Emits old new s (emit_body r S (passed first count) (drafted old).width)
kept_body r S first count old new s wide d =
    subst (λ e. Emits old new s e)
    (ap (λ (by : ℕ). moved (record { by = by; from = first }) 0 (emit_body r S (top count) 0)) wide
    ∙ sym (merged_plans r S first count) ∙ ap (emit_body r S (passed first count)) (sym wide)) d

-- a plan that is there only adds columns
pub has_run : (p : Option FunctionPlan) (e : Emitted) → HasPlan p e → HasRun p
has_run None e h = absurd h
has_run (Some p) e h = subst (λ (o : Option Nodes). IsSome o) (sym h.nodes) refl

-- the plan of a block, merged
pub block_emits : {B : Type 0} → (k : Callees) (name : List ℕ) (first count : ℕ)
    (old new : Draft) (b : BlockPlan) (r : Result ScalarCode B) → IsRun k name count b →
    (drafted old).width ≡ first + count →
    IfOk r (λ s. (e : Emitted) → HasPlan b.plan e → Emits old new (scalar_of s)
    (moved (record { by = (drafted old).width; from = first }) 0 e)) →
    IfOk r (λ s. Emits old new (scalar_of s) (emit_body (callee k name count) (width_in k)
    (passed first count) (drafted old).width))
block_emits k name first count old new b r run wide made =
    if_ok r (λ s. (e : Emitted) → HasPlan b.plan e → Emits old new (scalar_of s)
    (moved (record { by = (drafted old).width; from = first }) 0 e))
    (λ s. Emits old new (scalar_of s) (emit_body (callee k name count) (width_in k)
    (passed first count) (drafted old).width)) made
    (λ s h. kept_body (callee k name count) (width_in k) first count old new (scalar_of s) wide
    (h (emit_body (callee k name count) (width_in k) (top count) 0) run.plan))

-- a function of the catalog, where no block is run
pub returned_emits : {B : Type 0} → (k : Callees) (known : Catalog) (name : List ℕ)
    (first count : ℕ) (old new : Draft) (r : Result ScalarCode B) → known ≡ k.known →
    callee k name count ≡ routine_named name k.known →
    IfOk r (λ s. Emits old new (scalar_of s) (emit_body (routine_named name known)
    (width_in (without_blocks known)) (passed first count) (drafted old).width)) →
    IfOk r (λ s. Emits old new (scalar_of s) (emit_body (callee k name count) (width_in k)
    (passed first count) (drafted old).width))
returned_emits k known name first count old new r same runs made =
    if_ok r (λ s. Emits old new (scalar_of s) (emit_body (routine_named name known)
    (width_in (without_blocks known)) (passed first count) (drafted old).width))
    (λ s. Emits old new (scalar_of s) (emit_body (callee k name count) (width_in k)
    (passed first count) (drafted old).width)) made
    (λ s d. subst (λ e. Emits old new (scalar_of s) e)
    ((λ j. emit_body (routine_named name (same j)) (width_in (without_blocks (same j)))
    (passed first count) (drafted old).width)
    ∙ ap (λ q. emit_body q (width_in k) (passed first count) (drafted old).width) (sym runs)) d)

-- what is emitted of a tree that sees a catalog alone
pub alone_emits : (k : Callees) (known : Catalog) (x : BoundExpr) (e : Env) (start new : Draft)
    (s : Scalar) → k ≡ without_blocks known →
    Emits start new s (emit (expr_seen k x) (width_in k) e (drafted start).width) →
    Emits start new s (emit (tree_of known x) (width_in (without_blocks known)) e
    (drafted start).width)
alone_emits k known x e start new s alone d =
    subst (λ y. Emits start new s (emit y (width_in (without_blocks known)) e
    (drafted start).width)) (bare_views.expressions known x)
    (subst (λ (q : Callees). Emits start new s (emit (expr_seen q x) (width_in q) e
    (drafted start).width)) alone d)

-- a body that is emitted anew is less than its function
pub returned_small : (k : Callees) (known : Catalog) (name : List ℕ) (r : RoutineRecord)
    (x : BoundExpr) → k ≡ without_blocks known →
    routine_named name known ≡ Returned r.head.parameters r.head.returns (tree_of known r.body) →
    x ≡ r.body → cost (expr_seen k x) + 1 ≡ routine_cost (routine_named name known)
returned_small k known name r x alone tree same =
    (λ j. cost (expr_seen (alone j) x) + 1)
    ∙ ap (λ y. cost y + 1) (bare_views.expressions known x)
    ∙ ap (λ (b : BoundExpr). cost (tree_of known b) + 1) same ∙ sym (ap routine_cost tree)

-- and it is the function's, as its result's type takes it
pub returned_made : {B : Type 0} → (k : Callees) (known : Catalog) (name : List ℕ)
    (r : RoutineRecord) (x : BoundExpr) (first count : ℕ) (e : Env) (start new : Draft)
    (v : ScalarCode) (res : Result ScalarCode B) → k ≡ without_blocks known →
    routine_named name known ≡ Returned r.head.parameters r.head.returns (tree_of known r.body) →
    x ≡ r.body → e ≡ passed first count →
    Emits start new (scalar_of v) (emit (expr_seen k x) (width_in k) e (drafted start).width) →
    IfOk res (λ s. scalar_of s ≡ assigning r.head.returns (scalar_of v)) →
    IfOk res (λ s. Emits start new (scalar_of s) (emit_body (routine_named name known)
    (width_in (without_blocks known)) (passed first count) (drafted start).width))
returned_made k known name r x first count e start new v res alone tree same env d made =
    let S = width_in (without_blocks known) in
    let n = (drafted start).width in
    if_ok res (λ s. scalar_of s ≡ assigning r.head.returns (scalar_of v))
    (λ s. Emits start new (scalar_of s) (emit_body (routine_named name known) S
    (passed first count) n)) made
    (λ s is. subst (λ q. Emits start new (scalar_of s) (emit_body q S (passed first count) n))
    (sym tree)
    (result_emits r.head.returns start new (scalar_of v) (scalar_of s)
    (emit (tree_of known r.body) S (passed first count) n)
    (subst (λ a. Emits start new (scalar_of v) a)
    (λ j. emit (tree_of known (same j)) S (env j) n)
    (alone_emits k known x e start new (scalar_of v) alone d)) is))

-- ---- whole calls

-- the emission of a call, by its body
pub call_bound : {B : Type 0} → (k : Callees) (name : List ℕ) (es : List BoundExpr)
    (types : List SqlType) (e : Env) (start listed extended new : Draft) (ss : List ScalarCode)
    (body : ScalarCode) (m n : ℕ) (r : Result ScalarCode B) →
    types ≡ parameters_of (callee k name (length es)) →
    EmitsAll start listed (scalars_of ss)
    (emit_args (exprs_seen k es) types (width_in k) e (drafted start).width) →
    m ≡ (drafted listed).width → n ≡ length ss →
    (drafted extended).tree ≡ extend (scalars_of ss) (drafted listed).tree →
    (drafted extended).width ≡ (drafted listed).width + length ss →
    Emits extended new (scalar_of body) (emit_body (callee k name n) (width_in k)
    (passed m n) (drafted extended).width) →
    IfOk r (λ s. (known : Catalog) → scalar_of s ≡ guarded
    (checks (raising (exprs_of known es) types m)) (scalar_of body)) →
    IfOk r (λ s. Emits start new (scalar_of s) (emit (Call name (callee k name (length es))
    (exprs_seen k es)) (width_in k) e (drafted start).width))
call_bound k name es types e start listed extended new ss body m n r typed first from many tree
    columns second made =
    let runs = callee k name (length es) in
    let count : n ≡ length es = many ∙ sym (args_many k es types e start listed ss first) in
    if_ok r (λ s. (known : Catalog) → scalar_of s ≡ guarded
    (checks (raising (exprs_of known es) types m)) (scalar_of body))
    (λ s. Emits start new (scalar_of s) (emit (Call name runs (exprs_seen k es)) (width_in k) e
    (drafted start).width)) made
    (λ s is. call_emits name runs (exprs_seen k es) (width_in k) e start listed
    extended new ss (scalar_of body) (scalar_of s) m n
    (subst (λ (ts : List SqlType). EmitsAll start listed (scalars_of ss)
    (emit_args (exprs_seen k es) ts (width_in k) e (drafted start).width)) typed first) from many
    tree columns
    (subst (λ q. Emits extended new (scalar_of body) (emit_body (callee k name q) (width_in k)
    (passed m n) (drafted extended).width)) count second)
    (is k.known ∙ ap (λ (places : List ℕ). guarded (checks places) (scalar_of body))
    (sym (raising_seen k es types m))
    ∙ ap (λ (ts : List SqlType). guarded (checks (raising (exprs_seen k es) ts m))
    (scalar_of body)) typed))

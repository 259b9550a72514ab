-- The trees of the worked rows: whether they have plans, are in form, and what they weigh.
use Rattle.std.proofs.Common.{◌≡◌, ℕ, true, false, ◌&&◌, List, [], ◌∷◌, sym, ap, ◌∙◌, codes}
use Rattle.std.specs.Prelude.{nat_lt}
use Rattle.sql_values.specs.declared.value.SqlType.TheVariants.{Integer}
use Rattle.bound_trees.specs.declared.expr.BoundExpr.{BoundExpr}
use Rattle.bound_trees.specs.declared.expr.BoundExpr.TheFolds.{fold-roll-BoundExpr}
use Rattle.bound_trees.specs.declared.expr.BoundExpr.TheOpen.{BoundExpr-F}
use Rattle.bound_trees.specs.declared.expr.BoundExpr.TheVariants as expr
use Rattle.bound_trees.specs.declared.expr.BoundExpr.TheVariants.{rolls-Variable, rolls-Call}
use Rattle.bound_trees.specs.declared.query.BoundQuery.TheVariants as query
use Rattle.bound_trees.specs.declared.query.BoundRow.TheVariants as row
use Rattle.bound_trees.specs.declared.statement.BoundStmt.{BoundStmt}
use Rattle.bound_trees.specs.declared.statement.BoundStmt.TheFolds.{fold-roll-BoundStmt}
use Rattle.bound_trees.specs.declared.statement.BoundStmt.TheOpen.{BoundStmt-F}
use Rattle.bound_trees.specs.declared.statement.BoundStmt.TheVariants as bound
use Rattle.bound_trees.specs.declared.statement.BoundStmt.TheVariants.{rolls-Return, rolls-Loop}
use Rattle.rel_algebra.specs.Plain.{as_many, planned, planned_expr, planned_all, planned_routine}
use Rattle.rel_algebra.specs.Tree as tree
use Rattle.rel_algebra.specs.Tree.{Expr, Exprs, From, Query}
use Rattle.catalog_store.specs.Catalog.{Catalog}
use Rattle.catalog_store.specs.View.{Link, Grouping, Joining, item_step, query_step, row_step}
use Rattle.catalog_store.specs.View.{source_step, link_step, grouping_step, select_step}
use Rattle.routine_views.specs.Views.{Known, View, expr_node, expr_in, stmt_in}
use Rattle.routine_views.specs.Routines.{inside, routines_of, with_modes}
use Rattle.routine_form.specs.declared.sum.TheConstants.{HEAVIEST}
use Rattle.routine_form.specs.Calls.{weight_named, expr_calls, item_calls, query_calls, row_calls}
use Rattle.routine_form.specs.Calls.{source_calls, link_calls, grouping_calls, select_calls}
use Rattle.routine_form.specs.Calls.{calls_in}
use Rattle.routine_form.specs.Sums.{add}
use Rattle.routine_form.specs.Weight.{Weigh, WeighedBranch, itself, stmt_weight, block_weight}
use Rattle.routine_form.specs.Weight.{branch_weight, handler_weight, weight_under, weight}
use Rattle.viewing_laws.specs.Examples.{table, call, f_of_v, g_of_v, values_f, body_g, one}
use Rattle.block_plans.specs.Callees.{Callees, callee}
use Rattle.block_plans.specs.View.{expr_seen, query_seen}
use Rattle.block_plans.proofs.Laws.{expr_seen-Variable, expr_seen-Call, query_seen-Values}
use Rattle.block_plans.proofs.Laws.{row_seen-Row}
use Rattle.region_trees.specs.Examples.{bare, with_blocks, b_of_v, b_of_nothing, values_g}
use Rattle.region_trees.specs.Form.{formed, in_form}
use Rattle.region_trees.proofs.Layers.{stmt_formed_at-at, stmt_view_at-at}

-- ---- plans

-- a call with V has a plan where what it runs has, and takes one value
call-planned : (c : Callees) (name : List ℕ) →
    planned_expr (expr_seen c (call name (expr.Variable 0))) ≡
    (planned_routine (callee c name 1) && (true && as_many (callee c name 1) 1))
call-planned c name = ap planned_expr (expr_seen-Call c name (expr.Variable 0 ∷ [])) ∙
    (λ i. let r = callee c name 1 in let es = one (expr_seen-Variable c 0 i) in
    planned_routine r && (planned_all es && as_many r (tree.count es)))

-- VALUES of one value has a plan where the value has
value-planned : (c : Callees) (e : BoundExpr) →
    planned (query_seen c (query.Values (row.Row (e ∷ []) ∷ []))) ≡
    ((planned_expr (expr_seen c e) && true) && true)
value-planned c e = ap planned (query_seen-Values c (row.Row (e ∷ []) ∷ [])) ∙
    (λ i. planned (tree.Values (tree.MoreRows (row_seen-Row c (e ∷ []) i) tree.NoRow)))

pub f-planned : planned_expr (expr_seen bare f_of_v) ≡ true
f-planned = call-planned bare (codes "F")

pub g-unplanned : planned_expr (expr_seen bare g_of_v) ≡ false
g-unplanned = call-planned bare (codes "G")

pub values-f-planned : planned (query_seen bare values_f) ≡ true
values-f-planned = value-planned bare f_of_v ∙ (λ i. (f-planned i && true) && true)

pub values-g-unplanned : planned (query_seen bare values_g) ≡ false
values-g-unplanned = value-planned bare g_of_v ∙ (λ i. (g-unplanned i && true) && true)

-- ---- weights

variable-calls : (c : Catalog) (slot : ℕ) → calls_in c (expr.Variable slot) ≡ 0
variable-calls c slot = ap (calls_in c) (sym (rolls-Variable slot)) ∙
    fold-roll-BoundExpr ℕ ℕ ℕ ℕ ℕ ℕ ℕ ℕ (expr_calls c) item_calls query_calls row_calls
    source_calls link_calls grouping_calls select_calls (BoundExpr-F.Variable slot)

call-calls : (c : Catalog) (name : List ℕ) →
    calls_in c (call name (expr.Variable 0)) ≡ add (weight_named c name) (add 0 0)
call-calls c name = ap (calls_in c) (sym (rolls-Call name (expr.Variable 0 ∷ []))) ∙
    fold-roll-BoundExpr ℕ ℕ ℕ ℕ ℕ ℕ ℕ ℕ (expr_calls c) item_calls query_calls row_calls
    source_calls link_calls grouping_calls select_calls
    (BoundExpr-F.Call name (expr.Variable 0 ∷ [])) ∙
    (λ i. add (weight_named c name) (add (variable-calls c 0 i) 0))

-- RETURN of a call with V
call-weight : (c : Catalog) (name : List ℕ) →
    weight c (bound.Return (call name (expr.Variable 0))) ≡
    itself (add (weight_named c name) (add 0 0)) 0
call-weight c name =
    ap (λ (s : BoundStmt). weight_under c s 0) (sym (rolls-Return (call name (expr.Variable 0)))) ∙
    ap (λ (w : Weigh). w 0) (fold-roll-BoundStmt Weigh Weigh WeighedBranch Weigh (stmt_weight c)
    (block_weight c) (branch_weight c) handler_weight
    (BoundStmt-F.Return (call name (expr.Variable 0)))) ∙
    ap (λ n. itself n 0) (call-calls c name)

-- ---- bodies

return-formed : (c : Callees) (e : BoundExpr) →
    formed c (bound.Return e) ≡ planned_expr (expr_seen c e)
return-formed c e = ap (formed c) (sym (rolls-Return e)) ∙
    stmt_formed_at-at c (BoundStmt-F.Return e)

-- RETURN of a call with V
call-in-form : (c : Callees) (name : List ℕ) →
    in_form c (bound.Return (call name (expr.Variable 0))) ≡
    ((planned_routine (callee c name 1) && (true && as_many (callee c name 1) 1)) &&
    nat_lt (itself (add (weight_named c.known name) (add 0 0)) 0) HEAVIEST)
call-in-form c name = λ i.
    (return-formed c (call name (expr.Variable 0)) ∙ call-planned c name) i &&
    nat_lt (call-weight c.known name i) HEAVIEST

pub f-in-form : (c : Callees) → in_form c body_g ≡
    ((planned_routine (callee c (codes "F") 1)
    && (true && as_many (callee c (codes "F") 1) 1)) &&
    nat_lt (itself (add (weight_named c.known (codes "F")) (add 0 0)) 0) HEAVIEST)
f-in-form c = call-in-form c (codes "F")

pub g-not-in-form : in_form bare (bound.Return g_of_v) ≡ false
g-not-in-form = call-in-form bare (codes "G")

pub loop-not-in-form : (c : Callees) (ss : List BoundStmt) → in_form c (bound.Loop ss) ≡ false
loop-not-in-form c ss =
    ap (λ b. b && nat_lt (weight c.known (bound.Loop ss)) HEAVIEST)
    (ap (formed c) (sym (rolls-Loop ss)) ∙ stmt_formed_at-at c (BoundStmt-F.Loop ss))

-- ---- blocks

-- what RETURN V stands for
variable-stands : (k : Known) → stmt_in k (bound.Return (expr.Variable 0)) [] ≡
    tree.Return (tree.Variable 0)
variable-stands k =
    ap (λ (v : View). v []) (ap (stmt_in k) (sym (rolls-Return (expr.Variable 0)))
    ∙ stmt_view_at-at k (BoundStmt-F.Return (expr.Variable 0)))
    ∙ ap tree.Return (ap (expr_in k) (sym (rolls-Variable 0))
    ∙ fold-roll-BoundExpr Expr Joining Query Exprs From Link Grouping Query (expr_node k) item_step
    query_step row_step source_step link_step grouping_step select_step (BoundExpr-F.Variable 0))

-- what B runs is a function that only returns V
b-stands : routines_of (with_blocks []).known (codes "B") ≡ tree.Returned (Integer ∷ []) Integer
    (tree.Variable 0)
b-stands = ap (tree.Function false (Integer ∷ []) Integer false)
    (variable-stands (inside (routines_of (table (codes "T") ∷ [])) (codes "B")
    (with_modes [] (Integer ∷ []))))

pub block-in-form : in_form (with_blocks (codes "B" ∷ [])) (bound.Return b_of_v) ≡ true
block-in-form =
    call-in-form (with_blocks (codes "B" ∷ [])) (codes "B")
    ∙ (λ i. (planned_routine (b-stands i) && (true && as_many (b-stands i) 1)) && true)

pub block-not-in-form : in_form (with_blocks []) (bound.Return b_of_v) ≡ false
block-not-in-form = call-in-form (with_blocks []) (codes "B")

pub count-not-in-form : in_form (with_blocks (codes "B" ∷ [])) (bound.Return b_of_nothing) ≡ false
count-not-in-form =
    let k = with_blocks (codes "B" ∷ []) in
    ap (λ b. b && nat_lt (weight k.known (bound.Return b_of_nothing)) HEAVIEST)
    (return-formed k b_of_nothing ∙ ap planned_expr (expr_seen-Call k (codes "B") []))

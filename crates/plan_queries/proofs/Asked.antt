-- Queries inside expressions.
use Rattle.std.proofs.Common.{ℕ, zero, suc, IsTrue, ◌<◌, ◌≤◌, ◌≡◌, ◌+◌, ◌∷◌, [], List, Option, Some}
use Rattle.std.proofs.Common.{None, Bool, true, false, length, map, refl, sym, ap, ◌∙◌, subst}
use Rattle.std.proofs.Common.{arith, Result, IfOk}
use Rattle.sql_values.specs.declared.value.Value.TheVariants.{Bool as Truth}
use Rattle.bound_trees.specs.declared.expr.BoundExpr.{BoundExpr}
use Rattle.bound_trees.specs.declared.query.BoundFromItem.{BoundFromItem}
use Rattle.bound_trees.specs.declared.query.BoundGrouping.{BoundGrouping}
use Rattle.bound_trees.specs.declared.query.BoundQuery.{BoundQuery}
use Rattle.bound_trees.specs.declared.query.BoundQuery.TheVariants as query
use Rattle.bound_trees.specs.declared.query.BoundRow.{BoundRow}
use Rattle.bound_trees.specs.declared.query.BoundSelect.{BoundSelect, out-BoundSelect}
use Rattle.row_types.specs.declared.sort_key.SortKey.{SortKey}
use Rattle.rel_algebra.specs.Tree.{Aggregate, AnyOf, Exprs, NoExpr, MoreExprs, From, Grouped}
use Rattle.rel_algebra.specs.Tree.{Single, Exists, In}
use Rattle.rel_algebra.specs.declared.scalar.Scalar.{Scalar as ScalarCode}
use Rattle.rel_algebra.specs.Joins.{numbered, from_width}
use Rattle.rel_algebra.specs.Plan.{strict, Scalar, constant, column, word, Scalars, none, more}
use Rattle.rel_algebra.specs.Plan.{PlanTree, member, aggregate, apply, anew, apply_by, no_node}
use Rattle.rel_algebra.specs.Plan.{on_each}
use Rattle.rel_algebra.specs.PlanView.{scalar_of, scalars_of}
use Rattle.rel_algebra.specs.Emit.{Env, Emitted, EmittedAll, Folded, width, plain, ask_member}
use Rattle.rel_algebra.specs.Emit.{folding, first_value, row_stands, if_values, folded, folded_env}
use Rattle.rel_algebra.specs.Emit.{emit, emit_all, plan, from_plan}
use Rattle.block_plans.specs.Callees.{Callees, width_in}
use Rattle.catalog_store.specs.View.{from_of}
use Rattle.block_plans.specs.View.{exprs_seen, item_seen, query_seen, select_seen, expr_seen}
use Rattle.block_plans.proofs.Laws.{query_seen-Select, query_seen-Values, query_seen-Ordered}
use Rattle.block_plans.proofs.Laws.{select_seen-grouped, select_seen-ungrouped}
use Rattle.plan_expressions.specs.declared.asked.Asked.{Asked}
use Rattle.plan_expressions.specs.declared.asked.Asked.TheVariants as asked
use Rattle.plan_expressions.specs.Asking.{asked_by, answered_by}
use Rattle.plan_expressions.specs.declared.draft.Draft.{Draft}
use Rattle.plan_expressions.specs.Drafts.{drafted}
use Rattle.plan_expressions.specs.Emission.{Emits, EmitsAll}
use Rattle.plan_expressions.proofs.Laws.{on_each-joined, width-joined, if_ok}
use Rattle.plan_drafts.specs.Folding.{is_fold, folds}
use Rattle.plan_drafts.specs.Joining.{IsFrom}
use Rattle.plan_drafts.proofs.Laws.{numbered-long}
use Rattle.plan_queries.specs.Folding.{fold_list, EmitsFolded}
use Rattle.plan_queries.specs.Selecting.{selected_rows}

-- ---- what is asked

-- of a query that is folded, by its list
pub folded_asked : (a : Asked) (o : Option (List ScalarCode)) (list : List ScalarCode)
    (f : Option Folded) (inner : PlanTree) (old new : Draft) (s : Scalar) (n : ℕ) → o ≡ Some list →
    EmitsFolded old new o f → n ≡ (drafted old).width → s ≡ answered_by a n (scalars_of list) →
    Emits old new s (asked_by a f inner (drafted old).width)
folded_asked a o list f inner old new s n is d at answer =
    by a f (subst (λ (x : Option (List ScalarCode)). EmitsFolded old new x f) is d)
    (answer ∙ ap (λ m. answered_by a m (scalars_of list)) at)
  where
    by : (b : Asked) (g : Option Folded) → EmitsFolded old new (Some list) g →
        s ≡ answered_by b (drafted old).width (scalars_of list) →
        Emits old new s (asked_by b g inner (drafted old).width)
    by b None e h = absurd e
    by asked.Single (Some g) e h = record {
      tree = e.tree;
      columns = e.columns;
      scalar = h ∙
          ap (λ ss. if_values ((drafted old).width ∷ []) (first_value ss)) e.scalars;
    }
    by asked.Exists (Some g) e h = record {
      tree = e.tree;
      columns = e.columns;
      scalar = h ∙
          ap (λ ss. if_values ((drafted old).width ∷ []) (row_stands ss)) e.scalars;
    }
    by (asked.Member x) (Some g) e h = record {
      tree = e.tree;
      columns = e.columns;
      scalar = h ∙ ap (λ ss. word (strict AnyOf)
          (more (scalar_of x) (more (if_values ((drafted old).width ∷ []) (first_value ss)) none)))
          e.scalars;
    }

-- of another one, by its plan
pub plan_asked : (a : Asked) (o : Option (List ScalarCode)) (f : Option Folded)
    (inner made : PlanTree) (old mid new : Draft) (s : Scalar) → o ≡ None →
    EmitsFolded old mid o f → made ≡ inner →
    Emits mid new s (asked_by a None made (drafted mid).width) →
    Emits old new s (asked_by a f inner (drafted old).width)
plan_asked a o f inner made old mid new s is d p e =
    by f (subst (λ (x : Option (List ScalarCode)). EmitsFolded old mid x f) is d)
  where
    by : (g : Option Folded) → EmitsFolded old mid None g →
        Emits old new s (asked_by a g inner (drafted old).width)
    by (Some g) h = absurd h
    by None same = record {
      tree = e.tree ∙ (λ j. on_each (asked_by a None (p j) (same j).width).nodes (same j).tree);
      columns = e.columns ∙ (λ j. width (asked_by a None (p j) (same j).width).nodes
          (same j).width);
      scalar = e.scalar ∙ (λ j. (asked_by a None (p j) (same j).width).scalar);
    }

-- ---- the value that is sought stands first

pub member_emits : (f : Option Folded) (a : Emitted) (inner : PlanTree) (start now new : Draft)
    (sought : Scalar) (s : Scalar) → Emits start now sought a →
    Emits now new s (ask_member f (plain sought) inner (drafted now).width) →
    Emits start new s (ask_member f a inner (drafted start).width)
member_emits None a inner start now new sought s first second =
    let n = (drafted start).width in
    record {
      tree =
          second.tree ∙
          (λ j. on_each
          (apply_by (constant (Truth true)) (member (first.scalar j)) anew inner no_node)
          (first.tree j))
          ∙ sym (on_each-joined a.nodes
          (apply_by (constant (Truth true)) (member a.scalar) anew inner no_node)
          (drafted start).tree);
      columns =
          second.columns ∙
          (λ j. width
          (apply_by (constant (Truth true)) (member (first.scalar j)) anew inner no_node)
          (first.columns j))
          ∙ sym (width-joined a.nodes (apply_by (constant (Truth true)) (member a.scalar) anew inner
          no_node) n);
      scalar = second.scalar ∙ ap (column 0) first.columns;
    }
member_emits (Some c) a inner start now new sought s first second =
    let n = (drafted start).width in
    let b : ℕ → Emitted = folding c first_value in
    record {
      tree = second.tree ∙ (λ j. on_each (b (first.columns j)).nodes (first.tree j)) ∙
          sym (on_each-joined a.nodes (b (width a.nodes n)).nodes (drafted start).tree);
      columns = second.columns ∙ (λ j. width (b (first.columns j)).nodes (first.columns j)) ∙
          sym (width-joined a.nodes (b (width a.nodes n)).nodes n);
      scalar = second.scalar ∙ (λ j. word (strict AnyOf)
          (more (first.scalar j) (more (b (first.columns j)).scalar none)));
    }

-- ---- the same of results

abbrev pub asking : Callees → Env → Asked → BoundQuery → ℕ → Emitted
asking k e a q n = asked_by a (folded (query_seen k q) (width_in k) e)
    (plan (query_seen k q) (width_in k) e) n

-- of a query that is folded
pub answer_emits : {B : Type 0} → (k : Callees) (e : Env) (a : Asked) (q : BoundQuery)
    (o : Option (List ScalarCode)) (list : List ScalarCode) (old new : Draft) (n : ℕ)
    (r : Result ScalarCode B) → o ≡ Some list →
    EmitsFolded old new o (folded (query_seen k q) (width_in k) e) → n ≡ (drafted old).width →
    IfOk r (λ s. scalar_of s ≡ answered_by a n (scalars_of list)) →
    IfOk r (λ s. Emits old new (scalar_of s) (asking k e a q (drafted old).width))
answer_emits k e a q o list old new n r is d at made =
    if_ok r (λ s. scalar_of s ≡ answered_by a n (scalars_of list))
    (λ s. Emits old new (scalar_of s) (asking k e a q (drafted old).width)) made
    (λ s answer. folded_asked a o list (folded (query_seen k q) (width_in k) e)
    (plan (query_seen k q) (width_in k) e) old new (scalar_of s) n is d at answer)

-- of another one
pub ask_emits : {B : Type 0} → (k : Callees) (e : Env) (a : Asked) (q : BoundQuery)
    (o : Option (List ScalarCode)) (made : PlanTree) (old mid new : Draft)
    (r : Result ScalarCode B) → o ≡ None →
    EmitsFolded old mid o (folded (query_seen k q) (width_in k) e) →
    made ≡ plan (query_seen k q) (width_in k) e →
    IfOk r (λ s. Emits mid new (scalar_of s) (asked_by a None made (drafted mid).width)) →
    IfOk r (λ s. Emits old new (scalar_of s) (asking k e a q (drafted old).width))
ask_emits k e a q o made old mid new r is d p emitted =
    if_ok r (λ s. Emits mid new (scalar_of s) (asked_by a None made (drafted mid).width))
    (λ s. Emits old new (scalar_of s) (asking k e a q (drafted old).width)) emitted
    (λ s h. plan_asked a o (folded (query_seen k q) (width_in k) e)
    (plan (query_seen k q) (width_in k) e) made old mid new (scalar_of s) is d p h)

-- IN: the value that is sought first
pub in_emits : {B : Type 0} → (k : Callees) (e : Env) (x : BoundExpr) (q : BoundQuery)
    (start now new : Draft) (sought : ScalarCode) (r : Result ScalarCode B) →
    Emits start now (scalar_of sought) (emit (expr_seen k x) (width_in k) e (drafted start).width) →
    IfOk r (λ s. Emits now new (scalar_of s) (asking k e (asked.Member sought) q
    (drafted now).width)) →
    IfOk r (λ s. Emits start new (scalar_of s) (emit (In (expr_seen k x) (query_seen k q))
    (width_in k)
    e (drafted start).width))
in_emits k e x q start now new sought r first made =
    if_ok r (λ s. Emits now new (scalar_of s) (asking k e (asked.Member sought) q
    (drafted now).width))
    (λ s. Emits start new (scalar_of s) (emit (In (expr_seen k x) (query_seen k q)) (width_in k) e
    (drafted start).width)) made
    (λ s second. member_emits (folded (query_seen k q) (width_in k) e)
    (emit (expr_seen k x) (width_in k) e (drafted start).width)
    (plan (query_seen k q) (width_in k) e) start now new (scalar_of sought) (scalar_of s) first
    second)

-- ---- which queries are folded

pub folded-Values : (k : Callees) (q : BoundQuery) (rs : List BoundRow) (S : List ℕ → ℕ) (e : Env) →
    q ≡ query.Values rs → folded (query_seen k q) S e ≡ None
folded-Values k q rs S e is = ap (λ (x : BoundQuery). folded (query_seen k x) S e) is ∙
    ap (λ x. folded x S e) (query_seen-Values k rs)

pub folded-Ordered : (k : Callees) (q p : BoundQuery) (keys : List SortKey) (S : List ℕ → ℕ)
    (e : Env) → q ≡ query.Ordered p keys → folded (query_seen k q) S e ≡ None
folded-Ordered k q p keys S e is = ap (λ (x : BoundQuery). folded (query_seen k x) S e) is ∙
    ap (λ x. folded x S e) (query_seen-Ordered k p keys)

pub folded-Select : (k : Callees) (q : BoundQuery) (s : BoundSelect) (S : List ℕ → ℕ) (e : Env) →
    q ≡ query.Select s → folded (query_seen k q) S e ≡ folded (select_seen k s) S e
folded-Select k q s S e is = ap (λ (x : BoundQuery). folded (query_seen k x) S e) is ∙
    ap (λ x. folded x S e) (query_seen-Select k s)

not_fold : (k : Callees) (from : From) (tests parts list : Exprs) (keys : ℕ) (ags : List Aggregate)
    (having : List BoundExpr) (S : List ℕ → ℕ) (e : Env) → is_fold keys ags having ≡ false →
    folded (Grouped from tests keys parts ags (exprs_seen k having) list) S e ≡ None
not_fold k from tests parts list zero [] having S e h = refl
not_fold k from tests parts list zero (a ∷ ags) [] S e h = absurd (let never = h in cc)
not_fold k from tests parts list zero (a ∷ ags) (x ∷ having) S e h = refl
not_fold k from tests parts list (suc n) ags having S e h = refl

pub not_folded : (k : Callees) (s : BoundSelect) (g : BoundGrouping) (S : List ℕ → ℕ) (e : Env) →
    (out-BoundSelect s).grouping ≡ Some g → folds g ≡ false → folded (select_seen k s) S e ≡ None
not_folded k s g S e some h =
    ap (λ q. folded q S e) (select_seen-grouped k s g some)
    ∙ not_fold k (from_of (map (item_seen k) (out-BoundSelect s).from))
    (exprs_seen k (out-BoundSelect s).conjuncts) (exprs_seen k g.parts)
    (exprs_seen k (out-BoundSelect s).items) g.keys g.aggregates g.having S e h

pub not_grouped : (k : Callees) (s : BoundSelect) (S : List ℕ → ℕ) (e : Env) →
    (out-BoundSelect s).grouping ≡ None → folded (select_seen k s) S e ≡ None
not_grouped k s S e free = ap (λ q. folded q S e) (select_seen-ungrouped k s free)

pub none_emitted : (old new : Draft) (f : Option Folded) → drafted new ≡ drafted old → f ≡ None →
    EmitsFolded old new None f
none_emitted old new f same h = subst (λ (g : Option Folded). EmitsFolded old new None g)
    (sym h) same

-- what is folded of a select
abbrev pub fold_of : From → Exprs → Exprs → List Aggregate → Exprs → (List ℕ → ℕ) → Env → PlanTree →
    Folded
fold_of from tests parts ags list S e input =
    record {
      input = input;
      aggregates = numbered 0 ags;
      list =
          λ p. emit_all list S (folded_env e p (length ags)) (p + length ags);
    }

is_folding : (k : Callees) (from : From) (tests parts list : Exprs) (keys : ℕ)
    (ags : List Aggregate) (having : List BoundExpr) (S : List ℕ → ℕ) (e : Env) (input : PlanTree) →
    is_fold keys ags having ≡ true →
    input ≡ selected_rows parts tests S e (from_width from S) (from_plan from S e) →
    folded (Grouped from tests keys parts ags (exprs_seen k having) list) S e ≡
    Some (fold_of from tests parts ags list S e input)
is_folding k from tests parts list zero [] having S e input h is = absurd (let never = h in cc)
is_folding k from tests parts list zero (a ∷ ags) [] S e input h is =
    ap (λ t. Some (fold_of from tests parts (a ∷ ags) list S e t)) (sym is)
is_folding k from tests parts list zero (a ∷ ags) (x ∷ having) S e input h is =
    absurd (let never = h in cc)
is_folding k from tests parts list (suc n) ags having S e input h is = absurd (let never = h in cc)

pub fold_emits : (k : Callees) (s : BoundSelect) (g : BoundGrouping) (e within : Env)
    (from : List BoundFromItem) (parts tests items : List BoundExpr) (aggregates : List Aggregate)
    (rows input old applied new : Draft)
    (list : List ScalarCode) (first count : ℕ) → (out-BoundSelect s).grouping ≡ Some g →
    folds g ≡ true → from ≡ (out-BoundSelect s).from → parts ≡ g.parts →
    tests ≡ (out-BoundSelect s).conjuncts → items ≡ (out-BoundSelect s).items →
    aggregates ≡ g.aggregates →
    IsFrom k.known e rows (from_of (map (item_seen k) from)) →
    (drafted input).tree ≡ selected_rows (exprs_seen k parts) (exprs_seen k tests) (width_in k) e
    (drafted rows).width (drafted rows).tree →
    first ≡ (drafted old).width → count ≡ length g.aggregates → within ≡ folded_env e first count →
    (drafted applied).tree ≡ apply (constant (Truth true)) (aggregate (numbered 0 aggregates))
    anew (drafted input).tree (drafted old).tree →
    (drafted applied).width ≡ (drafted old).width + length aggregates →
    EmitsAll applied new (scalars_of list) (emit_all (exprs_seen k items) (width_in k) within
    (drafted applied).width) →
    EmitsFolded old new (Some list) (folded (select_seen k s) (width_in k) e)
fold_emits k s g e within from parts tests items aggregates rows input old applied new list first
    count some h f p t i a is made at many env tree wide d =
    let S = width_in k in
    let n = (drafted old).width in
    let F = from_of (map (item_seen k) (out-BoundSelect s).from) in
    let below : (drafted input).tree ≡ selected_rows (exprs_seen k g.parts)
    (exprs_seen k (out-BoundSelect s).conjuncts) S e (from_width F S) (from_plan F S e) =
    made ∙ (λ j. selected_rows (exprs_seen k (p j)) (exprs_seen k (t j)) S e (is.width j)
    (is.tree j))
    ∙ ap (λ (xs : List BoundFromItem). selected_rows (exprs_seen k g.parts)
    (exprs_seen k (out-BoundSelect s).conjuncts) S e (from_width (from_of (map (item_seen k) xs)) S)
    (from_plan (from_of (map (item_seen k) xs)) S e)) f in
    let fold = fold_of F (exprs_seen k (out-BoundSelect s).conjuncts) (exprs_seen k g.parts)
    g.aggregates (exprs_seen k (out-BoundSelect s).items) S e (drafted input).tree in
    let there : folded (select_seen k s) S e ≡ Some fold =
    ap (λ q. folded q S e) (select_seen-grouped k s g some)
    ∙ is_folding k F (exprs_seen k (out-BoundSelect s).conjuncts) (exprs_seen k g.parts)
    (exprs_seen k (out-BoundSelect s).items) g.keys g.aggregates g.having S e (drafted input).tree
    h below in
    let env_is : within ≡ folded_env e n (length g.aggregates) = env ∙
    (λ j. folded_env e (at j) (many j)) in
    let wide_is : (drafted applied).width ≡ n + length g.aggregates = wide ∙
    ap (λ (xs : List Aggregate). n + length xs) a in
    let c = (fold.list n) in
    let same : emit_all (exprs_seen k items) S within (drafted applied).width ≡ c =
    λ j. emit_all (exprs_seen k (i j)) S (env_is j) (wide_is j) in
    let long : n + length (numbered 0 g.aggregates) ≡ n + length g.aggregates =
    ap (λ m. n + m) (numbered-long 0 g.aggregates) in
    subst (λ (o : Option Folded). EmitsFolded old new (Some list) o) (sym there) (record {
      tree = d.tree ∙ (λ j. on_each (same j).nodes (tree j)) ∙
          ap (λ (xs : List Aggregate). on_each c.nodes
          (apply (constant (Truth true)) (aggregate (numbered 0 xs)) anew (drafted input).tree
          (drafted old).tree)) a;
      columns = d.columns ∙ (λ j. width (same j).nodes (wide_is j)) ∙ ap (width c.nodes) (sym long);
      scalars = d.scalars ∙ ap (λ y. y.scalars) same;
    })

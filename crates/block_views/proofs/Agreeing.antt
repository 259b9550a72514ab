-- Two views agree on what has a plan by the second, where their calls do. By induction over the
-- trees.
use Rattle.std.proofs.Common.{◌≡◌, ℕ, Bool, true, false, cond, ◌&&◌, List, [], ◌∷◌, map, length}
use Rattle.std.proofs.Common.{Option, None, Some, refl, sym, ap, ◌∙◌, subst, suc}
use Rattle.std.specs.List.{list_all}
use Rattle.bound_trees.specs.Operands.{takes}
use Rattle.bound_trees.specs.declared.expr.BoundExpr.{BoundExpr, roll-BoundExpr}
use Rattle.bound_trees.specs.declared.expr.BoundLink.{BoundLink, roll-BoundLink}
use Rattle.bound_trees.specs.declared.expr.BoundOperation.{BoundOperation}
use Rattle.bound_trees.specs.declared.query.BoundFromItem.{BoundFromItem, roll-BoundFromItem}
use Rattle.bound_trees.specs.declared.query.BoundGrouping.{BoundGrouping, roll-BoundGrouping}
use Rattle.bound_trees.specs.declared.query.BoundQuery.{BoundQuery, roll-BoundQuery}
use Rattle.bound_trees.specs.declared.query.BoundRow.{BoundRow, roll-BoundRow}
use Rattle.bound_trees.specs.declared.query.BoundSelect.{BoundSelect, roll-BoundSelect}
use Rattle.bound_trees.specs.declared.query.BoundSource.{BoundSource, roll-BoundSource}
use Rattle.bound_trees.specs.declared.expr.BoundExpr.TheOpen.{BoundExpr-F, BoundFromItem-F}
use Rattle.bound_trees.specs.declared.expr.BoundExpr.TheOpen.{BoundQuery-F, BoundRow-F}
use Rattle.bound_trees.specs.declared.expr.BoundExpr.TheOpen.{BoundSource-F, BoundLink-F}
use Rattle.bound_trees.specs.declared.expr.BoundExpr.TheOpen.{BoundGrouping-F, BoundSelect-F}
use Rattle.bound_trees.specs.declared.expr.BoundExpr.TheFolds.{map-BoundExpr, map-BoundFromItem}
use Rattle.bound_trees.specs.declared.expr.BoundExpr.TheFolds.{map-BoundQuery, map-BoundRow}
use Rattle.bound_trees.specs.declared.expr.BoundExpr.TheFolds.{map-BoundSource, map-BoundLink}
use Rattle.bound_trees.specs.declared.expr.BoundExpr.TheFolds.{map-BoundGrouping, map-BoundSelect}
use Rattle.bound_trees.specs.declared.expr.BoundExpr.TheFolds.{ind-BoundExpr, ind-BoundQuery}
use Rattle.sql_values.specs.declared.value.Value.TheVariants.{Null}
use Rattle.rel_algebra.specs.Joins.{rows_width}
use Rattle.rel_algebra.specs.Plain.{all_even, planned_expr, planned_links, planned_all}
use Rattle.rel_algebra.specs.Plain.{as_many, planned_routine, planned_rows, planned_from, planned}
use Rattle.rel_algebra.specs.Tree.{Expr, Exprs, From, Literal, Operate, And, Or, count}
use Rattle.rel_algebra.specs.Tree.{Coalesce, Case, Chain, Call, Single, Exists, In, Cross, Values}
use Rattle.rel_algebra.specs.Tree.{Ordered, Derived, Inner, LeftOuter}
use Rattle.catalog_store.specs.View.{Link, Grouping, Joining, Joined, Standing, over_all, as_and}
use Rattle.catalog_store.specs.View.{as_or, as_coalesce, as_case, as_case_of, standing, case_of}
use Rattle.catalog_store.specs.View.{stood, operated, links, exprs, rows, after_comma, crossing}
use Rattle.catalog_store.specs.View.{matching, matching_or_nulls, beside, closed, grown, all_grown}
use Rattle.catalog_store.specs.View.{itself, begun, from_of, selected, item_step}
use Rattle.catalog_store.specs.View.{query_step, row_step, source_step, link_step, grouping_step}
use Rattle.catalog_store.specs.View.{select_step}
use Rattle.catalog_store.proofs.Laws.{ExprLayer, ItemLayer, QueryLayer, RowLayer, SourceLayer}
use Rattle.catalog_store.proofs.Laws.{LinkLayer, GroupingLayer, SelectLayer}
use Rattle.block_views.proofs.Layers.{Calls, call_node, expr_by, item_by, query_by, row_by}
use Rattle.block_views.proofs.Layers.{source_by, link_by, grouping_by, select_by, expr_inside}
use Rattle.block_views.proofs.Layers.{item_inside, query_inside, row_inside, source_inside}
use Rattle.block_views.proofs.Layers.{link_inside, grouping_inside, select_inside, expr_by-at}
use Rattle.block_views.proofs.Layers.{item_by-at, query_by-at, row_by-at, source_by-at, link_by-at}
use Rattle.block_views.proofs.Layers.{grouping_by-at, select_by-at}

-- ---- what has a plan, part by part

pub halves : (b c : Bool) → (b && c) ≡ true → (b ≡ true) × (c ≡ true)
halves true c h = (refl, h)
halves false c h = absurd cc

both : (b c : Bool) → b ≡ true → c ≡ true → (b && c) ≡ true
both true c p q = q
both false c p q = p

exprs_planned : (es : List Expr) → planned_all (exprs es) ≡ list_all planned_expr es
exprs_planned [] = refl
exprs_planned (e ∷ es) = ap (λ b. planned_expr e && b) (exprs_planned es)

links_planned : (ls : List Link) →
    planned_links (links ls) ≡ list_all (λ l. planned_expr l.operand) ls
links_planned [] = refl
links_planned (l ∷ ls) = ap (λ b. planned_expr l.operand && b) (links_planned ls)

each_planned : (rs : List Exprs) → planned_rows (rows rs) ≡ list_all planned_all rs
each_planned [] = refl
each_planned (r ∷ rs) = ap (λ b. planned_all r && b) (each_planned rs)

-- an item of FROM has a plan
abbrev item_planned : Joining → Bool
item_planned (after_comma f) = planned_from f
item_planned (crossing f) = planned_from f
item_planned (matching f on) = planned_from f && planned_all on
item_planned (matching_or_nulls f on) = planned_from f && planned_all on

beside_planned : (before : Option From) (current : From) → planned_from (beside before current) ≡
    true →
    planned_from current ≡ true
beside_planned None current h = h
beside_planned (Some f) current h = (halves (planned_from f) (planned_from current) h).1

-- what is joined to what stands after the last comma
narrower : (before : Option From) (wide narrow : From) →
    (planned_from wide ≡ true → planned_from narrow ≡ true) →
    planned_from (beside before wide) ≡ true → planned_from (beside before narrow) ≡ true
narrower None wide narrow f h = f h
narrower (Some b) wide narrow f h =
    let parts = halves (planned_from b) (planned_from wide) h in
    both (planned_from b) (planned_from narrow) parts.0 (f parts.1)

grown_planned : (j : Joined) (i : Joining) → planned_from (closed (grown j i)) ≡ true →
    (planned_from (closed j) ≡ true) × (item_planned i ≡ true)
grown_planned j (after_comma f) h = halves (planned_from (closed j)) (planned_from f) h
grown_planned j (crossing f) h =
    let whole = beside_planned j.before (Cross j.current f) h in (
      narrower j.before (Cross j.current f) j.current
          (λ k. (halves (planned_from j.current) (planned_from f) k).0) h,
      (halves (planned_from j.current) (planned_from f) whole).1,
    )
grown_planned j (matching f on) h =
    let whole = beside_planned j.before (Inner j.current f on) h in (
      narrower j.before (Inner j.current f on) j.current
          (λ k. (halves (planned_from j.current) (planned_from f && planned_all on) k).0) h,
      (halves (planned_from j.current) (planned_from f && planned_all on) whole).1,
    )
grown_planned j (matching_or_nulls f on) h =
    let whole = beside_planned j.before (LeftOuter j.current f on) h in (
      narrower j.before (LeftOuter j.current f on) j.current
          (λ k. (halves (planned_from j.current) (planned_from f && planned_all on) k).0) h,
      (halves (planned_from j.current) (planned_from f && planned_all on) whole).1,
    )

all_planned : (j : Joined) (is : List Joining) → planned_from (closed (all_grown j is)) ≡ true →
    (planned_from (closed j) ≡ true) × (list_all item_planned is ≡ true)
all_planned j [] h = (h, refl)
all_planned j (i ∷ is) h =
    let rest = all_planned (grown j i) is h in
    let one = grown_planned j i rest.0 in
    (one.0, both (item_planned i) (list_all item_planned is) one.1 rest.1)

-- the parts of a grouping have plans
abbrev grouping_planned : Grouping → Bool
grouping_planned g = planned_all g.parts && planned_all g.having

-- ---- lists

-- each of which is the same where its plain tree has a plan
each-same : {A B : Type 0} {P : A → Type 0} (test : B → Bool) (s t : A → B) →
    ((x : A) → P x → test (t x) ≡ true → s x ≡ t x) → (xs : List ((x : A) × P x)) →
    list_all test (map t (map (λ x. x.0) xs)) ≡ true →
    map s (map (λ x. x.0) xs) ≡ map t (map (λ x. x.0) xs)
each-same test s t f [] h = refl
each-same test s t f (x ∷ xs) h =
    let parts = halves (test (t x.0)) (list_all test (map t (map (λ y. y.0) xs))) h in
    λ i. f x.0 x.1 parts.0 i ∷ each-same test s t f xs parts.1 i

as-many : {A B : Type 0} {P : A → Type 0} (s t : A → B) (xs : List ((x : A) × P x)) →
    length (map s (map (λ x. x.0) xs)) ≡ length (map t (map (λ x. x.0) xs))
as-many s t [] = refl
as-many s t (x ∷ xs) = ap suc (as-many s t xs)

-- a call that has a plan by the second view has arguments with plans, and is the same by the first
pub record AgreeWherePlanned (s t : Calls) : Type 0 where
  pub arguments : (name : List ℕ) (es : List Expr) → planned_expr (t name es) ≡ true →
      planned_all (exprs es) ≡ true
  pub calls : (name : List ℕ) (es : List Expr) → planned_expr (t name es) ≡ true →
      s name es ≡ t name es

module _ (s t : Calls) (agree : AgreeWherePlanned s t) where
  -- ---- trees

  -- a tree that is seen as its plain tree where that has a plan
  abbrev IsSame : {A B : Type 0} → (B → Bool) → (Calls → A → B) → A → Type 0
  IsSame test seen x = test (seen t x) ≡ true → seen s x ≡ seen t x

  -- an item of FROM, also where it is the first, and its ON joins it to nothing
  record SameItem (x : BoundFromItem) : Type 0 where
    pub whole : IsSame item_planned item_by x
    pub first : planned_from (itself (item_by t x)) ≡ true →
        itself (item_by s x) ≡ itself (item_by t x)

  abbrev ShownExpr : Type 0
  ShownExpr = (x : BoundExpr) × IsSame planned_expr expr_by x

  abbrev ShownItem : Type 0
  ShownItem = (x : BoundFromItem) × SameItem x

  abbrev ShownQuery : Type 0
  ShownQuery = (x : BoundQuery) × IsSame planned query_by x

  abbrev ShownRow : Type 0
  ShownRow = (x : BoundRow) × IsSame planned_all row_by x

  abbrev ShownSource : Type 0
  ShownSource = (x : BoundSource) × IsSame planned_from source_by x

  abbrev ShownLink : Type 0
  ShownLink = (x : BoundLink) × IsSame (λ l. planned_expr l.operand) link_by x

  abbrev ShownGrouping : Type 0
  ShownGrouping = (x : BoundGrouping) × IsSame grouping_planned grouping_by x

  abbrev ShownSelect : Type 0
  ShownSelect = (x : BoundSelect) × IsSame planned select_by x

  abbrev expr_shown : BoundExpr-F ShownExpr ShownItem ShownQuery ShownRow ShownSource ShownLink
      ShownGrouping ShownSelect → ExprLayer
  expr_shown y = map-BoundExpr ShownExpr ShownItem ShownQuery ShownRow ShownSource ShownLink
      ShownGrouping ShownSelect BoundExpr BoundFromItem BoundQuery BoundRow BoundSource BoundLink
      BoundGrouping BoundSelect (λ x. x.0) (λ x. x.0) (λ x. x.0) (λ x. x.0) (λ x. x.0) (λ x. x.0)
      (λ x. x.0) (λ x. x.0) y

  abbrev item_shown : BoundFromItem-F ShownExpr ShownItem ShownQuery ShownRow ShownSource ShownLink
      ShownGrouping ShownSelect → ItemLayer
  item_shown y = map-BoundFromItem ShownExpr ShownItem ShownQuery ShownRow ShownSource ShownLink
      ShownGrouping ShownSelect BoundExpr BoundFromItem BoundQuery BoundRow BoundSource BoundLink
      BoundGrouping BoundSelect (λ x. x.0) (λ x. x.0) (λ x. x.0) (λ x. x.0) (λ x. x.0) (λ x. x.0)
      (λ x. x.0) (λ x. x.0) y

  abbrev query_shown : BoundQuery-F ShownExpr ShownItem ShownQuery ShownRow ShownSource ShownLink
      ShownGrouping ShownSelect → QueryLayer
  query_shown y = map-BoundQuery ShownExpr ShownItem ShownQuery ShownRow ShownSource ShownLink
      ShownGrouping ShownSelect BoundExpr BoundFromItem BoundQuery BoundRow BoundSource BoundLink
      BoundGrouping BoundSelect (λ x. x.0) (λ x. x.0) (λ x. x.0) (λ x. x.0) (λ x. x.0) (λ x. x.0)
      (λ x. x.0) (λ x. x.0) y

  abbrev row_shown : BoundRow-F ShownExpr ShownItem ShownQuery ShownRow ShownSource ShownLink
      ShownGrouping ShownSelect → RowLayer
  row_shown y = map-BoundRow ShownExpr ShownItem ShownQuery ShownRow ShownSource ShownLink
      ShownGrouping ShownSelect BoundExpr BoundFromItem BoundQuery BoundRow BoundSource BoundLink
      BoundGrouping BoundSelect (λ x. x.0) (λ x. x.0) (λ x. x.0) (λ x. x.0) (λ x. x.0) (λ x. x.0)
      (λ x. x.0) (λ x. x.0) y

  abbrev source_shown : BoundSource-F ShownExpr ShownItem ShownQuery ShownRow ShownSource ShownLink
      ShownGrouping ShownSelect → SourceLayer
  source_shown y = map-BoundSource ShownExpr ShownItem ShownQuery ShownRow ShownSource ShownLink
      ShownGrouping ShownSelect BoundExpr BoundFromItem BoundQuery BoundRow BoundSource BoundLink
      BoundGrouping BoundSelect (λ x. x.0) (λ x. x.0) (λ x. x.0) (λ x. x.0) (λ x. x.0) (λ x. x.0)
      (λ x. x.0) (λ x. x.0) y

  abbrev link_shown : BoundLink-F ShownExpr ShownItem ShownQuery ShownRow ShownSource ShownLink
      ShownGrouping ShownSelect → LinkLayer
  link_shown y = map-BoundLink ShownExpr ShownItem ShownQuery ShownRow ShownSource ShownLink
      ShownGrouping ShownSelect BoundExpr BoundFromItem BoundQuery BoundRow BoundSource BoundLink
      BoundGrouping BoundSelect (λ x. x.0) (λ x. x.0) (λ x. x.0) (λ x. x.0) (λ x. x.0) (λ x. x.0)
      (λ x. x.0) (λ x. x.0) y

  abbrev grouping_shown : BoundGrouping-F ShownExpr ShownItem ShownQuery ShownRow ShownSource
      ShownLink ShownGrouping ShownSelect → GroupingLayer
  grouping_shown y = map-BoundGrouping ShownExpr ShownItem ShownQuery ShownRow ShownSource ShownLink
      ShownGrouping ShownSelect BoundExpr BoundFromItem BoundQuery BoundRow BoundSource BoundLink
      BoundGrouping BoundSelect (λ x. x.0) (λ x. x.0) (λ x. x.0) (λ x. x.0) (λ x. x.0) (λ x. x.0)
      (λ x. x.0) (λ x. x.0) y

  abbrev select_shown : BoundSelect-F ShownExpr ShownItem ShownQuery ShownRow ShownSource ShownLink
      ShownGrouping ShownSelect → SelectLayer
  select_shown y = map-BoundSelect ShownExpr ShownItem ShownQuery ShownRow ShownSource ShownLink
      ShownGrouping ShownSelect BoundExpr BoundFromItem BoundQuery BoundRow BoundSource BoundLink
      BoundGrouping BoundSelect (λ x. x.0) (λ x. x.0) (λ x. x.0) (λ x. x.0) (λ x. x.0) (λ x. x.0)
      (λ x. x.0) (λ x. x.0) y

  -- ---- lists of parts

  exprs-same : (es : List ShownExpr) →
      planned_all (exprs (map (expr_by t) (map (λ x. x.0) es))) ≡ true →
      map (expr_by s) (map (λ x. x.0) es) ≡ map (expr_by t) (map (λ x. x.0) es)
  exprs-same es h = each-same planned_expr (expr_by s) (expr_by t) (λ x f. f) es
      (sym (exprs_planned (map (expr_by t) (map (λ x. x.0) es))) ∙ h)

  links-same : (ls : List ShownLink) →
      planned_links (links (map (link_by t) (map (λ x. x.0) ls))) ≡ true →
      map (link_by s) (map (λ x. x.0) ls) ≡ map (link_by t) (map (λ x. x.0) ls)
  links-same ls h =
      each-same (λ l. planned_expr l.operand) (link_by s) (link_by t) (λ x f. f) ls
      (sym (links_planned (map (link_by t) (map (λ x. x.0) ls))) ∙ h)

  rows-same : (rs : List ShownRow) →
      planned_rows (rows (map (row_by t) (map (λ x. x.0) rs))) ≡ true →
      map (row_by s) (map (λ x. x.0) rs) ≡ map (row_by t) (map (λ x. x.0) rs)
  rows-same rs h = each-same planned_all (row_by s) (row_by t) (λ x f. f) rs
      (sym (each_planned (map (row_by t) (map (λ x. x.0) rs))) ∙ h)

  from-same : (is : List ShownItem) →
      planned_from (from_of (map (item_by t) (map (λ x. x.0) is))) ≡ true →
      from_of (map (item_by s) (map (λ x. x.0) is)) ≡
      from_of (map (item_by t) (map (λ x. x.0) is))
  from-same [] h = refl
  from-same (x ∷ xs) h =
      let parts = all_planned (begun (item_by t x.0)) (map (item_by t) (map (λ y. y.0) xs)) h in
      λ i. closed (all_grown (record { before = None; current = x.1.first parts.0 i })
      (each-same item_planned (item_by s) (item_by t) (λ y f. f.whole) xs parts.1 i))

  -- ---- words

  stood-same : (w : Standing) (es : List ShownExpr) →
      planned_expr (stood w (map (expr_by t) (map (λ x. x.0) es))) ≡ true →
      stood w (map (expr_by s) (map (λ x. x.0) es)) ≡
      stood w (map (expr_by t) (map (λ x. x.0) es))
  stood-same (over_all operation) es h = λ i. Operate operation (exprs (exprs-same es h i))
  stood-same as_and es h = λ i. And (exprs (exprs-same es h i))
  stood-same as_or es h = λ i. Or (exprs (exprs-same es h i))
  stood-same as_coalesce es h = λ i. Coalesce (exprs (exprs-same es h i))
  stood-same as_case es h = λ i. Case (exprs (exprs-same es h i))
  stood-same as_case_of [] h = refl
  stood-same as_case_of (e ∷ []) h = refl
  stood-same as_case_of (e ∷ test ∷ []) h = refl
  stood-same as_case_of (e ∷ test ∷ result ∷ arms) h =
      ap case_of (exprs-same (e ∷ test ∷ result ∷ arms) h)

  operated-same : (w : BoundOperation) (es : List ShownExpr) →
      planned_expr (operated w (map (expr_by t) (map (λ x. x.0) es))) ≡ true →
      operated w (map (expr_by s) (map (λ x. x.0) es)) ≡
      operated w (map (expr_by t) (map (λ x. x.0) es))
  operated-same w es h = by (takes w (length (map (expr_by t) (map (λ x. x.0) es)))) refl h
    where
      many : takes w (length (map (expr_by s) (map (λ x. x.0) es))) ≡
          takes w (length (map (expr_by t) (map (λ x. x.0) es)))
      many = ap (takes w) (as-many (expr_by s) (expr_by t) es)

      by : (b : Bool) → takes w (length (map (expr_by t) (map (λ x. x.0) es))) ≡ b →
          planned_expr (cond b (stood (standing w) (map (expr_by t) (map (λ x. x.0) es)))
          (Literal Null)) ≡ true →
          operated w (map (expr_by s) (map (λ x. x.0) es)) ≡
          operated w (map (expr_by t) (map (λ x. x.0) es))
      by true q h = λ i. cond (many i) (stood-same (standing w) es h i) (Literal Null)
      by false q h =
          ap (λ b. cond b (stood (standing w) (map (expr_by s) (map (λ x. x.0) es)))
          (Literal Null)) (many ∙ q) ∙
          sym (ap (λ b. cond b (stood (standing w) (map (expr_by t) (map (λ x. x.0) es)))
          (Literal Null)) q)

  -- ---- one layer

  expr_layer : (y : BoundExpr-F ShownExpr ShownItem ShownQuery ShownRow ShownSource ShownLink
      ShownGrouping
      ShownSelect) →
      planned_expr (call_node t (expr_inside t (expr_shown y))) ≡ true →
      call_node s (expr_inside s (expr_shown y)) ≡
      call_node t (expr_inside t (expr_shown y))
  expr_layer (BoundExpr-F.Literal v) h = refl
  expr_layer (BoundExpr-F.Column level i) h = refl
  expr_layer (BoundExpr-F.Variable i) h = refl
  expr_layer (BoundExpr-F.Operation word operands) h = operated-same word operands h
  expr_layer (BoundExpr-F.Chain first rest) h =
      let parts = halves (planned_expr (expr_by t first.0))
      (planned_links (links (map (link_by t) (map (λ x. x.0) rest)))) h in
      λ i. Chain (first.1 parts.0 i) (links (links-same rest parts.1 i))
  expr_layer (BoundExpr-F.Call name args) h =
      let es = map (expr_by t) (map (λ x. x.0) args) in
      ap (s name) (exprs-same args (agree.arguments name es h)) ∙ agree.calls name es h
  expr_layer (BoundExpr-F.Single q) h = λ i. Single (q.1 h i)
  expr_layer (BoundExpr-F.Exists q) h = λ i. Exists (q.1 h i)
  expr_layer (BoundExpr-F.In e q) h =
      let parts = halves (planned_expr (expr_by t e.0)) (planned (query_by t q.0)) h in
      λ i. In (e.1 parts.0 i) (q.1 parts.1 i)

  abbrev SameLayer : Joining → Joining → Type 0
  SameLayer x y = (item_planned y ≡ true → x ≡ y) ×
      (planned_from (itself y) ≡ true → itself x ≡ itself y)

  item_layer : (y : BoundFromItem-F ShownExpr ShownItem ShownQuery ShownRow ShownSource ShownLink
      ShownGrouping
      ShownSelect) →
      SameLayer (item_step (item_inside s (item_shown y)))
      (item_step (item_inside t (item_shown y)))
  item_layer (BoundFromItem-F.Comma f) = (λ h. ap after_comma (f.1 h), f.1)
  item_layer (BoundFromItem-F.Cross f) = (λ h. ap crossing (f.1 h), f.1)
  item_layer (BoundFromItem-F.Inner f on) = (
    λ h. let parts = halves (planned_from (source_by t f.0))
        (planned_all (exprs (map (expr_by t) (map (λ x. x.0) on)))) h in
        λ i. matching (f.1 parts.0 i) (exprs (exprs-same on parts.1 i)),
    f.1,
  )
  item_layer (BoundFromItem-F.Left f on) = (
    λ h. let parts = halves (planned_from (source_by t f.0))
        (planned_all (exprs (map (expr_by t) (map (λ x. x.0) on)))) h in
        λ i. matching_or_nulls (f.1 parts.0 i) (exprs (exprs-same on parts.1 i)),
    f.1,
  )

  query_layer : (y : BoundQuery-F ShownExpr ShownItem ShownQuery ShownRow ShownSource ShownLink
      ShownGrouping
      ShownSelect) →
      planned (query_step (query_inside t (query_shown y))) ≡ true →
      query_step (query_inside s (query_shown y)) ≡
      query_step (query_inside t (query_shown y))
  query_layer (BoundQuery-F.Select select) h = select.1 h
  query_layer (BoundQuery-F.Values rs) h =
      let whole = rows (map (row_by t) (map (λ x. x.0) rs)) in
      let parts = halves (all_even (rows_width whole) whole) (planned_rows whole) h in
      λ i. Values (rows (rows-same rs parts.1 i))
  query_layer (BoundQuery-F.Ordered q keys) h = λ i. Ordered (q.1 h i) keys

  row_layer : (y : BoundRow-F ShownExpr ShownItem ShownQuery ShownRow ShownSource ShownLink
      ShownGrouping
      ShownSelect) →
      planned_all (row_step (row_inside t (row_shown y))) ≡ true →
      row_step (row_inside s (row_shown y)) ≡ row_step (row_inside t (row_shown y))
  row_layer (BoundRow-F.Row es) h = ap exprs (exprs-same es h)

  source_layer : (y : BoundSource-F ShownExpr ShownItem ShownQuery ShownRow ShownSource ShownLink
      ShownGrouping
      ShownSelect) →
      planned_from (source_step (source_inside t (source_shown y))) ≡ true →
      source_step (source_inside s (source_shown y)) ≡
      source_step (source_inside t (source_shown y))
  source_layer (BoundSource-F.Table name) h = refl
  source_layer (BoundSource-F.Derived q) h = λ i. Derived (q.1 h i)

  link_layer : (y : BoundLink-F ShownExpr ShownItem ShownQuery ShownRow ShownSource ShownLink
      ShownGrouping
      ShownSelect) →
      planned_expr (link_step (link_inside t (link_shown y))).operand ≡ true →
      link_step (link_inside s (link_shown y)) ≡
      link_step (link_inside t (link_shown y))
  link_layer y h = λ i. record { operator = y.operator; operand = y.operand.1 h i }

  grouping_layer : (y : BoundGrouping-F ShownExpr ShownItem ShownQuery ShownRow ShownSource
      ShownLink ShownGrouping
      ShownSelect) →
      grouping_planned (grouping_step (grouping_inside t (grouping_shown y))) ≡ true →
      grouping_step (grouping_inside s (grouping_shown y)) ≡
      grouping_step (grouping_inside t (grouping_shown y))
  grouping_layer y h =
      let parts = halves (planned_all (exprs (map (expr_by t) (map (λ x. x.0) y.parts))))
      (planned_all (exprs (map (expr_by t) (map (λ x. x.0) y.having)))) h in
      λ i. record {
        keys = y.keys;
        parts = exprs (exprs-same y.parts parts.0 i);
        aggregates = y.aggregates;
        having = exprs (exprs-same y.having parts.1 i);
      }

  select_made : (items conjuncts : List ShownExpr) (from : List ShownItem)
      (g : Option ShownGrouping) →
      let y : BoundSelect-F ShownExpr ShownItem ShownQuery ShownRow ShownSource ShownLink
      ShownGrouping
      ShownSelect = record {
        items = items;
        from = from;
        conjuncts = conjuncts;
        grouping = g;
      } in
      planned (select_step (select_inside t (select_shown y))) ≡ true →
      select_step (select_inside s (select_shown y)) ≡
      select_step (select_inside t (select_shown y))
  select_made items conjuncts from None h =
      let listed = planned_all (exprs (map (expr_by t) (map (λ x. x.0) items))) in
      let tests = planned_all (exprs (map (expr_by t) (map (λ x. x.0) conjuncts))) in
      let tables = planned_from (from_of (map (item_by t) (map (λ x. x.0) from))) in
      let outer = halves listed (tables && tests) h in
      let inner = halves tables tests outer.1 in
      λ i. selected None (exprs (exprs-same items outer.0 i)) (from-same from inner.0 i)
      (exprs (exprs-same conjuncts inner.1 i))
  select_made items conjuncts from (Some g) h =
      let listed = planned_all (exprs (map (expr_by t) (map (λ x. x.0) items))) in
      let tests = planned_all (exprs (map (expr_by t) (map (λ x. x.0) conjuncts))) in
      let tables = planned_from (from_of (map (item_by t) (map (λ x. x.0) from))) in
      let parts = planned_all (grouping_by t g.0).parts in
      let having = planned_all (grouping_by t g.0).having in
      let first = halves tables (tests && (parts && (having && listed))) h in
      let second = halves tests (parts && (having && listed)) first.1 in
      let third = halves parts (having && listed) second.1 in
      let last = halves having listed third.1 in
      λ i. selected (Some (g.1 (both parts having third.0 last.0) i))
      (exprs (exprs-same items last.1 i)) (from-same from first.0 i)
      (exprs (exprs-same conjuncts second.0 i))

  -- ---- whole trees

  expr_whole : (y : BoundExpr-F ShownExpr ShownItem ShownQuery ShownRow ShownSource ShownLink
      ShownGrouping
      ShownSelect) →
      IsSame planned_expr expr_by (roll-BoundExpr (expr_shown y))
  expr_whole y h = expr_by-at s (expr_shown y) ∙
      expr_layer y (sym (ap planned_expr (expr_by-at t (expr_shown y))) ∙ h) ∙
      sym (expr_by-at t (expr_shown y))

  item_whole : (y : BoundFromItem-F ShownExpr ShownItem ShownQuery ShownRow ShownSource ShownLink
      ShownGrouping
      ShownSelect) → SameItem (roll-BoundFromItem (item_shown y))
  item_whole y =
      let seen = item_by-at s (item_shown y) in
      let stood = item_by-at t (item_shown y) in record {
        whole = λ h. seen ∙ (item_layer y).0 (sym (ap item_planned stood) ∙ h) ∙ sym stood;
        first = λ h. ap itself seen ∙
            (item_layer y).1 (sym (ap (λ i. planned_from (itself i)) stood) ∙ h) ∙
            sym (ap itself stood);
      }

  query_whole : (y : BoundQuery-F ShownExpr ShownItem ShownQuery ShownRow ShownSource ShownLink
      ShownGrouping
      ShownSelect) →
      IsSame planned query_by (roll-BoundQuery (query_shown y))
  query_whole y h = query_by-at s (query_shown y) ∙
      query_layer y (sym (ap planned (query_by-at t (query_shown y))) ∙ h) ∙
      sym (query_by-at t (query_shown y))

  row_whole : (y : BoundRow-F ShownExpr ShownItem ShownQuery ShownRow ShownSource ShownLink
      ShownGrouping
      ShownSelect) →
      IsSame planned_all row_by (roll-BoundRow (row_shown y))
  row_whole y h = row_by-at s (row_shown y) ∙
      row_layer y (sym (ap planned_all (row_by-at t (row_shown y))) ∙ h) ∙
      sym (row_by-at t (row_shown y))

  source_whole : (y : BoundSource-F ShownExpr ShownItem ShownQuery ShownRow ShownSource ShownLink
      ShownGrouping
      ShownSelect) →
      IsSame planned_from source_by (roll-BoundSource (source_shown y))
  source_whole y h = source_by-at s (source_shown y) ∙
      source_layer y (sym (ap planned_from (source_by-at t (source_shown y))) ∙ h) ∙
      sym (source_by-at t (source_shown y))

  link_whole : (y : BoundLink-F ShownExpr ShownItem ShownQuery ShownRow ShownSource ShownLink
      ShownGrouping
      ShownSelect) →
      IsSame (λ l. planned_expr l.operand) link_by (roll-BoundLink (link_shown y))
  link_whole y h = link_by-at s (link_shown y) ∙
      link_layer y (sym (ap (λ l. planned_expr l.operand) (link_by-at t (link_shown y))) ∙
      h) ∙
      sym (link_by-at t (link_shown y))

  grouping_whole : (y : BoundGrouping-F ShownExpr ShownItem ShownQuery ShownRow ShownSource
      ShownLink ShownGrouping
      ShownSelect) →
      IsSame grouping_planned grouping_by (roll-BoundGrouping (grouping_shown y))
  grouping_whole y h = grouping_by-at s (grouping_shown y) ∙
      grouping_layer y (sym (ap grouping_planned (grouping_by-at t (grouping_shown y))) ∙ h) ∙
      sym (grouping_by-at t (grouping_shown y))

  select_whole : (y : BoundSelect-F ShownExpr ShownItem ShownQuery ShownRow ShownSource ShownLink
      ShownGrouping
      ShownSelect) →
      IsSame planned select_by (roll-BoundSelect (select_shown y))
  select_whole y h = select_by-at s (select_shown y) ∙
      select_made y.items y.conjuncts y.from y.grouping (sym (ap planned (select_by-at t
      (select_shown y))) ∙ h) ∙
      sym (select_by-at t (select_shown y))

  pub expr-planned : (e : BoundExpr) → IsSame planned_expr expr_by e
  expr-planned =
      ind-BoundExpr
      (IsSame planned_expr expr_by)
      SameItem
      (IsSame planned query_by)
      (IsSame planned_all row_by)
      (IsSame planned_from source_by)
      (IsSame (λ l. planned_expr l.operand) link_by)
      (IsSame grouping_planned grouping_by)
      (IsSame planned select_by)
      (λ x y is. subst (λ z. IsSame planned_expr expr_by (roll-BoundExpr z)) is
      (expr_whole y))
      (λ x y is. subst (λ z. SameItem (roll-BoundFromItem z)) is
      (item_whole y))
      (λ x y is. subst (λ z. IsSame planned query_by (roll-BoundQuery z)) is
      (query_whole y))
      (λ x y is. subst (λ z. IsSame planned_all row_by (roll-BoundRow z)) is
      (row_whole y))
      (λ x y is. subst (λ z. IsSame planned_from source_by (roll-BoundSource z)) is
      (source_whole y))
      (λ x y is. subst (λ z. IsSame (λ l. planned_expr l.operand) link_by (roll-BoundLink
      z)) is
      (link_whole y))
      (λ x y is. subst (λ z. IsSame grouping_planned grouping_by (roll-BoundGrouping
      z)) is
      (grouping_whole y))
      (λ x y is. subst (λ z. IsSame planned select_by (roll-BoundSelect z)) is
      (select_whole y))

  pub query-planned : (q : BoundQuery) → IsSame planned query_by q
  query-planned =
      ind-BoundQuery
      (IsSame planned_expr expr_by)
      SameItem
      (IsSame planned query_by)
      (IsSame planned_all row_by)
      (IsSame planned_from source_by)
      (IsSame (λ l. planned_expr l.operand) link_by)
      (IsSame grouping_planned grouping_by)
      (IsSame planned select_by)
      (λ x y is. subst (λ z. IsSame planned_expr expr_by (roll-BoundExpr z)) is
      (expr_whole y))
      (λ x y is. subst (λ z. SameItem (roll-BoundFromItem z)) is
      (item_whole y))
      (λ x y is. subst (λ z. IsSame planned query_by (roll-BoundQuery z)) is
      (query_whole y))
      (λ x y is. subst (λ z. IsSame planned_all row_by (roll-BoundRow z)) is
      (row_whole y))
      (λ x y is. subst (λ z. IsSame planned_from source_by (roll-BoundSource z)) is
      (source_whole y))
      (λ x y is. subst (λ z. IsSame (λ l. planned_expr l.operand) link_by (roll-BoundLink
      z)) is
      (link_whole y))
      (λ x y is. subst (λ z. IsSame grouping_planned grouping_by (roll-BoundGrouping
      z)) is
      (grouping_whole y))
      (λ x y is. subst (λ z. IsSame planned select_by (roll-BoundSelect z)) is
      (select_whole y))

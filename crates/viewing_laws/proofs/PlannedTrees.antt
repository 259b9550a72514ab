-- What has a plan is seen as its plain tree, where a call of what has one is of what it stands for:
-- each function that it calls has one. By induction over the trees.
use Rattle.std.proofs.Common.{◌≡◌, ℕ, Bool, true, false, cond, ◌&&◌, List, [], ◌∷◌, map, length}
use Rattle.std.proofs.Common.{Option, None, Some, refl, sym, ap, ◌∙◌, subst, suc}
use Rattle.std.specs.List.{list_all}
use Rattle.bound_trees.specs.Operands.{takes}
use Rattle.bound_trees.specs.declared.expr.BoundExpr.{BoundExpr, roll-BoundExpr}
use Rattle.bound_trees.specs.declared.expr.BoundLink.{BoundLink, roll-BoundLink}
use Rattle.bound_trees.specs.declared.expr.BoundOperation.{BoundOperation}
use Rattle.bound_trees.specs.declared.query.BoundFromItem.{BoundFromItem, roll-BoundFromItem}
use Rattle.bound_trees.specs.declared.query.BoundGrouping.{BoundGrouping, roll-BoundGrouping}
use Rattle.bound_trees.specs.declared.query.BoundQuery.{BoundQuery, roll-BoundQuery}
use Rattle.bound_trees.specs.declared.query.BoundRow.{BoundRow, roll-BoundRow}
use Rattle.bound_trees.specs.declared.query.BoundSelect.{BoundSelect, roll-BoundSelect}
use Rattle.bound_trees.specs.declared.query.BoundSource.{BoundSource, roll-BoundSource}
use Rattle.bound_trees.specs.declared.expr.BoundExpr.TheOpen.{BoundExpr-F, BoundFromItem-F}
use Rattle.bound_trees.specs.declared.expr.BoundExpr.TheOpen.{BoundQuery-F, BoundRow-F}
use Rattle.bound_trees.specs.declared.expr.BoundExpr.TheOpen.{BoundSource-F, BoundLink-F}
use Rattle.bound_trees.specs.declared.expr.BoundExpr.TheOpen.{BoundGrouping-F, BoundSelect-F}
use Rattle.bound_trees.specs.declared.expr.BoundExpr.TheFolds.{map-BoundExpr, map-BoundFromItem}
use Rattle.bound_trees.specs.declared.expr.BoundExpr.TheFolds.{map-BoundQuery, map-BoundRow}
use Rattle.bound_trees.specs.declared.expr.BoundExpr.TheFolds.{map-BoundSource, map-BoundLink}
use Rattle.bound_trees.specs.declared.expr.BoundExpr.TheFolds.{map-BoundGrouping, map-BoundSelect}
use Rattle.bound_trees.specs.declared.expr.BoundExpr.TheFolds.{ind-BoundExpr, ind-BoundQuery}
use Rattle.sql_values.specs.declared.value.Value.TheVariants.{Null}
use Rattle.rel_algebra.specs.Joins.{rows_width}
use Rattle.rel_algebra.specs.Plain.{all_even, planned_expr, planned_links, planned_all}
use Rattle.rel_algebra.specs.Plain.{as_many, planned_routine, planned_rows, planned_from, planned}
use Rattle.rel_algebra.specs.Tree.{Expr, Exprs, From, Literal, Operate, And, Or, count}
use Rattle.rel_algebra.specs.Tree.{Coalesce, Case, Chain, Call, Single, Exists, In, Cross, Values}
use Rattle.rel_algebra.specs.Tree.{Ordered, Derived, Inner, LeftOuter}
use Rattle.catalog_store.specs.Catalog.{Catalog, routine_named}
use Rattle.catalog_store.specs.View.{Link, Grouping, Joining, Joined, Standing, over_all, as_and}
use Rattle.catalog_store.specs.View.{as_or, as_coalesce, as_case, as_case_of, standing, case_of}
use Rattle.catalog_store.specs.View.{stood, operated, links, exprs, rows, after_comma, crossing}
use Rattle.catalog_store.specs.View.{matching, matching_or_nulls, beside, closed, grown, all_grown}
use Rattle.catalog_store.specs.View.{itself, begun, from_of, selected, expr_step, item_step}
use Rattle.catalog_store.specs.View.{query_step, row_step, source_step, link_step, grouping_step}
use Rattle.catalog_store.specs.View.{select_step, tree_of, item_of, query_of, row_of, source_of}
use Rattle.catalog_store.specs.View.{link_of, grouping_of, select_of}
use Rattle.catalog_store.proofs.Layers as plain
use Rattle.catalog_store.proofs.Laws.{ExprLayer, ItemLayer, QueryLayer, RowLayer, SourceLayer}
use Rattle.catalog_store.proofs.Laws.{LinkLayer, GroupingLayer, SelectLayer}
use Rattle.routine_views.specs.Views.{Known, called, expr_node, expr_in, query_in}
use Rattle.viewing_laws.proofs.Layers.{item_in, row_in, source_in, link_in, grouping_in, select_in}
use Rattle.viewing_laws.proofs.Layers.{expr_seen, item_seen, query_seen, row_seen, source_seen}
use Rattle.viewing_laws.proofs.Layers.{link_seen, grouping_seen, select_seen, expr_in-at}
use Rattle.viewing_laws.proofs.Layers.{item_in-at, query_in-at, row_in-at, source_in-at}
use Rattle.viewing_laws.proofs.Layers.{link_in-at, grouping_in-at, select_in-at}

-- ---- what has a plan, part by part

halves : (b c : Bool) → (b && c) ≡ true → (b ≡ true) × (c ≡ true)
halves true c h = (refl, h)
halves false c h = absurd cc

both : (b c : Bool) → b ≡ true → c ≡ true → (b && c) ≡ true
both true c p q = q
both false c p q = p

exprs_planned : (es : List Expr) → planned_all (exprs es) ≡ list_all planned_expr es
exprs_planned [] = refl
exprs_planned (e ∷ es) = ap (λ b. planned_expr e && b) (exprs_planned es)

links_planned : (ls : List Link) →
    planned_links (links ls) ≡ list_all (λ l. planned_expr l.operand) ls
links_planned [] = refl
links_planned (l ∷ ls) = ap (λ b. planned_expr l.operand && b) (links_planned ls)

each_planned : (rs : List Exprs) → planned_rows (rows rs) ≡ list_all planned_all rs
each_planned [] = refl
each_planned (r ∷ rs) = ap (λ b. planned_all r && b) (each_planned rs)

-- an item of FROM has a plan
abbrev item_planned : Joining → Bool
item_planned (after_comma f) = planned_from f
item_planned (crossing f) = planned_from f
item_planned (matching f on) = planned_from f && planned_all on
item_planned (matching_or_nulls f on) = planned_from f && planned_all on

beside_planned : (before : Option From) (current : From) → planned_from (beside before current) ≡
    true →
    planned_from current ≡ true
beside_planned None current h = h
beside_planned (Some f) current h = (halves (planned_from f) (planned_from current) h).1

-- what is joined to what stands after the last comma
narrower : (before : Option From) (wide narrow : From) →
    (planned_from wide ≡ true → planned_from narrow ≡ true) →
    planned_from (beside before wide) ≡ true → planned_from (beside before narrow) ≡ true
narrower None wide narrow f h = f h
narrower (Some b) wide narrow f h =
    let parts = halves (planned_from b) (planned_from wide) h in
    both (planned_from b) (planned_from narrow) parts.0 (f parts.1)

grown_planned : (j : Joined) (i : Joining) → planned_from (closed (grown j i)) ≡ true →
    (planned_from (closed j) ≡ true) × (item_planned i ≡ true)
grown_planned j (after_comma f) h = halves (planned_from (closed j)) (planned_from f) h
grown_planned j (crossing f) h =
    let whole = beside_planned j.before (Cross j.current f) h in (
      narrower j.before (Cross j.current f) j.current
          (λ k. (halves (planned_from j.current) (planned_from f) k).0) h,
      (halves (planned_from j.current) (planned_from f) whole).1,
    )
grown_planned j (matching f on) h =
    let whole = beside_planned j.before (Inner j.current f on) h in (
      narrower j.before (Inner j.current f on) j.current
          (λ k. (halves (planned_from j.current) (planned_from f && planned_all on) k).0) h,
      (halves (planned_from j.current) (planned_from f && planned_all on) whole).1,
    )
grown_planned j (matching_or_nulls f on) h =
    let whole = beside_planned j.before (LeftOuter j.current f on) h in (
      narrower j.before (LeftOuter j.current f on) j.current
          (λ k. (halves (planned_from j.current) (planned_from f && planned_all on) k).0) h,
      (halves (planned_from j.current) (planned_from f && planned_all on) whole).1,
    )

all_planned : (j : Joined) (is : List Joining) → planned_from (closed (all_grown j is)) ≡ true →
    (planned_from (closed j) ≡ true) × (list_all item_planned is ≡ true)
all_planned j [] h = (h, refl)
all_planned j (i ∷ is) h =
    let rest = all_planned (grown j i) is h in
    let one = grown_planned j i rest.0 in
    (one.0, both (item_planned i) (list_all item_planned is) one.1 rest.1)

-- the parts of a grouping have plans
abbrev grouping_planned : Grouping → Bool
grouping_planned g = planned_all g.parts && planned_all g.having

-- ---- lists

-- each of which is the same where its plain tree has a plan
each-same : {A B : Type 0} {P : A → Type 0} (test : B → Bool) (s t : A → B) →
    ((x : A) → P x → test (t x) ≡ true → s x ≡ t x) → (xs : List ((x : A) × P x)) →
    list_all test (map t (map (λ x. x.0) xs)) ≡ true →
    map s (map (λ x. x.0) xs) ≡ map t (map (λ x. x.0) xs)
each-same test s t f [] h = refl
each-same test s t f (x ∷ xs) h =
    let parts = halves (test (t x.0)) (list_all test (map t (map (λ y. y.0) xs))) h in
    λ i. f x.0 x.1 parts.0 i ∷ each-same test s t f xs parts.1 i

as-many : {A B : Type 0} {P : A → Type 0} (s t : A → B) (xs : List ((x : A) × P x)) →
    length (map s (map (λ x. x.0) xs)) ≡ length (map t (map (λ x. x.0) xs))
as-many s t [] = refl
as-many s t (x ∷ xs) = ap suc (as-many s t xs)

-- a call of what has a plan is of what it stands for in the catalog
abbrev pub PlainCalls : Catalog → Known → Type 0
PlainCalls c k = (name : List ℕ) (args : Exprs) → planned_routine (routine_named name c) ≡ true →
    called k name args ≡ Call name (routine_named name c) args

module _ (c : Catalog) (k : Known) (agree : PlainCalls c k) where
  -- ---- trees

  -- a tree that is seen as its plain tree where that has a plan
  abbrev IsSame : {A B : Type 0} → (B → Bool) → (Known → A → B) → (Catalog → A → B) → A → Type 0
  IsSame test seen stood x = test (stood c x) ≡ true → seen k x ≡ stood c x

  -- an item of FROM, also where it is the first, and its ON joins it to nothing
  record SameItem (x : BoundFromItem) : Type 0 where
    pub whole : IsSame item_planned item_in item_of x
    pub first : planned_from (itself (item_of c x)) ≡ true →
        itself (item_in k x) ≡ itself (item_of c x)

  abbrev ShownExpr : Type 0
  ShownExpr = (x : BoundExpr) × IsSame planned_expr expr_in tree_of x

  abbrev ShownItem : Type 0
  ShownItem = (x : BoundFromItem) × SameItem x

  abbrev ShownQuery : Type 0
  ShownQuery = (x : BoundQuery) × IsSame planned query_in query_of x

  abbrev ShownRow : Type 0
  ShownRow = (x : BoundRow) × IsSame planned_all row_in row_of x

  abbrev ShownSource : Type 0
  ShownSource = (x : BoundSource) × IsSame planned_from source_in source_of x

  abbrev ShownLink : Type 0
  ShownLink = (x : BoundLink) × IsSame (λ l. planned_expr l.operand) link_in link_of x

  abbrev ShownGrouping : Type 0
  ShownGrouping = (x : BoundGrouping) × IsSame grouping_planned grouping_in grouping_of x

  abbrev ShownSelect : Type 0
  ShownSelect = (x : BoundSelect) × IsSame planned select_in select_of x

  abbrev expr_shown : BoundExpr-F ShownExpr ShownItem ShownQuery ShownRow ShownSource ShownLink
      ShownGrouping ShownSelect → ExprLayer
  expr_shown y = map-BoundExpr ShownExpr ShownItem ShownQuery ShownRow ShownSource ShownLink
      ShownGrouping ShownSelect BoundExpr BoundFromItem BoundQuery BoundRow BoundSource BoundLink
      BoundGrouping BoundSelect (λ x. x.0) (λ x. x.0) (λ x. x.0) (λ x. x.0) (λ x. x.0) (λ x. x.0)
      (λ x. x.0) (λ x. x.0) y

  abbrev item_shown : BoundFromItem-F ShownExpr ShownItem ShownQuery ShownRow ShownSource ShownLink
      ShownGrouping ShownSelect → ItemLayer
  item_shown y = map-BoundFromItem ShownExpr ShownItem ShownQuery ShownRow ShownSource ShownLink
      ShownGrouping ShownSelect BoundExpr BoundFromItem BoundQuery BoundRow BoundSource BoundLink
      BoundGrouping BoundSelect (λ x. x.0) (λ x. x.0) (λ x. x.0) (λ x. x.0) (λ x. x.0) (λ x. x.0)
      (λ x. x.0) (λ x. x.0) y

  abbrev query_shown : BoundQuery-F ShownExpr ShownItem ShownQuery ShownRow ShownSource ShownLink
      ShownGrouping ShownSelect → QueryLayer
  query_shown y = map-BoundQuery ShownExpr ShownItem ShownQuery ShownRow ShownSource ShownLink
      ShownGrouping ShownSelect BoundExpr BoundFromItem BoundQuery BoundRow BoundSource BoundLink
      BoundGrouping BoundSelect (λ x. x.0) (λ x. x.0) (λ x. x.0) (λ x. x.0) (λ x. x.0) (λ x. x.0)
      (λ x. x.0) (λ x. x.0) y

  abbrev row_shown : BoundRow-F ShownExpr ShownItem ShownQuery ShownRow ShownSource ShownLink
      ShownGrouping ShownSelect → RowLayer
  row_shown y = map-BoundRow ShownExpr ShownItem ShownQuery ShownRow ShownSource ShownLink
      ShownGrouping ShownSelect BoundExpr BoundFromItem BoundQuery BoundRow BoundSource BoundLink
      BoundGrouping BoundSelect (λ x. x.0) (λ x. x.0) (λ x. x.0) (λ x. x.0) (λ x. x.0) (λ x. x.0)
      (λ x. x.0) (λ x. x.0) y

  abbrev source_shown : BoundSource-F ShownExpr ShownItem ShownQuery ShownRow ShownSource ShownLink
      ShownGrouping ShownSelect → SourceLayer
  source_shown y = map-BoundSource ShownExpr ShownItem ShownQuery ShownRow ShownSource ShownLink
      ShownGrouping ShownSelect BoundExpr BoundFromItem BoundQuery BoundRow BoundSource BoundLink
      BoundGrouping BoundSelect (λ x. x.0) (λ x. x.0) (λ x. x.0) (λ x. x.0) (λ x. x.0) (λ x. x.0)
      (λ x. x.0) (λ x. x.0) y

  abbrev link_shown : BoundLink-F ShownExpr ShownItem ShownQuery ShownRow ShownSource ShownLink
      ShownGrouping ShownSelect → LinkLayer
  link_shown y = map-BoundLink ShownExpr ShownItem ShownQuery ShownRow ShownSource ShownLink
      ShownGrouping ShownSelect BoundExpr BoundFromItem BoundQuery BoundRow BoundSource BoundLink
      BoundGrouping BoundSelect (λ x. x.0) (λ x. x.0) (λ x. x.0) (λ x. x.0) (λ x. x.0) (λ x. x.0)
      (λ x. x.0) (λ x. x.0) y

  abbrev grouping_shown : BoundGrouping-F ShownExpr ShownItem ShownQuery ShownRow ShownSource
      ShownLink ShownGrouping ShownSelect → GroupingLayer
  grouping_shown y = map-BoundGrouping ShownExpr ShownItem ShownQuery ShownRow ShownSource ShownLink
      ShownGrouping ShownSelect BoundExpr BoundFromItem BoundQuery BoundRow BoundSource BoundLink
      BoundGrouping BoundSelect (λ x. x.0) (λ x. x.0) (λ x. x.0) (λ x. x.0) (λ x. x.0) (λ x. x.0)
      (λ x. x.0) (λ x. x.0) y

  abbrev select_shown : BoundSelect-F ShownExpr ShownItem ShownQuery ShownRow ShownSource ShownLink
      ShownGrouping ShownSelect → SelectLayer
  select_shown y = map-BoundSelect ShownExpr ShownItem ShownQuery ShownRow ShownSource ShownLink
      ShownGrouping ShownSelect BoundExpr BoundFromItem BoundQuery BoundRow BoundSource BoundLink
      BoundGrouping BoundSelect (λ x. x.0) (λ x. x.0) (λ x. x.0) (λ x. x.0) (λ x. x.0) (λ x. x.0)
      (λ x. x.0) (λ x. x.0) y

  -- ---- lists of parts

  exprs-same : (es : List ShownExpr) →
      planned_all (exprs (map (tree_of c) (map (λ x. x.0) es))) ≡ true →
      map (expr_in k) (map (λ x. x.0) es) ≡ map (tree_of c) (map (λ x. x.0) es)
  exprs-same es h = each-same planned_expr (expr_in k) (tree_of c) (λ x f. f) es
      (sym (exprs_planned (map (tree_of c) (map (λ x. x.0) es))) ∙ h)

  links-same : (ls : List ShownLink) →
      planned_links (links (map (link_of c) (map (λ x. x.0) ls))) ≡ true →
      map (link_in k) (map (λ x. x.0) ls) ≡ map (link_of c) (map (λ x. x.0) ls)
  links-same ls h =
      each-same (λ l. planned_expr l.operand) (link_in k) (link_of c) (λ x f. f) ls
      (sym (links_planned (map (link_of c) (map (λ x. x.0) ls))) ∙ h)

  rows-same : (rs : List ShownRow) →
      planned_rows (rows (map (row_of c) (map (λ x. x.0) rs))) ≡ true →
      map (row_in k) (map (λ x. x.0) rs) ≡ map (row_of c) (map (λ x. x.0) rs)
  rows-same rs h = each-same planned_all (row_in k) (row_of c) (λ x f. f) rs
      (sym (each_planned (map (row_of c) (map (λ x. x.0) rs))) ∙ h)

  from-same : (is : List ShownItem) →
      planned_from (from_of (map (item_of c) (map (λ x. x.0) is))) ≡ true →
      from_of (map (item_in k) (map (λ x. x.0) is)) ≡
      from_of (map (item_of c) (map (λ x. x.0) is))
  from-same [] h = refl
  from-same (x ∷ xs) h =
      let parts = all_planned (begun (item_of c x.0)) (map (item_of c) (map (λ y. y.0) xs)) h in
      λ i. closed (all_grown (record { before = None; current = x.1.first parts.0 i })
      (each-same item_planned (item_in k) (item_of c) (λ y f. f.whole) xs parts.1 i))

  -- ---- words

  stood-same : (w : Standing) (es : List ShownExpr) →
      planned_expr (stood w (map (tree_of c) (map (λ x. x.0) es))) ≡ true →
      stood w (map (expr_in k) (map (λ x. x.0) es)) ≡
      stood w (map (tree_of c) (map (λ x. x.0) es))
  stood-same (over_all operation) es h = λ i. Operate operation (exprs (exprs-same es h i))
  stood-same as_and es h = λ i. And (exprs (exprs-same es h i))
  stood-same as_or es h = λ i. Or (exprs (exprs-same es h i))
  stood-same as_coalesce es h = λ i. Coalesce (exprs (exprs-same es h i))
  stood-same as_case es h = λ i. Case (exprs (exprs-same es h i))
  stood-same as_case_of [] h = refl
  stood-same as_case_of (e ∷ []) h = refl
  stood-same as_case_of (e ∷ test ∷ []) h = refl
  stood-same as_case_of (e ∷ test ∷ result ∷ arms) h =
      ap case_of (exprs-same (e ∷ test ∷ result ∷ arms) h)

  operated-same : (w : BoundOperation) (es : List ShownExpr) →
      planned_expr (operated w (map (tree_of c) (map (λ x. x.0) es))) ≡ true →
      operated w (map (expr_in k) (map (λ x. x.0) es)) ≡
      operated w (map (tree_of c) (map (λ x. x.0) es))
  operated-same w es h = by (takes w (length (map (tree_of c) (map (λ x. x.0) es)))) refl h
    where
      many : takes w (length (map (expr_in k) (map (λ x. x.0) es))) ≡
          takes w (length (map (tree_of c) (map (λ x. x.0) es)))
      many = ap (takes w) (as-many (expr_in k) (tree_of c) es)

      by : (b : Bool) → takes w (length (map (tree_of c) (map (λ x. x.0) es))) ≡ b →
          planned_expr (cond b (stood (standing w) (map (tree_of c) (map (λ x. x.0) es)))
          (Literal Null)) ≡ true →
          operated w (map (expr_in k) (map (λ x. x.0) es)) ≡
          operated w (map (tree_of c) (map (λ x. x.0) es))
      by true q h = λ i. cond (many i) (stood-same (standing w) es h i) (Literal Null)
      by false q h =
          ap (λ b. cond b (stood (standing w) (map (expr_in k) (map (λ x. x.0) es)))
          (Literal Null)) (many ∙ q) ∙
          sym (ap (λ b. cond b (stood (standing w) (map (tree_of c) (map (λ x. x.0) es)))
          (Literal Null)) q)

  -- ---- one layer

  expr_layer : (y : BoundExpr-F ShownExpr ShownItem ShownQuery ShownRow ShownSource ShownLink
      ShownGrouping
      ShownSelect) →
      planned_expr (expr_step c (plain.expr_seen c (expr_shown y))) ≡ true →
      expr_node k (expr_seen k (expr_shown y)) ≡
      expr_step c (plain.expr_seen c (expr_shown y))
  expr_layer (BoundExpr-F.Literal v) h = refl
  expr_layer (BoundExpr-F.Column level i) h = refl
  expr_layer (BoundExpr-F.Variable i) h = refl
  expr_layer (BoundExpr-F.Operation word operands) h = operated-same word operands h
  expr_layer (BoundExpr-F.Chain first rest) h =
      let parts = halves (planned_expr (tree_of c first.0))
      (planned_links (links (map (link_of c) (map (λ x. x.0) rest)))) h in
      λ i. Chain (first.1 parts.0 i) (links (links-same rest parts.1 i))
  expr_layer (BoundExpr-F.Call name args) h =
      let r = routine_named name c in let es = exprs (map (tree_of c) (map (λ x. x.0) args)) in
      let parts = halves (planned_routine r) (planned_all es && as_many r (count es)) h in
      let planned_args = (halves (planned_all es) (as_many r (count es)) parts.1).0 in
      agree name (exprs (map (expr_in k) (map (λ x. x.0) args))) parts.0 ∙
      (λ i. Call name (routine_named name c) (exprs (exprs-same args planned_args i)))
  expr_layer (BoundExpr-F.Single q) h = λ i. Single (q.1 h i)
  expr_layer (BoundExpr-F.Exists q) h = λ i. Exists (q.1 h i)
  expr_layer (BoundExpr-F.In e q) h =
      let parts = halves (planned_expr (tree_of c e.0)) (planned (query_of c q.0)) h in
      λ i. In (e.1 parts.0 i) (q.1 parts.1 i)

  abbrev SameLayer : Joining → Joining → Type 0
  SameLayer s t = (item_planned t ≡ true → s ≡ t) ×
      (planned_from (itself t) ≡ true → itself s ≡ itself t)

  item_layer : (y : BoundFromItem-F ShownExpr ShownItem ShownQuery ShownRow ShownSource ShownLink
      ShownGrouping
      ShownSelect) →
      SameLayer (item_step (item_seen k (item_shown y)))
      (item_step (plain.item_seen c (item_shown y)))
  item_layer (BoundFromItem-F.Comma f) = (λ h. ap after_comma (f.1 h), f.1)
  item_layer (BoundFromItem-F.Cross f) = (λ h. ap crossing (f.1 h), f.1)
  item_layer (BoundFromItem-F.Inner f on) = (
    λ h. let parts = halves (planned_from (source_of c f.0))
        (planned_all (exprs (map (tree_of c) (map (λ x. x.0) on)))) h in
        λ i. matching (f.1 parts.0 i) (exprs (exprs-same on parts.1 i)),
    f.1,
  )
  item_layer (BoundFromItem-F.Left f on) = (
    λ h. let parts = halves (planned_from (source_of c f.0))
        (planned_all (exprs (map (tree_of c) (map (λ x. x.0) on)))) h in
        λ i. matching_or_nulls (f.1 parts.0 i) (exprs (exprs-same on parts.1 i)),
    f.1,
  )

  query_layer : (y : BoundQuery-F ShownExpr ShownItem ShownQuery ShownRow ShownSource ShownLink
      ShownGrouping
      ShownSelect) →
      planned (query_step (plain.query_seen c (query_shown y))) ≡ true →
      query_step (query_seen k (query_shown y)) ≡
      query_step (plain.query_seen c (query_shown y))
  query_layer (BoundQuery-F.Select select) h = select.1 h
  query_layer (BoundQuery-F.Values rs) h =
      let whole = rows (map (row_of c) (map (λ x. x.0) rs)) in
      let parts = halves (all_even (rows_width whole) whole) (planned_rows whole) h in
      λ i. Values (rows (rows-same rs parts.1 i))
  query_layer (BoundQuery-F.Ordered q keys) h = λ i. Ordered (q.1 h i) keys

  row_layer : (y : BoundRow-F ShownExpr ShownItem ShownQuery ShownRow ShownSource ShownLink
      ShownGrouping
      ShownSelect) →
      planned_all (row_step (plain.row_seen c (row_shown y))) ≡ true →
      row_step (row_seen k (row_shown y)) ≡ row_step (plain.row_seen c (row_shown y))
  row_layer (BoundRow-F.Row es) h = ap exprs (exprs-same es h)

  source_layer : (y : BoundSource-F ShownExpr ShownItem ShownQuery ShownRow ShownSource ShownLink
      ShownGrouping
      ShownSelect) →
      planned_from (source_step (plain.source_seen c (source_shown y))) ≡ true →
      source_step (source_seen k (source_shown y)) ≡
      source_step (plain.source_seen c (source_shown y))
  source_layer (BoundSource-F.Table name) h = refl
  source_layer (BoundSource-F.Derived q) h = λ i. Derived (q.1 h i)

  link_layer : (y : BoundLink-F ShownExpr ShownItem ShownQuery ShownRow ShownSource ShownLink
      ShownGrouping
      ShownSelect) →
      planned_expr (link_step (plain.link_seen c (link_shown y))).operand ≡ true →
      link_step (link_seen k (link_shown y)) ≡
      link_step (plain.link_seen c (link_shown y))
  link_layer y h = λ i. record { operator = y.operator; operand = y.operand.1 h i }

  grouping_layer : (y : BoundGrouping-F ShownExpr ShownItem ShownQuery ShownRow ShownSource
      ShownLink ShownGrouping
      ShownSelect) →
      grouping_planned (grouping_step (plain.grouping_seen c (grouping_shown y))) ≡ true →
      grouping_step (grouping_seen k (grouping_shown y)) ≡
      grouping_step (plain.grouping_seen c (grouping_shown y))
  grouping_layer y h =
      let parts = halves (planned_all (exprs (map (tree_of c) (map (λ x. x.0) y.parts))))
      (planned_all (exprs (map (tree_of c) (map (λ x. x.0) y.having)))) h in
      λ i. record {
        keys = y.keys;
        parts = exprs (exprs-same y.parts parts.0 i);
        aggregates = y.aggregates;
        having = exprs (exprs-same y.having parts.1 i);
      }

  select_made : (items conjuncts : List ShownExpr) (from : List ShownItem)
      (g : Option ShownGrouping) →
      let y : BoundSelect-F ShownExpr ShownItem ShownQuery ShownRow ShownSource ShownLink
      ShownGrouping
      ShownSelect = record {
        items = items;
        from = from;
        conjuncts = conjuncts;
        grouping = g;
      } in
      planned (select_step (plain.select_seen c (select_shown y))) ≡ true →
      select_step (select_seen k (select_shown y)) ≡
      select_step (plain.select_seen c (select_shown y))
  select_made items conjuncts from None h =
      let listed = planned_all (exprs (map (tree_of c) (map (λ x. x.0) items))) in
      let tests = planned_all (exprs (map (tree_of c) (map (λ x. x.0) conjuncts))) in
      let tables = planned_from (from_of (map (item_of c) (map (λ x. x.0) from))) in
      let outer = halves listed (tables && tests) h in
      let inner = halves tables tests outer.1 in
      λ i. selected None (exprs (exprs-same items outer.0 i)) (from-same from inner.0 i)
      (exprs (exprs-same conjuncts inner.1 i))
  select_made items conjuncts from (Some g) h =
      let listed = planned_all (exprs (map (tree_of c) (map (λ x. x.0) items))) in
      let tests = planned_all (exprs (map (tree_of c) (map (λ x. x.0) conjuncts))) in
      let tables = planned_from (from_of (map (item_of c) (map (λ x. x.0) from))) in
      let parts = planned_all (grouping_of c g.0).parts in
      let having = planned_all (grouping_of c g.0).having in
      let first = halves tables (tests && (parts && (having && listed))) h in
      let second = halves tests (parts && (having && listed)) first.1 in
      let third = halves parts (having && listed) second.1 in
      let last = halves having listed third.1 in
      λ i. selected (Some (g.1 (both parts having third.0 last.0) i))
      (exprs (exprs-same items last.1 i)) (from-same from first.0 i)
      (exprs (exprs-same conjuncts second.0 i))

  -- ---- whole trees

  expr_whole : (y : BoundExpr-F ShownExpr ShownItem ShownQuery ShownRow ShownSource ShownLink
      ShownGrouping
      ShownSelect) →
      IsSame planned_expr expr_in tree_of (roll-BoundExpr (expr_shown y))
  expr_whole y h = expr_in-at k (expr_shown y) ∙
      expr_layer y (sym (ap planned_expr (plain.tree_of-at c (expr_shown y))) ∙ h) ∙
      sym (plain.tree_of-at c (expr_shown y))

  item_whole : (y : BoundFromItem-F ShownExpr ShownItem ShownQuery ShownRow ShownSource ShownLink
      ShownGrouping
      ShownSelect) → SameItem (roll-BoundFromItem (item_shown y))
  item_whole y =
      let seen = item_in-at k (item_shown y) in
      let stood = plain.item_of-at c (item_shown y) in record {
        whole = λ h. seen ∙ (item_layer y).0 (sym (ap item_planned stood) ∙ h) ∙ sym stood;
        first = λ h. ap itself seen ∙
            (item_layer y).1 (sym (ap (λ i. planned_from (itself i)) stood) ∙ h) ∙
            sym (ap itself stood);
      }

  query_whole : (y : BoundQuery-F ShownExpr ShownItem ShownQuery ShownRow ShownSource ShownLink
      ShownGrouping
      ShownSelect) →
      IsSame planned query_in query_of (roll-BoundQuery (query_shown y))
  query_whole y h = query_in-at k (query_shown y) ∙
      query_layer y (sym (ap planned (plain.query_of-at c (query_shown y))) ∙ h) ∙
      sym (plain.query_of-at c (query_shown y))

  row_whole : (y : BoundRow-F ShownExpr ShownItem ShownQuery ShownRow ShownSource ShownLink
      ShownGrouping
      ShownSelect) →
      IsSame planned_all row_in row_of (roll-BoundRow (row_shown y))
  row_whole y h = row_in-at k (row_shown y) ∙
      row_layer y (sym (ap planned_all (plain.row_of-at c (row_shown y))) ∙ h) ∙
      sym (plain.row_of-at c (row_shown y))

  source_whole : (y : BoundSource-F ShownExpr ShownItem ShownQuery ShownRow ShownSource ShownLink
      ShownGrouping
      ShownSelect) →
      IsSame planned_from source_in source_of (roll-BoundSource (source_shown y))
  source_whole y h = source_in-at k (source_shown y) ∙
      source_layer y (sym (ap planned_from (plain.source_of-at c (source_shown y))) ∙ h) ∙
      sym (plain.source_of-at c (source_shown y))

  link_whole : (y : BoundLink-F ShownExpr ShownItem ShownQuery ShownRow ShownSource ShownLink
      ShownGrouping
      ShownSelect) →
      IsSame (λ l. planned_expr l.operand) link_in link_of (roll-BoundLink (link_shown y))
  link_whole y h = link_in-at k (link_shown y) ∙
      link_layer y (sym (ap (λ l. planned_expr l.operand) (plain.link_of-at c (link_shown y))) ∙
      h) ∙
      sym (plain.link_of-at c (link_shown y))

  grouping_whole : (y : BoundGrouping-F ShownExpr ShownItem ShownQuery ShownRow ShownSource
      ShownLink ShownGrouping
      ShownSelect) →
      IsSame grouping_planned grouping_in grouping_of (roll-BoundGrouping (grouping_shown y))
  grouping_whole y h = grouping_in-at k (grouping_shown y) ∙
      grouping_layer y (sym (ap grouping_planned (plain.grouping_of-at c (grouping_shown y))) ∙ h) ∙
      sym (plain.grouping_of-at c (grouping_shown y))

  select_whole : (y : BoundSelect-F ShownExpr ShownItem ShownQuery ShownRow ShownSource ShownLink
      ShownGrouping
      ShownSelect) →
      IsSame planned select_in select_of (roll-BoundSelect (select_shown y))
  select_whole y h = select_in-at k (select_shown y) ∙
      select_made y.items y.conjuncts y.from y.grouping (sym (ap planned (plain.select_of-at c
      (select_shown y))) ∙ h) ∙
      sym (plain.select_of-at c (select_shown y))

  pub expr-planned : (e : BoundExpr) → IsSame planned_expr expr_in tree_of e
  expr-planned =
      ind-BoundExpr
      (IsSame planned_expr expr_in tree_of)
      SameItem
      (IsSame planned query_in query_of)
      (IsSame planned_all row_in row_of)
      (IsSame planned_from source_in source_of)
      (IsSame (λ l. planned_expr l.operand) link_in link_of)
      (IsSame grouping_planned grouping_in grouping_of)
      (IsSame planned select_in select_of)
      (λ x y is. subst (λ z. IsSame planned_expr expr_in tree_of (roll-BoundExpr z)) is
      (expr_whole y))
      (λ x y is. subst (λ z. SameItem (roll-BoundFromItem z)) is
      (item_whole y))
      (λ x y is. subst (λ z. IsSame planned query_in query_of (roll-BoundQuery z)) is
      (query_whole y))
      (λ x y is. subst (λ z. IsSame planned_all row_in row_of (roll-BoundRow z)) is
      (row_whole y))
      (λ x y is. subst (λ z. IsSame planned_from source_in source_of (roll-BoundSource z)) is
      (source_whole y))
      (λ x y is. subst (λ z. IsSame (λ l. planned_expr l.operand) link_in link_of (roll-BoundLink
      z)) is
      (link_whole y))
      (λ x y is. subst (λ z. IsSame grouping_planned grouping_in grouping_of (roll-BoundGrouping
      z)) is
      (grouping_whole y))
      (λ x y is. subst (λ z. IsSame planned select_in select_of (roll-BoundSelect z)) is
      (select_whole y))

  pub query-planned : (q : BoundQuery) → IsSame planned query_in query_of q
  query-planned =
      ind-BoundQuery
      (IsSame planned_expr expr_in tree_of)
      SameItem
      (IsSame planned query_in query_of)
      (IsSame planned_all row_in row_of)
      (IsSame planned_from source_in source_of)
      (IsSame (λ l. planned_expr l.operand) link_in link_of)
      (IsSame grouping_planned grouping_in grouping_of)
      (IsSame planned select_in select_of)
      (λ x y is. subst (λ z. IsSame planned_expr expr_in tree_of (roll-BoundExpr z)) is
      (expr_whole y))
      (λ x y is. subst (λ z. SameItem (roll-BoundFromItem z)) is
      (item_whole y))
      (λ x y is. subst (λ z. IsSame planned query_in query_of (roll-BoundQuery z)) is
      (query_whole y))
      (λ x y is. subst (λ z. IsSame planned_all row_in row_of (roll-BoundRow z)) is
      (row_whole y))
      (λ x y is. subst (λ z. IsSame planned_from source_in source_of (roll-BoundSource z)) is
      (source_whole y))
      (λ x y is. subst (λ z. IsSame (λ l. planned_expr l.operand) link_in link_of (roll-BoundLink
      z)) is
      (link_whole y))
      (λ x y is. subst (λ z. IsSame grouping_planned grouping_in grouping_of (roll-BoundGrouping
      z)) is
      (grouping_whole y))
      (λ x y is. subst (λ z. IsSame planned select_in select_of (roll-BoundSelect z)) is
      (select_whole y))

-- The plan of a bound tree lasts while what the tree uses does.
use Rattle.std.proofs.Common.{◌≡◌, ℕ, Bool, true, false, if◌then◌else◌, List, [], ◌∷◌, ◌++◌, map}
use Rattle.std.proofs.Common.{length, Option, None, Some, sym, subst}
use Rattle.std.specs.List.{AllByRecursion}
use Rattle.bound_trees.specs.declared.expr.BoundExpr.{BoundExpr, roll-BoundExpr}
use Rattle.bound_trees.specs.declared.expr.BoundLink.{BoundLink, roll-BoundLink}
use Rattle.bound_trees.specs.declared.query.BoundFromItem.{BoundFromItem, roll-BoundFromItem}
use Rattle.bound_trees.specs.declared.query.BoundGrouping.{BoundGrouping, roll-BoundGrouping}
use Rattle.bound_trees.specs.declared.query.BoundQuery.{BoundQuery, roll-BoundQuery}
use Rattle.bound_trees.specs.declared.query.BoundRow.{BoundRow, roll-BoundRow}
use Rattle.bound_trees.specs.declared.query.BoundSelect.{BoundSelect, roll-BoundSelect}
use Rattle.bound_trees.specs.declared.query.BoundSource.{BoundSource, roll-BoundSource}
use Rattle.bound_trees.specs.declared.expr.BoundExpr.TheOpen.{BoundExpr-F, BoundFromItem-F}
use Rattle.bound_trees.specs.declared.expr.BoundExpr.TheOpen.{BoundQuery-F, BoundRow-F}
use Rattle.bound_trees.specs.declared.expr.BoundExpr.TheOpen.{BoundSource-F, BoundLink-F}
use Rattle.bound_trees.specs.declared.expr.BoundExpr.TheOpen.{BoundGrouping-F, BoundSelect-F}
use Rattle.bound_trees.specs.declared.expr.BoundExpr.TheFolds.{map-BoundExpr, map-BoundFromItem}
use Rattle.bound_trees.specs.declared.expr.BoundExpr.TheFolds.{map-BoundQuery, map-BoundRow}
use Rattle.bound_trees.specs.declared.expr.BoundExpr.TheFolds.{map-BoundSource, map-BoundLink}
use Rattle.bound_trees.specs.declared.expr.BoundExpr.TheFolds.{map-BoundGrouping, map-BoundSelect}
use Rattle.bound_trees.specs.declared.expr.BoundExpr.TheFolds.{ind-BoundExpr, ind-BoundQuery}
use Rattle.bound_trees.specs.Operands.{takes}
use Rattle.bound_trees.specs.declared.expr.BoundOperation.{BoundOperation}
use Rattle.sql_values.specs.declared.value.Value.TheVariants.{Null}
use Rattle.rel_algebra.specs.Tree.{Expr, Exprs, From, Query, Literal}
use Rattle.rel_algebra.specs.Lasting.{Lasts, LinksLast, AllLast, RoutineLasts, RowsLast, FromLasts}
use Rattle.rel_algebra.specs.Lasting.{QueryLasts}
use Rattle.catalog_store.specs.Catalog.{Catalog, routine_named}
use Rattle.catalog_store.specs.Uses.{Use, calls, reads, Uses, joined, expr_uses, item_uses}
use Rattle.catalog_store.specs.Uses.{query_uses, row_uses, source_uses, link_uses, grouping_uses}
use Rattle.catalog_store.specs.Uses.{select_uses, uses_in, uses_in_item, uses_in_query, uses_in_row}
use Rattle.catalog_store.specs.Uses.{uses_in_source, uses_in_link, uses_in_grouping, uses_in_select}
use Rattle.catalog_store.specs.View.{Joining, Joined, Grouping, Link, Standing, over_all, as_and}
use Rattle.catalog_store.specs.View.{as_or, as_coalesce, as_case, as_case_of, standing, case_of}
use Rattle.catalog_store.specs.View.{stood, operated, links, exprs, rows, after_comma, crossing}
use Rattle.catalog_store.specs.View.{matching, matching_or_nulls, beside, grown, all_grown, itself}
use Rattle.catalog_store.specs.View.{begun, from_of, expr_step, item_step, query_step, row_step}
use Rattle.catalog_store.specs.View.{source_step, link_step, grouping_step, select_step, tree_of}
use Rattle.catalog_store.specs.View.{item_of, query_of, row_of, source_of, link_of, grouping_of}
use Rattle.catalog_store.specs.View.{select_of}
use Rattle.catalog_store.proofs.Layers.{ExprLayer, ItemLayer, QueryLayer, RowLayer, SourceLayer}
use Rattle.catalog_store.proofs.Layers.{LinkLayer, GroupingLayer, SelectLayer, expr_used, item_used}
use Rattle.catalog_store.proofs.Layers.{query_used, row_used, source_used, link_used, grouping_used}
use Rattle.catalog_store.proofs.Layers.{select_used, expr_uses-at, item_uses-at, query_uses-at}
use Rattle.catalog_store.proofs.Layers.{row_uses-at, source_uses-at, link_uses-at, grouping_uses-at}
use Rattle.catalog_store.proofs.Layers.{select_uses-at, expr_seen, item_seen, query_seen, row_seen}
use Rattle.catalog_store.proofs.Layers.{source_seen, link_seen, grouping_seen, select_seen}
use Rattle.catalog_store.proofs.Layers.{tree_of-at, item_of-at, query_of-at, row_of-at}
use Rattle.catalog_store.proofs.Layers.{source_of-at, link_of-at, grouping_of-at, select_of-at}

-- what is used has the same plan by S as by R
abbrev pub UseLasts : Catalog → (List ℕ → ℕ) → (List ℕ → ℕ) → Use → Type 0
UseLasts known S R (calls name n) = RoutineLasts (routine_named name known) S R
UseLasts known S R (reads name) = S name ≡ R name

abbrev pub UsesLast : Catalog → (List ℕ → ℕ) → (List ℕ → ℕ) → Uses → Type 0
UsesLast known S R [] = Unit {0}
UsesLast known S R (u ∷ us) = UseLasts known S R u × UsesLast known S R us

module _ (known : Catalog) (S R : List ℕ → ℕ) where
  -- ---- parts of plain trees

  abbrev LastingExpr : Expr → Type 0
  LastingExpr x = Lasts x S R

  abbrev LastingList : Exprs → Type 0
  LastingList es = AllLast es S R

  abbrev LastingQuery : Query → Type 0
  LastingQuery q = QueryLasts q S R

  abbrev LastingFrom : From → Type 0
  LastingFrom f = FromLasts f S R

  abbrev LastingLink : Link → Type 0
  LastingLink l = Lasts l.operand S R

  abbrev LastingGrouping : Grouping → Type 0
  LastingGrouping g = AllLast g.parts S R × AllLast g.having S R

  abbrev LastingItem : Joining → Type 0
  LastingItem (after_comma f) = FromLasts f S R
  LastingItem (crossing f) = FromLasts f S R
  LastingItem (matching f on) = FromLasts f S R × AllLast on S R
  LastingItem (matching_or_nulls f on) = FromLasts f S R × AllLast on S R

  exprs_last : (es : List Expr) → AllByRecursion LastingExpr es → AllLast (exprs es) S R
  exprs_last [] h = tt
  exprs_last (e ∷ es) h = (h.0, exprs_last es h.1)

  links_last : (ls : List Link) → AllByRecursion LastingLink ls → LinksLast (links ls) S R
  links_last [] h = tt
  links_last (l ∷ ls) h = (h.0, links_last ls h.1)

  rows_last : (rs : List Exprs) → AllByRecursion LastingList rs → RowsLast (rows rs) S R
  rows_last [] h = tt
  rows_last (r ∷ rs) h = (h.0, rows_last rs h.1)

  -- ---- words

  case_of_lasts : (es : List Expr) → AllLast (exprs es) S R → Lasts (case_of es) S R
  case_of_lasts (e ∷ test ∷ result ∷ arms) h = (h.0, h.1.0, h.1.1.0, h.1.1.1)
  case_of_lasts _ h = tt

  stood_lasts : (w : Standing) (es : List Expr) → AllLast (exprs es) S R → Lasts (stood w es) S R
  stood_lasts (over_all operation) es h = h
  stood_lasts as_and es h = h
  stood_lasts as_or es h = h
  stood_lasts as_coalesce es h = h
  stood_lasts as_case es h = h
  stood_lasts as_case_of es h = case_of_lasts es h

  operated_lasts : (w : BoundOperation) (es : List Expr) → AllLast (exprs es) S R →
      Lasts (operated w es) S R
  operated_lasts w es h = by (takes w (length es))
    where
      by : (b : Bool) → Lasts (if b then stood (standing w) es else Literal Null) S R
      by true = stood_lasts (standing w) es h
      by false = tt

  -- ---- FROM

  abbrev LastingBefore : Option From → Type 0
  LastingBefore None = Unit {0}
  LastingBefore (Some f) = FromLasts f S R

  abbrev LastingJoined : Joined → Type 0
  LastingJoined j = LastingBefore j.before × FromLasts j.current S R

  beside_lasts : (before : Option From) (current : From) → LastingBefore before →
      FromLasts current S R → FromLasts (beside before current) S R
  beside_lasts None current h k = k
  beside_lasts (Some f) current h k = (h, k)

  grown_lasts : (j : Joined) (i : Joining) → LastingJoined j → LastingItem i →
      LastingJoined (grown j i)
  grown_lasts j (after_comma f) h k = (beside_lasts j.before j.current h.0 h.1, k)
  grown_lasts j (crossing f) h k = (h.0, (h.1, k))
  grown_lasts j (matching f on) h k = (h.0, (h.1, k.0, k.1))
  grown_lasts j (matching_or_nulls f on) h k = (h.0, (h.1, k.0, k.1))

  all_grown_last : (j : Joined) (is : List Joining) → LastingJoined j →
      AllByRecursion LastingItem is → LastingJoined (all_grown j is)
  all_grown_last j [] h k = h
  all_grown_last j (i ∷ is) h k = all_grown_last (grown j i) is (grown_lasts j i h k.0) k.1

  itself_lasts : (i : Joining) → LastingItem i → FromLasts (itself i) S R
  itself_lasts (after_comma f) h = h
  itself_lasts (crossing f) h = h
  itself_lasts (matching f on) h = h.0
  itself_lasts (matching_or_nulls f on) h = h.0

  from_of_lasts : (is : List Joining) → AllByRecursion LastingItem is → FromLasts (from_of is) S R
  from_of_lasts [] h = tt
  from_of_lasts (i ∷ is) h =
      let j = all_grown (begun i) is in
      let k = all_grown_last (begun i) is (tt, itself_lasts i h.0) h.1 in
      beside_lasts j.before j.current k.0 k.1

  -- ---- what holds of a tree holds where its uses last

  front : (xs ys : Uses) → UsesLast known S R (xs ++ ys) → UsesLast known S R xs
  front [] ys s = tt
  front (x ∷ xs) ys s = (s.0, front xs ys s.1)

  back : (xs ys : Uses) → UsesLast known S R (xs ++ ys) → UsesLast known S R ys
  back [] ys s = s
  back (x ∷ xs) ys s = back xs ys s.1

  abbrev IsLasting : {A B : Type 0} → (A → Uses) → (Catalog → A → B) → (B → Type 0) → A → Type 0
  IsLasting uses seen Holds x = UsesLast known S R (uses x) → Holds (seen known x)

  last_each : {A B : Type 0} (uses : A → Uses) (seen : Catalog → A → B) (Holds : B → Type 0)
      (xs : List ((x : A) × IsLasting uses seen Holds x)) →
      UsesLast known S R (joined (map uses (map (λ x. x.0) xs))) →
      AllByRecursion Holds (map (seen known) (map (λ x. x.0) xs))
  last_each uses seen Holds [] s = tt
  last_each uses seen Holds (x ∷ xs) s =
      let rest = joined (map uses (map (λ y. y.0) xs)) in
      (x.1 (front (uses x.0) rest s), last_each uses seen Holds xs (back (uses x.0) rest s))

  abbrev ShownExpr : Type 0
  ShownExpr = (x : BoundExpr) × IsLasting uses_in tree_of LastingExpr x

  abbrev ShownItem : Type 0
  ShownItem = (x : BoundFromItem) × IsLasting uses_in_item item_of LastingItem x

  abbrev ShownQuery : Type 0
  ShownQuery = (x : BoundQuery) × IsLasting uses_in_query query_of LastingQuery x

  abbrev ShownRow : Type 0
  ShownRow = (x : BoundRow) × IsLasting uses_in_row row_of LastingList x

  abbrev ShownSource : Type 0
  ShownSource = (x : BoundSource) × IsLasting uses_in_source source_of LastingFrom x

  abbrev ShownLink : Type 0
  ShownLink = (x : BoundLink) × IsLasting uses_in_link link_of LastingLink x

  abbrev ShownGrouping : Type 0
  ShownGrouping = (x : BoundGrouping) × IsLasting uses_in_grouping grouping_of LastingGrouping x

  abbrev ShownSelect : Type 0
  ShownSelect = (x : BoundSelect) × IsLasting uses_in_select select_of LastingQuery x

  shown_exprs : (es : List ShownExpr) → UsesLast known S R
      (joined (map uses_in (map (λ x. x.0) es))) →
      AllLast (exprs (map (tree_of known) (map (λ x. x.0) es))) S R
  shown_exprs es s = exprs_last (map (tree_of known) (map (λ x. x.0) es))
      (last_each uses_in tree_of LastingExpr es s)

  abbrev expr_shown : BoundExpr-F ShownExpr ShownItem ShownQuery ShownRow ShownSource ShownLink
      ShownGrouping ShownSelect → ExprLayer
  expr_shown y = map-BoundExpr ShownExpr ShownItem ShownQuery ShownRow ShownSource ShownLink
      ShownGrouping ShownSelect BoundExpr BoundFromItem BoundQuery BoundRow BoundSource BoundLink
      BoundGrouping BoundSelect (λ x. x.0) (λ x. x.0) (λ x. x.0) (λ x. x.0) (λ x. x.0) (λ x. x.0)
      (λ x. x.0) (λ x. x.0) y

  abbrev item_shown : BoundFromItem-F ShownExpr ShownItem ShownQuery ShownRow ShownSource ShownLink
      ShownGrouping ShownSelect → ItemLayer
  item_shown y = map-BoundFromItem ShownExpr ShownItem ShownQuery ShownRow ShownSource ShownLink
      ShownGrouping ShownSelect BoundExpr BoundFromItem BoundQuery BoundRow BoundSource BoundLink
      BoundGrouping BoundSelect (λ x. x.0) (λ x. x.0) (λ x. x.0) (λ x. x.0) (λ x. x.0) (λ x. x.0)
      (λ x. x.0) (λ x. x.0) y

  abbrev query_shown : BoundQuery-F ShownExpr ShownItem ShownQuery ShownRow ShownSource ShownLink
      ShownGrouping ShownSelect → QueryLayer
  query_shown y = map-BoundQuery ShownExpr ShownItem ShownQuery ShownRow ShownSource ShownLink
      ShownGrouping ShownSelect BoundExpr BoundFromItem BoundQuery BoundRow BoundSource BoundLink
      BoundGrouping BoundSelect (λ x. x.0) (λ x. x.0) (λ x. x.0) (λ x. x.0) (λ x. x.0) (λ x. x.0)
      (λ x. x.0) (λ x. x.0) y

  abbrev row_shown : BoundRow-F ShownExpr ShownItem ShownQuery ShownRow ShownSource ShownLink
      ShownGrouping ShownSelect → RowLayer
  row_shown y = map-BoundRow ShownExpr ShownItem ShownQuery ShownRow ShownSource ShownLink
      ShownGrouping ShownSelect BoundExpr BoundFromItem BoundQuery BoundRow BoundSource BoundLink
      BoundGrouping BoundSelect (λ x. x.0) (λ x. x.0) (λ x. x.0) (λ x. x.0) (λ x. x.0) (λ x. x.0)
      (λ x. x.0) (λ x. x.0) y

  abbrev source_shown : BoundSource-F ShownExpr ShownItem ShownQuery ShownRow ShownSource ShownLink
      ShownGrouping ShownSelect → SourceLayer
  source_shown y = map-BoundSource ShownExpr ShownItem ShownQuery ShownRow ShownSource ShownLink
      ShownGrouping ShownSelect BoundExpr BoundFromItem BoundQuery BoundRow BoundSource BoundLink
      BoundGrouping BoundSelect (λ x. x.0) (λ x. x.0) (λ x. x.0) (λ x. x.0) (λ x. x.0) (λ x. x.0)
      (λ x. x.0) (λ x. x.0) y

  abbrev link_shown : BoundLink-F ShownExpr ShownItem ShownQuery ShownRow ShownSource ShownLink
      ShownGrouping ShownSelect → LinkLayer
  link_shown y = map-BoundLink ShownExpr ShownItem ShownQuery ShownRow ShownSource ShownLink
      ShownGrouping ShownSelect BoundExpr BoundFromItem BoundQuery BoundRow BoundSource BoundLink
      BoundGrouping BoundSelect (λ x. x.0) (λ x. x.0) (λ x. x.0) (λ x. x.0) (λ x. x.0) (λ x. x.0)
      (λ x. x.0) (λ x. x.0) y

  abbrev grouping_shown : BoundGrouping-F ShownExpr ShownItem ShownQuery ShownRow ShownSource
      ShownLink ShownGrouping ShownSelect → GroupingLayer
  grouping_shown y = map-BoundGrouping ShownExpr ShownItem ShownQuery ShownRow ShownSource ShownLink
      ShownGrouping ShownSelect BoundExpr BoundFromItem BoundQuery BoundRow BoundSource BoundLink
      BoundGrouping BoundSelect (λ x. x.0) (λ x. x.0) (λ x. x.0) (λ x. x.0) (λ x. x.0) (λ x. x.0)
      (λ x. x.0) (λ x. x.0) y

  abbrev select_shown : BoundSelect-F ShownExpr ShownItem ShownQuery ShownRow ShownSource ShownLink
      ShownGrouping ShownSelect → SelectLayer
  select_shown y = map-BoundSelect ShownExpr ShownItem ShownQuery ShownRow ShownSource ShownLink
      ShownGrouping ShownSelect BoundExpr BoundFromItem BoundQuery BoundRow BoundSource BoundLink
      BoundGrouping BoundSelect (λ x. x.0) (λ x. x.0) (λ x. x.0) (λ x. x.0) (λ x. x.0) (λ x. x.0)
      (λ x. x.0) (λ x. x.0) y

  -- ---- one layer

  expr_layer : (y : BoundExpr-F ShownExpr ShownItem ShownQuery ShownRow ShownSource ShownLink
      ShownGrouping ShownSelect) → UsesLast known S R (expr_uses (expr_used (expr_shown y))) →
      LastingExpr (expr_step known (expr_seen known (expr_shown y)))
  expr_layer (BoundExpr-F.Literal v) s = tt
  expr_layer (BoundExpr-F.Column level i) s = tt
  expr_layer (BoundExpr-F.Variable i) s = tt
  expr_layer (BoundExpr-F.Operation word operands) s =
      operated_lasts word (map (tree_of known) (map (λ x. x.0) operands)) (shown_exprs operands s)
  expr_layer (BoundExpr-F.Chain first rest) s =
      let others = joined (map uses_in_link (map (λ x. x.0) rest)) in (
        first.1 (front (uses_in first.0) others s),
        links_last
            (map (link_of known) (map (λ x. x.0) rest))
            (last_each uses_in_link link_of LastingLink rest (back (uses_in first.0) others s)),
      )
  expr_layer (BoundExpr-F.Call name args) s = (s.0, shown_exprs args s.1)
  expr_layer (BoundExpr-F.Single q) s = q.1 s
  expr_layer (BoundExpr-F.Exists q) s = q.1 s
  expr_layer (BoundExpr-F.In e q) s = (
    e.1 (front (uses_in e.0) (uses_in_query q.0) s),
    q.1
        (back (uses_in e.0) (uses_in_query q.0) s),
  )

  item_layer : (y : BoundFromItem-F ShownExpr ShownItem ShownQuery ShownRow ShownSource ShownLink
      ShownGrouping ShownSelect) → UsesLast known S R (item_uses (item_used (item_shown y))) →
      LastingItem (item_step (item_seen known (item_shown y)))
  item_layer (BoundFromItem-F.Comma f) s = f.1 s
  item_layer (BoundFromItem-F.Cross f) s = f.1 s
  item_layer (BoundFromItem-F.Inner f on) s =
      let tests = joined (map uses_in (map (λ x. x.0) on)) in
      (f.1 (front (uses_in_source f.0) tests s), shown_exprs on (back (uses_in_source f.0) tests s))
  item_layer (BoundFromItem-F.Left f on) s =
      let tests = joined (map uses_in (map (λ x. x.0) on)) in
      (f.1 (front (uses_in_source f.0) tests s), shown_exprs on (back (uses_in_source f.0) tests s))

  query_layer : (y : BoundQuery-F ShownExpr ShownItem ShownQuery ShownRow ShownSource ShownLink
      ShownGrouping ShownSelect) → UsesLast known S R (query_uses (query_used (query_shown y))) →
      LastingQuery (query_step (query_seen known (query_shown y)))
  query_layer (BoundQuery-F.Select select) s = select.1 s
  query_layer (BoundQuery-F.Values rs) s = rows_last (map (row_of known) (map (λ x. x.0) rs))
      (last_each uses_in_row row_of LastingList rs s)
  query_layer (BoundQuery-F.Ordered q keys) s = q.1 s

  row_layer : (y : BoundRow-F ShownExpr ShownItem ShownQuery ShownRow ShownSource ShownLink
      ShownGrouping ShownSelect) → UsesLast known S R (row_uses (row_used (row_shown y))) →
      LastingList (row_step (row_seen known (row_shown y)))
  row_layer (BoundRow-F.Row es) s = shown_exprs es s

  source_layer : (y : BoundSource-F ShownExpr ShownItem ShownQuery ShownRow ShownSource ShownLink
      ShownGrouping ShownSelect) → UsesLast known S R (source_uses (source_used (source_shown y))) →
      LastingFrom (source_step (source_seen known (source_shown y)))
  source_layer (BoundSource-F.Table name) s = s.0
  source_layer (BoundSource-F.Derived q) s = q.1 s

  link_layer : (y : BoundLink-F ShownExpr ShownItem ShownQuery ShownRow ShownSource ShownLink
      ShownGrouping ShownSelect) → UsesLast known S R (link_uses (link_used (link_shown y))) →
      LastingLink (link_step (link_seen known (link_shown y)))
  link_layer y s = y.operand.1 s

  grouping_layer : (y : BoundGrouping-F ShownExpr ShownItem ShownQuery ShownRow ShownSource
      ShownLink ShownGrouping ShownSelect) → UsesLast known S R
      (grouping_uses (grouping_used (grouping_shown y))) →
      LastingGrouping (grouping_step (grouping_seen known (grouping_shown y)))
  grouping_layer y s =
      let parts = joined (map uses_in (map (λ x. x.0) y.parts)) in
      let having = joined (map uses_in (map (λ x. x.0) y.having)) in
      (shown_exprs y.parts (front parts having s), shown_exprs y.having (back parts having s))

  select_made : (items : List ShownExpr) (from : List ShownItem) (conjuncts : List ShownExpr)
      (g : Option ShownGrouping) →
      let y : BoundSelect-F ShownExpr ShownItem ShownQuery ShownRow ShownSource ShownLink
      ShownGrouping ShownSelect = record {
        items = items;
        from = from;
        conjuncts = conjuncts;
        grouping = g;
      } in
      UsesLast known S R (select_uses (select_used (select_shown y))) →
      QueryLasts (select_step (select_seen known (select_shown y))) S R
  select_made items from conjuncts None s =
      let listed = joined (map uses_in (map (λ x. x.0) items)) in
      let tests = joined (map uses_in (map (λ x. x.0) conjuncts)) in
      let tables = joined (map uses_in_item (map (λ x. x.0) from)) in
      let past = back tables (tests ++ listed) s in (
        shown_exprs items (back tests listed past),
        from_of_lasts
            (map (item_of known) (map (λ x. x.0) from))
            (last_each uses_in_item item_of LastingItem from (front tables (tests ++ listed) s)),
        shown_exprs conjuncts (front tests listed past),
      )
  select_made items from conjuncts (Some g) s =
      let listed = joined (map uses_in (map (λ x. x.0) items)) in
      let tests = joined (map uses_in (map (λ x. x.0) conjuncts)) in
      let tables = joined (map uses_in_item (map (λ x. x.0) from)) in
      let grouping = uses_in_grouping g.0 in
      let past = back tables (tests ++ (grouping ++ listed)) s in
      let past_tests = back tests (grouping ++ listed) past in
      let grouped = g.1 (front grouping listed past_tests) in (
        from_of_lasts (map (item_of known) (map (λ x. x.0) from))
            (last_each uses_in_item item_of LastingItem from
            (front tables (tests ++ (grouping ++ listed)) s)),
        shown_exprs conjuncts (front tests (grouping ++ listed) past),
        grouped.0,
        grouped.1,
        shown_exprs items (back grouping listed past_tests),
      )

  select_layer : (y : BoundSelect-F ShownExpr ShownItem ShownQuery ShownRow ShownSource ShownLink
      ShownGrouping ShownSelect) → UsesLast known S R (select_uses (select_used (select_shown y))) →
      LastingQuery (select_step (select_seen known (select_shown y)))
  select_layer y s = select_made y.items y.from y.conjuncts y.grouping s

  -- ---- whole trees

  expr_whole : (y : BoundExpr-F ShownExpr ShownItem ShownQuery ShownRow ShownSource ShownLink
      ShownGrouping ShownSelect) → IsLasting uses_in tree_of LastingExpr
      (roll-BoundExpr (expr_shown y))
  expr_whole y s = subst LastingExpr (sym (tree_of-at known (expr_shown y)))
      (expr_layer y (subst (UsesLast known S R) (expr_uses-at (expr_shown y)) s))

  item_whole : (y : BoundFromItem-F ShownExpr ShownItem ShownQuery ShownRow ShownSource ShownLink
      ShownGrouping ShownSelect) → IsLasting uses_in_item item_of LastingItem
      (roll-BoundFromItem (item_shown y))
  item_whole y s = subst LastingItem (sym (item_of-at known (item_shown y)))
      (item_layer y (subst (UsesLast known S R) (item_uses-at (item_shown y)) s))

  query_whole : (y : BoundQuery-F ShownExpr ShownItem ShownQuery ShownRow ShownSource ShownLink
      ShownGrouping ShownSelect) → IsLasting uses_in_query query_of LastingQuery
      (roll-BoundQuery (query_shown y))
  query_whole y s = subst LastingQuery (sym (query_of-at known (query_shown y)))
      (query_layer y (subst (UsesLast known S R) (query_uses-at (query_shown y)) s))

  row_whole : (y : BoundRow-F ShownExpr ShownItem ShownQuery ShownRow ShownSource ShownLink
      ShownGrouping ShownSelect) → IsLasting uses_in_row row_of LastingList
      (roll-BoundRow (row_shown y))
  row_whole y s = subst LastingList (sym (row_of-at known (row_shown y)))
      (row_layer y (subst (UsesLast known S R) (row_uses-at (row_shown y)) s))

  source_whole : (y : BoundSource-F ShownExpr ShownItem ShownQuery ShownRow ShownSource ShownLink
      ShownGrouping ShownSelect) → IsLasting uses_in_source source_of LastingFrom
      (roll-BoundSource (source_shown y))
  source_whole y s = subst LastingFrom (sym (source_of-at known (source_shown y)))
      (source_layer y (subst (UsesLast known S R) (source_uses-at (source_shown y)) s))

  link_whole : (y : BoundLink-F ShownExpr ShownItem ShownQuery ShownRow ShownSource ShownLink
      ShownGrouping ShownSelect) → IsLasting uses_in_link link_of LastingLink
      (roll-BoundLink (link_shown y))
  link_whole y s = subst LastingLink (sym (link_of-at known (link_shown y)))
      (link_layer y (subst (UsesLast known S R) (link_uses-at (link_shown y)) s))

  grouping_whole : (y : BoundGrouping-F ShownExpr ShownItem ShownQuery ShownRow ShownSource
      ShownLink ShownGrouping ShownSelect) → IsLasting uses_in_grouping grouping_of LastingGrouping
      (roll-BoundGrouping (grouping_shown y))
  grouping_whole y s = subst LastingGrouping (sym (grouping_of-at known (grouping_shown y)))
      (grouping_layer y (subst (UsesLast known S R) (grouping_uses-at (grouping_shown y)) s))

  select_whole : (y : BoundSelect-F ShownExpr ShownItem ShownQuery ShownRow ShownSource ShownLink
      ShownGrouping ShownSelect) → IsLasting uses_in_select select_of LastingQuery
      (roll-BoundSelect (select_shown y))
  select_whole y s = subst LastingQuery (sym (select_of-at known (select_shown y)))
      (select_layer y (subst (UsesLast known S R) (select_uses-at (select_shown y)) s))

  pub lasting_tree : (e : BoundExpr) → UsesLast known S R (uses_in e) → Lasts (tree_of known e) S R
  lasting_tree =
      ind-BoundExpr (IsLasting uses_in tree_of LastingExpr)
      (IsLasting uses_in_item item_of LastingItem) (IsLasting uses_in_query query_of LastingQuery)
      (IsLasting uses_in_row row_of LastingList) (IsLasting uses_in_source source_of LastingFrom)
      (IsLasting uses_in_link link_of LastingLink)
      (IsLasting uses_in_grouping grouping_of LastingGrouping)
      (IsLasting uses_in_select select_of LastingQuery)
      (λ x y is. subst (λ z. IsLasting uses_in tree_of LastingExpr (roll-BoundExpr z)) is
      (expr_whole y))
      (λ x y is. subst (λ z. IsLasting uses_in_item item_of LastingItem (roll-BoundFromItem z)) is
      (item_whole y))
      (λ x y is. subst (λ z. IsLasting uses_in_query query_of LastingQuery (roll-BoundQuery z)) is
      (query_whole y))
      (λ x y is. subst (λ z. IsLasting uses_in_row row_of LastingList (roll-BoundRow z)) is
      (row_whole y))
      (λ x y is. subst (λ z. IsLasting uses_in_source source_of LastingFrom (roll-BoundSource z)) is
      (source_whole y))
      (λ x y is. subst (λ z. IsLasting uses_in_link link_of LastingLink (roll-BoundLink z)) is
      (link_whole y))
      (λ x y is. subst (λ z. IsLasting uses_in_grouping grouping_of LastingGrouping
      (roll-BoundGrouping z)) is (grouping_whole y))
      (λ x y is. subst (λ z. IsLasting uses_in_select select_of LastingQuery (roll-BoundSelect z))
      is (select_whole y))

  pub lasting_query : (q : BoundQuery) → UsesLast known S R (uses_in_query q) →
      QueryLasts (query_of known q) S R
  lasting_query =
      ind-BoundQuery (IsLasting uses_in tree_of LastingExpr)
      (IsLasting uses_in_item item_of LastingItem) (IsLasting uses_in_query query_of LastingQuery)
      (IsLasting uses_in_row row_of LastingList) (IsLasting uses_in_source source_of LastingFrom)
      (IsLasting uses_in_link link_of LastingLink)
      (IsLasting uses_in_grouping grouping_of LastingGrouping)
      (IsLasting uses_in_select select_of LastingQuery)
      (λ x y is. subst (λ z. IsLasting uses_in tree_of LastingExpr (roll-BoundExpr z)) is
      (expr_whole y))
      (λ x y is. subst (λ z. IsLasting uses_in_item item_of LastingItem (roll-BoundFromItem z)) is
      (item_whole y))
      (λ x y is. subst (λ z. IsLasting uses_in_query query_of LastingQuery (roll-BoundQuery z)) is
      (query_whole y))
      (λ x y is. subst (λ z. IsLasting uses_in_row row_of LastingList (roll-BoundRow z)) is
      (row_whole y))
      (λ x y is. subst (λ z. IsLasting uses_in_source source_of LastingFrom (roll-BoundSource z)) is
      (source_whole y))
      (λ x y is. subst (λ z. IsLasting uses_in_link link_of LastingLink (roll-BoundLink z)) is
      (link_whole y))
      (λ x y is. subst (λ z. IsLasting uses_in_grouping grouping_of LastingGrouping
      (roll-BoundGrouping z)) is (grouping_whole y))
      (λ x y is. subst (λ z. IsLasting uses_in_select select_of LastingQuery (roll-BoundSelect z))
      is (select_whole y))

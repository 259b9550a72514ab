-- How many columns items of FROM have. ISO/IEC 9075-2, 7.6 (table reference).
use Rattle.std.proofs.Common.{ℕ, suc, ◌≡◌, ◌∷◌, [], List, Option, Some, None, length, map}
use Rattle.std.proofs.Common.{slice_get, refl, sym, ap, ◌∙◌}
use Rattle.std.specs.Option.{option_map}
use Rattle.row_types.specs.declared.sort_key.SortKey.{SortKey}
use Rattle.bound_trees.specs.declared.expr.BoundExpr.{BoundExpr}
use Rattle.bound_trees.specs.declared.query.BoundQuery.{BoundQuery}
use Rattle.bound_trees.specs.declared.query.BoundQuery.TheVariants as query
use Rattle.bound_trees.specs.declared.query.BoundRow.{BoundRow}
use Rattle.bound_trees.specs.declared.query.BoundSelect.{BoundSelect, out-BoundSelect}
use Rattle.bound_trees.specs.declared.query.BoundSource.{BoundSource}
use Rattle.bound_trees.specs.declared.query.BoundSource.TheVariants as source
use Rattle.rel_algebra.specs.Tree.{count, Exprs, From, Query}
use Rattle.rel_algebra.specs.Joins.{rows_width, query_width, from_width}
use Rattle.catalog_store.specs.View.{Grouping, from_of, selected}
use Rattle.routine_views.specs.Views.{Known, query_in}
use Rattle.run_places.specs.Views.{exprs_in, row_in, rows_in, item_in, grouping_in, source_in}
use Rattle.run_places.proofs.Seen.{query_in-Select, query_in-Values, query_in-Ordered}
use Rattle.run_places.proofs.Seen.{select_in-parts, source_in-Derived}

exprs_counted : (k : Known) (es : List BoundExpr) → length es ≡ count (exprs_in k es)
exprs_counted k [] = refl
exprs_counted k (e ∷ es) = ap suc (exprs_counted k es)

-- the width of a row, where there is one
abbrev width_of : Known → Option BoundRow → ℕ
width_of k None = 0
width_of k (Some row) = count (row_in k row)

first_counts : (k : Known) (rows : List BoundRow) →
    width_of k (slice_get rows 0) ≡ rows_width (rows_in k rows)
first_counts k [] = refl
first_counts k (row ∷ rows) = refl

module _ (k : Known) (S : List ℕ → ℕ) where
  abbrev width : BoundQuery → ℕ
  width q = query_width (query_in k q) S

  selected_counted : (g : Option Grouping) (items : Exprs) (from : From) (conjuncts : Exprs) →
      query_width (selected g items from conjuncts) S ≡ count items
  selected_counted None items from conjuncts = refl
  selected_counted (Some g) items from conjuncts = refl

  pub select_counted : (q : BoundQuery) (s : BoundSelect) (n : ℕ) → q ≡ query.Select s →
      n ≡ length (out-BoundSelect s).items → n ≡ width q
  select_counted q s n is counted =
      counted ∙ exprs_counted k (out-BoundSelect s).items ∙ sym (
      ap width is ∙ ap (λ (t : Query). query_width t S) (query_in-Select k s ∙ select_in-parts k s)
      ∙ selected_counted (option_map (grouping_in k) (out-BoundSelect s).grouping)
      (exprs_in k (out-BoundSelect s).items)
      (from_of (map (item_in k) (out-BoundSelect s).from))
      (exprs_in k (out-BoundSelect s).conjuncts)
      )

  values_counted : (q : BoundQuery) (rows : List BoundRow) → q ≡ query.Values rows →
      width q ≡ rows_width (rows_in k rows)
  values_counted q rows is = ap width is ∙ ap (λ (t : Query). query_width t S)
      (query_in-Values k rows)

  pub first_counted : (q : BoundQuery) (rows : List BoundRow) (first : BoundRow)
      (es : List BoundExpr) (n : ℕ) → q ≡ query.Values rows → Some first ≡ slice_get rows 0 →
      exprs_in k es ≡ row_in k first → n ≡ length es →
      n ≡ width q
  first_counted q rows first es n is first_is values_are counted =
      counted ∙ exprs_counted k es ∙ ap count values_are ∙ ap (width_of k) first_is ∙
      first_counts k rows ∙ sym (values_counted q rows is)

  pub none_counted : (q : BoundQuery) (rows : List BoundRow) → q ≡ query.Values rows →
      None ≡ slice_get rows 0 → 0 ≡ width q
  none_counted q rows is none = ap (width_of k) none ∙ first_counts k rows ∙
      sym (values_counted q rows is)

  pub ordered_counted : (q inner read : BoundQuery) (keys : List SortKey) (n : ℕ) →
      q ≡ query.Ordered inner keys → read ≡ inner → n ≡ width read → n ≡ width q
  ordered_counted q inner read keys n is same counted =
      counted ∙ ap width same ∙ sym (ap width is ∙
      ap (λ (t : Query). query_width t S) (query_in-Ordered k inner keys))

  pub derived_counted : (s : BoundSource) (inner read : BoundQuery) (n : ℕ) →
      s ≡ source.Derived inner → read ≡ inner → n ≡ width read → n ≡ from_width (source_in k s) S
  derived_counted s inner read n is same counted =
      counted ∙ ap width same ∙ sym (ap (λ (t : BoundSource). from_width (source_in k t) S) is ∙
      ap (λ (t : From). from_width t S) (source_in-Derived k inner))

-- Each form of a query is judged by its parts.
use Rattle.std.proofs.Common.{◌≡◌, sym, ap, ◌∙◌, map, List, [], Option, Some, None}
use Rattle.syntax_trees.specs.declared.anchor.Anchor.{Anchor}
use Rattle.syntax_trees.specs.declared.anchor.ColumnName.{ColumnName}
use Rattle.syntax_trees.specs.declared.anchor.Ident.{Ident}
use Rattle.syntax_trees.specs.declared.expr.Expr.{Expr}
use Rattle.syntax_trees.specs.declared.expr.Expr.TheFolds.{map-FromItem, map-Select}
use Rattle.syntax_trees.specs.declared.expr.Expr.TheFolds.{fold-roll-FromItem, fold-roll-Query}
use Rattle.syntax_trees.specs.declared.expr.Expr.TheFolds.{fold-roll-Select, fold-roll-TableRef}
use Rattle.syntax_trees.specs.declared.expr.Expr.TheOpen.{FromItem-F, Query-F, TableRef-F}
use Rattle.syntax_trees.specs.declared.expr.Expr.TheViews as tree
use Rattle.syntax_trees.specs.declared.expr.Link.{Link}
use Rattle.syntax_trees.specs.declared.query.FromItem.{FromItem, roll-FromItem}
use Rattle.syntax_trees.specs.declared.query.FromItem.TheVariants.{rolls-Comma, rolls-Cross}
use Rattle.syntax_trees.specs.declared.query.FromItem.TheVariants.{rolls-Inner, rolls-Left}
use Rattle.syntax_trees.specs.declared.query.FromItem.TheVariants as item
use Rattle.syntax_trees.specs.declared.query.Query.{Query, roll-Query}
use Rattle.syntax_trees.specs.declared.query.Select.{Select, out-Select, roll-Select}
use Rattle.syntax_trees.specs.declared.query.Select.{fold_out-Select}
use Rattle.syntax_trees.specs.declared.query.SelectItem.{SelectItem}
use Rattle.syntax_trees.specs.declared.query.TableRef.{TableRef}
use Rattle.syntax_trees.specs.declared.query.TableRef.TheVariants.{rolls-Derived}
use Rattle.syntax_trees.specs.declared.query.ValueRow.{ValueRow}
use Rattle.syntax_trees.specs.declared.query.Values.{Values, fold_out-Values}
use Rattle.bind_faults.specs.declared.notes.Notes.{Notes}
use Rattle.bind_faults.specs.Faults.{Noted, taken, ◌>>=◌}
use Rattle.bind_kinds.specs.declared.kind.Kind.{Kind}
use Rattle.bind_sight.specs.Sight.{Seen}
use Rattle.bind_parts.specs.declared.from.Opened.{Opened}
use Rattle.bind_parts.specs.declared.typed.TypedSource.{TypedSource}
use Rattle.bind_parts.specs.declared.typed.TypedQuery.{TypedQuery}
use Rattle.bind_parts.specs.From.{nothing_open, derived_source, put_comma, put_cross}
use Rattle.bind_queries.specs.From.{put_inner, put_left}
use Rattle.bind_queries.specs.Judges.{Expression, JudgedItem, JudgedLink, JudgedRow, QueryJudge}
use Rattle.bind_queries.specs.Judges.{FromJudge, RefJudge}
use Rattle.bind_queries.specs.Names.{inner}
use Rattle.bind_queries.specs.Queries.{expr_step, from_step, query_step, item_step, ref_step}
use Rattle.bind_queries.specs.Queries.{row_step, link_step, select_step, values_step, expression}
use Rattle.bind_queries.specs.Queries.{from_judge, query_judge, select_item, ref_judge, value_row}
use Rattle.bind_queries.specs.Queries.{judged_link, select_judge, values_judge, judge_parts}
use Rattle.bind_queries.specs.Queries.{judge_query, opened_of, maybe, anchor_of, items_of}
use Rattle.bind_queries.specs.Queries.{items_in_from, filter_of, grouping_columns, having_of}
use Rattle.bind_queries.specs.Queries.{anchor_of_values, rows_of}
use Rattle.bind_queries.specs.Selects.{selected}
use Rattle.bind_queries.specs.ValueRows.{judged_values}
use Rattle.bind_parts.specs.Turns.{each_noted}
use Rattle.bind_parts.proofs.Laws.{each-map, then-notes}

in-turn : (from : List FromItem) (outer : Seen) →
    each_noted (λ so (j : FromJudge). j outer so) nothing_open (map from_judge from) ≡
    opened_of from outer
in-turn from outer = each-map (λ so (j : FromJudge). j outer so) from_judge nothing_open from

-- a SELECT over what FROM brings in sight
abbrev over : Select → List Kind → Seen → Opened → Noted TypedQuery
over s ts outer = selected (anchor_of s) (items_of s) (filter_of s) (grouping_columns s)
    (having_of s) ts outer

-- of its parts, of which two may be left out
at-select : (at : Anchor) (items : List SelectItem) (from : List FromItem) (filter : Option Expr)
    (group_by : List ColumnName) (having : Option Expr) (ts : List Kind) (outer : Seen)
    → select_step (map-Select Expr FromItem Query SelectItem TableRef ValueRow Link Select Values
    Expression FromJudge QueryJudge JudgedItem RefJudge JudgedRow JudgedLink QueryJudge
    QueryJudge expression from_judge query_judge select_item ref_judge value_row judged_link
    select_judge values_judge (record {
      anchor = at;
      items = items;
      from = from;
      filter =
          filter;
      group_by = group_by;
      having = having;
    })) ts outer
    ≡ (opened_of from outer >>= selected at (map select_item items) (maybe filter) group_by
    (maybe having) ts outer)
at-select at items from None group_by None ts outer =
    ap (λ z. z >>= selected at (map select_item items) None group_by None ts outer)
    (in-turn from outer)
at-select at items from None group_by (Some h) ts outer =
    ap (λ z. z >>= selected at (map select_item items) None group_by (Some (expression h)) ts outer)
    (in-turn from outer)
at-select at items from (Some f) group_by None ts outer =
    ap (λ z. z >>= selected at (map select_item items) (Some (expression f)) group_by None ts outer)
    (in-turn from outer)
at-select at items from (Some f) group_by (Some h) ts outer =
    ap (λ z. z >>= selected at (map select_item items) (Some (expression f)) group_by
    (Some (expression h)) ts outer) (in-turn from outer)

-- a query of these parts
pub made-select : (at : Anchor) (items : List SelectItem) (from : List FromItem)
    (filter : Option Expr) (group_by : List ColumnName) (having : Option Expr) (ts : List Kind)
    (outer : Seen)
    → judge_query ts
    (roll-Query
    (Query-F.Select (roll-Select (record {
      anchor = at;
      items = items;
      from = from;
      filter =
          filter;
      group_by = group_by;
      having = having;
    })))) outer
    ≡ judge_parts at (map select_item items) from (maybe filter) group_by (maybe having) ts outer
made-select at items from filter group_by having ts outer =
    ap (λ (j : QueryJudge). j ts outer) (fold-roll-Query Expression FromJudge QueryJudge JudgedItem
    RefJudge JudgedRow JudgedLink QueryJudge QueryJudge expr_step from_step query_step item_step
    ref_step row_step link_step select_step values_step
    (Query-F.Select (roll-Select (record {
      anchor = at;
      items = items;
      from = from;
      filter =
          filter;
      group_by = group_by;
      having = having;
    })))
    ∙ fold-roll-Select Expression FromJudge QueryJudge JudgedItem RefJudge JudgedRow JudgedLink
    QueryJudge QueryJudge expr_step from_step query_step item_step ref_step row_step link_step
    select_step values_step (record {
      anchor = at;
      items = items;
      from = from;
      filter = filter;
      group_by = group_by;
      having = having;
    }))
    ∙ at-select at items from filter group_by having ts outer

pub select-layer : (s : Select) (ts : List Kind) (outer : Seen) →
    select_judge s ts outer ≡ (opened_of (items_in_from s) outer >>= over s ts outer)
select-layer s ts outer =
    ap (λ (j : QueryJudge). j ts outer) (fold_out-Select Expression FromJudge QueryJudge JudgedItem
    RefJudge JudgedRow JudgedLink QueryJudge QueryJudge expr_step from_step query_step item_step
    ref_step row_step link_step select_step values_step s) ∙
    at-select (out-Select s).anchor (out-Select s).items (out-Select s).from (out-Select s).filter
    (out-Select s).group_by (out-Select s).having ts outer

pub select-value : (s : Select) (ts : List Kind) (outer : Seen) (so : Opened) (q : TypedQuery) →
    so ≡ (opened_of (items_in_from s) outer).value
    → q ≡ (over s ts outer so).value → q ≡ (select_judge s ts outer).value
select-value s ts outer so q e p =
    p ∙ ap (λ z. (over s ts outer z).value) e ∙
    ap (λ (x : Noted TypedQuery). x.value) (sym (select-layer s ts outer))

pub select-notes : (s : Select) (ts : List Kind) (outer : Seen) (so : Opened) (n n1 n2 : Notes) →
    n1 ≡ taken n (opened_of (items_in_from s) outer) →
    so ≡ (opened_of (items_in_from s) outer).value
    → n2 ≡ taken n1 (over s ts outer so) → n2 ≡ taken n (select_judge s ts outer)
select-notes s ts outer so n n1 n2 p e q =
    then-notes n n1 n2 (opened_of (items_in_from s) outer) (over s ts outer) so p e q ∙
    ap (λ z. taken n z) (sym (select-layer s ts outer))

pub values-layer : (v : Values) (ts : List Kind) (outer : Seen) →
    values_judge v ts outer ≡ judged_values (anchor_of_values v) (rows_of v) ts outer
values-layer v ts outer = ap (λ (j : QueryJudge). j ts outer)
    (fold_out-Values Expression FromJudge QueryJudge JudgedItem RefJudge JudgedRow JudgedLink
    QueryJudge QueryJudge expr_step from_step query_step item_step ref_step row_step link_step
    select_step values_step v)

-- ---- items of FROM

layered : (e : FromItem) (x : FromItem-F Expr FromItem Query SelectItem TableRef ValueRow Link
    Select Values) → e ≡ roll-FromItem x
    → from_judge e ≡ from_step (map-FromItem Expr FromItem Query SelectItem TableRef ValueRow Link
    Select Values Expression FromJudge QueryJudge JudgedItem RefJudge JudgedRow JudgedLink
    QueryJudge QueryJudge expression from_judge query_judge select_item ref_judge value_row
    judged_link select_judge values_judge x)
layered e x is = ap from_judge is ∙ fold-roll-FromItem Expression FromJudge QueryJudge JudgedItem
    RefJudge JudgedRow JudgedLink QueryJudge QueryJudge expr_step from_step query_step item_step
    ref_step row_step link_step select_step values_step x

module _ (e : FromItem) (table : TableRef) (outer : Seen) (so : Opened) (v : TypedSource)
    (n n1 n2 : Notes) (p : n1 ≡ taken n (ref_judge table outer))
    (q : v ≡ (ref_judge table outer).value) where
  after-table : (go : TypedSource → Noted Opened) →
      (from_judge e outer so ≡ (ref_judge table outer >>= go)) → n2 ≡ taken n1 (go v) →
      n2 ≡ taken n (from_judge e outer so)
  after-table go is r = then-notes n n1 n2 (ref_judge table outer) go v p q r ∙
      ap (λ z. taken n z) (sym is)

  pub comma-notes : e ≡ item.Comma table → n2 ≡ taken n1 (put_comma so v) →
      n2 ≡ taken n (from_judge e outer so)
  comma-notes is r = after-table (put_comma so)
      (ap (λ (j : FromJudge). j outer so) (layered e (FromItem-F.Comma table)
      (is ∙ sym (rolls-Comma table)))) r

  pub cross-notes : e ≡ item.Cross table → n2 ≡ taken n1 (put_cross so v) →
      n2 ≡ taken n (from_judge e outer so)
  cross-notes is r = after-table (put_cross so)
      (ap (λ (j : FromJudge). j outer so) (layered e (FromItem-F.Cross table)
      (is ∙ sym (rolls-Cross table)))) r

  pub inner-notes : (on : Expr) → e ≡ item.Inner table on →
      n2 ≡ taken n1 (put_inner (inner on) outer so v) → n2 ≡ taken n (from_judge e outer so)
  inner-notes on is r = after-table (put_inner (inner on) outer so)
      (ap (λ (j : FromJudge). j outer so) (layered e (FromItem-F.Inner table on)
      (is ∙ sym (rolls-Inner table on)))) r

  pub left-notes : (on : Expr) → e ≡ item.Left table on →
      n2 ≡ taken n1 (put_left (inner on) outer so v) → n2 ≡ taken n (from_judge e outer so)
  left-notes on is r = after-table (put_left (inner on) outer so)
      (ap (λ (j : FromJudge). j outer so) (layered e (FromItem-F.Left table on)
      (is ∙ sym (rolls-Left table on)))) r

pub derived-notes : (r : TableRef) (query : Query) (i : Ident) (names : List Ident) (outer : Seen)
    (v : TypedQuery) (n n1 n2 : Notes) → r ≡ tree.Derived query i names
    → n1 ≡ taken n (judge_query [] query outer) → v ≡ (judge_query [] query outer).value →
    n2 ≡ taken n1 (derived_source i names v) → n2 ≡ taken n (ref_judge r outer)
derived-notes r query i names outer v n n1 n2 is p e q =
    then-notes n n1 n2 (judge_query [] query outer) (derived_source i names) v p e q
    ∙ ap (λ (j : RefJudge). taken n (j outer))
    (sym (ap ref_judge (is ∙ sym (rolls-Derived query i names))
    ∙ fold-roll-TableRef Expression FromJudge QueryJudge JudgedItem RefJudge JudgedRow JudgedLink
    QueryJudge QueryJudge expr_step from_step query_step item_step ref_step row_step link_step
    select_step values_step (TableRef-F.Derived query i names)))

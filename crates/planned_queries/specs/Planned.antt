-- When the parts of a query have plans. ISO/IEC 9075-2, 7.3 (table value constructor), 7.6 (table
-- reference), 7.13 (group by clause) and 7.16 (query specification).
use Rattle.std.specs.Prelude.{ℕ, Bool, true, ◌&&◌, ◌||◌, List, [], ◌∷◌, map, nat_eq, Option, Some}
use Rattle.std.specs.Prelude.{None, false}
use Rattle.std.specs.Option.{option_map}
use Rattle.bound_trees.specs.declared.expr.BoundExpr.{BoundExpr}
use Rattle.bound_trees.specs.declared.expr.BoundExpr.TheOpen.{BoundSelect-F}
use Rattle.bound_trees.specs.declared.expr.BoundLink.{BoundLink}
use Rattle.bound_trees.specs.declared.query.BoundFromItem.{BoundFromItem}
use Rattle.bound_trees.specs.declared.query.BoundGrouping.{BoundGrouping}
use Rattle.bound_trees.specs.declared.query.BoundQuery.{BoundQuery}
use Rattle.bound_trees.specs.declared.query.BoundRow.{BoundRow}
use Rattle.bound_trees.specs.declared.query.BoundSelect.{BoundSelect}
use Rattle.bound_trees.specs.declared.query.BoundSource.{BoundSource}
use Rattle.rel_algebra.specs.Plain.{planned_all, planned_from}
use Rattle.rel_algebra.specs.Tree.{Exprs, Rows, NoRow, MoreRows, count}
use Rattle.catalog_store.specs.View.{Grouping, Joining, after_comma, crossing, matching}
use Rattle.catalog_store.specs.View.{matching_or_nulls}
use Rattle.block_plans.specs.Callees.{Callees}
use Rattle.block_plans.specs.View.{item_seen, grouping_seen, exprs_seen}

-- a select, with its parts in sight
abbrev pub SelectLayer : Type 0
SelectLayer = BoundSelect-F BoundExpr BoundFromItem BoundQuery BoundRow BoundSource BoundLink
    BoundGrouping BoundSelect

-- a row of VALUES has so many columns, and a plan
abbrev pub row_planned : ℕ → Exprs → Bool
row_planned n es = nat_eq (count es) n && planned_all es

-- each of these rows has
abbrev pub rows_planned : ℕ → Rows → Bool
rows_planned n NoRow = true
rows_planned n (MoreRows es rows) = row_planned n es && rows_planned n rows

-- what is grouped and HAVING have plans, where there are groups
abbrev pub groups_planned : Option Grouping → Bool
groups_planned None = true
groups_planned (Some g) = planned_all g.parts && planned_all g.having

-- an item of FROM has a plan; ON of the first joins it to nothing
abbrev pub item_planned : Bool → Joining → Bool
item_planned first (after_comma f) = planned_from f
item_planned first (crossing f) = planned_from f
item_planned first (matching f on) = planned_from f && (first || planned_all on)
item_planned first (matching_or_nulls f on) = planned_from f && (first || planned_all on)

-- items of FROM do, from one on that is the first or isn't
abbrev pub items_planned : Bool → List Joining → Bool
items_planned first [] = true
items_planned first (i ∷ is) = item_planned first i && items_planned false is

-- FROM and WHERE of a select have plans
abbrev pub tables_planned : Callees → SelectLayer → Bool
tables_planned known s =
    items_planned true (map (item_seen known) s.from) && planned_all (exprs_seen known s.conjuncts)

-- its groups and its list do
abbrev pub lists_planned : Callees → SelectLayer → Bool
lists_planned known s = groups_planned (option_map (grouping_seen known) s.grouping)
    && planned_all (exprs_seen known s.items)

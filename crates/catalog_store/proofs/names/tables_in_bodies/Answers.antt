use Rattle.std.proofs.Common.{◌≡◌, [], ◌∷◌, ◌++◌, codes, true, Some, refl, sym, ◌∙◌, subst}
use Rattle.sql_values.specs.declared.value.Value.TheVariants.{Bool as Truth}
use Rattle.bound_trees.specs.declared.expr.BoundExpr.TheVariants as bound
use Rattle.bound_trees.specs.declared.query.BoundFromItem.TheVariants as item
use Rattle.bound_trees.specs.declared.query.BoundQuery.TheVariants as query
use Rattle.bound_trees.specs.declared.query.BoundSource.TheVariants as source
use Rattle.rel_algebra.specs.Tree.{Table, Single, NoExpr, MoreExprs, Count}
use Rattle.catalog_store.specs.Examples.{known, all_rows, count_of_rows, how_many, how_many_body}
use Rattle.catalog_store.specs.Uses.{Uses, reads, joined, uses_in, uses_in_query, uses_in_grouping}
use Rattle.catalog_store.specs.Uses.{names_used, SameNames}
use Rattle.catalog_store.specs.View.{after_comma, from_of, selected, tree_of, item_of, query_of}
use Rattle.catalog_store.proofs.Bound.{uses_in-Literal, uses_in-Column, uses_in-Call}
use Rattle.catalog_store.proofs.Bound.{uses_in-Single, uses_in-In, uses_in_item-Comma}
use Rattle.catalog_store.proofs.Bound.{uses_in_query-Select, uses_in_source-Table}
use Rattle.catalog_store.proofs.Bound.{uses_in_select-made, tree_of-Literal, tree_of-Column}
use Rattle.catalog_store.proofs.Bound.{tree_of-Single, item_of-Comma, query_of-Select}
use Rattle.catalog_store.proofs.Bound.{source_of-Table, select_of-made}
use Rattle.catalog_store.proofs.Layers.{grouping_uses-at, grouping_of-at}
use Rattle.catalog_store.proofs.names.tables_in_bodies.Goals as goal

list_uses : uses_in (bound.Column 0 0) ≡ []
list_uses = uses_in-Column 0 0

grouping_uses : uses_in_grouping all_rows ≡ []
grouping_uses =
    grouping_uses-at (record {
      keys = 0;
      parts = bound.Literal (Truth true) ∷ [];
      aggregates =
          Count ∷ [];
      having = [];
    })
    ∙ (λ i. joined (uses_in-Literal (Truth true) i ∷ []) ++ [])

query_uses : uses_in_query (query.Select count_of_rows) ≡ reads (codes "T") ∷ []
query_uses =
    uses_in_query-Select count_of_rows
    ∙ uses_in_select-made (bound.Column 0 0 ∷ []) (item.Comma (source.Table (codes "T")) ∷ []) []
    (Some all_rows)
    ∙ (λ i. joined ((uses_in_item-Comma (source.Table (codes "T")) ∙
    uses_in_source-Table (codes "T")) i ∷ []) ++
    ([] ++ (grouping_uses i ++ joined (list_uses i ∷ []))))

reading : uses_in how_many_body ≡ reads (codes "T") ∷ []
reading = uses_in-Single (query.Select count_of_rows) ∙ query_uses

query_tree : query_of known (query.Select count_of_rows) ≡ selected
    (Some (record {
      keys = 0;
      parts = MoreExprs (tree_of known (bound.Literal (Truth true))) NoExpr;
      aggregates = Count ∷ [];
      having = NoExpr;
    }))
    (MoreExprs (tree_of known (bound.Column 0 0)) NoExpr)
    (from_of (item_of known (item.Comma (source.Table (codes "T"))) ∷ [])) NoExpr
query_tree =
    query_of-Select known count_of_rows
    ∙ select_of-made known (bound.Column 0 0 ∷ []) (item.Comma (source.Table (codes "T")) ∷ []) []
    (Some all_rows)
    ∙ (λ i. selected
    (Some (grouping_of-at known (record {
      keys = 0;
      parts = bound.Literal (Truth true) ∷ [];
      aggregates = Count ∷ [];
      having = [];
    }) i))
    (MoreExprs (tree_of known (bound.Column 0 0)) NoExpr)
    (from_of (item_of known (item.Comma (source.Table (codes "T"))) ∷ [])) NoExpr)

from_tree : item_of known (item.Comma (source.Table (codes "T"))) ≡ after_comma (Table (codes "T"))
from_tree = item_of-Comma known (source.Table (codes "T")) ∙
    (λ i. after_comma (source_of-Table known (codes "T") i))

pub returns : goal.returns
returns c = record {
  reading = reading;
  head = subst (λ (us : Uses). SameNames how_many.head.uses (names_used us)) (sym reading)
      (λ name. refl);
  users = refl;
  both = uses_in-In (bound.Call (codes "NEXT") []) (query.Select count_of_rows) ∙
      (λ i. uses_in-Call (codes "NEXT") [] i ++ query_uses i);
  tree = tree_of-Single known (query.Select count_of_rows) ∙ (λ i. Single (query_tree i))
      ∙ (λ i. Single
      (selected
      (Some (record {
        keys = 0;
        parts = MoreExprs (tree_of-Literal known (Truth true) i) NoExpr;
        aggregates = Count ∷ [];
        having = NoExpr;
      }))
      (MoreExprs (tree_of-Column known 0 0 i) NoExpr) (from_of (from_tree i ∷ [])) NoExpr));
}

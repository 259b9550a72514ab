use Rattle.std.proofs.Common.{◌≡◌, ◌∙◌, ℕ, true, List, [], ◌∷◌, ◌++◌, codes, pos, Some, ap}
use Rattle.std.specs.List.{count_by}
use Rattle.sql_values.specs.declared.value.Value.TheVariants.{Int, Bool as Truth}
use Rattle.sql_values.specs.declared.operators.Operator.TheVariants.{Add}
use Rattle.bound_trees.specs.declared.expr.BoundExpr.{BoundExpr}
use Rattle.bound_trees.specs.declared.expr.BoundExpr.TheVariants as bound
use Rattle.bound_trees.specs.declared.query.BoundFromItem.TheVariants as item
use Rattle.bound_trees.specs.declared.query.BoundQuery.TheVariants as query
use Rattle.bound_trees.specs.declared.query.BoundRow.TheVariants as row
use Rattle.bound_trees.specs.declared.query.BoundSource.TheVariants as source
use Rattle.rel_algebra.specs.Tree.{Count}
use Rattle.catalog_store.specs.Examples.{all_rows, count_of_rows, with_statements}
use Rattle.catalog_store.specs.Uses.{Uses, calls, reads, joined, uses_in, uses_in_query}
use Rattle.catalog_store.specs.Uses.{uses_in_grouping}
use Rattle.catalog_store.proofs.Bound.{uses_in-Literal, uses_in-Column, uses_in-Call}
use Rattle.catalog_store.proofs.Bound.{uses_in-Chain, uses_in-Single, uses_in-In}
use Rattle.catalog_store.proofs.Bound.{uses_in_link-parts, uses_in_item-Comma}
use Rattle.catalog_store.proofs.Bound.{uses_in_query-Select, uses_in_query-Values}
use Rattle.catalog_store.proofs.Bound.{uses_in_row-Row, uses_in_source-Table}
use Rattle.catalog_store.proofs.Bound.{uses_in_select-made}
use Rattle.catalog_store.proofs.Layers.{grouping_uses-at}
use Rattle.call_places.specs.Examples.{again, next, no_block, one, places, value_alone}
use Rattle.call_places.specs.Places.{is_inlined, is_interpreted}
use Rattle.call_places.proofs.laws.places_are_counted.Goals as goal

-- VALUES with one value uses what that uses
alone : (e : BoundExpr) → uses_in_query (value_alone e) ≡ joined (joined (uses_in e ∷ []) ∷ [])
alone e = uses_in_query-Values (row.Row (e ∷ []) ∷ []) ∙
    ap (λ (us : Uses). joined (us ∷ [])) (uses_in_row-Row (e ∷ []))

-- the places among uses
abbrev places_in : Uses → ℕ × ℕ
places_in us =
    (count_by (is_inlined no_block) us, count_by (is_interpreted no_block) us)

-- those of VALUES with one value that uses these
of_uses : (e : BoundExpr) (us : Uses) → uses_in e ≡ us →
    places e ≡ places_in (joined (joined (us ∷ []) ∷ []))
of_uses e us is = ap places_in (alone e ∙ ap (λ (us : Uses). joined (joined (us ∷ []) ∷ [])) is)

-- a call without arguments
called : (name : List ℕ) → uses_in (bound.Call name []) ≡ calls name 0 ∷ []
called name = uses_in-Call name []

-- SELECT COUNT(*) FROM T
grouping_uses : uses_in_grouping all_rows ≡ []
grouping_uses =
    grouping_uses-at (record {
      keys = 0;
      parts = bound.Literal (Truth true) ∷ [];
      aggregates = Count ∷ [];
      having = [];
    })
    ∙ (λ i. joined (uses_in-Literal (Truth true) i ∷ []) ++ [])

counting_uses : uses_in_query (query.Select count_of_rows) ≡ reads (codes "T") ∷ []
counting_uses =
    uses_in_query-Select count_of_rows
    ∙ uses_in_select-made (bound.Column 0 0 ∷ []) (item.Comma (source.Table (codes "T")) ∷ []) []
    (Some all_rows)
    ∙ (λ i. joined ((uses_in_item-Comma (source.Table (codes "T")) ∙
    uses_in_source-Table (codes "T")) i ∷ []) ++
    ([] ++ (grouping_uses i ++ joined (uses_in-Column 0 0 i ∷ []))))

pub returns : goal.returns
returns c = record {
  literal = of_uses (bound.Literal (Int (pos 1))) [] (uses_in-Literal (Int (pos 1)));
  without_a_plan = of_uses again (calls (codes "AGAIN") 0 ∷ []) (called (codes "AGAIN"));
  body = of_uses next (calls (codes "NEXT") 0 ∷ []) (called (codes "NEXT"));
  twice = of_uses (bound.Chain one (record { operator = Add; operand = one } ∷ []))
      (calls (codes "ONE") 0 ∷ calls (codes "ONE") 0 ∷ [])
      (uses_in-Chain one (record { operator = Add; operand = one } ∷ []) ∙
      (λ i. called (codes "ONE") i ++ joined ((uses_in_link-parts
      (record { operator = Add; operand = one }) ∙ called (codes "ONE")) i ∷ [])));
  arguments = of_uses (bound.Call (codes "NEXT") (again ∷ one ∷ []))
      (calls (codes "NEXT") 2 ∷ calls (codes "AGAIN") 0 ∷ calls (codes "ONE") 0 ∷ [])
      (uses_in-Call (codes "NEXT") (again ∷ one ∷ []) ∙
      (λ i. calls (codes "NEXT") 2 ∷ joined (called (codes "AGAIN") i ∷ called (codes "ONE") i ∷
      [])));
  subquery = of_uses (bound.Single (value_alone again)) (calls (codes "AGAIN") 0 ∷ [])
      (uses_in-Single (value_alone again) ∙ alone again ∙
      ap (λ (us : Uses). joined (joined (us ∷ []) ∷ [])) (called (codes "AGAIN")));
  table = of_uses (bound.In one (query.Select count_of_rows))
      (calls (codes "ONE") 0 ∷ reads (codes "T") ∷ [])
      (uses_in-In one (query.Select count_of_rows) ∙
      (λ i. called (codes "ONE") i ++ counting_uses i));
  nothing = of_uses (bound.Call (codes "NO") []) (calls (codes "NO") 0 ∷ []) (called (codes "NO"));
}

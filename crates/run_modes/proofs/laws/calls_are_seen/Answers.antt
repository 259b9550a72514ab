use Rattle.std.proofs.Common.{◌≡◌, ◌∙◌, [], ◌∷◌, codes, pos, refl, ap}
use Rattle.sql_values.specs.declared.value.Value.TheVariants.{Int}
use Rattle.bound_trees.specs.declared.expr.BoundExpr.{BoundExpr}
use Rattle.bound_trees.specs.declared.expr.BoundExpr.TheVariants as bound
use Rattle.bound_trees.specs.declared.query.BoundRow.TheVariants as row
use Rattle.catalog_store.specs.Uses.{Uses, joined, uses_in, uses_in_query}
use Rattle.catalog_store.proofs.Bound.{uses_in-Call, uses_in-Literal}
use Rattle.catalog_store.proofs.Bound.{uses_in_query-Values, uses_in_row-Row}
use Rattle.run_modes.specs.Examples.{value_alone}
use Rattle.run_modes.specs.Modes.{has_call}
use Rattle.run_modes.proofs.laws.calls_are_seen.Goals as goal

-- what VALUES with one value uses
alone : (e : BoundExpr) → uses_in_query (value_alone e) ≡ joined (joined (uses_in e ∷ []) ∷ [])
alone e = uses_in_query-Values (row.Row (e ∷ []) ∷ []) ∙
    ap (λ (us : Uses). joined (us ∷ [])) (uses_in_row-Row (e ∷ []))

pub returns : goal.returns
returns c = record {
  nothing = refl;
  only_read = refl;
  called = refl;
  operand = refl;
  argument = refl;
  chain = refl;
  subquery = refl;
  exists = refl;
  left = refl;
  right = refl;
  neither = refl;
  derived = refl;
  condition = refl;
  ordered = refl;
  item = refl;
  conjunct = refl;
  group = refl;
  having = refl;
  nowhere = refl;
  value = ap has_call (alone (bound.Call (codes "F") []) ∙
      ap (λ (us : Uses). joined (joined (us ∷ []) ∷ [])) (uses_in-Call (codes "F") []));
  literal = ap has_call (alone (bound.Literal (Int (pos 1))) ∙
      ap (λ (us : Uses). joined (joined (us ∷ []) ∷ [])) (uses_in-Literal (Int (pos 1))));
}

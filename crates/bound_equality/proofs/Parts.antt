-- Two queries over FROM are equal where their parts are.
use Rattle.std.proofs.Common.{◌≡◌, Bool, Decides, List, Option, sym, ap, ◌∙◌}
use Rattle.bound_trees.specs.declared.expr.BoundExpr.{BoundExpr}
use Rattle.bound_trees.specs.declared.expr.BoundExpr.TheViews as view
use Rattle.bound_trees.specs.declared.query.BoundFromItem.{BoundFromItem}
use Rattle.bound_trees.specs.declared.query.BoundGrouping.{BoundGrouping}
use Rattle.bound_trees.specs.declared.query.BoundSelect.{BoundSelect, roll-BoundSelect}
use Rattle.bound_trees.specs.declared.query.BoundSelect.{out-BoundSelect}

abbrev select_made : List BoundExpr → List BoundFromItem → List BoundExpr → Option BoundGrouping →
    BoundSelect
select_made items from conjuncts grouping =
    roll-BoundSelect (record {
      items = items;
      from = from;
      conjuncts = conjuncts;
      grouping = grouping;
    })

-- a select is its four parts
pub select-whole : (s t : BoundSelect) → (out-BoundSelect s).items ≡ (out-BoundSelect t).items →
    (out-BoundSelect s).from ≡ (out-BoundSelect t).from →
    (out-BoundSelect s).conjuncts ≡ (out-BoundSelect t).conjuncts →
    (out-BoundSelect s).grouping ≡ (out-BoundSelect t).grouping → s ≡ t
select-whole s t p q r g =
    sym (view.roll-out-BoundSelect s)
    ∙ ap (λ x. select_made x (out-BoundSelect s).from (out-BoundSelect s).conjuncts
    (out-BoundSelect s).grouping) p
    ∙ ap (λ x. select_made (out-BoundSelect t).items x (out-BoundSelect s).conjuncts
    (out-BoundSelect s).grouping) q
    ∙ ap (λ x. select_made (out-BoundSelect t).items (out-BoundSelect t).from x
    (out-BoundSelect s).grouping) r
    ∙ ap (select_made (out-BoundSelect t).items (out-BoundSelect t).from
    (out-BoundSelect t).conjuncts) g
    ∙ view.roll-out-BoundSelect t

-- selects whose other parts are equal are equal where their groupings are
pub select_told : (s t : BoundSelect) (r : Bool) →
    (out-BoundSelect s).items ≡ (out-BoundSelect t).items →
    (out-BoundSelect s).from ≡ (out-BoundSelect t).from →
    (out-BoundSelect s).conjuncts ≡ (out-BoundSelect t).conjuncts →
    Decides r ((out-BoundSelect s).grouping ≡ (out-BoundSelect t).grouping) → Decides r (s ≡ t)
select_told s t r i f k g = (
  λ e. select-whole s t i f k (g.0 e),
  λ w. g.1 (ap (λ (x : BoundSelect). (out-BoundSelect x).grouping) w),
)

-- Which queries are folded under an Apply: those of aggregates alone, without GROUP BY and HAVING.
-- ISO/IEC 9075-2, 7.13 (group by clause) and 10.9 (aggregate function).
use Rattle.std.specs.Prelude.{ℕ, zero, Bool, true, false, List, [], ◌∷◌}
use Rattle.rel_algebra.specs.Tree.{Aggregate}
use Rattle.bound_trees.specs.declared.expr.BoundExpr.{BoundExpr}
use Rattle.bound_trees.specs.declared.query.BoundGrouping.{BoundGrouping}

-- without grouping columns and conjuncts of HAVING, and with an aggregate
abbrev pub is_fold : ℕ → List Aggregate → List BoundExpr → Bool
is_fold zero (a ∷ ags) [] = true
is_fold _ _ _ = false

-- whether a grouped query inside an expression is folded, and its list read on the row outside
abbrev pub folds : BoundGrouping → Bool
folds g = is_fold g.keys g.aggregates g.having

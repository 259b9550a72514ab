-- A query over what FROM brings in sight, of its conditions, its grouping columns and its list.
-- ISO/IEC 9075-2, 7.13 (group by clause), 7.14 (having clause) and 7.16 (query specification).
use Rattle.std.specs.Prelude.{ℕ, Bool, true, false, List, Option, Some, None}
use Rattle.syntax_trees.specs.declared.anchor.Anchor.{Anchor}
use Rattle.bound_trees.specs.declared.expr.BoundExpr.{BoundExpr}
use Rattle.bound_trees.specs.declared.query.BoundFromItem.{BoundFromItem}
use Rattle.bound_trees.specs.declared.query.BoundGrouping.{BoundGrouping, roll-BoundGrouping}
use Rattle.bound_trees.specs.declared.query.BoundQuery.TheVariants as bound
use Rattle.bound_trees.specs.declared.query.BoundSelect.{roll-BoundSelect}
use Rattle.bind_parts.specs.declared.aggregates.Parts.{Parts}
use Rattle.bind_parts.specs.declared.select.ListClauses.{ListClauses}
use Rattle.bind_parts.specs.declared.typed.TypedQuery.{TypedQuery}

-- the groups of a query that is grouped: how many parts are grouping columns, the parts, the
-- aggregates and HAVING
abbrev pub grouping_bound : Bool → ℕ → Parts → List BoundExpr → Option BoundGrouping
grouping_bound false keys parts having = None
grouping_bound true keys parts having = Some (roll-BoundGrouping
    (record { keys = keys; parts = parts.trees; aggregates = parts.aggregates; having = having }))

-- a SELECT as a query, at its token, with its output columns
abbrev pub select_typed : Anchor → List BoundFromItem → List BoundExpr → Bool → ℕ → ListClauses →
    TypedQuery
select_typed at from conjuncts grouped keys l = record {
  at = at;
  columns = l.outputs.columns;
  tree = bound.Select (roll-BoundSelect (record {
    items = l.outputs.trees;
    from = from;
    conjuncts =
        conjuncts;
    grouping = grouping_bound grouped keys l.outputs.parts l.having;
  }));
}

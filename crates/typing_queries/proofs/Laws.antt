-- Expressions and queries without faults are well typed in all that has what is in sight.
use Rattle.std.proofs.Common.{◌≡◌, refl, subst, true, false, List, [], map, Option, Some, None}
use Rattle.syntax_trees.specs.declared.anchor.Anchor.{Anchor}
use Rattle.syntax_trees.specs.declared.anchor.ColumnName.{ColumnName}
use Rattle.syntax_trees.specs.declared.expr.Expr.{Expr}
use Rattle.syntax_trees.specs.declared.query.FromItem.{FromItem}
use Rattle.syntax_trees.specs.declared.query.OrderedQuery.{OrderedQuery}
use Rattle.syntax_trees.specs.declared.query.Query.{Query}
use Rattle.syntax_trees.specs.declared.query.SelectItem.{SelectItem}
use Rattle.bind_faults.specs.Faults.{Noted}
use Rattle.bind_kinds.specs.declared.kind.Kind.{Kind}
use Rattle.bind_sight.specs.Sight.{Seen, may_stand}
use Rattle.bind_parts.specs.declared.typed.TypedQuery.{TypedQuery}
use Rattle.bind_parts.specs.Order.{ordered_by}
use Rattle.bind_parts.specs.Typed.{no_parts}
use Rattle.bind_queries.specs.Lists.{judged_filter}
use Rattle.bind_queries.specs.Names.{judge, inner}
use Rattle.bind_queries.specs.Order.{judge_ordered_typed}
use Rattle.bind_queries.specs.Queries.{expression, select_item, maybe, judge_parts, judge_query}
use Rattle.bind_queries.proofs.Laws.{select_of, parts_as_query, front_nil, back_nil}
use Rattle.typing_trees.specs.Around.{Around}
use Rattle.typing_trees.specs.Kinds.{in_turn}
use Rattle.typing_trees.specs.Queries.{kind_of, tests}
use Rattle.typing_queries.proofs.Order.{ordered-typed}
use Rattle.typing_queries.proofs.Forms.{settled-typed, none-aggregating}
use Rattle.typing_queries.proofs.Growing.{grown-alone}
use Rattle.typing_queries.proofs.Induction.{expr-fits, query-fits}
use Rattle.typing_queries.proofs.Lists.{test-fits}
pub use Rattle.typing_queries.proofs.Below.{AllBelow, below-self, Below, HasAll, Has}
pub use Rattle.typing_queries.proofs.Fits.{fitting, fits-below, fits-swap, wanted-below}
pub use Rattle.typing_queries.proofs.Layers.{column-kind, comma-kinds, table-kinds, select-kinds}
pub use Rattle.typing_queries.proofs.Layers.{ungrouped-kinds, literal-kind, variable-kind}
pub use Rattle.typing_queries.proofs.Levels.{sees-row, sees-writing, joined-nothing, joined-begun}
pub use Rattle.typing_queries.proofs.Levels.{joined-item}
pub use Rattle.typing_queries.proofs.Sees.{Sees, ScopeIn, SlotIs, ScopesIn, SlotOf}
pub use Rattle.typing_queries.proofs.Shapes.{Joined, kinds_shown, IsTyped}
pub use Rattle.typing_queries.proofs.Subqueries.{QueryTyped}
pub use Rattle.typing_queries.proofs.Names.{variable-slot}

-- where no aggregate may stand
pub expr_typed : (e : Expr) (s : Seen) (a : Around) → Sees s a → may_stand s.levels ≡ false →
    (judge e s).faults ≡ [] → IsTyped (judge e s).value a
expr_typed e s a sees m p =
    let x = inner e s no_parts in
    settled-typed x.faults x.value.value a p (grown-alone a s no_parts x.value.parts
    (IsTyped x.value.value) m (expr-fits e s no_parts p a (none-aggregating s a m)) a sees)

pub query_typed : (targets : List Kind) (q : Query) (s : Seen) (a : Around) → Sees s a →
    (judge_query targets q s).faults ≡ []
    → QueryTyped (judge_query targets q s).value a ×
    (in_turn targets (kinds_shown (judge_query targets q s).value.columns) ≡ true)
query_typed targets q s a sees p = query-fits q targets s p a sees

pub parts_typed : (at : Anchor) (items : List SelectItem) (from : List FromItem)
    (filter : Option Expr) (group_by : List ColumnName) (having : Option Expr) (targets : List Kind)
    (s : Seen) (a : Around)
    → Sees s a → (judge_parts at (map select_item items) from (maybe filter) group_by
    (maybe having) targets s).faults ≡ []
    → QueryTyped (judge_parts at (map select_item items) from (maybe filter) group_by
    (maybe having) targets s).value a
    × (in_turn targets (kinds_shown (judge_parts at (map select_item items) from
    (maybe filter) group_by (maybe having) targets s).value.columns) ≡ true)
parts_typed at items from filter group_by having targets s a sees p =
    subst (λ (n : Noted TypedQuery). n.faults ≡ [] → QueryTyped n.value a ×
    (in_turn targets (kinds_shown n.value.columns) ≡ true))
    (parts_as_query at items from filter group_by having targets s)
    (query_typed targets (select_of at items from filter group_by having) s a sees) p

pub ordered_typed : (q : OrderedQuery) (s : Seen) (a : Around) → Sees s a →
    (judge_ordered_typed q s).faults ≡ [] → QueryTyped (judge_ordered_typed q s).value a
ordered_typed q s a sees p =
    let query = judge_query [] q.query s in
    let keys = ordered_by q.order query.value in
    ordered-typed q.order query.value a (back_nil query.faults keys.faults p)
    (query_typed [] q.query s a sees (front_nil query.faults keys.faults p)).0

-- the conjuncts of WHERE, where no aggregate may stand
pub filter_typed : (filter : Option Expr) (s : Seen) (a : Around) → Sees s a →
    may_stand s.levels ≡ false → (judged_filter (maybe filter) s).faults ≡ []
    → tests a (map kind_of (judged_filter (maybe filter) s).value) ≡ true
filter_typed None s a sees m p = refl
filter_typed (Some e) s a sees m p = test-fits (expression e).judge s m (expr-fits e) p a sees

-- A query with its ORDER BY. ISO/IEC 9075-2, 14.3 (cursor specification).
use Rattle.std.specs.Prelude.{[]}
use Rattle.syntax_trees.specs.declared.query.OrderedQuery.{OrderedQuery}
use Rattle.bound_trees.specs.declared.query.BoundQuery.{BoundQuery}
use Rattle.bind_faults.specs.Faults.{Noted, as_value, ◌>>=◌}
use Rattle.bind_sight.specs.Sight.{Seen}
use Rattle.bind_parts.specs.declared.typed.TypedQuery.{TypedQuery}
use Rattle.bind_parts.specs.Order.{ordered_by}
use Rattle.bind_queries.specs.Queries.{judge_query}

-- with its columns
abbrev pub judge_ordered_typed : OrderedQuery → Seen → Noted TypedQuery
judge_ordered_typed q seen = judge_query [] q.query seen >>= ordered_by q.order

-- a query with its ORDER BY, as a tree alone
abbrev pub judge_ordered : OrderedQuery → Seen → Noted BoundQuery
judge_ordered q seen = as_value (λ t. t.tree) (judge_ordered_typed q seen)

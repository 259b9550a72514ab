use Rattle.std.proofs.Common.{ap, [], ◌∷◌}
use Rattle.std.specs.Prelude.{codes}
use Rattle.bind_faults.specs.Faults.{Noted, ◌>>=◌}
use Rattle.bind_sight.specs.Sight.{at_top}
use Rattle.bind_parts.specs.declared.typed.TypedQuery.{TypedQuery}
use Rattle.bind_queries.specs.Examples.{catalog, two_names, two_of_one_name, by_name}
use Rattle.bind_parts.specs.Order.{ordered_by}
use Rattle.bind_queries.proofs.Rows.{query_plain}
use Rattle.bind_queries.proofs.order_by_output_columns.Goals as goal

pub returns : goal.returns
returns c = record {
  unknown = ap (λ (x : Noted TypedQuery). (x >>= ordered_by (by_name (codes "A") 70 ∷ [])).faults)
      (query_plain two_names [] (at_top catalog));
  found_twice = ap (λ (x : Noted TypedQuery).
      (x >>= ordered_by (by_name (codes "B") 70 ∷ [])).faults)
      (query_plain two_of_one_name [] (at_top catalog));
  by_the_last_part = ap (λ (x : Noted TypedQuery).
      (x >>= ordered_by (by_name (codes "B") 70 ∷ by_name (codes "C") 72 ∷ [])).value.tree)
      (query_plain two_names [] (at_top catalog));
  without_order = ap (λ (x : Noted TypedQuery). (x >>= ordered_by []).value.tree)
      (query_plain two_names [] (at_top catalog));
}

use Rattle.std.proofs.Common.{ap, []}
use Rattle.bind_faults.specs.Faults.{Noted}
use Rattle.bind_sight.specs.Sight.{at_top}
use Rattle.bind_parts.specs.declared.typed.TypedQuery.{TypedQuery}
use Rattle.bind_queries.specs.Examples.{catalog, joined, conjuncts}
use Rattle.bind_queries.proofs.Rows.{query_plain}
use Rattle.bind_queries.proofs.binds_by_place_in_from.Goals as goal

pub returns : goal.returns
returns c = record {
  tree = ap (λ (x : Noted TypedQuery). x.value.tree) (query_plain joined [] (at_top catalog));
  names = ap (λ (x : Noted TypedQuery). x.value.columns) (query_plain joined [] (at_top catalog));
  of_a_derived_table = ap (λ (x : Noted TypedQuery). x.value.tree)
      (query_plain conjuncts [] (at_top catalog));
}

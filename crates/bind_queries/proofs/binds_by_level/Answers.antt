use Rattle.std.proofs.Common.{ap, []}
use Rattle.bind_faults.specs.Faults.{Noted}
use Rattle.bind_sight.specs.Sight.{at_top}
use Rattle.bind_parts.specs.declared.typed.TypedQuery.{TypedQuery}
use Rattle.bind_queries.specs.Examples.{catalog, two_queries_out, members}
use Rattle.bind_queries.proofs.Rows.{query_plain}
use Rattle.bind_queries.proofs.binds_by_level.Goals as goal

pub returns : goal.returns
returns c = record {
  two_out = ap (λ (x : Noted TypedQuery). x.value.tree)
      (query_plain two_queries_out [] (at_top catalog));
  of_members = ap (λ (x : Noted TypedQuery). x.value.tree)
      (query_plain members [] (at_top catalog));
  uses = ap (λ (x : Noted TypedQuery). x.uses) (query_plain members [] (at_top catalog));
}

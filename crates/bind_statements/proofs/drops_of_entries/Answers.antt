use Rattle.std.proofs.Common.{ap}
use Rattle.std.specs.Prelude.{codes}
use Rattle.statement_trees.specs.declared.definition.ObjectSort.TheVariants as sort
use Rattle.bind_faults.specs.Faults.{Noted, least}
use Rattle.bind_direct.specs.declared.bound.BoundStatement.{BoundStatement}
use Rattle.bind_queries.specs.Examples.{catalog}
use Rattle.bind_statements.specs.Examples.{with_user}
use Rattle.bind_statements.proofs.Rows.{drop-row}
use Rattle.bind_statements.proofs.drops_of_entries.Goals as goal

pub returns : goal.returns
returns c = record {
  nothing = ap (λ (x : Noted BoundStatement). least x.faults)
      (drop-row catalog sort.Table (codes "V"));
  table_as_function = ap (λ (x : Noted BoundStatement). least x.faults)
      (drop-row catalog sort.Function (codes "T"));
  function_as_table = ap (λ (x : Noted BoundStatement). least x.faults)
      (drop-row catalog sort.Table (codes "F"));
  function_as_procedure = ap (λ (x : Noted BoundStatement). least x.faults)
      (drop-row catalog sort.Procedure (codes "F"));
  table_in_use = ap (λ (x : Noted BoundStatement). least x.faults)
      (drop-row with_user sort.Table (codes "T"));
  function_in_use = ap (λ (x : Noted BoundStatement). least x.faults)
      (drop-row with_user sort.Function (codes "E"));
  sort_before_use = ap (λ (x : Noted BoundStatement). least x.faults)
      (drop-row with_user sort.Function (codes "T"));
  unused = ap (λ (x : Noted BoundStatement). x.faults) (drop-row catalog sort.Table (codes "T"));
  user = ap (λ (x : Noted BoundStatement). x.faults) (drop-row with_user sort.Function (codes "G"));
  dropped = ap (λ (x : Noted BoundStatement). x.value) (drop-row catalog sort.Function (codes "F"));
}

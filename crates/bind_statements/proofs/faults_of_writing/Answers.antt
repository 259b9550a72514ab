use Rattle.std.proofs.Common.{ap, [], ◌∷◌, None, Some}
use Rattle.std.specs.Prelude.{codes}
use Rattle.sql_values.specs.declared.operators.Operator.TheVariants.{Add}
use Rattle.sql_values.specs.declared.fold.FoldKind.TheVariants.{Max}
use Rattle.syntax_trees.specs.declared.expr.ChainOperator.TheVariants.{Value}
use Rattle.bind_faults.specs.Faults.{Noted, least}
use Rattle.bind_direct.specs.declared.bound.BoundStatement.{BoundStatement}
use Rattle.bind_queries.specs.Examples.{called, null, number, text, name, qualified, chain, equal}
use Rattle.bind_queries.specs.Examples.{aggregate}
use Rattle.bind_statements.proofs.Rows.{listed-row, update-row, delete-row}
use Rattle.bind_statements.proofs.faults_of_writing.Goals as goal

pub returns : goal.returns
returns c = record {
  listed_twice = ap (λ (x : Noted BoundStatement). least x.faults)
      (listed-row (codes "T") (called (codes "K") 4 ∷ called (codes "K") 6 ∷ [])
      (null 12 ∷ null 14 ∷ []));
  unknown_in_the_list = ap (λ (x : Noted BoundStatement). least x.faults)
      (listed-row (codes "T") (called (codes "A") 4 ∷ called (codes "B") 6 ∷ [])
      (null 12 ∷ null 14 ∷ []));
  unknown_twice = ap (λ (x : Noted BoundStatement). x.faults)
      (listed-row (codes "T") (called (codes "B") 4 ∷ called (codes "B") 6 ∷ [])
      (null 12 ∷ null 14 ∷ []));
  listed_twice_of_no_table = ap (λ (x : Noted BoundStatement). x.faults)
      (listed-row (codes "U") (called (codes "B") 4 ∷ called (codes "B") 6 ∷ [])
      (null 12 ∷ null 14 ∷ []));
  more_than_listed = ap (λ (x : Noted BoundStatement). least x.faults)
      (listed-row (codes "T") (called (codes "A") 4 ∷ []) (null 12 ∷ null 14 ∷ []));
  fewer_than_listed = ap (λ (x : Noted BoundStatement). least x.faults)
      (listed-row (codes "T") (called (codes "A") 4 ∷ called (codes "K") 6 ∷ []) (null 12 ∷ []));
  width_for_no_table = ap (λ (x : Noted BoundStatement). x.faults)
      (listed-row (codes "U") (called (codes "A") 4 ∷ []) (null 12 ∷ null 14 ∷ []));
  kind_by_the_list = ap (λ (x : Noted BoundStatement). least x.faults)
      (listed-row (codes "S") (called (codes "B") 4 ∷ called (codes "A") 6 ∷ [])
      (text 12 ∷ text 14 ∷ []));
  any_kind_for_no_column = ap (λ (x : Noted BoundStatement). x.faults)
      (listed-row (codes "T") (called (codes "B") 4 ∷ []) (text 12 ∷ []));
  no_table_to_update = ap (λ (x : Noted BoundStatement). x.faults)
      (update-row (codes "U") ((called (codes "B") 3, name (codes "C") 5) ∷ [])
      (Some (name (codes "D") 7)));
  assigned_twice = ap (λ (x : Noted BoundStatement). least x.faults)
      (update-row (codes "T") ((called (codes "A") 3, null 5) ∷ (called (codes "A") 7, null 9) ∷ [])
      None);
  unknown_assigned_twice = ap (λ (x : Noted BoundStatement). x.faults)
      (update-row (codes "T") ((called (codes "B") 3, null 5) ∷ (called (codes "B") 7, null 9) ∷ [])
      None);
  unknown_assigned = ap (λ (x : Noted BoundStatement). least x.faults)
      (update-row (codes "T") ((called (codes "B") 3, null 5) ∷ []) None);
  kind_of_the_column = ap (λ (x : Noted BoundStatement). least x.faults)
      (update-row (codes "S") ((called (codes "B") 3, text 5) ∷ (called (codes "A") 7, text 9) ∷ [])
      None);
  one_fault_in_a_value = ap (λ (x : Noted BoundStatement). x.faults)
      (update-row (codes "T") ((called (codes "A") 3, chain (text 5) (Value Add) 6 (number 7)) ∷ [])
      None);
  unknown_in_a_value = ap (λ (x : Noted BoundStatement). least x.faults)
      (update-row (codes "T") ((called (codes "A") 3, name (codes "B") 5) ∷ []) None);
  aggregate_in_a_value = ap (λ (x : Noted BoundStatement). least x.faults)
      (update-row (codes "T") ((called (codes "A") 3, aggregate Max 5 (name (codes "A") 7)) ∷ [])
      None);
  test_of_update = ap (λ (x : Noted BoundStatement). least x.faults)
      (update-row (codes "T") ((called (codes "A") 3, null 5) ∷ []) (Some (number 7)));
  aggregate_in_where = ap (λ (x : Noted BoundStatement). least x.faults)
      (delete-row (codes "T") (Some (equal (aggregate Max 4 (name (codes "A") 6)) 8 (number 9))));
  under_its_name = ap (λ (x : Noted BoundStatement). x.faults)
      (update-row (codes "T") ((called (codes "A") 3, qualified (codes "T") 5 (codes "K")) ∷ [])
      (Some (equal (qualified (codes "T") 9 (codes "A")) 12 (number 13))));
  under_another_name = ap (λ (x : Noted BoundStatement). least x.faults)
      (update-row (codes "T") ((called (codes "A") 3, qualified (codes "S") 5 (codes "A")) ∷ [])
      None);
  no_table_to_delete = ap (λ (x : Noted BoundStatement). x.faults)
      (delete-row (codes "U") (Some (name (codes "D") 4)));
  function_to_delete = ap (λ (x : Noted BoundStatement). least x.faults)
      (delete-row (codes "F") None);
  test_of_delete = ap (λ (x : Noted BoundStatement). least x.faults)
      (delete-row (codes "T") (Some (text 4)));
  unknown_in_where = ap (λ (x : Noted BoundStatement). least x.faults)
      (delete-row (codes "T") (Some (equal (name (codes "B") 4) 5 (null 6))));
}

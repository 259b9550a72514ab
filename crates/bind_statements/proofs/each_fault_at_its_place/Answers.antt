use Rattle.std.proofs.Common.{ap, [], ◌∷◌, None}
use Rattle.std.specs.Prelude.{codes}
use Rattle.sql_values.specs.declared.fold.FoldKind.TheVariants.{Sum, Max}
use Rattle.statement_trees.specs.declared.definition.Constraint.TheVariants.{NotNull, PrimaryKey}
use Rattle.bind_faults.specs.Faults.{Noted, least}
use Rattle.bind_direct.specs.declared.bound.BoundStatement.{BoundStatement}
use Rattle.bind_queries.specs.Examples.{at, null, number, name, call, aggregate}
use Rattle.bind_queries.specs.Written.{Subquery}
use Rattle.bind_statements.specs.Examples.{integer, boolean, varchar, new_column, new_parameter}
use Rattle.bind_statements.specs.Examples.{select_of}
use Rattle.bind_statements.proofs.Rows.{table-row, select-row, values-row, insert-row, function-row}
use Rattle.bind_statements.proofs.each_fault_at_its_place.Goals as goal

pub returns : goal.returns
returns c = record {
  unknown_table = ap (λ (x : Noted BoundStatement). least x.faults)
      (insert-row (codes "U") ((null 5 ∷ []) ∷ []));
  function_as_table = ap (λ (x : Noted BoundStatement). least x.faults)
      (select-row (codes "F") (null 1 ∷ []) None);
  unknown_column = ap (λ (x : Noted BoundStatement). least x.faults)
      (select-row (codes "T") (null 1 ∷ name (codes "B") 3 ∷ []) None);
  column_of_unknown_table = ap (λ (x : Noted BoundStatement). least x.faults)
      (select-row (codes "U") (name (codes "B") 1 ∷ []) None);
  no_column_in_values = ap (λ (x : Noted BoundStatement). least x.faults)
      (insert-row (codes "T") ((null 5 ∷ name (codes "A") 7 ∷ []) ∷ []));
  unknown_function = ap (λ (x : Noted BoundStatement). least x.faults)
      (select-row (codes "T") (call (codes "G") 1 (null 3 ∷ []) ∷ []) None);
  table_as_function = ap (λ (x : Noted BoundStatement). least x.faults)
      (select-row (codes "T") (call (codes "T") 1 [] ∷ []) None);
  self_call = ap (λ (x : Noted BoundStatement). x.faults)
      (function-row (codes "G") (new_parameter (codes "X") 4 (integer 5) ∷ []) (integer 8)
      (call (codes "G") 10 (name (codes "X") 12 ∷ [])));
  arguments_of_a_self_call = ap (λ (x : Noted BoundStatement). least x.faults)
      (function-row (codes "G") (new_parameter (codes "X") 4 (integer 5) ∷ []) (integer 8)
      (call (codes "G") 10 []));
  taken_name = ap (λ (x : Noted BoundStatement). least x.faults)
      (function-row (codes "F") [] (integer 8) (null 10));
  second_parameter = ap (λ (x : Noted BoundStatement). least x.faults)
      (function-row (codes "G") (new_parameter (codes "X") 4 (integer 5) ∷ new_parameter
      (codes "X") 7 (integer 8) ∷ []) (integer 10) (null 12));
  arguments = ap (λ (x : Noted BoundStatement). least x.faults)
      (select-row (codes "T") (call (codes "F") 1 [] ∷ []) None);
  longer_row = ap (λ (x : Noted BoundStatement). least x.faults)
      (values-row ((null 4 ∷ []) ∷ (null 6 ∷ null 8 ∷ []) ∷ []));
  shorter_row = ap (λ (x : Noted BoundStatement). least x.faults)
      (values-row ((null 4 ∷ null 6 ∷ []) ∷ (null 8 ∷ []) ∷ []));
  width_of_the_table = ap (λ (x : Noted BoundStatement). least x.faults)
      (insert-row (codes "T") ((null 5 ∷ []) ∷ []));
  too_high = ap (λ (x : Noted BoundStatement). least x.faults)
      (function-row (codes "G") [] (integer 8) (call (codes "F") 17 (null 19 ∷ [])));
  too_high_after_unknown = ap (λ (x : Noted BoundStatement). least x.faults)
      (function-row (codes "G") [] (integer 8)
      (call (codes "H") 17 (call (codes "F") 19 (null 21 ∷ []) ∷ [])));
  second_column = ap (λ (x : Noted BoundStatement). least x.faults)
      (table-row (codes "V") (new_column (codes "A") 4 (integer 5) (PrimaryKey (at 6) ∷ []) ∷
      new_column (codes "A") 9 (integer 10) [] ∷ []));
  second_key = ap (λ (x : Noted BoundStatement). least x.faults)
      (table-row (codes "V") (new_column (codes "K") 4 (integer 5)
      (PrimaryKey (at 6) ∷ NotNull ∷ PrimaryKey (at 10) ∷ []) ∷ []));
  key_of_second_column = ap (λ (x : Noted BoundStatement). least x.faults)
      (table-row (codes "V") (new_column (codes "K") 4 (integer 5) (PrimaryKey (at 6) ∷ []) ∷
      new_column (codes "A") 9 (integer 10) (PrimaryKey (at 11) ∷ []) ∷ []));
  no_key = ap (λ (x : Noted BoundStatement). least x.faults)
      (table-row (codes "V") (new_column (codes "A") 4 (integer 5) (NotNull ∷ []) ∷ []));
  taken_before_no_key = ap (λ (x : Noted BoundStatement). least x.faults)
      (table-row (codes "T") (new_column (codes "A") 4 (integer 5) [] ∷ []));
  length_of_a_column = ap (λ (x : Noted BoundStatement). least x.faults)
      (table-row (codes "V") (new_column (codes "K") 4 (varchar 5 7 4097) (PrimaryKey (at 9) ∷ []) ∷
      []));
  aggregate_in_a_result = ap (λ (x : Noted BoundStatement). least x.faults)
      (function-row (codes "G") [] (integer 8) (aggregate Sum 10 (number 12)));
  aggregate_in_a_row = ap (λ (x : Noted BoundStatement). least x.faults)
      (insert-row (codes "T") ((null 5 ∷ aggregate Max 7 (number 9) ∷ []) ∷ []));
  unknown_table_in_a_subquery = ap (λ (x : Noted BoundStatement). least x.faults)
      (function-row (codes "G") [] (integer 8)
      (Subquery (select_of (codes "U") (null 12 ∷ []) None)));
  parameter_in_a_subquery = ap (λ (x : Noted BoundStatement). x.faults)
      (function-row (codes "G") (new_parameter (codes "X") 4 (integer 5) ∷ []) (integer 8)
      (Subquery (select_of (codes "T") (name (codes "X") 12 ∷ []) None)));
  free = ap (λ (x : Noted BoundStatement). x.faults)
      (table-row (codes "V") (new_column (codes "A") 4 (boolean 5) (NotNull ∷ []) ∷ new_column
      (codes "K") 8 (varchar 9 11 4096) (PrimaryKey (at 13) ∷ []) ∷ []));
}

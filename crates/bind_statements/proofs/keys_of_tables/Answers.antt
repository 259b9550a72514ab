use Rattle.std.proofs.Common.{ap, [], ◌∷◌}
use Rattle.std.specs.Prelude.{codes}
use Rattle.statement_trees.specs.declared.definition.Constraint.TheVariants.{PrimaryKey}
use Rattle.bind_faults.specs.Faults.{Noted, least}
use Rattle.bind_direct.specs.declared.bound.BoundStatement.{BoundStatement}
use Rattle.bind_queries.specs.Examples.{at, called}
use Rattle.bind_statements.specs.Examples.{key, a_column, k_column, k_and_a}
use Rattle.bind_statements.proofs.Rows.{keyed-row}
use Rattle.bind_statements.proofs.keys_of_tables.Goals as goal

pub returns : goal.returns
returns c = record {
  list_after_a_list = ap (λ (x : Noted BoundStatement). least x.faults)
      (keyed-row (codes "V") (a_column 4 ∷ key 7 (called (codes "A") 10 ∷ []) ∷ key 13
      (called (codes "A") 16 ∷ []) ∷ []));
  list_after_a_column = ap (λ (x : Noted BoundStatement). least x.faults)
      (keyed-row (codes "V") (k_column 4 (PrimaryKey (at 6) ∷ []) ∷ key 9
      (called (codes "K") 12 ∷ []) ∷ []));
  column_after_a_list = ap (λ (x : Noted BoundStatement). least x.faults)
      (keyed-row (codes "V") (key 4 (called (codes "K") 7 ∷ []) ∷ k_column 10
      (PrimaryKey (at 12) ∷ []) ∷ []));
  no_column = ap (λ (x : Noted BoundStatement). least x.faults)
      (keyed-row (codes "V") (a_column 4 ∷ key 7 (k_and_a 10 12) ∷ []));
  column_twice = ap (λ (x : Noted BoundStatement). least x.faults)
      (keyed-row (codes "V") (a_column 4 ∷ key 7
      (called (codes "A") 10 ∷ called (codes "A") 12 ∷ []) ∷ []));
  no_column_twice = ap (λ (x : Noted BoundStatement). x.faults)
      (keyed-row (codes "V") (a_column 4 ∷ key 7
      (called (codes "B") 10 ∷ called (codes "B") 12 ∷ []) ∷ []));
  of_the_second_list = ap (λ (x : Noted BoundStatement). least x.faults)
      (keyed-row (codes "V") (k_column 4 (PrimaryKey (at 6) ∷ []) ∷ key 9
      (called (codes "B") 12 ∷ []) ∷ []));
  no_column_of_a_later_key = ap (λ (x : Noted BoundStatement). x.faults)
      (keyed-row (codes "V") (k_column 4 (PrimaryKey (at 6) ∷ []) ∷ key 9
      (called (codes "B") 12 ∷ []) ∷ []));
  of_later_columns = ap (λ (x : Noted BoundStatement). x.faults)
      (keyed-row (codes "V") (key 4 (k_and_a 7 9) ∷ a_column 12 ∷ k_column 15 [] ∷ []));
}

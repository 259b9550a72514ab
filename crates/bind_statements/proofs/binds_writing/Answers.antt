use Rattle.std.proofs.Common.{ap, [], ◌∷◌, None, Some}
use Rattle.std.specs.Prelude.{codes}
use Rattle.syntax_trees.specs.declared.expr.ChainOperator.TheVariants.{And}
use Rattle.syntax_trees.specs.declared.expr.Operation.TheVariants.{Is}
use Rattle.syntax_trees.specs.declared.expr.TruthTest.TheVariants as test
use Rattle.statement_trees.specs.declared.definition.Constraint.TheVariants.{NotNull, PrimaryKey}
use Rattle.bind_faults.specs.Faults.{Noted}
use Rattle.bind_direct.specs.declared.bound.BoundStatement.{BoundStatement}
use Rattle.bind_queries.specs.Examples.{at, called, null, number, name, word, chain, equal}
use Rattle.bind_statements.specs.Examples.{key, a_column, k_column, k_and_a}
use Rattle.bind_statements.proofs.Rows.{keyed-row, insert-row, listed-row, update-row, delete-row}
use Rattle.bind_statements.proofs.binds_writing.Goals as goal

pub returns : goal.returns
returns c = record {
  by_the_list = ap (λ (x : Noted BoundStatement). x.value)
      (listed-row (codes "T") (called (codes "A") 4 ∷ called (codes "K") 6 ∷ [])
      (null 12 ∷ number 14 ∷ []));
  without_a_list = ap (λ (x : Noted BoundStatement). x.value)
      (insert-row (codes "T") ((null 5 ∷ null 7 ∷ []) ∷ []));
  in_another_order = ap (λ (x : Noted BoundStatement). x.value)
      (update-row (codes "S") ((called (codes "B") 3, null 5) ∷
      (called (codes "A") 7, name (codes "A") 9) ∷ []) None);
  by_conjuncts = ap (λ (x : Noted BoundStatement). x.value)
      (delete-row (codes "T") (Some (chain (equal (name (codes "K") 4) 5 (number 6)) And 7
      (word (Is test.Null) 9 (name (codes "A") 8 ∷ [])))));
  without_a_test = ap (λ (x : Noted BoundStatement). x.value) (delete-row (codes "T") None);
  key_of_two_columns = ap (λ (x : Noted BoundStatement). x.value)
      (keyed-row (codes "V") (a_column 4 ∷ key 7 (k_and_a 10 12) ∷ k_column 15 (NotNull ∷ []) ∷
      []));
  key_of_a_column = ap (λ (x : Noted BoundStatement). x.value)
      (keyed-row (codes "V") (a_column 4 ∷ k_column 7 (PrimaryKey (at 9) ∷ []) ∷ []));
}

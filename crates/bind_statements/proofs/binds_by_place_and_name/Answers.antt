use Rattle.std.proofs.Common.{ap, [], ◌∷◌, None}
use Rattle.std.specs.Prelude.{codes}
use Rattle.syntax_trees.specs.declared.expr.Operation.TheVariants.{Plus, IsNot}
use Rattle.syntax_trees.specs.declared.expr.TruthTest.TheVariants as test
use Rattle.bind_faults.specs.Faults.{Noted}
use Rattle.bind_direct.specs.declared.bound.BoundStatement.{BoundStatement}
use Rattle.bind_queries.specs.Examples.{name, call, word}
use Rattle.bind_statements.proofs.Rows.{select-row}
use Rattle.bind_statements.proofs.binds_by_place_and_name.Goals as goal

pub returns : goal.returns
returns c = record {
  whole = ap (λ (x : Noted BoundStatement). x.value)
      (select-row (codes "T") (name (codes "A") 1 ∷ call (codes "E") 3 (name (codes "K") 5 ∷ []) ∷
      word (IsNot test.Null) 8 (name (codes "K") 7 ∷ []) ∷ word Plus 11 (name (codes "A") 12 ∷ []) ∷
      []) None);
}

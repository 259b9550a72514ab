use Rattle.std.proofs.Common.{ap, [], ◌∷◌, None, Some}
use Rattle.std.specs.Prelude.{codes}
use Rattle.sql_values.specs.declared.operators.Operator.TheVariants.{Add, Divide, Concatenate}
use Rattle.sql_values.specs.declared.operators.Comparison.TheVariants.{Equals}
use Rattle.syntax_trees.specs.declared.expr.ChainOperator.TheVariants.{Or, And, Value}
use Rattle.syntax_trees.specs.declared.expr.Operation.TheVariants.{Plus, Minus, Not, Compare, Is}
use Rattle.syntax_trees.specs.declared.expr.Operation.TheVariants.{IsNot, In, NotIn, Modulo}
use Rattle.syntax_trees.specs.declared.expr.Operation.TheVariants.{CharLength, Substring, Cast}
use Rattle.syntax_trees.specs.declared.expr.Operation.TheVariants.{Coalesce, Case, CaseOf}
use Rattle.syntax_trees.specs.declared.expr.TruthTest.TheVariants as test
use Rattle.bind_faults.specs.Faults.{Noted, least}
use Rattle.bind_direct.specs.declared.bound.BoundStatement.{BoundStatement}
use Rattle.bind_queries.specs.Examples.{null, number, text, truth, name, call, word, chain}
use Rattle.bind_statements.specs.Examples.{integer, boolean, varchar, new_parameter}
use Rattle.bind_statements.proofs.Rows.{select-row, values-row, insert-row, function-row}
use Rattle.bind_statements.proofs.kinds_fit.Goals as goal

pub returns : goal.returns
returns c = record {
  addend = ap (λ (x : Noted BoundStatement). least x.faults)
      (select-row (codes "T") (chain (number 1) (Value Add) 2 (text 3) ∷ []) None);
  dividend = ap (λ (x : Noted BoundStatement). least x.faults)
      (select-row (codes "T") (chain (text 1) (Value Divide) 2 (number 3) ∷ []) None);
  bars = ap (λ (x : Noted BoundStatement). least x.faults)
      (select-row (codes "T") (chain (number 1) (Value Concatenate) 2 (text 3) ∷ []) None);
  sign = ap (λ (x : Noted BoundStatement). least x.faults)
      (select-row (codes "T") (word Minus 1 (text 2 ∷ []) ∷ []) None);
  plus_sign = ap (λ (x : Noted BoundStatement). least x.faults)
      (select-row (codes "T") (word Plus 1 (truth 2 ∷ []) ∷ []) None);
  modulo = ap (λ (x : Noted BoundStatement). least x.faults)
      (select-row (codes "T") (word Modulo 1 (number 3 ∷ text 5 ∷ []) ∷ []) None);
  char_length = ap (λ (x : Noted BoundStatement). least x.faults)
      (select-row (codes "T") (word CharLength 1 (number 3 ∷ []) ∷ []) None);
  substring_text = ap (λ (x : Noted BoundStatement). least x.faults)
      (select-row (codes "T") (word Substring 1 (number 3 ∷ number 5 ∷ []) ∷ []) None);
  substring_place = ap (λ (x : Noted BoundStatement). least x.faults)
      (select-row (codes "T") (word Substring 1 (text 3 ∷ text 5 ∷ []) ∷ []) None);
  substring_length = ap (λ (x : Noted BoundStatement). least x.faults)
      (select-row (codes "T") (word Substring 1 (text 3 ∷ number 5 ∷ truth 7 ∷ []) ∷ []) None);
  and_operand = ap (λ (x : Noted BoundStatement). least x.faults)
      (select-row (codes "T") (chain (truth 1) (And) 2 (number 3) ∷ []) None);
  or_operand = ap (λ (x : Noted BoundStatement). least x.faults)
      (select-row (codes "T") (chain (number 1) (Or) 2 (truth 3) ∷ []) None);
  not_operand = ap (λ (x : Noted BoundStatement). least x.faults)
      (select-row (codes "T") (word Not 1 (text 2 ∷ []) ∷ []) None);
  is_true = ap (λ (x : Noted BoundStatement). least x.faults)
      (select-row (codes "T") (word (Is test.True) 2 (number 1 ∷ []) ∷ []) None);
  is_not_unknown = ap (λ (x : Noted BoundStatement). least x.faults)
      (select-row (codes "T") (word (IsNot test.Unknown) 2 (text 1 ∷ []) ∷ []) None);
  where_test = ap (λ (x : Noted BoundStatement). least x.faults)
      (select-row (codes "T") (null 1 ∷ []) (Some (number 92)));
  when_test = ap (λ (x : Noted BoundStatement). least x.faults)
      (select-row (codes "T") (word Case 1 (number 3 ∷ number 5 ∷ []) ∷ []) None);
  cast_to_truth = ap (λ (x : Noted BoundStatement). least x.faults)
      (select-row (codes "T") (word (Cast (boolean 5)) 1 (number 3 ∷ []) ∷ []) None);
  cast_to_number = ap (λ (x : Noted BoundStatement). least x.faults)
      (select-row (codes "T") (word (Cast (integer 5)) 1 (truth 3 ∷ []) ∷ []) None);
  comparison = ap (λ (x : Noted BoundStatement). least x.faults)
      (select-row (codes "T") (word (Compare Equals) 2 (number 1 ∷ text 3 ∷ []) ∷ []) None);
  comparison_with_a_chain = ap (λ (x : Noted BoundStatement). least x.faults)
      (select-row (codes "T") (word (Compare Equals) 2
      (text 1 ∷ chain (number 3) (Value Add) 4 (number 5) ∷ []) ∷ []) None);
  in_item = ap (λ (x : Noted BoundStatement). least x.faults)
      (select-row (codes "T") (word In 2 (number 1 ∷ null 4 ∷ number 6 ∷ text 8 ∷ []) ∷ []) None);
  not_in_item = ap (λ (x : Noted BoundStatement). least x.faults)
      (select-row (codes "T") (word NotIn 3 (text 1 ∷ number 5 ∷ []) ∷ []) None);
  when_of_an_operand = ap (λ (x : Noted BoundStatement). least x.faults)
      (select-row (codes "T") (word CaseOf 1 (number 2 ∷ text 4 ∷ number 6 ∷ []) ∷ []) None);
  then_result = ap (λ (x : Noted BoundStatement). least x.faults)
      (select-row (codes "T") (word Case 1 (truth 3 ∷ number 5 ∷ truth 7 ∷ text 9 ∷ []) ∷ []) None);
  else_result = ap (λ (x : Noted BoundStatement). least x.faults)
      (select-row (codes "T") (word CaseOf 1 (number 2 ∷ number 4 ∷ text 6 ∷ truth 8 ∷ []) ∷ [])
      None);
  coalesce = ap (λ (x : Noted BoundStatement). least x.faults)
      (select-row (codes "T") (word Coalesce 1 (null 3 ∷ number 5 ∷ text 7 ∷ []) ∷ []) None);
  column_of_values = ap (λ (x : Noted BoundStatement). least x.faults)
      (values-row ((null 5 ∷ []) ∷ (text 9 ∷ []) ∷ (number 13 ∷ []) ∷ []));
  stored_value = ap (λ (x : Noted BoundStatement). least x.faults)
      (insert-row (codes "T") ((number 5 ∷ text 7 ∷ []) ∷ []));
  stored_in_a_later_row = ap (λ (x : Noted BoundStatement). least x.faults)
      (insert-row (codes "T") ((null 5 ∷ null 7 ∷ []) ∷ (number 11 ∷ truth 13 ∷ []) ∷ []));
  argument = ap (λ (x : Noted BoundStatement). least x.faults)
      (select-row (codes "T") (call (codes "F") 1 (text 3 ∷ []) ∷ []) None);
  returned = ap (λ (x : Noted BoundStatement). least x.faults)
      (function-row (codes "G") [] (integer 8) (text 10));
  parameter_as_an_operand = ap (λ (x : Noted BoundStatement). least x.faults)
      (function-row (codes "G") (new_parameter (codes "X") 4 (boolean 5) ∷ []) (integer 8)
      (word Minus 10 (name (codes "X") 11 ∷ [])));
  column_as_an_operand = ap (λ (x : Noted BoundStatement). least x.faults)
      (select-row (codes "T") (word Not 1 (name (codes "A") 2 ∷ []) ∷ []) None);
  length_of_nothing = ap (λ (x : Noted BoundStatement). least x.faults)
      (select-row (codes "T") (word (Cast (varchar 5 7 0)) 1 (null 3 ∷ []) ∷ []) None);
  length_over_the_limit = ap (λ (x : Noted BoundStatement). least x.faults)
      (select-row (codes "T") (word (Cast (varchar 5 7 4097)) 1 (null 3 ∷ []) ∷ []) None);
  length_of_a_parameter = ap (λ (x : Noted BoundStatement). least x.faults)
      (function-row (codes "G") (new_parameter (codes "X") 4 (varchar 5 7 4097) ∷ []) (integer 9)
      (null 11));
  length_of_a_result = ap (λ (x : Noted BoundStatement). least x.faults)
      (function-row (codes "G") [] (varchar 7 9 0) (null 12));
  one_fault_in_a_chain = ap (λ (x : Noted BoundStatement). x.faults)
      (select-row (codes "T") (chain (chain (chain (text 1) (Value Add) 2 (number 3)) (Value Add) 4
      (number 5)) (Value Concatenate) 6 (text 7) ∷ []) None);
  one_fault_after_an_unknown_name = ap (λ (x : Noted BoundStatement). x.faults)
      (select-row (codes "T") (word Not 1 (word Minus 2 (name (codes "B") 3 ∷ []) ∷ []) ∷ []) None);
  one_fault_in_a_row = ap (λ (x : Noted BoundStatement). x.faults)
      (insert-row (codes "T") ((chain (text 5) (Value Add) 6 (number 7) ∷ number 9 ∷ []) ∷ []));
  null_fits = ap (λ (x : Noted BoundStatement). x.faults)
      (select-row (codes "T") (chain (null 1) (Value Concatenate) 2 (text 3) ∷
      word (Compare Equals) 5 (null 4 ∷ truth 6 ∷ []) ∷ []) (Some (null 92)));
  is_null_of_any = ap (λ (x : Noted BoundStatement). x.faults)
      (select-row (codes "T") (word (Is test.Null) 2 (text 1 ∷ []) ∷ word (IsNot test.Null) 5
      (number 4 ∷ []) ∷ []) None);
  casts_by_text = ap (λ (x : Noted BoundStatement). x.faults)
      (select-row (codes "T") (word (Cast (boolean 5)) 1 (text 3 ∷ []) ∷
      word (Cast (varchar 9 11 4096)) 7 (truth 8 ∷ []) ∷ []) None);
}

use Rattle.std.proofs.Common.{◌∙◌, ap, [], ◌∷◌, None, Some}
use Rattle.std.specs.Prelude.{codes}
use Rattle.bind_faults.specs.Faults.{Noted}
use Rattle.bind_direct.specs.declared.bound.BoundStatement.{BoundStatement}
use Rattle.bind_queries.specs.Examples.{called, name, call, catalog}
use Rattle.bind_statements.specs.Examples.{integer, new_parameter, delete, deterministic, returning}
use Rattle.bind_statements.specs.Examples.{block, new_function}
use Rattle.bind_statements.proofs.Light.{variable-planned}
use Rattle.bind_statements.proofs.Rows.{function-row, call-row, explain-row, block-row}
use Rattle.bind_statements.proofs.Rows.{procedure-row, body-block-row, characteristic-row}
use Rattle.bind_statements.proofs.Rows.{anchor-of-call, anchor-of-explain, anchor-of-block}
use Rattle.bind_statements.proofs.Rows.{anchor-of-function, anchor-of-procedure}
use Rattle.bind_statements.proofs.forms_bound_alone.Goals as goal

pub returns : goal.returns
returns c = record {
  planned_form = ap (λ (x : Noted BoundStatement). x.value.by_plan)
      (function-row (codes "G") (new_parameter (codes "X") 4 (integer 5) ∷ []) (integer 8)
      (name (codes "X") 10)) ∙
      variable-planned catalog (new_function (codes "G")
      (new_parameter (codes "X") 4 (integer 5) ∷ []) (integer 8) (name (codes "X") 10));
  planned_form_is_valid = ap (λ (x : Noted BoundStatement). x.faults)
      (function-row (codes "G") (new_parameter (codes "X") 4 (integer 5) ∷ []) (integer 8)
      (name (codes "X") 10));
  self_call = ap (λ (x : Noted BoundStatement). x.value.by_plan)
      (function-row (codes "G") (new_parameter (codes "X") 4 (integer 5) ∷ []) (integer 8)
      (call (codes "G") 10 (name (codes "X") 12 ∷ [])));
  body_that_is_a_block = ap (λ (x : Noted BoundStatement). x.value.by_plan)
      (body-block-row (returning (codes "X") ∷ []));
  with_a_characteristic = characteristic-row deterministic [] (returning (codes "X"));
  of_a_procedure = procedure-row (delete (codes "T") None);
  of_call = ap (λ (x : Noted BoundStatement). x.value.by_plan) (call-row 0);
  of_a_block = ap (λ (x : Noted BoundStatement). x.value.by_plan)
      (block-row (Some (called (codes "L") 0)) 2 (delete (codes "T") None ∷ []));
  of_explain = ap (λ (x : Noted BoundStatement). x.value.by_plan) (explain-row (codes "T"));
  explain_without_faults = ap (λ (x : Noted BoundStatement). x.faults) (explain-row (codes "T"));
  unknown_table_in_explain = ap (λ (x : Noted BoundStatement). x.faults) (explain-row (codes "U"));
  unknown_procedure = ap (λ (x : Noted BoundStatement). x.faults) (call-row 0);
  at_create = anchor-of-function [] (block None 9 []);
  at_create_procedure = anchor-of-procedure (delete (codes "T") None);
  at_call = anchor-of-call 0;
  at_explain = anchor-of-explain (codes "T");
  at_begin = anchor-of-block None 0 [];
  at_begin_after_a_label = anchor-of-block (Some (called (codes "L") 0)) 2 [];
}

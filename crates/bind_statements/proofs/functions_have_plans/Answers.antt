use Rattle.std.proofs.Common.{◌≡◌, ◌∙◌, ap, List, [], ◌∷◌, Option, Some}
use Rattle.std.specs.Prelude.{codes}
use Rattle.statement_trees.specs.declared.definition.Characteristic.{Characteristic}
use Rattle.statement_trees.specs.declared.definition.CharacteristicKind.{CharacteristicKind}
use Rattle.statement_trees.specs.declared.definition.CharacteristicKind.TheVariants as written
use Rattle.statement_trees.specs.declared.definition.Parameter.{Parameter}
use Rattle.bound_trees.specs.declared.expr.BoundExpr.{BoundExpr}
use Rattle.bound_trees.specs.declared.expr.BoundExpr.TheVariants as bound
use Rattle.bind_faults.specs.Faults.{Noted}
use Rattle.bind_queries.specs.Examples.{at, name, call, catalog}
use Rattle.bind_rules.specs.Definitions.{Definition}
use Rattle.bind_definitions.specs.Making.{guarded_body}
use Rattle.bind_direct.specs.declared.bound.BoundStatement.{BoundStatement}
use Rattle.bind_statements.specs.Examples.{integer, new_parameter, planned_value, g_with}
use Rattle.bind_statements.specs.Examples.{definition_returning, new_function}
use Rattle.bind_statements.specs.Statements.{judged_statement}
use Rattle.bind_statements.proofs.Light.{variable-value}
use Rattle.bind_statements.proofs.Rows.{function-row, returning-row}
use Rattle.bind_statements.proofs.functions_have_plans.Goals as goal

-- X INTEGER, Y INTEGER
abbrev both : List Parameter
both = new_parameter (codes "X") 3 (integer 4) ∷ new_parameter (codes "Y") 5 (integer 6) ∷ []

abbrev only : CharacteristicKind → List Characteristic
only what = record { anchor = at 8; kind = what } ∷ []

abbrev made : Noted BoundStatement → Option BoundExpr
made x = planned_value x.value.bound

-- RETURN X, with a characteristic
abbrev g_of : CharacteristicKind → Definition
g_of what = definition_returning (codes "G") both (integer 7) (only what) (name (codes "X") 10)

planned : (what : CharacteristicKind) →
    made (judged_statement (g_with what (name (codes "X") 10)) catalog) ≡
    Some (guarded_body (g_of what) (bound.Variable 0))
planned what = ap made (returning-row (codes "G") both (integer 7) (only what)
    (name (codes "X") 10)) ∙ variable-value catalog (g_of what)

pub returns : goal.returns
returns c = record {
  without_a_characteristic = ap made (function-row (codes "G")
      (new_parameter (codes "X") 3 (integer 4) ∷ []) (integer 7) (name (codes "X") 10)) ∙
      variable-value catalog (new_function (codes "G")
      (new_parameter (codes "X") 3 (integer 4) ∷ []) (integer 7) (name (codes "X") 10));
  language = planned written.LanguageSql;
  deterministic = planned written.Deterministic;
  data_access = planned written.ModifiesSqlData;
  called_on_null = planned written.CalledOnNullInput;
  null_on_null = planned written.ReturnsNullOnNullInput;
  self_call = ap made (returning-row (codes "G") both (integer 7) (only written.Deterministic)
      (call (codes "G") 10 (name (codes "X") 12 ∷ name (codes "Y") 14 ∷ [])));
}

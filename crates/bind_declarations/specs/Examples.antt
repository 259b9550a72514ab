-- Worked rows: what declarations bring in sight, and each fault at its place.
use Rattle.std.specs.Prelude.{ℕ, ◌≡◌, true, false, List, [], ◌∷◌, ◌+◌, Some, codes}
use Rattle.sql_values.specs.declared.value.SqlType.TheVariants.{Integer as IntegerType}
use Rattle.statement_trees.specs.declared.condition.ConditionValue.{ConditionValue}
use Rattle.statement_trees.specs.declared.condition.ConditionValue.TheVariants as waited
use Rattle.statement_trees.specs.declared.declaration.ConditionDeclaration.{ConditionDeclaration}
use Rattle.statement_trees.specs.declared.declaration.HandlerType.TheVariants.{Continue, Exit, Undo}
use Rattle.bound_trees.specs.declared.condition.BoundConditionValue.TheVariants as value
use Rattle.bound_trees.specs.declared.statement.BoundHandler.{BoundHandler}
use Rattle.bound_trees.specs.declared.statement.BoundStmt.TheVariants as bound
use Rattle.bind_faults.specs.declared.fault.FaultKind.TheVariants.{UnknownName, DuplicateName}
use Rattle.bind_faults.specs.declared.fault.FaultKind.TheVariants.{NotPermitted}
use Rattle.bind_faults.specs.Faults.{least}
use Rattle.bind_sight.specs.declared.scope.Scope.{Scope}
use Rattle.bind_sight.specs.Scopes.{variable_named, condition_named}
use Rattle.bind_simple.specs.Examples.{at, named, fault, declared, inside}
use Rattle.bind_declarations.specs.declared.declared.Declared.{Declared}
use Rattle.bind_declarations.specs.Loops.{next_slot, next_cursor}
use Rattle.bind_declarations.specs.Declarations.{nothing_declared, again, with_variables}
use Rattle.bind_declarations.specs.Declarations.{names_faults, judged_condition, over_scope}
use Rattle.bind_declarations.specs.Declarations.{value_of, values_faults, handler_of}
use Rattle.bind_rules.specs.Targets.{variable_of}
use Rattle.bind_rules.specs.Handlers.{undo_faults}

-- nothing declared yet in a compound statement that stands inside
abbrev pub fresh : Declared
fresh = nothing_declared inside

-- DECLARE X, Y INTEGER
abbrev pub two : Scope
two = with_variables (named (codes "X") 1 ∷ named (codes "Y") 2 ∷ []) (variable_of IntegerType)
    fresh.scope

-- DECLARE name CONDITION FOR SQLSTATE state
abbrev pub condition : List ℕ → List ℕ → ConditionDeclaration
condition name state = record {
  name = named name 1;
  state =
      record { anchor = at 4; text = state };
}

-- SQLSTATE state
abbrev pub state : List ℕ → ℕ → ConditionValue
state text token = waited.Sqlstate (at token) (record { anchor = at (token + 1); text = text })

-- a handler for SQLSTATE '45000'
abbrev pub waiting : BoundHandler
waiting = handler_of Exit (value.State (codes "45000") ∷ []) (bound.Loop [])

-- which slots declarations take, and each fault of their names
pub record DeclarationsStand : Type 0 where
  pub slots_after_those_outside : next_slot inside.scopes ≡ 5
  pub cursors_after_those_outside : next_cursor inside.scopes ≡ 3
  pub slot_of_the_second : variable_named (codes "Y") (two ∷ inside.scopes) ≡
      Some (6, variable_of IntegerType)
  pub outer_variable : variable_named (codes "A") (two ∷ inside.scopes) ≡
      Some (3, variable_of IntegerType)
  pub new_names : names_faults (named (codes "X") 1 ∷ named (codes "Y") 2 ∷ [])
      (variable_of IntegerType) fresh.scope ≡ []
  pub name_of_the_same_list : names_faults (named (codes "X") 1 ∷ named (codes "X") 2 ∷ [])
      (variable_of IntegerType) fresh.scope ≡ fault DuplicateName 2
  pub name_of_an_outer_variable : again (named (codes "A") 1) fresh.scope ≡ []
  pub name_of_a_variable : again (named (codes "X") 3) two ≡ fault DuplicateName 3
  pub name_of_a_condition : again (named (codes "D") 3) declared ≡ fault DuplicateName 3
  pub name_of_a_cursor : again (named (codes "C") 3) declared ≡ fault DuplicateName 3
  pub condition_in_sight : condition_named (codes "E")
      ((judged_condition (condition (codes "E") (codes "22012")) fresh).value.scope ∷ inside.scopes)
      ≡ Some (codes "22012")
  pub condition_without_faults : (judged_condition (condition (codes "E") (codes "22012"))
      fresh).faults ≡ []
  pub condition_of_no_state : (judged_condition (condition (codes "E") (codes "2201")) fresh).faults
      ≡ fault NotPermitted 4
  pub condition_again : (judged_condition (condition (codes "X") (codes "22012"))
      (over_scope two fresh)).faults ≡ fault DuplicateName 1
  pub undo_in_atomic : undo_faults (at 2) Undo true ≡ []
  pub undo_elsewhere : undo_faults (at 2) Undo false ≡ fault NotPermitted 2
  pub continue_elsewhere : undo_faults (at 2) Continue false ≡ []
  pub condition_is_its_state : value_of inside (waited.Condition (named (codes "D") 3)) ≡
      value.State (codes "45000")
  pub unknown_condition : values_faults inside [] (waited.Condition (named (codes "X") 3) ∷ []) ≡
      fault UnknownName 3
  pub value_twice : values_faults inside [] (waited.SqlWarning (at 3) ∷ waited.NotFound (at 4) ∷
      waited.SqlWarning (at 5) ∷ []) ≡ fault DuplicateName 5
  pub state_and_its_condition : values_faults inside []
      (waited.Condition (named (codes "D") 3) ∷ state (codes "45000") 5 ∷ []) ≡
      fault DuplicateName 5
  pub first_of_two_that_are_no_states : least (values_faults inside []
      (state (codes "4500") 3 ∷ state (codes "x") 5 ∷ [])) ≡
      Some (record { at = at 4; kind = NotPermitted })
  pub no_state_after_a_state : least (values_faults inside []
      (state (codes "45000") 3 ∷ state (codes "4500") 5 ∷ [])) ≡
      Some (record { at = at 6; kind = NotPermitted })
  pub value_of_another_handler : values_faults inside (waiting ∷ [])
      (waited.Condition (named (codes "D") 3) ∷ []) ≡ fault DuplicateName 3
  pub value_of_no_other : values_faults inside (waiting ∷ []) (waited.SqlException (at 3) ∷ []) ≡ []

-- Worked rows: labels, targets, cursors and conditions by where a statement stands.
use Rattle.std.specs.Prelude.{ℕ, ◌≡◌, Bool, true, false, List, [], ◌∷◌, Some, None, codes}
use Rattle.sql_values.specs.declared.value.SqlType.TheVariants.{Integer as IntegerType}
use Rattle.syntax_trees.specs.declared.anchor.Anchor.{Anchor}
use Rattle.syntax_trees.specs.declared.anchor.Ident.{Ident}
use Rattle.statement_trees.specs.declared.condition.SignalValue.TheVariants as raised
use Rattle.statement_trees.specs.declared.condition.SqlstateValue.{SqlstateValue}
use Rattle.statement_trees.specs.declared.writing.Fetch.{Fetch}
use Rattle.bound_trees.specs.declared.statement.BoundStmt.TheVariants as bound
use Rattle.bind_faults.specs.declared.fault.Fault.{Fault}
use Rattle.bind_faults.specs.declared.fault.FaultKind.{FaultKind}
use Rattle.bind_faults.specs.declared.fault.FaultKind.TheVariants.{UnknownName, DuplicateName}
use Rattle.bind_faults.specs.declared.fault.FaultKind.TheVariants.{TypeMismatch, WrongCount}
use Rattle.bind_faults.specs.declared.fault.FaultKind.TheVariants.{NotPermitted}
use Rattle.bind_kinds.specs.declared.kind.Kind.TheVariants.{Integer, Text}
use Rattle.bind_sight.specs.declared.scope.Scope.{Scope}
use Rattle.bind_rules.specs.Labels.{Label, label_faults, end_faults}
use Rattle.bind_simple.specs.Places.{Surroundings, with_labels, in_action}
use Rattle.bind_simple.specs.Values.{faults_at, stored_at}
use Rattle.bind_simple.specs.States.{is_sqlstate, state_of, state_named, judged_signal}
use Rattle.bind_simple.specs.Storing.{fetched_faults, fetched_targets}
use Rattle.bind_simple.specs.Calls.{judged_call}
use Rattle.bind_simple.specs.Simple.{judged_leave, judged_iterate, judged_open, judged_close}
use Rattle.bind_simple.specs.Simple.{misplaced}

-- a token of the first line
abbrev pub at : ℕ → Anchor
at token = record { token = token; line = 1; column = 1 }

-- a name at a token
abbrev pub named : List ℕ → ℕ → Ident
named name token = record { name = name; anchor = at token }

-- one fault at a token
abbrev pub fault : FaultKind → ℕ → List Fault
fault kind token = record { at = at token; kind = kind } ∷ []

-- a compound statement or a loop with a label, which may be left
abbrev pub label : List ℕ → Bool → Label
label name is_loop = record { name = Some (named name 0); is_loop = is_loop; may_leave = true }

-- FOR R AS SELECT K ..: its column is the variable of slot 4
abbrev pub columns_of_for : Scope
columns_of_for = record {
  loop_name = Some (codes "R");
  first = 4;
  variables = codes "K" ∷ [];
  held = record { kind = Integer; data_type = None } ∷ [];
  conditions = [];
  states = [];
  first_cursor = 3;
  cursors = [];
  columns = [];
}

-- A INTEGER, of slot 3; D CONDITION FOR SQLSTATE '45000'; C CURSOR FOR a query of one text, of slot
-- 2
abbrev pub declared : Scope
declared = record {
  loop_name = None;
  first = 3;
  variables = codes "A" ∷ [];
  held = record { kind = Integer; data_type = Some IntegerType } ∷ [];
  conditions = codes "D" ∷ [];
  states = codes "45000" ∷ [];
  first_cursor = 2;
  cursors = codes "C" ∷ [];
  columns = record { kinds = Text ∷ [] } ∷ [];
}

-- inside of the loop L, that of the compound statement B
abbrev pub inside : Surroundings
inside = record {
  scopes = columns_of_for ∷ declared ∷ [];
  labels = label (codes "L") true ∷ label (codes "B") false ∷ [];
  returns = None;
  own = None;
  procedure = None;
  catalog = [];
}

-- in an action of B
abbrev pub acting : Surroundings
acting = in_action (with_labels (label (codes "B") false ∷ label (codes "L") true ∷ []) inside)

-- FETCH C INTO targets
abbrev pub fetch : List Ident → Fetch
fetch targets = record { anchor = at 0; cursor = named (codes "C") 1; targets = targets }

-- SQLSTATE text
abbrev pub sqlstate : List ℕ → SqlstateValue
sqlstate text = record { anchor = at 1; text = text }

-- what labels, targets, cursors, conditions and calls stand for in this place
pub record StatementsStand : Type 0 where
  pub leave_counts_outwards : (judged_leave (named (codes "B") 7) inside).value ≡ bound.Leave 1
  pub leave_of_what_is_around : (judged_leave (named (codes "B") 7) inside).faults ≡ []
  pub leave_of_what_is_not : (judged_leave (named (codes "X") 7) inside).faults ≡
      fault UnknownName 7
  pub iterate_of_a_loop : (judged_iterate (at 6) (named (codes "L") 7) inside).faults ≡ []
  pub iterate_of_a_compound_statement : (judged_iterate (at 6) (named (codes "B") 7) inside).faults
      ≡ fault NotPermitted 6
  pub iterate_of_what_is_not : (judged_iterate (at 6) (named (codes "X") 7) inside).faults ≡
      fault UnknownName 7
  pub action_leaves_no_own : (judged_leave (named (codes "B") 7) acting).faults ≡
      fault UnknownName 7
  pub action_leaves_further_out : (judged_leave (named (codes "L") 7) acting).value ≡ bound.Leave 1
  pub label_again : label_faults (Some (named (codes "B") 5)) inside.labels ≡ fault DuplicateName 5
  pub label_again_in_an_action : label_faults (Some (named (codes "B") 5)) acting.labels ≡
      fault DuplicateName 5
  pub end_label : end_faults (Some (named (codes "B") 5)) (Some (named (codes "B") 9)) ≡ []
  pub another_end_label : end_faults (Some (named (codes "B") 5)) (Some (named (codes "X") 9)) ≡
      fault UnknownName 9
  pub end_label_alone : end_faults None (Some (named (codes "B") 9)) ≡ fault UnknownName 9
  pub target : stored_at (named (codes "A") 5) inside ≡
      record { target = record { slot = 3; data_type = IntegerType }; kind = Integer; at = at 5 }
  pub target_in_sight : faults_at (named (codes "A") 5) inside ≡ []
  pub column_of_for : faults_at (named (codes "K") 5) inside ≡ fault NotPermitted 5
  pub unknown_target : faults_at (named (codes "X") 5) inside ≡ fault UnknownName 5
  pub opened : (judged_open (named (codes "C") 1) inside).value ≡ bound.Open 2
  pub opened_of_what_is_not : (judged_open (named (codes "A") 1) inside).faults ≡
      fault UnknownName 1
  pub closed : (judged_close (named (codes "C") 1) inside).value ≡ bound.Close 2
  pub fetched : fetched_targets (fetch (named (codes "A") 2 ∷ [])) inside ≡
      record { slot = 3; data_type = IntegerType } ∷ []
  pub fetched_into_another_kind : fetched_faults (fetch (named (codes "A") 2 ∷ [])) inside ≡
      fault TypeMismatch 2
  pub fetched_into_too_few : fetched_faults (fetch []) inside ≡ fault WrongCount 1
  pub state : is_sqlstate (codes "45000") ≡ true
  pub state_of_success : is_sqlstate (codes "00001") ≡ false
  pub state_too_short : is_sqlstate (codes "4500") ≡ false
  pub state_in_small_letters : is_sqlstate (codes "4500a") ≡ false
  pub state_of_no_data : is_sqlstate (codes "02000") ≡ true
  pub state_of_a_text : state_of (sqlstate (codes "45000")) ≡ codes "45000"
  pub state_of_a_text_of_success : state_of (sqlstate (codes "00001")) ≡ codes "00001"
  pub state_of_what_is_none : state_of (sqlstate (codes "4500")) ≡ codes "00000"
  pub state_of_what_is_not : state_named (named (codes "A") 1) inside ≡ codes "00000"
  pub signal_of_a_condition : judged_signal (record {
    anchor = at 0;
    value =
        raised.Condition (named (codes "D") 1);
    message = None;
  }) inside
      ≡ record { value = record { state = codes "45000"; message = None }; faults = []; uses = [] }
  pub signal_of_what_is_not :
      (judged_signal (record {
        anchor = at 0;
        value = raised.Condition (named (codes "A") 1);
        message = None;
      }) inside).faults ≡ fault UnknownName 1
  pub signal_of_success :
      (judged_signal (record {
        anchor = at 0;
        value = raised.Sqlstate (sqlstate (codes "00000"));
        message = None;
      })
      inside).faults ≡ fault NotPermitted 1
  pub call_of_what_is_not : (judged_call true
      (record { anchor = at 0; name = named (codes "P") 1; arguments = [] }) inside).faults ≡
      fault UnknownName 1
  pub definition_inside : (misplaced (at 4)).faults ≡ fault NotPermitted 4

-- SQLSTATE values, conditions and messages. ISO/IEC 9075-4, 14.3 (condition declaration), 17.2
-- (signal statement) and 17.3 (resignal statement); ISO/IEC 9075-2, 24.1 (SQLSTATE).
use Rattle.std.specs.Prelude.{ℕ, Bool, true, false, not, List, [], Option, Some, None, is_some}
use Rattle.std.specs.Str.{encode_utf8_all}
use Rattle.sql_conditions.specs.declared.state.Class.{Class}
use Rattle.sql_conditions.specs.declared.state.Class.TheVariants.{Success, Warning, NoData}
use Rattle.sql_conditions.specs.declared.state.Class.TheVariants.{Exception}
use Rattle.sql_conditions.specs.Conditions.{completion}
use Rattle.sql_conditions.specs.States.{state_in_text, class_of}
use Rattle.syntax_trees.specs.declared.anchor.Ident.{Ident}
use Rattle.syntax_trees.specs.declared.expr.Expr.{Expr}
use Rattle.statement_trees.specs.declared.condition.Resignal.{Resignal}
use Rattle.statement_trees.specs.declared.condition.Signal.{Signal}
use Rattle.statement_trees.specs.declared.condition.SignalValue.{SignalValue}
use Rattle.statement_trees.specs.declared.condition.SignalValue.TheVariants as raised
use Rattle.statement_trees.specs.declared.condition.SqlstateValue.{SqlstateValue}
use Rattle.bound_trees.specs.declared.condition.BoundResignal.{BoundResignal}
use Rattle.bound_trees.specs.declared.condition.BoundSignal.{BoundSignal}
use Rattle.bound_trees.specs.declared.expr.BoundExpr.{BoundExpr}
use Rattle.bind_faults.specs.declared.fault.Fault.{Fault}
use Rattle.bind_faults.specs.declared.fault.FaultKind.TheVariants.{UnknownName, NotPermitted}
use Rattle.bind_faults.specs.Faults.{Noted, give, ◌>>◌, as_value, fault_if}
use Rattle.bind_kinds.specs.declared.kind.Kind.TheVariants.{Text}
use Rattle.bind_sight.specs.Scopes.{condition_named}
use Rattle.bind_simple.specs.Places.{Surroundings}
use Rattle.bind_simple.specs.Values.{value_of_kind}

-- the state that a text spells, where it is five digits and capitals
abbrev pub state_spelled : List ℕ → Option (List ℕ)
state_spelled text = state_in_text (encode_utf8_all text)

-- each class but 00 may be raised
abbrev pub may_be_raised : Class → Bool
may_be_raised Success = false
may_be_raised Warning = true
may_be_raised NoData = true
may_be_raised Exception = true

-- there is a state, and it may be raised
abbrev pub is_raisable : Option (List ℕ) → Bool
is_raisable None = false
is_raisable (Some state) = may_be_raised (class_of state)

-- five digits and capitals, not of class 00
abbrev pub is_sqlstate : List ℕ → Bool
is_sqlstate text = is_raisable (state_spelled text)

-- NotPermitted at a text that is no SQLSTATE
abbrev pub state_faults : SqlstateValue → List Fault
state_faults s = fault_if (not (is_sqlstate s.text)) NotPermitted s.anchor

-- a state; where there is none, 00000, which no faultless text spells
abbrev pub or_success : Option (List ℕ) → List ℕ
or_success None = completion.state
or_success (Some state) = state

-- the state of a text; of one that spells none, 00000
abbrev pub state_of : SqlstateValue → List ℕ
state_of s = or_success (state_spelled s.text)

-- a condition of the name is in sight
abbrev pub condition_faults : Ident → Option (List ℕ) → List Fault
condition_faults i found = fault_if (not (is_some found)) UnknownName i.anchor

-- the state of the condition of a name; of one that is not in sight, 00000
abbrev pub state_named : Ident → Surroundings → List ℕ
state_named i p = or_success (condition_named i.name p.scopes)

-- UnknownName at a condition that is not in sight
abbrev pub faults_of_condition : Ident → Surroundings → List Fault
faults_of_condition i p = condition_faults i (condition_named i.name p.scopes)

-- ---- SIGNAL and RESIGNAL

-- the state that SIGNAL raises
abbrev pub state_raised : SignalValue → Surroundings → List ℕ
state_raised (raised.Sqlstate s) p = state_of s
state_raised (raised.Condition i) p = state_named i p

-- what is asked of the state or condition that is raised
abbrev pub raised_faults : SignalValue → Surroundings → List Fault
raised_faults (raised.Sqlstate s) p = state_faults s
raised_faults (raised.Condition i) p = faults_of_condition i p

-- the text of MESSAGE_TEXT, where there is one
abbrev pub judged_message : Option Expr → Surroundings → Noted (Option BoundExpr)
judged_message None p = give None
judged_message (Some e) p = as_value (λ b. Some b) (value_of_kind Text e p)

-- the bound SIGNAL
abbrev pub signal_of : List ℕ → Option BoundExpr → BoundSignal
signal_of state message = record { state = state; message = message }

-- SIGNAL
abbrev pub judged_signal : Signal → Surroundings → Noted BoundSignal
judged_signal s p = raised_faults s.value p >> as_value (signal_of (state_raised s.value p))
    (judged_message s.message p)

-- the state that RESIGNAL raises in place of the caught one, where it names one
abbrev pub state_again : Option SignalValue → Surroundings → Option (List ℕ)
state_again None p = None
state_again (Some v) p = Some (state_raised v p)

-- what is asked of it
abbrev pub again_faults : Option SignalValue → Surroundings → List Fault
again_faults None p = []
again_faults (Some v) p = raised_faults v p

-- the bound RESIGNAL
abbrev pub resignal_of : Option (List ℕ) → Option BoundExpr → BoundResignal
resignal_of state message = record { state = state; message = message }

-- RESIGNAL
abbrev pub judged_resignal : Resignal → Surroundings → Noted BoundResignal
judged_resignal s p = again_faults s.value p >> as_value (resignal_of (state_again s.value p))
    (judged_message s.message p)

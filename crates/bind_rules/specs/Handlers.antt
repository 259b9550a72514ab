-- What is asked of handlers: where UNDO stands, and that none waits for what another does. ISO/IEC
-- 9075-4, 14.2 (handler declaration).
use Rattle.std.specs.Prelude.{ℕ, Bool, true, false, ◌&&◌, ◌||◌, not, List}
use Rattle.std.specs.List.{list_any}
use Rattle.std.specs.Str.{bytes_eq}
use Rattle.syntax_trees.specs.declared.anchor.Anchor.{Anchor}
use Rattle.statement_trees.specs.declared.declaration.HandlerType.{HandlerType}
use Rattle.statement_trees.specs.declared.declaration.HandlerType.TheVariants as type
use Rattle.bound_trees.specs.declared.condition.BoundConditionValue.{BoundConditionValue}
use Rattle.bound_trees.specs.declared.condition.BoundConditionValue.TheVariants as value
use Rattle.bound_trees.specs.declared.statement.BoundHandler.{BoundHandler, out-BoundHandler}
use Rattle.bind_faults.specs.declared.fault.Fault.{Fault}
use Rattle.bind_faults.specs.declared.fault.FaultKind.TheVariants.{DuplicateName, NotPermitted}
use Rattle.bind_faults.specs.Faults.{fault_if}

-- a handler that takes back what its compound statement changed
abbrev pub is_undo : HandlerType → Bool
is_undo type.Continue = false
is_undo type.Exit = false
is_undo type.Undo = true

-- UNDO stands in ATOMIC compound statements alone
abbrev pub undo_faults : Anchor → HandlerType → Bool → List Fault
undo_faults at handler atomic = fault_if (is_undo handler && not atomic) NotPermitted at

-- whether a value is this state
abbrev pub is_state : List ℕ → BoundConditionValue → Bool
is_state state (value.State other) = bytes_eq state other
is_state state value.SqlException = false
is_state state value.SqlWarning = false
is_state state value.NotFound = false

-- whether two values are one
abbrev pub same_value : BoundConditionValue → BoundConditionValue → Bool
same_value (value.State state) w = is_state state w
same_value value.SqlException value.SqlException = true
same_value value.SqlWarning value.SqlWarning = true
same_value value.NotFound value.NotFound = true
same_value _ w = false

-- whether a handler waits for a value
abbrev pub waits_for : BoundConditionValue → BoundHandler → Bool
waits_for v h = list_any (same_value v) (out-BoundHandler h).values

-- whether one of the handlers does
abbrev pub any_waits : BoundConditionValue → List BoundHandler → Bool
any_waits v hs = list_any (waits_for v) hs

-- a handler of the compound statement waits for it already, or this one does
abbrev pub twice_faults : BoundConditionValue → Anchor → List BoundHandler →
    List BoundConditionValue → List Fault
twice_faults v at handlers before = fault_if (any_waits v handlers || list_any
    (same_value v) before) DuplicateName at

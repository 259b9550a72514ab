-- Arguments of CALL, by what their parameters want. ISO/IEC 9075-2, 15.1 (call statement) and 10.4
-- (routine invocation).
use Rattle.std.specs.Prelude.{◌&&◌, Bool, true, false, not, if◌then◌else◌, List, [], ◌++◌, Option}
use Rattle.std.specs.Prelude.{Some, None, is_some}
use Rattle.syntax_trees.specs.declared.anchor.Anchor.{Anchor}
use Rattle.bound_trees.specs.declared.statement.BoundTarget.{BoundTarget}
use Rattle.catalog_store.specs.declared.entry.ParameterMode.{ParameterMode}
use Rattle.catalog_store.specs.declared.entry.ParameterMode.TheVariants as mode
use Rattle.bind_faults.specs.declared.fault.Fault.{Fault}
use Rattle.bind_faults.specs.declared.fault.FaultKind.TheVariants.{NotPermitted}
use Rattle.bind_faults.specs.Faults.{fault_if}
use Rattle.bind_kinds.specs.declared.kind.OperandHead.{OperandHead}
use Rattle.bind_kinds.specs.Kinds.{kind_of_type, misfit}
use Rattle.bind_rules.specs.declared.arguments.Wanted.{Wanted}

-- a parameter of IN takes a value
abbrev pub is_in : ParameterMode → Bool
is_in mode.In = true
is_in mode.Out = false
is_in mode.Inout = false

-- a parameter of OUT gives one
abbrev pub is_out : ParameterMode → Bool
is_out mode.In = false
is_out mode.Out = true
is_out mode.Inout = false

-- Where a routine or a block calls, an argument of OUT and INOUT is a variable; where the script
-- does, one of OUT is no value.
abbrev pub is_barred : Bool → Wanted → Option BoundTarget → Bool
is_barred false w target = not (is_in w.mode) && not (is_some target)
is_barred true w target = is_out w.mode

-- the kinds fit, but for an OUT argument of the script's
abbrev pub kind_faults : Bool → Wanted → OperandHead → List Fault
kind_faults script w h = if script && is_out w.mode then [] else misfit (kind_of_type w.data_type) h

-- an argument without a parameter has its own faults alone
abbrev pub value_faults : Bool → Option Wanted → Option BoundTarget → OperandHead → List Fault
value_faults script None target h = []
value_faults script (Some w) target h =
    fault_if (is_barred script w target) NotPermitted h.at ++ kind_faults script w h

-- `?` stands for an OUT argument of the script's
abbrev pub may_be_given : Bool → Option Wanted → Bool
may_be_given script None = script
may_be_given script (Some w) = script && is_out w.mode

-- and elsewhere it may not stand
abbrev pub given_faults : Bool → Option Wanted → Anchor → List Fault
given_faults script w at = fault_if (not (may_be_given script w)) NotPermitted at

-- How a fault of values stops a run, and how a table's refusal does. ISO/IEC 9075-2, 24.1
-- (SQLSTATE).
use Rattle.sql_values.specs.declared.value.ValueFault.{ValueFault}
use Rattle.sql_values.specs.declared.value.ValueFault.TheVariants.{NoMemory}
use Rattle.sql_conditions.specs.declared.condition.EngineCondition.TheVariants.{ConstraintViolated}
use Rattle.sql_conditions.specs.Conditions.{area_of}
use Rattle.atomic_undo.specs.declared.fault.ApplyFault.{ApplyFault}
use Rattle.atomic_undo.specs.declared.fault.ApplyFault.TheVariants as refused
use Rattle.rel_algebra.specs.World.{condition_of}
use Rattle.run_choices.specs.declared.stop.Stop.{Stop}
use Rattle.run_choices.specs.declared.stop.Stop.TheVariants.{Raised, NoMemory as WantOfMemory}

-- it raises its condition; want of memory raises nothing
abbrev pub stopped_by : ValueFault → Stop
stopped_by NoMemory = WantOfMemory
stopped_by fault = Raised (area_of (condition_of fault))

-- why a table refuses a change: a key would stand twice, or no memory is there
abbrev pub refused_by : ApplyFault → Stop
refused_by (refused.Constraint at) = Raised (area_of ConstraintViolated)
refused_by refused.NoMemory = WantOfMemory

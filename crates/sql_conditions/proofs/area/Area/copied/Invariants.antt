use Rattle.std.proofs.Common.{◌≡◌, take}
use Rattle.sql_conditions.proofs.area.Area.copied.Given as goal

abbrev pub invariant-loop-condition : goal.invariant-loop-condition
invariant-loop-condition l = l.conditions.items ≡ take l.condition-index l.held

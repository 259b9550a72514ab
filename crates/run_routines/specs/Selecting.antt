-- SELECT INTO. ISO/IEC 9075-2, 14.7 (select statement: single row).
use Rattle.std.specs.Prelude.{List, [], Option}
use Rattle.sql_values.specs.declared.value.Value.{Value}
use Rattle.rel_algebra.specs.Tree.{Query, Target}
use Rattle.rel_algebra.specs.World.{Called, Eval, Frame, ◌>>=◌}
use Rattle.rel_algebra.specs.Meaning.{answer, one_row}

-- the values of the one row of a query, as their targets take them
abbrev pub selects : Query → List Target → Called → Frame → Eval (Option (List Value))
selects query targets self f = do
  rows ← answer query self [] f
  one_row targets rows

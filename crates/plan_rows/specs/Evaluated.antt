-- What evaluating several scalars tells.
use Rattle.std.specs.Prelude.{List, Ok, Err}
use Rattle.sql_values.specs.declared.value.Value.{Value}
use Rattle.plan_rows.specs.declared.cells.Evaluated.{Evaluated}
use Rattle.plan_rows.specs.declared.cells.Evaluated.TheVariants.{Values, Raised}
use Rattle.rel_algebra.specs.Endings.{Ending}

-- values, or the area that was raised
abbrev pub told_of : Evaluated → Ending (List Value)
told_of (Values values) = Ok values.items
told_of (Raised area) = Err area

-- What a unit that stops is to leave. ISO/IEC 9075-2, 4.17 (SQL-statements and atomicity).
use Rattle.std.specs.Prelude.{Bool, true, false}
use Rattle.sql_conditions.specs.Conditions.{state_in}
use Rattle.sql_conditions.specs.States.{is_exception}
use Rattle.run_choices.specs.declared.stop.Stop.{Stop}
use Rattle.run_choices.specs.declared.stop.Stop.TheVariants.{Raised, Spent, NoMemory}

-- Whether its own changes are taken back: where it raises an exception, or finds no memory. Another
-- condition is no failure; and where no turn is left, the whole statement is taken back.
abbrev pub is_taken_back : Stop → Bool
is_taken_back (Raised area) = is_exception (state_in area)
is_taken_back Spent = false
is_taken_back NoMemory = true

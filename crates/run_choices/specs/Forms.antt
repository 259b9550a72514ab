-- What is raised, by where its area lies. ISO/IEC 9075-2, 4.33 (diagnostics area).
use Rattle.sql_conditions.specs.Conditions.{Area, area_of, success as of_success}
use Rattle.run_choices.specs.declared.raise.Form.{Form}
use Rattle.run_choices.specs.declared.raise.Form.TheVariants.{Success, Engine, Held}

-- the area
abbrev pub area_in : Form → Area
area_in Success = of_success
area_in (Engine condition) = area_of condition
area_in (Held area) = area.value

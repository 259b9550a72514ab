-- What the code says that becomes of a row, and what a plan is run on.
use Rattle.std.specs.Prelude.{List, map, ◌++◌}
use Rattle.sql_values.specs.declared.value.Value.{Value}
use Rattle.row_types.specs.declared.cell.Cell.{Cell}
use Rattle.row_types.specs.declared.cell.Cell.TheVariants.{Val}
use Rattle.table_store.specs.Memory.{Memory}
use Rattle.rel_algebra.specs.Plain.{Inputs}
use Rattle.plan_nodes.specs.declared.pass.RowFate.{RowFate}
use Rattle.plan_nodes.specs.declared.pass.RowFate.TheVariants as code
use Rattle.plan_nodes.specs.Fates.{RowOutcome, Stays, Gone, Raises}

-- with the cells that are left
abbrev pub fate_of : RowFate → List Cell → RowOutcome
fate_of (code.Stays front) cells = Stays (map Val front ++ cells)
fate_of code.Gone cells = Gone
fate_of (code.Raises area) cells = Raises area

-- the tables, and the arguments of the query
abbrev pub inputs_of : Memory → List Value → Inputs
inputs_of memory args = record { tables = memory.tables; args = args }

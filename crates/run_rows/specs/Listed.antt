-- Rows of a vector, as a table can hold them.
use Rattle.std.specs.Prelude.{List, Result, Ok, Err}
use Rattle.std.specs.declared.vec.Vec.{Vec}
use Rattle.std.specs.declared.alloc.Global.{Global}
use Rattle.row_types.specs.Rows.{Row}
use Rattle.rel_algebra.specs.World.{Eval}
use Rattle.run_choices.specs.declared.stop.Stop.{Stop}
use Rattle.run_choices.specs.Ending.{TellsAnywhere}

-- the rows of a vector as a list, or why there are none
abbrev pub listed : Result (Vec Row Global) Stop → Result (List Row) Stop
listed (Ok rows) = Ok rows.items
listed (Err stop) = Err stop

-- an evaluation ends as the answer says, whose rows are in a vector
abbrev pub TellsRows : Result (Vec Row Global) Stop → Eval (List Row) → Type 0
TellsRows answer e = TellsAnywhere (listed answer) e

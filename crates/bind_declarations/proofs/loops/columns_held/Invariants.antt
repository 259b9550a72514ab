use Rattle.std.proofs.Common.{◌≡◌, map, take}
use Rattle.bind_declarations.specs.Loops.{column_held}
use Rattle.bind_declarations.proofs.loops.columns_held.Given as goal

abbrev pub invariant-loop-column : goal.invariant-loop-column
invariant-loop-column l = l.held ≡ map column_held (take l.column-index l.columns)

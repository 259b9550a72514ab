use Rattle.std.proofs.Common.{◌≡◌, map, take}
use Rattle.bind_parts.specs.From.{output_of}
use Rattle.bind_parts.proofs.from.outputs_of.Given as goal

abbrev pub invariant-loop-column : goal.invariant-loop-column
invariant-loop-column l = l.found ≡ map output_of (take l.column-index l.columns)

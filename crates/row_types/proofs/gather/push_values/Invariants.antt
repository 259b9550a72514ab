use Rattle.std.proofs.Common.{◌≡◌, ◌++◌, map, take}
use Rattle.row_types.specs.declared.cell.Cell.TheVariants.{Val}
use Rattle.row_types.proofs.gather.push_values.Given as goal

abbrev pub invariant-loop-value : goal.invariant-loop-value
invariant-loop-value l = l.row ≡ l.fn.row ++ map Val (take l.value-index l.more)

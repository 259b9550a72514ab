use Rattle.std.proofs.Common.{◌≡◌, ◌+◌, ◌++◌, drop}
use Rattle.run_rows.specs.Groups.{argument_columns}
use Rattle.run_rows.proofs.groups.argument_columns.Given as goal

abbrev pub invariant-loop-index : goal.invariant-loop-index
invariant-loop-index l = l.columns ++ argument_columns (l.keys + l.index)
    (drop l.index l.aggregates) ≡ argument_columns l.keys l.aggregates

use Rattle.std.proofs.Common.{◌≡◌, ◌++◌, map, drop}
use Rattle.group_index.specs.Kept.{no_column}
use Rattle.group_index.proofs.kept_rows.no_columns.Given as goal

abbrev pub invariant-loop-aggregate : goal.invariant-loop-aggregate
invariant-loop-aggregate l = l.columns.items ++ map no_column (drop l.aggregate-index l.aggregates)
    ≡ map no_column l.aggregates

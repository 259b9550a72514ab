use Rattle.std.proofs.Common.{◌≡◌, take, drop, []}
use Rattle.bind_faults.specs.Faults.{noted}
use Rattle.bind_declarations.specs.Loops.{names_of_columns, columns_faults}
use Rattle.bind_declarations.proofs.loops.column_names.Given as goal

abbrev pub invariant-loop-place : goal.invariant-loop-place
invariant-loop-place l = record {
  value : l.names ≡ names_of_columns (take l.place l.columns);
  faults : noted l.least (columns_faults l.query l.place l.names (drop l.place l.columns)) ≡
      noted l.initial.least (columns_faults l.query 0 [] l.columns);
}

use Rattle.std.proofs.Common.{◌≡◌}
use Rattle.bind_parts.specs.ValueRows.{no_rows}
use Rattle.bind_parts.proofs.values.no_rows.Given as goal

abbrev pub invariant-loop-place : goal.invariant-loop-place
invariant-loop-place l = l.kinds ≡ (no_rows l._place).kinds

use Rattle.std.proofs.Common.{◌≡◌, ◌≤◌, ◌-◌, take, drop}
use Rattle.run_keys.proofs.met.rows_between.Given as goal

abbrev pub invariant-loop-at : goal.invariant-loop-at
invariant-loop-at l = record {
  copied : l.rows ≡ take (l.at - l.from) (drop l.from l.table.table.rows);
  from : l.from ≤ l.at;
  within : l.at ≤ l.to;
}

use Rattle.std.proofs.Common.{◌-◌, ◌≡◌, ◌≤◌, length, take, drop, true}
use Rattle.std.specs.List.{list_all}
use Rattle.plan_keys.specs.Bounds.{is_past, stands_before}
use Rattle.plan_keys.proofs.bounds.count_before.Given as goal

abbrev pub invariant-loop-low : goal.invariant-loop-low
invariant-loop-low l = record {
  order : l.low ≤ l.high;
  within : l.high ≤ length l.table.table.rows;
  key : l.key ≡ take (length l.sought) l.table.table.key;
  before : list_all (stands_before l.table.table.key l.sought l.through)
      (take l.low l.table.table.rows) ≡ true;
  past : list_all (is_past l.table.table.key l.sought l.through)
      (drop l.high l.table.table.rows) ≡ true;
}

abbrev pub decreases-loop-low : goal.decreases-loop-low
decreases-loop-low l = l.high - l.low

use Rattle.std.proofs.Common.{◌≡◌, false, length, take}
use Rattle.std.specs.declared.cmp.Ordering.TheVariants.{Equal}
use Rattle.row_types.specs.Rows.{Row, to_key}
use Rattle.plan_keys.specs.Terms.{misses}
use Rattle.plan_keys.proofs.bounds.equal_values.Given as goal

abbrev pub invariant-loop-place : goal.invariant-loop-place
invariant-loop-place l = record {
  counted : length l.sought ≡ l.place-index;
  end : l.place-index-end ≡ length l.key;
  rows : (row : Row) → misses l.terms row ≡ false →
      to_key (take (length l.sought) l.key) l.sought row ≡ Equal;
}

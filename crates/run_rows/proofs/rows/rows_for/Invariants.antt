use Rattle.std.proofs.Common.{◌≡◌, ◌+◌, ◌++◌, length, reverse, true}
use Rattle.std.specs.List.{list_all}
use Rattle.row_types.specs.Rows.{fits}
use Rattle.rel_algebra.specs.World.{World, after, give, each}
use Rattle.rel_algebra.specs.Writing.{row_for}
use Rattle.run_rows.proofs.rows.rows_for.Given as goal

abbrev pub invariant-loop-values : goal.invariant-loop-values
invariant-loop-values l =
    record {
      tells : (w : World) → after (each (row_for l.table.table) (reverse l.waiting.items) w)
          (λ more. give (l.rows.items ++ more)) ≡ each (row_for l.table.table) l.fn.new.items w;
      fit : list_all (fits l.table.table.columns l.table.table.key) l.rows.items ≡ true;
      many : length l.rows.items + length l.waiting.items ≡ length l.fn.new.items;
    }

abbrev pub decreases-loop-values : goal.decreases-loop-values
decreases-loop-values l = length l.waiting.items

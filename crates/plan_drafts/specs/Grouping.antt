-- The plan of groups of rows. ISO/IEC 9075-2, 7.13 (group by clause).
use Rattle.std.specs.Prelude.{ℕ, List, length}
use Rattle.rel_algebra.specs.Tree.{Aggregate}
use Rattle.rel_algebra.specs.Joins.{places, numbered}
use Rattle.rel_algebra.specs.Plan.{PlanTree, filter, group}
use Rattle.rel_algebra.specs.Emit.{all_values}

-- the groups by the first k columns, where all of their aggregates, which are of the columns after
-- these, are values
abbrev pub grouped_rows : ℕ → List Aggregate → PlanTree → PlanTree
grouped_rows k ags input = filter (all_values (places k (length ags)))
    (group (places 0 k) (numbered k ags) input)

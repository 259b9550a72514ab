-- How many Lookup and Once nodes a plan has, inner plans included.
use Rattle.std.specs.Prelude.{ℕ, ◌+◌}
use Rattle.rel_algebra.specs.Plan.{Way, anew, once, lookup, PlanTree, unit_row, scan, values}
use Rattle.rel_algebra.specs.Plan.{extend, apply, filter, keep, cross, left_outer, settle, group}
use Rattle.rel_algebra.specs.Plan.{sort, Nodes, no_node, extend_by, apply_by}

abbrev mutual
  -- the sum of what a way counts over the nodes of a plan that come to rows of an inner plan
  pub ways : (Way → ℕ) → PlanTree → ℕ
  ways f unit_row = 0
  ways f (scan name n) = 0
  ways f (values rows) = 0
  ways f (extend ss input) = ways f input
  ways f (apply when kind way inner input) = f way + (ways f inner + ways f input)
  ways f (filter s input) = ways f input
  ways f (keep is input) = ways f input
  ways f (cross a b) = ways f a + ways f b
  ways f (left_outer nodes s n a b) = ways_in f nodes + (ways f a + ways f b)
  ways f (settle input) = ways f input
  ways f (group is ags input) = ways f input
  ways f (sort keys input) = ways f input

  -- the same over a run of nodes
  pub ways_in : (Way → ℕ) → Nodes → ℕ
  ways_in f no_node = 0
  ways_in f (extend_by ss rest) = ways_in f rest
  ways_in f (apply_by when kind way inner rest) = f way + (ways f inner + ways_in f rest)

-- a Lookup counts one
abbrev pub is_lookup : Way → ℕ
is_lookup anew = 0
is_lookup once = 0
is_lookup (lookup keys) = 1

-- a Once counts one
abbrev pub is_once : Way → ℕ
is_once anew = 0
is_once once = 1
is_once (lookup keys) = 0

-- the Lookup nodes of a plan
abbrev pub lookups : PlanTree → ℕ
lookups = ways is_lookup

-- the Once nodes of a plan
abbrev pub onces : PlanTree → ℕ
onces = ways is_once

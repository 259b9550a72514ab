-- How many Apply nodes a plan has, inner plans included.
use Rattle.std.specs.Prelude.{ℕ, ◌+◌, ◌-◌, ◌^◌, min}
use Rattle.rel_algebra.specs.Plan.{Way, anew, once, lookup, Nodes, PlanTree, apply, apply_by, cross}
use Rattle.rel_algebra.specs.Plan.{extend, extend_by, filter, group, keep, left_outer, no_node}
use Rattle.rel_algebra.specs.Plan.{scan, settle, sort, unit_row, values}

-- Once and Lookup do not count
abbrev pub way_count : Way → ℕ
way_count anew = 1
way_count once = 0
way_count (lookup keys) = 0

abbrev mutual
  -- how many Apply nodes a plan has
  pub applies : PlanTree → ℕ
  applies unit_row = 0
  applies (scan name n) = 0
  applies (values lists) = 0
  applies (extend ss input) = applies input
  applies (apply when kind way inner input) = way_count way + (applies inner + applies input)
  applies (filter s input) = applies input
  applies (keep is input) = applies input
  applies (cross a b) = applies a + applies b
  applies (left_outer nodes s n a b) = applies_in nodes + (applies a + applies b)
  applies (settle input) = applies input
  applies (group keys ags input) = applies input
  applies (sort keys input) = applies input

  -- of a run of nodes
  pub applies_in : Nodes → ℕ
  applies_in no_node = 0
  applies_in (extend_by ss rest) = applies_in rest
  applies_in (apply_by when kind way inner rest) = way_count way + (applies inner + applies_in rest)

-- a count as a number of 64 bits, which stands still at the greatest
abbrev pub counted : ℕ → ℕ
counted n = min n (2 ^ 64 - 1)

-- Which tables a plan reads, and how many columns each has in it. ISO/IEC 9075-2, 7.6 (table
-- reference).
use Rattle.std.specs.Prelude.{◌≡◌, ℕ, List, [], ◌∷◌, ◌++◌}
use Rattle.rel_algebra.specs.Plan.{Nodes, PlanTree, apply, apply_by, cross, extend, extend_by}
use Rattle.rel_algebra.specs.Plan.{filter, group, keep, left_outer, no_node, scan, settle, sort}
use Rattle.rel_algebra.specs.Plan.{unit_row, values}
use Rattle.scanned_tables.specs.declared.scans.ScannedTable.{ScannedTable}

abbrev mutual
  -- the tables that a plan reads, from the leaf on; those of an inner plan, or of one at the right,
  -- at its node
  pub scans : PlanTree → List ScannedTable
  scans unit_row = []
  scans (scan name n) = record { name = name; columns = n } ∷ []
  scans (values lists) = []
  scans (extend ss input) = scans input
  scans (apply when kind way inner input) = scans input ++ scans inner
  scans (filter s input) = scans input
  scans (keep is input) = scans input
  scans (cross a b) = scans a ++ scans b
  scans (left_outer nodes s n a b) = scans a ++ (scans_in nodes ++ scans b)
  scans (settle input) = scans input
  scans (group keys ags input) = scans input
  scans (sort keys input) = scans input

  -- those of a run of nodes
  pub scans_in : Nodes → List ScannedTable
  scans_in no_node = []
  scans_in (extend_by ss rest) = scans_in rest
  scans_in (apply_by when kind way inner rest) = scans inner ++ scans_in rest

-- each of these tables has as many columns by R
abbrev pub AreWide : List ScannedTable → (List ℕ → ℕ) → Type 0
AreWide [] R = Unit {0}
AreWide (s ∷ ss) R = (s.columns ≡ R s.name) × AreWide ss R

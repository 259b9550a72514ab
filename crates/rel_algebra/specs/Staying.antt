-- Which Applies stay: those that can't be removed.
use Rattle.std.specs.Prelude.{◌≡◌, ℕ, ◌+◌, ◌&&◌, ◌||◌, Bool, false, if◌then◌else◌}
use Rattle.rel_algebra.specs.Applies.{way_count}
use Rattle.rel_algebra.specs.Plan.{Kind, Nodes, PlanTree, Way, anew, apply, apply_by, cross, extend}
use Rattle.rel_algebra.specs.Plan.{extend_by, filter, group, keep, left_outer, lookup, no_node}
use Rattle.rel_algebra.specs.Plan.{once, scan, settle, sort, unit_row, values}
use Rattle.rel_algebra.specs.Removal.{chained, is_region, of_region, tree_within}

-- an Apply that can be removed; Once and Lookup are none
abbrev pub can_go : Kind → Way → PlanTree → Bool
can_go kind anew inner = tree_within inner 0
    || (chained inner || (is_region inner && of_region kind))
can_go kind once inner = false
can_go kind (lookup keys) inner = false

abbrev mutual
  -- how many Applies can't be removed, inner plans included
  pub staying : PlanTree → ℕ
  staying unit_row = 0
  staying (scan name n) = 0
  staying (values lists) = 0
  staying (extend ss input) = staying input
  staying (apply when kind way inner input) =
      (if can_go kind way inner then 0 else way_count way) + (staying inner + staying input)
  staying (filter s input) = staying input
  staying (keep is input) = staying input
  staying (cross a b) = staying a + staying b
  staying (left_outer nodes s n a b) = staying_in nodes + (staying a + staying b)
  staying (settle input) = staying input
  staying (group keys ags input) = staying input
  staying (sort keys input) = staying input

  -- of a run of nodes
  pub staying_in : Nodes → ℕ
  staying_in no_node = 0
  staying_in (extend_by ss rest) = staying_in rest
  staying_in (apply_by when kind way inner rest) =
      (if can_go kind way inner then 0 else way_count way) + (staying inner + staying_in rest)

abbrev mutual
  -- none is left that can be removed
  pub NoneGoes : PlanTree → Type 0
  NoneGoes unit_row = Unit {0}
  NoneGoes (scan name n) = Unit {0}
  NoneGoes (values lists) = Unit {0}
  NoneGoes (extend ss input) = NoneGoes input
  NoneGoes (apply when kind way inner input) = (can_go kind way inner ≡ false) × NoneGoes inner
      × NoneGoes input
  NoneGoes (filter s input) = NoneGoes input
  NoneGoes (keep is input) = NoneGoes input
  NoneGoes (cross a b) = NoneGoes a × NoneGoes b
  NoneGoes (left_outer nodes s n a b) = NoneGoesIn nodes × NoneGoes a × NoneGoes b
  NoneGoes (settle input) = NoneGoes input
  NoneGoes (group keys ags input) = NoneGoes input
  NoneGoes (sort keys input) = NoneGoes input

  -- of a run of nodes
  pub NoneGoesIn : Nodes → Type 0
  NoneGoesIn no_node = Unit {0}
  NoneGoesIn (extend_by ss rest) = NoneGoesIn rest
  NoneGoesIn (apply_by when kind way inner rest) = (can_go kind way inner ≡ false) × NoneGoes inner
      × NoneGoesIn rest

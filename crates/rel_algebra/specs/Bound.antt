-- A bound on the steps of a plan in which no Apply is left.
use Rattle.std.specs.Prelude.{◌≡◌, ℕ, ◌+◌, ◌*◌, ◌≤◌, max, List, [], ◌∷◌, length}
use Rattle.row_types.specs.declared.cell.Cell.{Cell}
use Rattle.rel_algebra.specs.Applies.{applies}
use Rattle.rel_algebra.specs.Plain.{Inputs}
use Rattle.rel_algebra.specs.Plan.{Nodes, PlanTree, Scalars, Way, anew, apply, apply_by, cross, den}
use Rattle.rel_algebra.specs.Plan.{extend, extend_by, filter, group, keep, left_outer, lookup}
use Rattle.rel_algebra.specs.Plan.{no_node, once, scan, settle, settled, sort, unit_row, values}
use Rattle.rel_algebra.specs.Work.{keys_nodes, kind_nodes, nodes_in, nodes_in_all, over_pairs}
use Rattle.rel_algebra.specs.Work.{when_nodes, work}

-- the nodes of a way's scalars
abbrev pub way_size : Way → ℕ
way_size anew = 0
way_size once = 0
way_size (lookup keys) = keys_nodes keys

-- the nodes of the lists of a Values
abbrev pub lists_size : List Scalars → ℕ
lists_size [] = 0
lists_size (ss ∷ lists) = nodes_in_all ss + lists_size lists

abbrev mutual
  -- the nodes of a plan, those of its scalars and of its inner plans too
  pub size : PlanTree → ℕ
  size unit_row = 1
  size (scan name n) = 1
  size (values lists) = 1 + lists_size lists
  size (extend ss input) = 1 + nodes_in_all ss + size input
  size (apply when kind way inner input) =
      1 + (when_nodes way when + kind_nodes kind + way_size way) + size input + size inner
  size (filter s input) = 1 + nodes_in s + size input
  size (keep is input) = 1 + 0 + size input
  size (cross a b) = 1 + size a + size b
  size (left_outer nodes s n a b) = 1 + (nodes_in s + size_in nodes) + size a + size b
  size (settle input) = 1 + 0 + size input
  size (group keys ags input) = 1 + 0 + size input
  size (sort keys input) = 1 + 0 + size input

  -- the nodes of a run
  pub size_in : Nodes → ℕ
  size_in no_node = 0
  size_in (extend_by ss rest) = 1 + nodes_in_all ss + size_in rest
  size_in (apply_by when kind way inner rest) =
      1 + (when_nodes way when + kind_nodes kind + way_size way) + size_in rest + size inner

-- the pairs of a join
abbrev pub pairs_of : PlanTree → PlanTree → Inputs → List (List Cell) → ℕ
pairs_of a b w o = over_pairs (λ row. 1) (settled (den a w o)) (settled (den b w o))

-- the greatest number of rows and pairs that one node outside the inner plans takes or gives
abbrev pub peak : PlanTree → Inputs → List (List Cell) → ℕ
peak unit_row w o = 1
peak (scan name n) w o = length (den (scan name n) w o)
peak (values lists) w o = length lists
peak (extend ss input) w o = max (length (den (extend ss input) w o)) (peak input w o)
peak (apply when kind way inner input) w o =
    max (length (den (apply when kind way inner input) w o)) (peak input w o)
peak (filter s input) w o = max (length (den (filter s input) w o)) (peak input w o)
peak (keep is input) w o = max (length (den (keep is input) w o)) (peak input w o)
peak (cross a b) w o =
    max (max (length (den (cross a b) w o)) (length (den a w o) + length (den b w o)
    + pairs_of a b w o)) (max (peak a w o) (peak b w o))
peak (left_outer nodes s n a b) w o =
    max (max (length (den (left_outer nodes s n a b) w o)) (length (den a w o) + length (den b w o)
    + pairs_of a b w o)) (max (peak a w o) (peak b w o))
peak (settle input) w o = max (length (den (settle input) w o)) (peak input w o)
peak (group keys ags input) w o = max (length (den (group keys ags input) w o)) (peak input w o)
peak (sort keys input) w o = max (length (den (sort keys input) w o)) (peak input w o)

abbrev mutual
  -- the sum of the same number over the inner plans
  pub inner_peaks : PlanTree → Inputs → List (List Cell) → ℕ
  inner_peaks unit_row w o = 0
  inner_peaks (scan name n) w o = 0
  inner_peaks (values lists) w o = 0
  inner_peaks (extend ss input) w o = inner_peaks input w o
  inner_peaks (apply when kind way inner input) w o =
      peak inner w o + inner_peaks inner w o + inner_peaks input w o
  inner_peaks (filter s input) w o = inner_peaks input w o
  inner_peaks (keep is input) w o = inner_peaks input w o
  inner_peaks (cross a b) w o = inner_peaks a w o + inner_peaks b w o
  inner_peaks (left_outer nodes s n a b) w o =
      run_peaks nodes w o + (inner_peaks a w o + inner_peaks b w o)
  inner_peaks (settle input) w o = inner_peaks input w o
  inner_peaks (group keys ags input) w o = inner_peaks input w o
  inner_peaks (sort keys input) w o = inner_peaks input w o

  -- the same sum over the inner plans of a run
  pub run_peaks : Nodes → Inputs → List (List Cell) → ℕ
  run_peaks no_node w o = 0
  run_peaks (extend_by ss rest) w o = run_peaks rest w o
  run_peaks (apply_by when kind way inner rest) w o =
      peak inner w o + inner_peaks inner w o + run_peaks rest w o

-- three for each node of the plan and each row or pair
abbrev pub WorkBound : Type 0
WorkBound = (t : PlanTree) (w : Inputs) (o : List (List Cell)) → applies t ≡ 0 →
    work t w o ≤ 3 * (size t * (peak t w o + inner_peaks t w o))

-- An equal plan in which no Apply is left that can be removed.
use Rattle.std.specs.Prelude.{ℕ, ◌+◌, ◌&&◌, if◌then◌else◌, List, [], ◌++◌}
use Rattle.rel_algebra.specs.Emit.{joined_nodes, width}
use Rattle.rel_algebra.specs.Joins.{places}
use Rattle.rel_algebra.specs.Plan.{Kind, Nodes, PlanTree, Scalar, Way, anew, apply, apply_by, cross}
use Rattle.rel_algebra.specs.Plan.{extend, extend_by, filter, group, keep, kind_width, left_outer}
use Rattle.rel_algebra.specs.Plan.{lookup, no_node, on_each, once, scalar_count, scan, settle, sort}
use Rattle.rel_algebra.specs.Plan.{tree_width, unit_row, values}
use Rattle.rel_algebra.specs.Regions.{Columns, region}
use Rattle.rel_algebra.specs.Removal.{of_region, chained, is_region, tree_within}
use Rattle.rel_algebra.specs.Renaming.{own_row, renamed_kind, renamed_scalar, renamed_scalars}
use Rattle.rel_algebra.specs.Renaming.{renamed_tree, renamed_way}
use Rattle.rel_algebra.specs.WellFormed.{is_true_constant}
use Rattle.rel_algebra.specs.Widening.{lookup_keys, lookup_plan, widened}

-- what an Apply becomes: a node that comes to its rows in some way, or columns
pub data Removed : Type 0 where
  as_node : Way → PlanTree → Removed
  as_columns : Columns → Removed

-- The rule once. Under a when that may be false it is a Lookup of no equality.
abbrev pub once_way : Scalar → Way
once_way when = if is_true_constant when then once else lookup []

-- an Apply over a row of n columns, of an inner plan that is removed already
abbrev pub removed_apply : Scalar → Kind → PlanTree → ℕ → Removed
removed_apply when kind inner n =
    if tree_within inner 0 then as_node (once_way when) inner
    else if chained inner then as_node (lookup (lookup_keys (widened inner)))
    (lookup_plan (widened inner))
    else if is_region inner && of_region kind then as_columns (region when kind inner n)
    else as_node anew inner

-- Once and Lookup stay
abbrev pub removed_node : Scalar → Kind → Way → PlanTree → ℕ → Removed
removed_node when kind anew inner n = removed_apply when kind inner n
removed_node when kind once inner n = as_node once inner
removed_node when kind (lookup keys) inner n = as_node (lookup keys) inner

-- what stands in the place of an Apply over its input
abbrev pub put : Scalar → Kind → PlanTree → Removed → PlanTree
put when kind input (as_node way inner) = apply when kind way inner input
put when kind input (as_columns c) =
    keep (places 0 (tree_width input) ++ c.places) (on_each c.nodes input)

-- nodes, and then those of a run over the wider row
abbrev pub in_front : Nodes → Columns → Columns
in_front nodes c = record { nodes = joined_nodes nodes c.nodes; places = c.places }

-- the same in a run, on a row of m columns in which those of the old row stand at these places
abbrev pub put_by : Scalar → Kind → List ℕ → ℕ → Removed → (List ℕ → ℕ → Columns) → Columns
put_by when kind outs m (as_node way inner) rest =
    in_front (apply_by when kind way inner no_node)
    (rest (outs ++ places m (kind_width kind)) (m + kind_width kind))
put_by when kind outs m (as_columns c) rest =
    in_front c.nodes (rest (outs ++ c.places) (width c.nodes m))

abbrev mutual
  -- inner plans first
  pub remove : PlanTree → PlanTree
  remove unit_row = unit_row
  remove (scan name n) = scan name n
  remove (values lists) = values lists
  remove (extend ss input) = extend ss (remove input)
  remove (apply when kind way inner input) =
      put when kind (remove input)
      (removed_node when kind way (remove inner) (tree_width (remove input)))
  remove (filter s input) = filter s (remove input)
  remove (keep is input) = keep is (remove input)
  remove (cross a b) = cross (remove a) (remove b)
  remove (left_outer nodes s n a b) =
      let m = tree_width (remove a) + n in let c = remove_nodes nodes (places 0 m) m in
      left_outer c.nodes (renamed_scalar s (own_row c.places (width c.nodes m))) n (remove a)
      (remove b)
  remove (settle input) = settle (remove input)
  remove (group keys ags input) = group keys ags (remove input)
  remove (sort keys input) = sort keys (remove input)

  -- the nodes of a run, on a row of m columns in which those of the old row stand at these places
  pub remove_nodes : Nodes → List ℕ → ℕ → Columns
  remove_nodes no_node outs m = record { nodes = no_node; places = outs }
  remove_nodes (extend_by ss rest) outs m =
      let k = scalar_count ss in
      in_front (extend_by (renamed_scalars ss (own_row outs m)) no_node)
      (remove_nodes rest (outs ++ places m k) (m + k))
  remove_nodes (apply_by when kind way inner rest) outs m =
      let names = own_row outs m in
      put_by (renamed_scalar when names) (renamed_kind kind names) outs m
      (removed_node (renamed_scalar when names) (renamed_kind kind names) (renamed_way way names)
      (renamed_tree (remove inner) names) m)
      (remove_nodes rest)

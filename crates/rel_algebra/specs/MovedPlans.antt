-- A plan whose row outside is moved: its columns stand after those of another row, and its
-- arguments are read in the columns that have them.
use Rattle.std.specs.Prelude.{ℕ, zero, suc, ◌+◌, List, [], ◌∷◌}
use Rattle.rel_algebra.specs.Emissions.{Emitted}
use Rattle.rel_algebra.specs.Plan.{Way, anew, once, lookup, Kind, Nodes, PlanTree, Scalar, Scalars}
use Rattle.rel_algebra.specs.Plan.{aggregate, apply, apply_by, argument, column, constant, cross}
use Rattle.rel_algebra.specs.Plan.{exists, extend, extend_by, filter, group, keep, left_outer}
use Rattle.rel_algebra.specs.Plan.{member, more, no_node, none, scan, settle, single, sort}
use Rattle.rel_algebra.specs.Plan.{unit_row, values, word, into}

-- by how many places a row's columns are moved, and from which column on the arguments stand in it
pub record Move : Type 0 where
  -- how far columns move
  pub by : ℕ
  -- the column of the first argument
  pub from : ℕ

-- the place of a column of a level, where the row that is moved is at level d
abbrev pub moved_index : Move → ℕ → ℕ → ℕ → ℕ
moved_index v zero zero i = v.by + i
moved_index v zero (suc level) i = i
moved_index v (suc d) zero i = i
moved_index v (suc d) (suc level) i = moved_index v d level i

abbrev mutual
  -- a scalar of a function's plan, where the row that is moved is at level d
  pub moved_scalar : Move → ℕ → Scalar → Scalar
  moved_scalar v d (constant x) = constant x
  moved_scalar v d (column level i) = column level (moved_index v d level i)
  moved_scalar v d (argument i) = column d (v.from + i)
  moved_scalar v d (word w ss) = word w (moved_scalars v d ss)

  -- the same of several scalars
  pub moved_scalars : Move → ℕ → Scalars → Scalars
  moved_scalars v d none = none
  moved_scalars v d (more s ss) = more (moved_scalar v d s) (moved_scalars v d ss)

-- the same of the lists of a Values
abbrev pub moved_lists : Move → ℕ → List Scalars → List Scalars
moved_lists v d [] = []
moved_lists v d (ss ∷ lists) = moved_scalars v d ss ∷ moved_lists v d lists

-- the same of the scalar of a kind
abbrev pub moved_kind : Move → ℕ → Kind → Kind
moved_kind v d single = single
moved_kind v d exists = exists
moved_kind v d (member s) = member (moved_scalar v d s)
moved_kind v d (aggregate ags) = aggregate ags
moved_kind v d (into k) = into k

-- the same of the keys of a Lookup
abbrev pub moved_keys : Move → ℕ → List (ℕ × Scalar) → List (ℕ × Scalar)
moved_keys v d [] = []
moved_keys v d (k ∷ keys) = (k.0, moved_scalar v d k.1) ∷ moved_keys v d keys

-- the same of a way
abbrev pub moved_way : Move → ℕ → Way → Way
moved_way v d anew = anew
moved_way v d once = once
moved_way v d (lookup keys) = lookup (moved_keys v d keys)

abbrev mutual
  -- of the rows outside it is the d-th, from 0, whose columns are moved
  pub moved_tree : Move → ℕ → PlanTree → PlanTree
  moved_tree v d unit_row = unit_row
  moved_tree v d (scan name n) = scan name n
  moved_tree v d (values lists) = values (moved_lists v (suc d) lists)
  moved_tree v d (extend ss input) = extend (moved_scalars v (suc d) ss) (moved_tree v d input)
  moved_tree v d (apply when kind way inner input) =
      apply (moved_scalar v (suc d) when) (moved_kind v (suc d) kind) (moved_way v (suc d) way)
      (moved_tree v (suc d) inner) (moved_tree v d input)
  moved_tree v d (filter s input) = filter (moved_scalar v (suc d) s) (moved_tree v d input)
  moved_tree v d (keep is input) = keep is (moved_tree v d input)
  moved_tree v d (cross a b) = cross (moved_tree v d a) (moved_tree v d b)
  moved_tree v d (left_outer nodes s n a b) =
      left_outer (moved_nodes v (suc d) nodes) (moved_scalar v (suc d) s) n (moved_tree v d a)
      (moved_tree v d b)
  moved_tree v d (settle input) = settle (moved_tree v d input)
  moved_tree v d (group keys ags input) = group keys ags (moved_tree v d input)
  moved_tree v d (sort keys input) = sort keys (moved_tree v d input)

  -- the row that is moved is at level d for the nodes
  pub moved_nodes : Move → ℕ → Nodes → Nodes
  moved_nodes v d no_node = no_node
  moved_nodes v d (extend_by ss rest) = extend_by (moved_scalars v d ss) (moved_nodes v d rest)
  moved_nodes v d (apply_by when kind way inner rest) =
      apply_by (moved_scalar v d when) (moved_kind v d kind) (moved_way v d way)
      (moved_tree v d inner) (moved_nodes v d rest)

-- the same of nodes with a scalar over them
abbrev pub moved : Move → ℕ → Emitted → Emitted
moved v d a = record { nodes = moved_nodes v d a.nodes; scalar = moved_scalar v d a.scalar }

-- the k arguments stand in the columns from m on, and the body's columns after them
abbrev pub after_arguments : ℕ → ℕ → Move
after_arguments m k = record { by = m + k; from = m }

-- The columns that a plan reads from outside, exchanged for others.
use Rattle.std.specs.Prelude.{ℕ, zero, suc, ◌+◌, List, [], ◌∷◌}
use Rattle.rel_algebra.specs.Joins.{places}
use Rattle.rel_algebra.specs.Plan.{Kind, Nodes, PlanTree, Scalar, Scalars, Way, aggregate, anew}
use Rattle.rel_algebra.specs.Plan.{apply, apply_by, argument, column, constant, cross, exists}
use Rattle.rel_algebra.specs.Plan.{extend, extend_by, filter, group, keep, left_outer, lookup}
use Rattle.rel_algebra.specs.Plan.{member, more, no_node, none, once, scan, settle, single, sort}
use Rattle.rel_algebra.specs.Plan.{unit_row, values, word, into}

-- for each level and place, the level and place that are read instead
abbrev pub Renaming : Type 0
Renaming = ℕ → ℕ → ℕ × ℕ

-- the same for what stands in a row further in, whose own columns stay
abbrev pub inside : Renaming → Renaming
inside names zero i = (0, i)
inside names (suc level) i = (suc (names level i).0, (names level i).1)

abbrev mutual
  -- a scalar with renamed columns
  pub renamed_scalar : Scalar → Renaming → Scalar
  renamed_scalar (constant v) names = constant v
  renamed_scalar (column level i) names = column (names level i).0 (names level i).1
  renamed_scalar (argument i) names = argument i
  renamed_scalar (word w ss) names = word w (renamed_scalars ss names)

  -- the same of several scalars
  pub renamed_scalars : Scalars → Renaming → Scalars
  renamed_scalars none names = none
  renamed_scalars (more s ss) names = more (renamed_scalar s names) (renamed_scalars ss names)

-- the same of the lists of a Values
abbrev pub renamed_lists : List Scalars → Renaming → List Scalars
renamed_lists [] names = []
renamed_lists (ss ∷ lists) names = renamed_scalars ss names ∷ renamed_lists lists names

-- the same of the scalar of a kind
abbrev pub renamed_kind : Kind → Renaming → Kind
renamed_kind single names = single
renamed_kind exists names = exists
renamed_kind (member s) names = member (renamed_scalar s names)
renamed_kind (aggregate ags) names = aggregate ags
renamed_kind (into k) names = into k

-- the same of the keys of a Lookup
abbrev pub renamed_keys : List (ℕ × Scalar) → Renaming → List (ℕ × Scalar)
renamed_keys [] names = []
renamed_keys (k ∷ keys) names = (k.0, renamed_scalar k.1 names) ∷ renamed_keys keys names

-- the same of a way
abbrev pub renamed_way : Way → Renaming → Way
renamed_way anew names = anew
renamed_way once names = once
renamed_way (lookup keys) names = lookup (renamed_keys keys names)

abbrev mutual
  -- level 0 is the innermost row outside the plan
  pub renamed_tree : PlanTree → Renaming → PlanTree
  renamed_tree unit_row names = unit_row
  renamed_tree (scan name n) names = scan name n
  renamed_tree (values lists) names = values (renamed_lists lists (inside names))
  renamed_tree (extend ss input) names =
      extend (renamed_scalars ss (inside names)) (renamed_tree input names)
  renamed_tree (apply when kind way inner input) names =
      apply (renamed_scalar when (inside names)) (renamed_kind kind (inside names))
      (renamed_way way (inside names))
      (renamed_tree inner (inside names)) (renamed_tree input names)
  renamed_tree (filter s input) names =
      filter (renamed_scalar s (inside names)) (renamed_tree input names)
  renamed_tree (keep is input) names = keep is (renamed_tree input names)
  renamed_tree (cross a b) names = cross (renamed_tree a names) (renamed_tree b names)
  renamed_tree (left_outer nodes s n a b) names =
      left_outer (renamed_nodes nodes (inside names)) (renamed_scalar s (inside names)) n
      (renamed_tree a names) (renamed_tree b names)
  renamed_tree (settle input) names = settle (renamed_tree input names)
  renamed_tree (group keys ags input) names = group keys ags (renamed_tree input names)
  renamed_tree (sort keys input) names = sort keys (renamed_tree input names)

  -- level 0 is the row that the nodes widen
  pub renamed_nodes : Nodes → Renaming → Nodes
  renamed_nodes no_node names = no_node
  renamed_nodes (extend_by ss rest) names =
      extend_by (renamed_scalars ss names) (renamed_nodes rest names)
  renamed_nodes (apply_by when kind way inner rest) names =
      apply_by (renamed_scalar when names) (renamed_kind kind names) (renamed_way way names)
      (renamed_tree inner names) (renamed_nodes rest names)

-- Where the columns of a row stand in another row, of n columns. A column that isn't there is read
-- where there is none.
abbrev pub place_in : List ℕ → ℕ → ℕ → ℕ
place_in [] n i = n + i
place_in (j ∷ outs) n zero = j
place_in (j ∷ outs) n (suc i) = place_in outs n i

-- the same of several columns
abbrev pub places_in : List ℕ → ℕ → List ℕ → List ℕ
places_in outs n [] = []
places_in outs n (i ∷ is) = place_in outs n i ∷ places_in outs n is

-- the row's own columns stand elsewhere in it
abbrev pub own_row : List ℕ → ℕ → Renaming
own_row outs n zero i = (0, place_in outs n i)
own_row outs n (suc level) i = (suc level, i)

-- the row's own columns, and the n columns of the innermost row outside it, stand in one row of m
-- columns
abbrev pub merged_row : ℕ → List ℕ → ℕ → Renaming
merged_row n outs m zero i = (0, place_in outs m i)
merged_row n outs m (suc zero) i = (0, place_in (places 0 n) m i)
merged_row n outs m (suc (suc level)) i = (suc level, i)

-- what stands in the outer row, seen from a row of the inner plan
abbrev pub outward_row : Renaming
outward_row level i = (suc level, i)

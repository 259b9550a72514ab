-- The rules late, keep, cell and lookup: a chain becomes columns of a wide plan that uses no outer
-- column, then equalities, then a Keep; and that is what a Lookup reads.
use Rattle.std.specs.Prelude.{ℕ, zero, suc, true, if◌then◌else◌, List, [], ◌∷◌, ◌++◌, length}
use Rattle.sql_values.specs.declared.value.Value.TheVariants.{Bool as Truth}
use Rattle.sql_values.specs.declared.operators.Comparison.TheVariants.{Equals}
use Rattle.rel_algebra.specs.Joins.{places}
use Rattle.rel_algebra.specs.Plan.{Nodes, PlanTree, Scalar, Scalars, apply, apply_by, column}
use Rattle.rel_algebra.specs.Plan.{constant, cross, extend, extend_by, filter, group, keep}
use Rattle.rel_algebra.specs.Plan.{kind_width, left_outer, more, no_node, none, on_each}
use Rattle.rel_algebra.specs.Plan.{other_places, scalar_count, scan, settle, sort, strict}
use Rattle.rel_algebra.specs.Plan.{tree_width, unit_row, values, word}
use Rattle.rel_algebra.specs.Removal.{stays}
use Rattle.rel_algebra.specs.Renaming.{own_row, outward_row, place_in, places_in, renamed_kind}
use Rattle.rel_algebra.specs.Renaming.{renamed_scalar, renamed_scalars, renamed_tree, renamed_way}
use Rattle.rel_algebra.specs.Tree.{Comparing}

-- A key is a place in the inner plan's row and a scalar of the outer row. Its test, over a row of
-- the inner plan:
abbrev pub key_test : ℕ × Scalar → Scalar
key_test k = word (strict (Comparing Equals))
    (more (column 0 k.0) (more (renamed_scalar k.1 outward_row) none))

-- a Filter for each key in turn
abbrev pub key_filters : List (ℕ × Scalar) → PlanTree → PlanTree
key_filters [] t = t
key_filters (k ∷ keys) t = key_filters keys (filter (key_test k) t)

-- the inner plan of the Apply that a Lookup stands for
abbrev pub read_by : List (ℕ × Scalar) → PlanTree → PlanTree
read_by keys t = keep (other_places keys 0 (tree_width t)) (key_filters keys t)

-- a plan, equalities on its rows, and the places of the columns that are kept
pub record Wide : Type 0 where
  -- a plan that uses no outer column
  pub below : PlanTree
  -- equalities of its columns
  pub tests : List (ℕ × Scalar)
  -- the columns that are kept
  pub outs : List ℕ

-- the plan that it stands for
abbrev pub wide_tree : Wide → PlanTree
wide_tree c = keep c.outs (key_filters c.tests c.below)

-- a base by itself: no tests, and all of its columns
abbrev pub at_base : PlanTree → Wide
at_base t = record { below = t; tests = []; outs = places 0 (tree_width t) }

-- The rule late, after the rule keep: nodes that add k columns go below the tests.
abbrev pub with_columns : Nodes → ℕ → Wide → Wide
with_columns nodes k c = record {
  below = on_each nodes c.below;
  tests = c.tests;
  outs = c.outs ++ places (tree_width c.below) k;
}

-- The rule cell: a test goes below the others, and becomes a cell that is compared with TRUE, so
-- that it raises only on rows that pass those.
abbrev pub with_cell : Scalar → Wide → Wide
with_cell s c = record {
  below = extend (more s none) c.below;
  tests = c.tests ++ (tree_width c.below, constant (Truth true)) ∷ [];
  outs = c.outs;
}

-- with no test before it, it stays a Filter
abbrev pub with_test : List (ℕ × Scalar) → Scalar → Wide → Wide
with_test [] s c = record { below = filter s c.below; tests = c.tests; outs = c.outs }
with_test (k ∷ tests) s c = with_cell s c

-- an equality of the chain's run becomes a test
abbrev pub with_key : Scalar → Wide → Wide
with_key (word (strict (Comparing Equals)) (more (column zero i) (more (column (suc d) j) none)))
    c = record {
      below = c.below;
      tests = c.tests ++ (place_in c.outs (tree_width c.below) i, column d j) ∷ [];
      outs = c.outs;
    }
with_key _ c = c

-- a Filter of the chain: a test inside, or an equality of the run
abbrev pub with_filter : Scalar → Wide → Wide
with_filter s c = if stays s 1
    then with_test c.tests (renamed_scalar s (own_row c.outs (tree_width c.below))) c
    else with_key s c

-- a Keep of the chain: other places, and no node
abbrev pub with_keep : List ℕ → Wide → Wide
with_keep is c =
    record { below = c.below; tests = c.tests; outs = places_in c.outs (tree_width c.below) is }

-- an Extend of the chain: columns below the tests
abbrev pub with_extend : Scalars → Wide → Wide
with_extend ss c = with_columns
    (extend_by (renamed_scalars ss (own_row c.outs (tree_width c.below))) no_node)
    (scalar_count ss) c

-- a chain, from its base up
abbrev pub widened : PlanTree → Wide
widened (extend ss t) = with_extend ss (widened t)
widened (apply when kind way inner t) =
    let c = widened t in let names = own_row c.outs (tree_width c.below) in
    with_columns (apply_by (renamed_scalar when names) (renamed_kind kind names)
    (renamed_way way names) (renamed_tree inner names) no_node)
    (kind_width kind) c
widened (filter s t) = with_filter s (widened t)
widened (keep is t) = with_keep is (widened t)
widened unit_row = at_base unit_row
widened (scan name n) = at_base (scan name n)
widened (values lists) = at_base (values lists)
widened (cross a b) = at_base (cross a b)
widened (left_outer nodes s n a b) = at_base (left_outer nodes s n a b)
widened (settle t) = at_base (settle t)
widened (group keys ags t) = at_base (group keys ags t)
widened (sort keys t) = at_base (sort keys t)

-- the places that tests compare
abbrev pub test_places : List (ℕ × Scalar) → List ℕ
test_places [] = []
test_places (k ∷ tests) = k.0 ∷ test_places tests

-- the same tests of the columns from n on
abbrev pub keys_from : ℕ → List (ℕ × Scalar) → List (ℕ × Scalar)
keys_from n [] = []
keys_from n (k ∷ tests) = (n, k.1) ∷ keys_from (suc n) tests

-- what a Lookup in the place of an Apply of the chain reads: the columns that are kept, and then a
-- column for each test
abbrev pub lookup_keys : Wide → List (ℕ × Scalar)
lookup_keys c = keys_from (length c.outs) c.tests

-- the inner plan of that Lookup
abbrev pub lookup_plan : Wide → PlanTree
lookup_plan c = keep (c.outs ++ test_places c.tests) c.below

-- A straight line of steps over one row of registers, and the chain of nodes that it stands for.
use Rattle.std.specs.Prelude.{ℕ, suc, pos, Bool, false, if◌then◌else◌, List, [], ◌∷◌, ◌++◌}
use Rattle.std.specs.Prelude.{slice_set}
use Rattle.sql_values.specs.declared.value.Value.TheVariants.{Int}
use Rattle.sql_values.specs.declared.operators.Comparison.TheVariants.{Equals}
use Rattle.row_types.specs.declared.cell.Cell.{Cell}
use Rattle.rel_algebra.specs.Tree.{Comparing}
use Rattle.rel_algebra.specs.Joins.{places}
use Rattle.rel_algebra.specs.Scopes.{Inputs}
use Rattle.rel_algebra.specs.Emissions.{joined_nodes}
use Rattle.sql_values.specs.Values.{is_true}
use Rattle.rel_algebra.specs.Plan.{Scalar, Scalars, constant, column, argument, and_word, word}
use Rattle.rel_algebra.specs.Plan.{none, more, case_word, strict, Nodes, no_node, extend_by}
use Rattle.rel_algebra.specs.Plan.{apply_by, PlanTree, extend, keep, on_each, added, cells_of}
use Rattle.rel_algebra.specs.Plan.{cells_at, sight, Way, anew, once, lookup}

-- one step: each keeps one row one row
pub data Step : Type 0 where
  -- more columns
  grow : Scalars → Step
  -- nodes, and the columns that are kept after them
  fat : Nodes → List ℕ → Step

-- what a step makes of the row
abbrev pub stepped : Inputs → List (List Cell) → Step → List Cell → List Cell
stepped w o (grow ss) q = q ++ cells_of ss (sight w o q)
stepped w o (fat nodes is) q = cells_at (added nodes w o q) is

-- what steps make of it, in order
abbrev pub run : Inputs → List (List Cell) → List Step → List Cell → List Cell
run w o [] q = q
run w o (s ∷ ss) q = run w o ss (stepped w o s q)

-- the nodes of a step over a plan
abbrev pub step_tree : Step → PlanTree → PlanTree
step_tree (grow ss) input = extend ss input
step_tree (fat nodes is) input = keep is (on_each nodes input)

-- the nodes of steps over a plan
abbrev pub steps_tree : List Step → PlanTree → PlanTree
steps_tree [] input = input
steps_tree (s ∷ ss) input = steps_tree ss (step_tree s input)

-- ---- steps at a code, which stands in the first column

-- a code
abbrev pub tag : ℕ → Scalar
tag n = constant (Int (pos n))

-- a column of the row
abbrev pub col : ℕ → Scalar
col i = column 0 i

-- one scalar
abbrev pub only : Scalar → Scalars
only s = more s none

-- two scalars
abbrev pub two : Scalar → Scalar → Scalars
two s t = more s (more t none)

-- CASE WHEN test THEN a ELSE b END
abbrev pub case_of : Scalar → Scalar → Scalar → Scalar
case_of test a b = word case_word (more test (two a b))

-- whether the row is at a code
abbrev pub code_is : ℕ → Scalar
code_is at = word (strict (Comparing Equals)) (two (col 0) (tag at))

-- a column's new cell
pub record Store : Type 0 where
  -- which column
  pub column : ℕ
  -- its new cell
  pub new : Scalar

-- a new cell for a column
abbrev pub store : ℕ → Scalar → Store
store i s = record { column = i; new = s }

-- new at this code, and else as it was
abbrev pub guarded : ℕ → List Store → Scalars
guarded at [] = none
guarded at (s ∷ ss) = more (case_of (code_is at) s.new (col s.column)) (guarded at ss)

-- the new cells stand from column m on
abbrev pub placed : List Store → ℕ → List ℕ → List ℕ
placed [] m is = is
placed (s ∷ ss) m is = placed ss (suc m) (slice_set is s.column m)

-- TRUE, as a scalar
abbrev pub is_sure : Scalar → Bool
is_sure (constant v) = is_true v
is_sure (column level i) = false
is_sure (argument i) = false
is_sure (word w ss) = false

-- where the code is this one and a scalar is true
abbrev pub also : ℕ → Scalar → Scalar
also at s = if is_sure s then code_is at else word and_word (two (code_is at) s)

-- what is run once has no when, and is asked at any code
abbrev pub asked_when : Way → ℕ → Scalar → Scalar
asked_when anew at when = also at when
asked_when once at when = when
asked_when (lookup keys) at when = also at when

-- nodes whose inner plans are asked at this code alone
abbrev pub asked_at : ℕ → Nodes → Nodes
asked_at at no_node = no_node
asked_at at (extend_by ss rest) = extend_by ss (asked_at at rest)
asked_at at (apply_by when kind way inner rest) = apply_by (asked_when way at when) kind way inner
    (asked_at at rest)

-- After nodes that make the row m columns wide, stores at this code; then the first n columns stay,
-- and after them others of those columns.
abbrev pub acts : ℕ → Nodes → ℕ → List Store → ℕ → List ℕ → Step
acts at pre m stores n extra = fat (joined_nodes (asked_at at pre)
    (extend_by (guarded at stores) no_node)) (placed stores m (places 0 n) ++ extra)

-- on rows of n columns: at this code on at another
abbrev pub jump : ℕ → ℕ → ℕ → Step
jump at to n = acts at no_node n (store 0 (tag to) ∷ []) n []

-- VALUES of several rows as one list over their numbers: a column is a CASE whose tests are the
-- numbers. It is made from the first row to the last.
use Rattle.std.specs.Prelude.{ℕ, List, [], ◌∷◌, ◌++◌, map, pos}
use Rattle.sql_values.specs.declared.value.Value.TheVariants.{Null, Int}
use Rattle.sql_values.specs.declared.operators.Comparison.TheVariants.{Equals}
use Rattle.rel_algebra.specs.declared.plan.ScalarRow.{ScalarRow}
use Rattle.rel_algebra.specs.Tree.{Comparing}
use Rattle.rel_algebra.specs.Plan.{strict, case_word, Scalar, constant, column, word, Scalars, none}
use Rattle.rel_algebra.specs.Plan.{more}
use Rattle.rel_algebra.specs.PlanView.{scalar_of}
use Rattle.rel_algebra.specs.Emit.{else_arms}

-- the test of the CASE that tells the row of a number: #0 = i
abbrev pub number_test : ℕ → Scalar
number_test i = word (strict (Comparing Equals))
    (more (column 0 0) (more (constant (Int (pos i))) none))

-- scalars in front of others, in their order
abbrev pub prepend : List Scalar → Scalars → Scalars
prepend [] others = others
prepend (s ∷ ss) others = more s (prepend ss others)

-- a column by its tests and results so far, and what it is in the other rows
abbrev pub column_from : List Scalar → Scalar → Scalar
column_from [] r = r
column_from (s ∷ ss) r = word case_word (prepend (s ∷ ss) (else_arms r))

-- each column so far with what it is in the other rows, column by column
abbrev pub columns_from : List (List Scalar) → Scalars → Scalars
columns_from [] rs = none
columns_from (c ∷ cs) none = none
columns_from (c ∷ cs) (more r rs) = more (column_from c r) (columns_from cs rs)

-- the row of a number more
abbrev pub with_row : ℕ → List (List Scalar) → Scalars → List (List Scalar)
with_row i [] ss = []
with_row i (c ∷ cs) none = []
with_row i (c ∷ cs) (more s ss) = (c ++ number_test i ∷ s ∷ []) ∷ with_row i cs ss

-- the columns, when all rows stand in them
abbrev pub closed : List (List Scalar) → Scalars
closed [] = none
closed (c ∷ cs) = more (column_from c (constant Null)) (closed cs)

-- the columns as they are held
abbrev pub arms_of : ScalarRow → List Scalar
arms_of c = map scalar_of c.scalars

-- the tests and results of all columns as they are held
abbrev pub all_arms_of : List ScalarRow → List (List Scalar)
all_arms_of cs = map arms_of cs

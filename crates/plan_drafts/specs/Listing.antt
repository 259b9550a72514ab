-- The end of a plan: scalars become its only columns.
use Rattle.std.specs.Prelude.{ℕ, if◌then◌else◌, Option, Some, None}
use Rattle.rel_algebra.specs.Plan.{Scalar, column, Scalars, PlanTree, no_node}
use Rattle.rel_algebra.specs.Emit.{listed}
use Rattle.plan_expressions.specs.Scopes.{is_zero}

-- the place of a column of the row itself
abbrev pub place_of : Scalar → Option ℕ
place_of (column level i) = if is_zero level then Some i else None
place_of _ = None

-- a plan of rows of n columns, and then these scalars alone
abbrev pub listed_only : Scalars → ℕ → PlanTree → PlanTree
listed_only ss n input = listed (record { nodes = no_node; scalars = ss }) n input

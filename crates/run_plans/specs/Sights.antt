-- What is in sight where there are so many variables, under such rows. ISO/IEC 9075-2, 6.6
-- (identifier chain).
use Rattle.std.specs.Prelude.{ℕ, List}
use Rattle.row_types.specs.Rows.{Row}
use Rattle.rel_algebra.specs.Theorem.{widths}
use Rattle.kept_queries.specs.declared.sight.InSight.{InSight}

-- so many variables, and rows of as many values as each of these has
abbrev pub sight_of : ℕ → List Row → InSight
sight_of variables rows = record { variables = variables; rows = widths rows }

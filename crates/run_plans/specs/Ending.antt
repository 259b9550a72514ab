-- How a kept query ends where its plan is run. ISO/IEC 9075-2, 7.17 (query expression).
use Rattle.std.specs.Prelude.{List, [], ◌∷◌}
use Rattle.row_types.specs.Rows.{Row}
use Rattle.row_types.specs.declared.cell.Cell.{Cell}
use Rattle.rel_algebra.specs.Meaning.{carried}
use Rattle.rel_algebra.specs.Plan.{collected, den, shown}
use Rattle.rel_algebra.specs.PlanView.{tree_of}
use Rattle.rel_algebra.specs.Theorem.{inputs_of, stack}
use Rattle.rel_algebra.specs.World.{Ends, Frame, World}
use Rattle.kept_queries.specs.declared.keeping.KeptQuery.{KeptQuery}

-- with the rows of its plan over the tables and the variables in sight, under the rows in sight, or
-- with the first condition among them, in the world in which it began
abbrev pub kept_end : KeptQuery → List Row → Frame → World → Ends (List Row)
kept_end k rows f w = carried (collected (den (tree_of k.plan) (inputs_of w f) (stack rows))) w

-- rows of cells, and inside of them further rows, of which the outermost comes first
abbrev pub inside : List Row → List (List Cell) → List (List Cell)
inside [] outer = outer
inside (r ∷ rows) outer = inside rows (shown r ∷ outer)

use Rattle.std.proofs.Common.{◌≡◌, List}
use Rattle.row_types.specs.declared.cell.Cell.{Cell}
use Rattle.rel_algebra.specs.Plan.{cell_of}
use Rattle.rel_algebra.specs.PlanView.{scalar_of}
use Rattle.plan_scalars.specs.Sights.{sight_of}
use Rattle.region_steps.proofs.choices.chosen.Given as goal

abbrev pub invariant-loop : goal.invariant-loop
invariant-loop l = (outer : List (List Cell)) →
    cell_of (scalar_of l.found) (sight_of l.row outer l.args)
    ≡ cell_of (scalar_of l.scalar) (sight_of l.row outer l.args)

use Rattle.std.proofs.Common.{◌≡◌, List, Ok, drop}
use Rattle.three_valued.specs.declared.truth.Truth.TheVariants.{False}
use Rattle.row_types.specs.declared.cell.Cell.{Cell}
use Rattle.rel_algebra.specs.Endings.{after}
use Rattle.rel_algebra.specs.Plan.{cells_of, values_of}
use Rattle.rel_algebra.specs.PlanView.{scalars_of}
use Rattle.plan_scalars.specs.Sights.{sight_of}
use Rattle.plan_rows.proofs.Laws.{or_all}
use Rattle.plan_scalars.proofs.places.among_these.Given as goal

abbrev pub invariant-loop-item : goal.invariant-loop-item
invariant-loop-item l = (outer : List (List Cell)) → let s = sight_of l.row outer l.args in
    after (values_of (cells_of (scalars_of (drop l.item-index l.list)) s))
    (λ vs. Ok (or_all l.so_far l.value vs))
    ≡ after (values_of (cells_of (scalars_of l.list) s)) (λ vs. Ok (or_all False l.value vs))

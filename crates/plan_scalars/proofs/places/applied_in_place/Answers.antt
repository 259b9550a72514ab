use Rattle.plan_rows.proofs.Laws.{cell_as_defined}
use Rattle.plan_scalars.proofs.places.applied_in_place.Goals as goal

pub returns : goal.returns
returns c outer = rw (c.in_ok-right.ensures outer) (cell_as_defined _ _ c.apply.ensures)

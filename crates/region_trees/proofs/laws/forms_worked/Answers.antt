use Rattle.std.proofs.Common.{refl}
use Rattle.region_trees.proofs.Worked.{f-planned, g-unplanned, values-f-planned}
use Rattle.region_trees.proofs.Worked.{values-g-unplanned}
use Rattle.region_trees.proofs.laws.forms_worked.Goals as goal

pub returns : goal.returns
returns c = record {
  block = refl;
  leave = refl;
  set = f-planned;
  set_unplanned = g-unplanned;
  given = f-planned;
  given_unplanned = g-unplanned;
  into = values-f-planned;
  into_unplanned = values-g-unplanned;
  into_nothing = λ q. refl;
  signal = refl;
  signal_text = f-planned;
  signal_unplanned = g-unplanned;
  resignal = refl;
  resignal_text = f-planned;
  resignal_unplanned = g-unplanned;
  stacked = f-planned;
  stacked_unplanned = g-unplanned;
  stacked_whole = refl;
  current = λ e. refl;
}

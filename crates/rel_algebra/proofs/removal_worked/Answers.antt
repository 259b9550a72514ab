use Rattle.std.proofs.Common.{refl}
use Rattle.rel_algebra.proofs.removal_worked.Goals as goal

pub returns : goal.returns
returns c = record {
  other_group = refl;
  own_group = refl;
  swapped_sum = refl;
  swapped_none = refl;
  swapped_raises = refl;
  first_row = refl;
  second_row = refl;
  no_row = refl;
  none_left = refl;
  late_test = refl;
  null_argument = refl;
  null_columns = refl;
  none_of_these = refl;
  key_raises = refl;
  no_row_raises = refl;
  when_false = refl;
  when_raises = refl;
  region_plan = refl;
  region_rows = refl;
  region_when = refl;
  region_into = refl;
  region_into_gone = refl;
  several_into = refl;
  none_into = refl;
  into_once = refl;
  once_plan = refl;
  one_stays = refl;
}

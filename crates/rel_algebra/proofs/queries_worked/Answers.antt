use Rattle.std.proofs.Common.{refl}
use Rattle.rel_algebra.proofs.queries_worked.Goals as goal

pub returns : goal.returns
returns c = record {
  other_group = refl;
  own_group = refl;
  swapped_sum = refl;
  swapped_none = refl;
  swapped_raises = refl;
  first_row = refl;
  second_row = refl;
  no_row = refl;
  condition_first = refl;
  several = refl;
  truth = refl;
  left_join = refl;
  having_raises = refl;
  several_rows = refl;
  second_raises = refl;
  own_row = refl;
  pairs_leave = refl;
  argument_raises = refl;
  twice_called = refl;
}

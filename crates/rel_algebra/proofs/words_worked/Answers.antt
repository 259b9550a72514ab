use Rattle.std.proofs.Common.{refl}
use Rattle.std.specs.Fmt.{digits}
use Rattle.rel_algebra.proofs.words_worked.Goals as goal

pub returns : goal.returns
unfolding digits
returns c = record {
  joined = (refl, refl);
  joined_null = (refl, refl);
  prefix_first = (refl, refl);
  no_padding = (refl, refl);
  remainder = (refl, refl);
  no_divisor = (refl, refl);
  length = (refl, refl);
  no_length = (refl, refl);
  part = (refl, refl);
  rest = (refl, refl);
  before = (refl, refl);
  no_part = (refl, refl);
  spelled = (refl, refl);
  not_spelled = (refl, refl);
  cut = (refl, refl);
  no_room = (refl, refl);
  unknown_word = (refl, refl);
  assigned = (refl, refl);
  not_assigned = (refl, refl);
  is_among = (refl, refl);
  may_be_among = (refl, refl);
  not_among = (refl, refl);
  null_among = (refl, refl);
  decided = (refl, refl);
  not_taken = (refl, refl);
  not_needed = (refl, refl);
  kinds_fit = refl;
  number_is_no_text = refl;
  number_is_no_truth = refl;
  kinds_differ = refl;
}

use Rattle.std.proofs.Common.{refl}
use Rattle.rel_algebra.proofs.calls_assign.Goals as goal

pub returns : goal.returns
returns c = record {
  fits = (refl, refl);
  argument_cut = (refl, refl);
  no_text = (refl, refl);
  argument_refused = (refl, refl);
  result_cut = (refl, refl);
  result_refused = (refl, refl);
  unread_refused = (refl, refl);
  not_called = (refl, refl);
  text_before = (refl, refl);
  number_before = (refl, refl);
  call_plan = refl;
  own_plan = refl;
}

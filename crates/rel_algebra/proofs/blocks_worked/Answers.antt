use Rattle.std.proofs.Common.{refl}
use Rattle.rel_algebra.proofs.blocks_worked.Goals as goal

pub returns : goal.returns
returns c = record {
  have_plans = refl;
  too_few = refl;
  no_change = refl;
  handled = refl;
  handled_plan = refl;
  summed = refl;
  summed_plan = refl;
  nested = refl;
  nested_plan = refl;
  refused = refl;
  refused_plan = refl;
  call_plan = refl;
  on_null = refl;
  on_null_plan = refl;
  on_null_call_plan = refl;
  can_go = refl;
  fit = refl;
  kinds = refl;
}

use Rattle.std.proofs.Common.{refl, inl, inr}
use Rattle.rel_algebra.proofs.plans_worked.Goals as goal

pub returns : goal.returns
returns c = record {
  has_plan = refl;
  no_plan = refl;
  plan_on_null = refl;
  plan_of_statements = refl;
  uneven = refl;
  several_rows = refl;
  second_raises = refl;
  poisoned = refl;
  unread = refl;
  cells = refl;
  call_plan = refl;
  twice_plan = refl;
  fold_plan = refl;
  exists_plan = refl;
  can_go = refl;
  between_is_simple = (
    tt,
    tt,
    (
      (
        inr (tt, inr (refl, inl (refl, inl (refl, tt))), (tt, tt)),
        (tt, ((tt, (tt, tt)), ((tt, (tt, tt)), ((tt, (tt, tt)), tt))), (tt, tt), tt, (tt, tt)),
      ),
      tt,
    ),
  );
  between_goes = refl;
  cannot_go = refl;
  plan_swapped = refl;
  plan_left_join = refl;
  plan_pairs_leave = refl;
  plan_argument_raises = refl;
  steps = refl;
  kinds_fit = refl;
  kinds_differ = refl;
}

use Rattle.std.proofs.Common.{refl}
use Rattle.regions.proofs.routines_worked.Goals as goal

pub returns : goal.returns
returns c = record {
  safe_plan = refl;
  safe_zero = record { called = refl; planned = refl };
  safe_five = record { called = refl; planned = refl };
  safe_null = record { called = refl; planned = refl };
  counting_zero = record { called = refl; planned = refl };
  counting_one = record { called = refl; planned = refl };
  nested_zero = record { called = refl; planned = refl };
  beside_zero = record { called = refl; planned = refl };
  resignals_zero = record { called = refl; planned = refl };
  resignals_one = record { called = refl; planned = refl };
  into_none = record { called = refl; planned = refl };
  into_several = record { called = refl; planned = refl };
  into_last = record { called = refl; planned = refl };
  into_key_two = record { called = refl; planned = refl };
  into_key_none = record { called = refl; planned = refl };
  into_sum_one = record { called = refl; planned = refl };
  into_sum_none = record { called = refl; planned = refl };
  shadowed_zero = record { called = refl; planned = refl };
  shadowed_outer = record { called = refl; planned = refl };
  shadowed_one = record { called = refl; planned = refl };
  cases_one = record { called = refl; planned = refl };
  cases_two = record { called = refl; planned = refl };
  cases_none = record { called = refl; planned = refl };
  cases_zero = record { called = refl; planned = refl };
  leaves_two = record { called = refl; planned = refl };
  leaves_one = record { called = refl; planned = refl };
  whole_zero = record { called = refl; planned = refl };
  whole_one = record { called = refl; planned = refl };
  default_zero = record { called = refl; planned = refl };
  default_one = record { called = refl; planned = refl };
  may_end_six = record { called = refl; planned = refl };
  may_end_one = record { called = refl; planned = refl };
  texts_one = record { called = refl; planned = refl };
  texts_two = record { called = refl; planned = refl };
  refused_last = record { called = refl; planned = refl };
  safe_good = refl;
  counting_good = refl;
  nested_good = refl;
  resignals_good = refl;
  into_sum_good = refl;
  into_key_good = refl;
  shadowed_2_good = refl;
  cases_good = refl;
  leaves_good = refl;
  whole_good = refl;
  default_raises_good = refl;
  may_end_good = refl;
  texts_0_good = refl;
  assigned_last_good = refl;
  safe_typed = (tt, ((tt, refl), tt), (((tt, (refl, tt, refl, tt)), refl), tt));
  into_sum_typed = (
    (tt, tt),
    tt,
    (
      (
        (
          tt,
          (((tt, (tt, tt)), refl), tt),
          refl,
          (tt, tt),
          refl,
          tt,
          refl,
          ((tt, (refl, tt, refl, tt)), tt),
        ),
        ((refl, refl), tt),
      ),
      ((tt, refl), tt),
    ),
  );
  texts_0_typed = (
    (tt, (tt, tt)),
    (
      (
        tt,
        tt,
        (
          ((refl, refl), tt),
          ((tt, refl, ((refl, refl), ((refl, refl), tt))), ((tt, refl), tt)),
        ),
      ),
      tt,
    ),
    (((tt, (refl, tt, refl, tt)), (refl, refl)), tt),
  );
}

use Rattle.std.proofs.Common.{refl}
use Rattle.catalog_store.proofs.names.routines_without_plans.Goals as goal

pub returns : goal.returns
returns c = record {
  used = refl;
  itself = refl;
  fits = (refl, tt);
  unfit = λ h. absurd (let none = h.0 in cc);
  function = refl;
  procedure = refl;
  no_columns = refl;
}

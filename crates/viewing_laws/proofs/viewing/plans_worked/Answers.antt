use Rattle.std.proofs.Common.{[], ◌∷◌, refl, ap, ◌∙◌, codes}
use Rattle.rel_algebra.specs.Plain.{planned, planned_expr}
use Rattle.rel_algebra.specs.Tree as tree
use Rattle.routine_views.specs.Routines.{inside, routines_of}
use Rattle.viewing_laws.specs.Examples.{table, function_f, known, one, of_p}
use Rattle.viewing_laws.specs.Planned.{outside}
use Rattle.viewing_laws.proofs.Worked.{call-v-seen, values-seen, call-plain, values-plain, g-row}
use Rattle.viewing_laws.proofs.viewing.plans_worked.Goals as goal

pub returns : goal.returns
returns c = record {
  planned_values = ap planned (values-plain known);
  values = values-seen (outside (routines_of known));
  plain_values = values-plain known;
  unplanned = ap planned_expr (call-plain known (codes "G"));
  seen = call-v-seen (outside (routines_of known)) (codes "G") ∙
      ap (λ r. tree.Call (codes "G") r (one (tree.Variable 0)))
      (g-row (table (codes "T") ∷ function_f ∷ []));
  plain = call-plain known (codes "G");
  in_f = λ m. call-v-seen (inside m (codes "F") of_p) (codes "F");
  no_plan = refl;
  in_g = call-v-seen (inside (routines_of known) (codes "G") of_p) (codes "F");
}

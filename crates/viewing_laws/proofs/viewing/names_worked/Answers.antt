use Rattle.std.proofs.Common.{ℕ, cond, List, [], ◌∷◌, length, refl, ap, ◌∙◌, codes}
use Rattle.catalog_store.specs.Catalog.{Catalog}
use Rattle.viewing_laws.specs.Calls.{CalledNames}
use Rattle.viewing_laws.specs.Standing.{is_called}
use Rattle.viewing_laws.specs.Examples.{table, function_f, function_g, procedure_p, tree_f, tree_p}
use Rattle.viewing_laws.proofs.Worked.{g-body-calls, p-body-calls, g-row, p-row}
use Rattle.viewing_laws.proofs.viewing.names_worked.Goals as goal

-- those of G and P whose bodies call a name
abbrev of_both : List ℕ → CalledNames → CalledNames → Catalog
of_both name gs ps =
    let rest = cond (is_called name ps) (procedure_p ∷ []) [] in
    cond (is_called name gs) (function_g ∷ rest) rest

pub returns : goal.returns
returns c = record {
  f = refl;
  g = g-row (table (codes "T") ∷ function_f ∷ []);
  p = p-row (table (codes "T") ∷ function_f ∷ function_g ∷ []) ∙
      ap (tree_p tree_f) (g-row (table (codes "T") ∷ function_f ∷ []));
  t = refl;
  unknown = refl;
  g_before = g-row [];
  more = g-row (table (codes "T") ∷ function_f ∷ []);
  none_call = λ i. length (of_both (codes "T") (g-body-calls i) (p-body-calls i));
  without_table = p-row (function_f ∷ function_g ∷ []) ∙
      ap (tree_p tree_f) (g-row (function_f ∷ []));
  two_call = λ i. length (of_both (codes "F") (g-body-calls i) (p-body-calls i));
  without_called = g-row (table (codes "T") ∷ []);
}

use Rattle.std.proofs.Common.{◌≡◌, ℕ, true, false, List, [], ◌∷◌, refl, sym, subst, codes}
use Rattle.std.specs.List.{AllByRecursion}
use Rattle.std.specs.Str.{bytes_eq}
use Rattle.viewing_laws.specs.Calls.{CalledNames}
use Rattle.viewing_laws.specs.Standing.{StandsBeside, is_called}
use Rattle.viewing_laws.specs.Examples.{table, function_f, function_g}
use Rattle.viewing_laws.proofs.Worked.{g-body-calls, p-body-calls, values-calls}
use Rattle.viewing_laws.proofs.viewing.bodies_call.Goals as goal

-- what a head lists, as `HeadLists` says it
abbrev Listed : List ℕ → CalledNames → List ℕ → Type 0
Listed own uses name = bytes_eq own name ≡ false → is_called name uses ≡ true

pub returns : goal.returns
returns c = record {
  g = g-body-calls;
  p = p-body-calls;
  values = values-calls;
  tables = refl;
  before = (
    tt,
    (
      tt,
      (
        subst (AllByRecursion (StandsBeside (codes "G")
            (table (codes "T") ∷ function_f ∷ []))) (sym g-body-calls) (λ q. refl, tt),
        (
          subst (AllByRecursion (StandsBeside (codes "P")
              (table (codes "T") ∷ function_f ∷ function_g ∷ []))) (sym p-body-calls)
              (λ q. absurd cc, (λ q. refl, (λ q. refl, tt))),
          tt,
        ),
      ),
    ),
  );
  listed = (
    tt,
    (
      tt,
      (
        subst (AllByRecursion (Listed (codes "G") (codes "F" ∷ []))) (sym g-body-calls)
            (λ q. refl, tt),
        (
          subst (AllByRecursion (Listed (codes "P") (codes "G" ∷ codes "F" ∷ [])))
              (sym p-body-calls) (λ q. absurd cc, (λ q. refl, (λ q. refl, tt))),
          tt,
        ),
      ),
    ),
  );
  after = λ h.
      let s = subst (AllByRecursion (StandsBeside (codes "G") [])) g-body-calls h.0 in
      let f : false ≡ true = s.0 refl in cc;
  own = λ m. refl;
  other = λ m. refl;
}

-- Where names are read from further in.
use Rattle.std.proofs.Common.{ℕ, ◌≡◌, ◌<◌, ◌≤◌, ◌+◌, zero, suc, true, false, List, [], ◌∷◌, ◌++◌}
use Rattle.std.proofs.Common.{map, length, Option, Some, None, slice_get, refl, sym, ap, ◌∙◌, arith}
use Rattle.plan_expressions.specs.Scopes.{in_list, in_span, in_spans, in_parameters}
use Rattle.plan_expressions.specs.Scopes.{outward_parameters, outward_span, is_zero}
use Rattle.plan_expressions.specs.declared.scope.Span.{Span}
use Rattle.plan_expressions.specs.declared.scope.Parameters.{Parameters}
use Rattle.plan_expressions.specs.declared.scope.Parameters.TheVariants.{Arguments, Columns, Listed}
use Rattle.rel_algebra.specs.Emit.{Env, Place, at, given, nowhere, outward, below, columns_within}
use Rattle.rel_algebra.specs.Emit.{entered, lifted, folded_columns, folded_env, passed}

pub below_inside : (n i : ℕ) (p : Place) → i < n → below n i p ≡ p
below_inside zero i p h = absurd (omega (arith, h))
below_inside (suc n) zero p h = refl
below_inside (suc n) (suc i) p h = below_inside n i p (omega (arith, h))

pub below_past : (n i : ℕ) (p : Place) → n ≤ i → below n i p ≡ nowhere
below_past zero i p h = refl
below_past (suc n) zero p h = absurd (omega (arith, h))
below_past (suc n) (suc i) p h = below_past n i p (omega (arith, h))

below_outward : (n i : ℕ) (p : Place) → below n i (outward p) ≡ outward (below n i p)
below_outward zero i p = refl
below_outward (suc n) zero p = refl
below_outward (suc n) (suc i) p = below_outward n i p

-- ---- columns from further in

span_outward : (s : Span) (i : ℕ) → in_span (outward_span s) i ≡ outward (in_span s i)
span_outward s i =
    let next : s.level + 1 ≡ suc s.level = omega arith in
    ap (λ l. below s.count i (at l (s.first + i))) next ∙
    below_outward s.count i (at s.level (s.first + i))

spans_outward : (ss : List Span) (d i : ℕ) → in_spans (map outward_span ss) d i ≡ outward
    (in_spans ss d i)
spans_outward [] d i = refl
spans_outward (s ∷ ss) zero i = span_outward s i
spans_outward (s ∷ ss) (suc d) i = spans_outward ss d i

list_outward : (level : ℕ) (is : List ℕ) (i : ℕ) →
    in_list (level + 1) is i ≡ outward (in_list level is i)
list_outward level [] i = refl
list_outward level (c ∷ cs) zero =
    let next : level + 1 ≡ suc level = omega arith in ap (λ l. at l c) next
list_outward level (c ∷ cs) (suc i) = list_outward level cs i

parameters_outward : (p : Parameters) (i : ℕ) →
    in_parameters (outward_parameters p) i ≡ outward (in_parameters p i)
parameters_outward (Arguments n) i = below_outward n i (given i)
parameters_outward (Columns s) i = span_outward s i
parameters_outward (Listed level is) i = list_outward level is i

own_span : (n i : ℕ) → below n i (at 0 (0 + i)) ≡ below n i (at 0 i)
own_span n i = let same : 0 + i ≡ i = omega arith in ap (λ q. below n i (at 0 q)) same

within : (ss : List Span) (p : Parameters) (n d i : ℕ) →
    in_spans (record { level = 0; first = 0; count = n } ∷ map outward_span ss) d i ≡ columns_within
    (record { columns = in_spans ss; params = in_parameters p }) n d i
within ss p n zero i = own_span n i
within ss p n (suc d) i = spans_outward ss d i

-- ---- whole environments

pub entered_there : (ss ts : List Span) (p q : Parameters) (n : ℕ) →
    ts ≡ (record { level = 0; first = 0; count = n } ∷ []) ++ map outward_span ss →
    q ≡ outward_parameters p →
    record { columns = in_spans ts; params = in_parameters q } ≡ entered
    (record { columns = in_spans ss; params = in_parameters p }) n
entered_there ss ts p q n h g =
    (λ j. record { columns = in_spans (h j); params = in_parameters (g j) })
    ∙ (λ j. record { columns = λ d i. within ss p n d i j; params = λ i. parameters_outward p i j })

pub lifted_there : (ss ts : List Span) (p q : Parameters) → ts ≡ [] ++ map outward_span ss →
    q ≡ outward_parameters p →
    record { columns = in_spans ts; params = in_parameters q } ≡ lifted
    (record { columns = in_spans ss; params = in_parameters p })
lifted_there ss ts p q h g =
    (λ j. record { columns = in_spans (h j); params = in_parameters (g j) })
    ∙ (λ j. record {
      columns = λ d i. spans_outward ss d i j;
      params =
          λ i. parameters_outward p i j;
    })

own_columns : (ss : List Span) (p : Parameters) (first n d i : ℕ) →
    in_spans (record { level = 0; first = first; count = n } ∷ ss) d i ≡ folded_columns
    (record { columns = in_spans ss; params = in_parameters p }) first n d i
own_columns ss p first n zero i = refl
own_columns ss p first n (suc d) i = refl

pub folded_there : (ss ts : List Span) (p q : Parameters) (first n : ℕ) →
    ts ≡ record { level = 0; first = first; count = n } ∷ ss → q ≡ p →
    record { columns = in_spans ts; params = in_parameters q } ≡ folded_env
    (record { columns = in_spans ss; params = in_parameters p }) first n
folded_there ss ts p q first n h g =
    (λ j. record { columns = in_spans (h j); params = in_parameters (g j) })
    ∙ (λ j. record { columns = λ d i. own_columns ss p first n d i j; params = in_parameters p })

-- ---- the columns at a level

pub span_there : (ss : List Span) (d i : ℕ) (s : Span) → Some s ≡ slice_get ss d →
    in_span s i ≡ in_spans ss d i
span_there [] d i s h = absurd (let never = h in cc)
span_there (t ∷ ss) zero i s h = (let same : s ≡ t = cc in ap (λ (x : Span). in_span x i) same)
span_there (t ∷ ss) (suc d) i s h = span_there ss d i s h

pub no_span : (ss : List Span) (d i : ℕ) → None ≡ slice_get ss d → nowhere ≡ in_spans ss d i
no_span [] d i h = refl
no_span (t ∷ ss) zero i h = absurd (let never = h in cc)
no_span (t ∷ ss) (suc d) i h = no_span ss d i h

-- ---- the columns that are listed

pub listed_there : (level : ℕ) (is : List ℕ) (i c : ℕ) → Some c ≡ slice_get is i →
    at level c ≡ in_list level is i
listed_there level [] i c h = absurd (let never = h in cc)
listed_there level (d ∷ ds) zero c h =
    (let same : c ≡ d = cc in ap (λ (x : ℕ). at level x) same)
listed_there level (d ∷ ds) (suc i) c h = listed_there level ds i c h

pub not_listed : (level : ℕ) (is : List ℕ) (i : ℕ) → None ≡ slice_get is i →
    nowhere ≡ in_list level is i
not_listed level [] i h = refl
not_listed level (d ∷ ds) zero h = absurd (let never = h in cc)
not_listed level (d ∷ ds) (suc i) h = not_listed level ds i h

pub zero_is : (n : ℕ) → n ≡ 0 → true ≡ is_zero n
zero_is n h = sym (ap is_zero h)

pub zero_not : (n : ℕ) → ¬ (n ≡ 0) → false ≡ is_zero n
zero_not zero h = absurd (h refl)
zero_not (suc n) h = refl

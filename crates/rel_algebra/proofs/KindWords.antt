-- Kinds of the scalars that the emitter builds.
use Rattle.std.proofs.Common.{◌≡◌, ℕ, true, ◌&&◌, List, [], ◌∷◌, refl, ap, ◌∙◌}
use Rattle.sql_values.specs.declared.value.SqlType.{SqlType}
use Rattle.sql_values.specs.declared.value.SqlType.TheVariants.{Boolean, Integer, Varchar}
use Rattle.sql_values.specs.declared.value.Value.TheVariants.{Bool as Truth}
use Rattle.rel_algebra.specs.Emit.{Place, against, all_true, all_values, assigning, assigning_first}
use Rattle.rel_algebra.specs.Emit.{at, checks, checks_of, else_arms, first_value, given, if_all}
use Rattle.rel_algebra.specs.Emit.{if_values, nowhere, read, row_stands, truths, turned}
use Rattle.rel_algebra.specs.Kinds.{BooleanKind, DataKind, IntegerKind, Kinds, NullKind, TextKind}
use Rattle.rel_algebra.specs.Kinds.{against_good, agree, assigned_kind, case_good, first_kind}
use Rattle.rel_algebra.specs.Kinds.{first_takes, is_test, joined_kind, kind_at, kinds_row}
use Rattle.rel_algebra.specs.Kinds.{results_kind, scalar_good, scalar_kind, scalars_good}
use Rattle.rel_algebra.specs.Kinds.{scalars_kinds, takes, tests_good}
use Rattle.rel_algebra.specs.Plan.{Scalar, Scalars, and_word, argument, case_word, column, constant}
use Rattle.rel_algebra.specs.Plan.{more, none, word}
use Rattle.rel_algebra.proofs.Truths.{and_true, both, left_true, right_true}

pub join_null : (k : DataKind) → joined_kind k NullKind ≡ k
join_null NullKind = refl
join_null IntegerKind = refl
join_null TextKind = refl
join_null BooleanKind = refl

pub agree_null : (k : DataKind) → agree k NullKind ≡ true
agree_null NullKind = refl
agree_null IntegerKind = refl
agree_null TextKind = refl
agree_null BooleanKind = refl

pub agree_turned : (a b : DataKind) → agree a b ≡ true → agree b a ≡ true
agree_turned NullKind b h = agree_null b
agree_turned IntegerKind NullKind h = refl
agree_turned IntegerKind IntegerKind h = refl
agree_turned IntegerKind TextKind h = h
agree_turned IntegerKind BooleanKind h = h
agree_turned TextKind NullKind h = refl
agree_turned TextKind IntegerKind h = h
agree_turned TextKind TextKind h = refl
agree_turned TextKind BooleanKind h = h
agree_turned BooleanKind NullKind h = refl
agree_turned BooleanKind IntegerKind h = h
agree_turned BooleanKind TextKind h = h
agree_turned BooleanKind BooleanKind h = refl

pub read_good : (p : Place) (ks : List Kinds) (ps : Kinds) → scalar_good (read p) ks ps ≡ true
read_good (at level i) ks ps = refl
read_good (given i) ks ps = refl
read_good nowhere ks ps = refl

-- a scalar of this kind, whose operands have theirs
abbrev pub Has : Scalar → List Kinds → Kinds → DataKind → Type 0
Has s ks ps k = (scalar_kind s ks ps ≡ k) × (scalar_good s ks ps ≡ true)

abbrev pub HaveAll : Scalars → List Kinds → Kinds → Kinds → Type 0
HaveAll ss ks ps kk = (scalars_kinds ss ks ps ≡ kk) × (scalars_good ss ks ps ≡ true)

assigning_has : (t : SqlType) (s : Scalar) (ks : List Kinds) (ps : Kinds) (k : DataKind) →
    Has s ks ps k → takes t k ≡ true →
    Has (assigning t s) ks ps (assigned_kind t k)
assigning_has Integer s ks ps k h g = h
assigning_has (Varchar n) s ks ps k h g = (
  refl,
  and_true (scalar_good s ks ps && true) (agree (scalar_kind s ks ps) TextKind)
      (and_true (scalar_good s ks ps) true h.1 refl)
      (ap (λ j. agree j TextKind) h.0 ∙ g),
)
assigning_has Boolean s ks ps k h g = h

pub assigning_first_has : (types : List SqlType) (s : Scalar) (ks : List Kinds) (ps : Kinds)
    (k : DataKind) → Has s ks ps k →
    first_takes types k ≡ true → Has (assigning_first types s) ks ps (first_kind types k)
assigning_first_has [] s ks ps k h g = h
assigning_first_has (t ∷ types) s ks ps k h g = assigning_has t s ks ps k h g

checks_tests : (is : List ℕ) (ks : List Kinds) (ps : Kinds) →
    tests_good (scalars_kinds (checks is) ks ps) ≡ true
checks_tests [] ks ps = refl
checks_tests (i ∷ is) ks ps = checks_tests is ks ps

checks_good : (is : List ℕ) (ks : List Kinds) (ps : Kinds) → scalars_good (checks is) ks ps ≡ true
checks_good [] ks ps = refl
checks_good (i ∷ is) ks ps = checks_good is ks ps

-- CASE WHEN test THEN s END
guarded_has : (test s : Scalar) (ks : List Kinds) (ps : Kinds) (k : DataKind) →
    Has test ks ps BooleanKind → Has s ks ps k →
    Has (word case_word (more test (more s none))) ks ps k
guarded_has test s ks ps k t h = (
  ap (λ j. joined_kind j NullKind) h.0 ∙ join_null k,
  and_true (scalar_good test ks ps && (scalar_good s ks ps && true))
      (agree (scalar_kind test ks ps) BooleanKind &&
      (agree (scalar_kind s ks ps) NullKind && true))
      (and_true (scalar_good test ks ps) (scalar_good s ks ps && true) t.1
      (and_true (scalar_good s ks ps) true h.1 refl))
      (and_true (agree (scalar_kind test ks ps) BooleanKind) (agree (scalar_kind s ks ps) NullKind
      && true) (ap (λ j. agree j BooleanKind) t.0)
      (and_true (agree (scalar_kind s ks ps) NullKind) true (agree_null (scalar_kind s ks ps))
      refl)),
)

pub all_values_has : (is : List ℕ) (ks : List Kinds) (ps : Kinds) →
    Has (all_values is) ks ps BooleanKind
all_values_has is ks ps = (
  refl,
  and_true (scalars_good (checks is) ks ps) (tests_good (scalars_kinds (checks is) ks ps))
      (checks_good is ks ps)
      (checks_tests is ks ps),
)

pub if_values_has : (is : List ℕ) (s : Scalar) (ks : List Kinds) (ps : Kinds) (k : DataKind) →
    Has s ks ps k → Has (if_values is s) ks ps k
if_values_has [] s ks ps k h = h
if_values_has (i ∷ is) s ks ps k h =
    guarded_has (all_values (i ∷ is)) s ks ps k (all_values_has (i ∷ is) ks ps) h

checks_of_tests : (ss : Scalars) (ks : List Kinds) (ps : Kinds) →
    tests_good (scalars_kinds (checks_of ss) ks ps) ≡ true
checks_of_tests none ks ps = refl
checks_of_tests (more s ss) ks ps = checks_of_tests ss ks ps

checks_of_good : (ss : Scalars) (ks : List Kinds) (ps : Kinds) → scalars_good ss ks ps ≡ true →
    scalars_good (checks_of ss) ks ps ≡ true
checks_of_good none ks ps h = refl
checks_of_good (more s ss) ks ps h =
    let x = scalar_good s ks ps in
    and_true ((((x && true) && true) && true) && true) (scalars_good (checks_of ss) ks ps)
    (and_true (((x && true) && true) && true) true (and_true ((x && true) && true) true
    (and_true (x && true) true (and_true x true (left_true x (scalars_good ss ks ps) h) refl) refl)
    refl) refl)
    (checks_of_good ss ks ps (right_true x (scalars_good ss ks ps) h))

if_all_has : (ss : Scalars) (s : Scalar) (ks : List Kinds) (ps : Kinds) (k : DataKind) →
    scalars_good ss ks ps ≡ true → Has s ks ps k →
    Has (if_all ss s) ks ps k
if_all_has ss s ks ps k g h =
    guarded_has (word and_word (checks_of ss)) s ks ps k (
      refl,
      and_true (scalars_good (checks_of ss) ks ps)
          (tests_good (scalars_kinds (checks_of ss) ks ps)) (checks_of_good ss ks ps g)
          (checks_of_tests ss ks ps),
    ) h

pub first_value_has : (ss : Scalars) (ks : List Kinds) (ps : Kinds) → scalars_good ss ks ps ≡ true →
    Has (first_value ss) ks ps (kind_at (scalars_kinds ss ks ps) 0)
first_value_has none ks ps h = (refl, refl)
first_value_has (more s none) ks ps h = (refl, left_true (scalar_good s ks ps) true h)
first_value_has (more s (more t ss)) ks ps h =
    if_all_has (more s (more t ss)) s ks ps (scalar_kind s ks ps) h
    (refl, left_true (scalar_good s ks ps) (scalars_good (more t ss) ks ps) h)

pub row_stands_has : (ss : Scalars) (ks : List Kinds) (ps : Kinds) → scalars_good ss ks ps ≡ true →
    Has (row_stands ss) ks ps BooleanKind
row_stands_has ss ks ps h = if_all_has ss (constant (Truth true)) ks ps BooleanKind h (refl, refl)

-- comparisons with a column in the place of tests
abbrev pub against_kinds : Kinds → Kinds
against_kinds [] = []
against_kinds (last ∷ []) = last ∷ []
against_kinds (t ∷ r ∷ ks) = BooleanKind ∷ r ∷ against_kinds ks

against_are : (p : ℕ) (ss : Scalars) (ks : List Kinds) (ps : Kinds) →
    scalars_kinds (against p ss) ks ps ≡ against_kinds (scalars_kinds ss ks ps)
against_are p none ks ps = refl
against_are p (more last none) ks ps = refl
against_are p (more t (more r ss)) ks ps =
    ap (λ (js : Kinds). BooleanKind ∷ scalar_kind r ks ps ∷ js) (against_are p ss ks ps)

against_results : (kk : Kinds) → results_kind (against_kinds kk) ≡ results_kind kk
against_results [] = refl
against_results (last ∷ []) = refl
against_results (t ∷ r ∷ kk) = ap (joined_kind r) (against_results kk)

against_cases : (k : DataKind) (kk : Kinds) → against_good k kk ≡ true →
    case_good (against_kinds kk) ≡ true
against_cases k [] h = refl
against_cases k (last ∷ []) h = refl
against_cases k (t ∷ r ∷ kk) h =
    let x = agree k t in let y = agree r (results_kind kk) in let z = against_good k kk in
    let j : (y && z) ≡ true = right_true x (y && z) h in
    and_true (agree r (results_kind (against_kinds kk))) (case_good (against_kinds kk))
    (ap (agree r) (against_results kk) ∙ left_true y z j)
    (against_cases k kk (right_true y z j))

against_operands : (p : ℕ) (ss : Scalars) (ks : List Kinds) (ps : Kinds) →
    against_good (kind_at (kinds_row ks 0) p) (scalars_kinds ss ks ps) ≡ true →
    scalars_good ss ks ps ≡ true → scalars_good (against p ss) ks ps ≡ true
against_operands p none ks ps h g = refl
against_operands p (more last none) ks ps h g = g
against_operands p (more t (more r ss)) ks ps h g =
    let k = kind_at (kinds_row ks 0) p in
    let x = agree k (scalar_kind t ks ps) in
    let y = agree (scalar_kind r ks ps) (results_kind (scalars_kinds ss ks ps)) in
    let z = against_good k
    (scalars_kinds ss ks ps) in
    let a = scalar_good t ks ps in let b = scalar_good r ks ps in let c = scalars_good ss ks ps in
    let j : (b && c) ≡ true = right_true a (b && c) g in
    and_true ((true && (a && true)) && x) (b && scalars_good (against p ss) ks ps)
    (and_true (true && (a && true)) x (and_true a true (left_true a (b && c) g) refl)
    (left_true x (y && z) h))
    (and_true b (scalars_good (against p ss) ks ps) (left_true b c j)
    (against_operands p ss ks ps (right_true y z (right_true x (y && z) h))
    (right_true b c j)))

pub against_has : (p : ℕ) (ss : Scalars) (ks : List Kinds) (ps : Kinds) (k : DataKind)
    (kk : Kinds) → kind_at (kinds_row ks 0) p ≡ k →
    HaveAll ss ks ps kk → against_good k kk ≡ true →
    Has (word case_word (against p ss)) ks ps (results_kind kk)
against_has p ss ks ps k kk e h g =
    let g' : against_good (kind_at (kinds_row ks 0) p) (scalars_kinds ss ks ps)
    ≡ true = both against_good _ _ _ _ e h.0 ∙ g in (
      ap results_kind (against_are p ss ks ps)
          ∙ (against_results (scalars_kinds ss ks ps) ∙ ap results_kind h.0),
      and_true (scalars_good (against p ss) ks ps) (case_good (scalars_kinds (against p ss) ks ps))
          (against_operands p ss ks ps g' h.1)
          (ap case_good (against_are p ss ks ps)
          ∙ against_cases (kind_at (kinds_row ks 0) p) (scalars_kinds ss ks ps) g'),
    )

truths_tests : (ss : Scalars) (ks : List Kinds) (ps : Kinds) →
    tests_good (scalars_kinds (truths ss) ks ps) ≡ true
truths_tests none ks ps = refl
truths_tests (more s ss) ks ps = truths_tests ss ks ps

truths_good : (ss : Scalars) (ks : List Kinds) (ps : Kinds) → scalars_good ss ks ps ≡ true →
    tests_good (scalars_kinds ss ks ps) ≡ true →
    scalars_good (truths ss) ks ps ≡ true
truths_good none ks ps g t = refl
truths_good (more s ss) ks ps g t =
    let x = scalar_good s ks ps in let y = agree (scalar_kind s ks ps) BooleanKind in
    and_true ((x && true) && y) (scalars_good (truths ss) ks ps)
    (and_true (x && true) y (and_true x true (left_true x (scalars_good ss ks ps) g) refl)
    (left_true y (tests_good (scalars_kinds ss ks ps)) t))
    (truths_good ss ks ps (right_true x (scalars_good ss ks ps) g)
    (right_true y (tests_good (scalars_kinds ss ks ps)) t))

pub all_true_has : (ss : Scalars) (ks : List Kinds) (ps : Kinds) → scalars_good ss ks ps ≡ true →
    tests_good (scalars_kinds ss ks ps) ≡ true →
    Has (all_true ss) ks ps BooleanKind
all_true_has ss ks ps g t = (
  refl,
  and_true (scalars_good (truths ss) ks ps) (tests_good (scalars_kinds (truths ss) ks ps))
      (truths_good ss ks ps g t)
      (truths_tests ss ks ps),
)

-- a last result that is a CASE goes on as arms
pub else_kind : (r : Scalar) (ks : List Kinds) (ps : Kinds) →
    results_kind (scalars_kinds (else_arms r) ks ps) ≡ scalar_kind r ks ps
else_kind (word case_word arms) ks ps = refl
else_kind (constant v) ks ps = refl
else_kind (column level i) ks ps = refl
else_kind (argument i) ks ps = refl
else_kind (word w ss) ks ps = refl

pub else_good : (r : Scalar) (ks : List Kinds) (ps : Kinds) → scalar_good r ks ps ≡ true →
    (scalars_good (else_arms r) ks ps ≡ true)
    × (case_good (scalars_kinds (else_arms r) ks ps) ≡ true)
else_good (word case_word arms) ks ps h = (
  left_true (scalars_good arms ks ps) (case_good (scalars_kinds arms ks ps)) h,
  right_true
      (scalars_good arms ks ps) (case_good (scalars_kinds arms ks ps)) h,
)
else_good (constant v) ks ps h = (refl, refl)
else_good (column level i) ks ps h = (refl, refl)
else_good (argument i) ks ps h = (refl, refl)
else_good (word w ss) ks ps h = (and_true (scalar_good (word w ss) ks ps) true h refl, refl)

-- a comparison, where its places are of one kind
pub turned_test : (own other : Place) (ks : List Kinds) (ps : Kinds) (a b : DataKind) →
    scalar_kind (read own) ks ps ≡ a →
    scalar_kind (read other) ks ps ≡ b → agree a b ≡ true → is_test (turned own other).scalar ks ps
    ≡ true
turned_test own other ks ps a b p q h =
    let x = scalar_good (read own) ks ps in let y = scalar_good (read other) ks ps in
    let z = agree (scalar_kind (read own) ks ps)
    (scalar_kind (read other) ks ps) in
    and_true ((x && (y && true)) && z) true
    (and_true (x && (y && true)) z
    (and_true x (y && true) (read_good own ks ps) (and_true y true (read_good other ks ps) refl))
    (both agree _ _ _ _ p q ∙ h)) refl

-- a test has kind BOOLEAN, or NULL
pub tested : (s : Scalar) (ks : List Kinds) (ps : Kinds) (k : DataKind) → Has s ks ps k →
    agree k BooleanKind ≡ true → is_test s ks ps ≡ true
tested s ks ps k h a = and_true (scalar_good s ks ps) (agree (scalar_kind s ks ps) BooleanKind) h.1
    (ap (λ j. agree j BooleanKind) h.0 ∙ a)

-- VALUES of several rows as one list over their numbers.
use Rattle.std.proofs.Common.{ℕ, ◌≡◌, zero, suc, ◌<◌, ◌≤◌, ◌+◌, ◌-◌, ◌∷◌, [], ◌++◌, List, map}
use Rattle.std.proofs.Common.{replicate, length, reverse, pos, refl, sym, ap, ◌∙◌, arith}
use Rattle.sql_values.specs.declared.value.Value.TheVariants.{Null, Int}
use Rattle.rel_algebra.specs.declared.plan.ScalarRow.{ScalarRow}
use Rattle.rel_algebra.specs.declared.scalar.Scalar.{Scalar as ScalarCode}
use Rattle.rel_algebra.specs.declared.scalar.Scalar.TheVariants.{Constant}
use Rattle.rel_algebra.specs.Plan.{case_word, Scalar, constant, word, Scalars, none, more}
use Rattle.rel_algebra.specs.PlanView.{scalar_of, scalars_of}
use Rattle.rel_algebra.specs.Emit.{EmittedAll, numbers, nulls, else_arms, either_of, either_all}
use Rattle.rel_algebra.specs.Emit.{chosen, scalar_count}
use Rattle.plan_drafts.specs.Choosing.{number_test, prepend, column_from, columns_from, with_row}
use Rattle.plan_drafts.specs.Choosing.{closed, arms_of, all_arms_of}
use Rattle.plan_expressions.specs.Emission.{put}
use Rattle.plan_expressions.proofs.Laws.{put-none, put-append, turned_last}
use Rattle.plan_expressions.proofs.Laws.{scalar_of-Constant}

pub numbers-next : (p end : ℕ) → p < end → numbers p (end - p) ≡ more (constant (Int (pos p)))
    none ∷ numbers (p + 1) (end - (p + 1))
numbers-next p end h =
    let e : end - p ≡ suc (end - (p + 1)) = omega (arith, h) in
    let f : suc p ≡ p + 1 = omega arith in
    ap (numbers p) e ∙ ap (λ q. more (constant (Int (pos p))) none ∷ numbers q (end - (p + 1))) f

pub numbers-none : (p end : ℕ) → end ≤ p → numbers p (end - p) ≡ []
numbers-none p end h = let e : end - p ≡ 0 = omega (arith, h) in ap (numbers p) e

pub prepend-append : (xs ys : List Scalar) (r : Scalars) →
    prepend (xs ++ ys) r ≡ prepend xs (prepend ys r)
prepend-append [] ys r = refl
prepend-append (x ∷ xs) ys r = ap (λ zs. more x zs) (prepend-append xs ys r)

-- ---- rows one by one

-- a column with the row of a number more
pub column_more : (c : List Scalar) (i : ℕ) (s r : Scalar) →
    column_from (c ++ number_test i ∷ s ∷ []) r ≡ column_from c (either_of i s r)
column_more [] i s r = refl
column_more (a ∷ c) i s r = ap (λ x. word case_word (more a x))
    (prepend-append c (number_test i ∷ s ∷ []) (else_arms r))

pub columns_more : (cs : List (List Scalar)) (i : ℕ) (ss rs : Scalars) →
    columns_from (with_row i cs ss) rs ≡ columns_from cs (either_all i ss rs)
columns_more [] i ss rs = refl
columns_more (c ∷ cs) i none none = refl
columns_more (c ∷ cs) i none (more r rs) = refl
columns_more (c ∷ cs) i (more s ss) none = refl
columns_more (c ∷ cs) i (more s ss) (more r rs) =
    λ j. more (column_more c i s r j) (columns_more cs i ss rs j)

pub rows_narrow : (cs : List (List Scalar)) (i : ℕ) (ss : Scalars) →
    length (with_row i cs ss) ≤ length cs
rows_narrow [] i ss = omega arith
rows_narrow (c ∷ cs) i none = omega arith
rows_narrow (c ∷ cs) i (more s ss) = omega (arith, rows_narrow cs i ss)

-- ---- the first and the last

either-narrow : (i : ℕ) (ss rs : Scalars) → scalar_count (either_all i ss rs) ≤ scalar_count rs
either-narrow i none none = omega arith
either-narrow i none (more r rs) = omega arith
either-narrow i (more s ss) none = omega arith
either-narrow i (more s ss) (more r rs) = omega (arith, either-narrow i ss rs)

nulls-count : (k : ℕ) → scalar_count (nulls k) ≡ k
nulls-count zero = refl
nulls-count (suc k) = ap suc (nulls-count k)

chosen-narrow : (k i : ℕ) (lists : List EmittedAll) → scalar_count (chosen k i lists) ≤ k
chosen-narrow k i [] = omega (arith, nulls-count k)
chosen-narrow k i (a ∷ lists) = omega (
  arith,
  either-narrow i a.scalars (chosen k (suc i) lists),
  chosen-narrow k (suc i) lists,
)

from_none : (k : ℕ) (rs : Scalars) → scalar_count rs ≤ k → columns_from (replicate k []) rs ≡ rs
from_none zero none h = refl
from_none zero (more r rs) h = absurd (omega (arith, h))
from_none (suc k) none h = refl
from_none (suc k) (more r rs) h = ap (λ xs. more r xs) (from_none k rs (omega (arith, h)))

-- no row stands in the columns yet
pub columns_first : (k : ℕ) (lists : List EmittedAll) →
    columns_from (replicate k []) (chosen k 0 lists) ≡ chosen k 0 lists
columns_first k lists = from_none k (chosen k 0 lists) (chosen-narrow k 0 lists)

-- all rows stand in them
pub columns_last : (cs : List (List Scalar)) (k : ℕ) → length cs ≤ k →
    columns_from cs (nulls k) ≡ closed cs
columns_last [] k h = refl
columns_last (c ∷ cs) zero h = absurd (omega (arith, h))
columns_last (c ∷ cs) (suc k) h = ap (λ xs. more (column_from c (constant Null)) xs)
    (columns_last cs k (omega (arith, h)))

-- ---- columns as they are held

scalars-prepend : (xs : List ScalarCode) (ys : List ScalarCode) →
    scalars_of (xs ++ ys) ≡ prepend (map scalar_of xs) (scalars_of ys)
scalars-prepend [] ys = refl
scalars-prepend (x ∷ xs) ys = ap (λ zs. more (scalar_of x) zs) (scalars-prepend xs ys)

pub column_closed : (c : List ScalarCode) → ¬ (c ≡ []) →
    word case_word (scalars_of (c ++ Constant Null ∷ [])) ≡ column_from (map scalar_of c)
    (constant Null)
column_closed [] h = absurd (h refl)
column_closed (s ∷ c) h =
    ap (word case_word) (scalars-prepend (s ∷ c) (Constant Null ∷ [])) ∙
    ap (λ x. word case_word (prepend (scalar_of s ∷ map scalar_of c) (more x none)))
    (scalar_of-Constant Null)

-- ---- the loop that closes columns

pub closing_next : (front longer : List ScalarCode) (left others : List ScalarRow) (c : ScalarRow)
    (s : ScalarCode) (whole : Scalars) → left ≡ others ++ c ∷ [] →
    scalar_of s ≡ column_from (arms_of c) (constant Null) → longer ≡ front ++ s ∷ [] →
    put front (closed (all_arms_of (reverse left))) ≡ whole →
    put longer (closed (all_arms_of (reverse others))) ≡ whole
closing_next front longer left others c s whole h is f b =
    ap (λ (ss : List ScalarCode). put ss (closed (all_arms_of (reverse others)))) f ∙
    put-append front (s ∷ []) (closed (all_arms_of (reverse others)))
    ∙ ap (λ x. put front (more x (closed (all_arms_of (reverse others))))) is
    ∙ ap (λ (cs : List ScalarRow). put front (closed (all_arms_of cs))) (sym (turned_last others c))
    ∙ ap (λ (cs : List ScalarRow). put front (closed (all_arms_of (reverse cs)))) (sym h) ∙ b

pub closing_done : (front : List ScalarCode) (left : List ScalarRow) (whole : Scalars) → left ≡ [] →
    put front (closed (all_arms_of (reverse left))) ≡ whole → scalars_of front ≡ whole
closing_done front left whole h b = sym (put-none front) ∙
    ap (λ (cs : List ScalarRow). put front (closed (all_arms_of (reverse cs)))) (sym h) ∙ b

-- The cells of the first row, and of the last.
use Rattle.std.proofs.Common.{◌≡◌, ℕ, suc, ◌+◌, ◌-◌, ◌<◌, ◌≤◌, List, [], ◌∷◌, ◌++◌, length}
use Rattle.std.proofs.Common.{drop, get_or, sym, ap, ◌∙◌, subst, arith}
use Rattle.std.proofs.lemmas.List.{drop_all, drop_more}
use Rattle.plan_expressions.proofs.Laws.{put-append, put-none}
use Rattle.plan_expressions.proofs.Places.{below_inside}
use Rattle.plan_expressions.specs.Emission.{put}
use Rattle.plan_steps.proofs.Stores.{put_more}
use Rattle.rel_algebra.specs.BodyChain.{arguments, first_cells, known, knowns, last_cell, of_type}
use Rattle.rel_algebra.specs.BodyChain.{raised_area, read_outward, without_return_cell}
use Rattle.rel_algebra.specs.BodySteps.{code_is, col, only}
use Rattle.rel_algebra.specs.Emissions.{Emitted, asked_where, assigning}
use Rattle.rel_algebra.specs.Environments.{given, outward, read, top}
use Rattle.rel_algebra.specs.Plan.{PlanTree, Scalar, Scalars, argument, case_word, more, none}
use Rattle.rel_algebra.specs.Plan.{single}
use Rattle.rel_algebra.specs.Plan.{word}
use Rattle.catalog_store.specs.Kept.{IsPlan}
use Rattle.catalog_store.specs.declared.entry.FunctionPlan.{FunctionPlan}
use Rattle.sql_values.specs.declared.value.SqlType.TheVariants.{Integer}
use Rattle.rel_algebra.specs.PlanView.{scalar_of, scalars_of}
use Rattle.rel_algebra.specs.declared.scalar.Scalar.{Scalar as ScalarCode}
use Rattle.sql_values.specs.declared.value.SqlType.{SqlType}

-- ---- the first row

-- the registers, and these cells after them
pub first_all : (returns : SqlType) (first all cells : List ScalarCode) → all ≡ first ++ cells →
    ((others : Scalars) → put first others ≡ first_cells returns others) →
    scalars_of all ≡ first_cells returns (scalars_of cells)
first_all returns first all cells h puts =
    ap scalars_of h ∙ sym (put-none (first ++ cells)) ∙ put-append first cells none ∙
    ap (put first) (put-none cells) ∙ puts (scalars_of cells)

-- ---- arguments

pub arguments_next : (front longer : List ScalarCode) (count i : ℕ) (s : ScalarCode)
    (whole : Scalars) → i < count → scalar_of s ≡ argument i → longer ≡ front ++ s ∷ [] →
    put front (arguments i (count - i)) ≡ whole →
    put longer (arguments (i + 1) (count - (i + 1))) ≡ whole
arguments_next front longer count i s whole h is f b =
    let many : count - i ≡ suc (count - (i + 1)) = omega (arith, h) in
    let next : suc i ≡ i + 1 = omega arith in
    put_more front longer s (arguments (i + 1) (count - (i + 1))) f ∙
    ap (λ x. put front (more x (arguments (i + 1) (count - (i + 1))))) is ∙
    ap (λ n. put front (more (argument i) (arguments n (count - (i + 1))))) (sym next) ∙
    ap (λ n. put front (arguments i n)) (sym many) ∙ b

pub arguments_done : (front : List ScalarCode) (count i : ℕ) (whole : Scalars) → i ≡ count →
    put front (arguments i (count - i)) ≡ whole → scalars_of front ≡ whole
arguments_done front count i whole h b =
    let none_left : count - i ≡ 0 = omega (arith, h) in
    sym (put-none front) ∙ ap (λ n. put front (arguments i n)) (sym none_left) ∙ b

-- whether each is not NULL
pub known_next : (types : List SqlType) (i : ℕ) (front longer : List ScalarCode)
    (s : ScalarCode) (whole : Scalars) → i < length types →
    scalar_of s ≡ known (given i) → longer ≡ front ++ s ∷ [] →
    put front (knowns (top (length types)) i (drop i types)) ≡ whole →
    put longer (knowns (top (length types)) (i + 1) (drop (i + 1) types)) ≡ whole
known_next types i front longer s whole h cell f b =
    let e = top (length types) in let others = drop (i + 1) types in
    let next : suc i ≡ i + 1 = omega arith in
    put_more front longer s (knowns e (i + 1) others) f ∙
    ap (λ x. put front (more x (knowns e (i + 1) others))) cell ∙
    ap (λ n. put front (more (known (given i)) (knowns e n others))) (sym next) ∙
    ap (λ p. put front (more (known p) (knowns e (suc i) others)))
    (sym (below_inside (length types) i (given i) h)) ∙
    ap (λ (ts : List SqlType). put front (knowns e i ts)) (sym (drop_more types i Integer h)) ∙ b

pub known_done : (types : List SqlType) (i : ℕ) (front : List ScalarCode) (whole : Scalars) →
    length types ≤ i → put front (knowns (top (length types)) i (drop i types)) ≡ whole →
    scalars_of front ≡ whole
known_done types i front whole h b =
    sym (put-none front) ∙ ap (λ (ts : List SqlType). put front
    (knowns (top (length types)) i ts)) (sym (drop_all i types h)) ∙ b

-- ---- an Apply

-- by its test and its plan
pub asked_is : {when a : Scalar} {inner t : PlanTree} → when ≡ a → inner ≡ t →
    (p : FunctionPlan) → IsPlan p (asked_where when single inner 0) →
    IsPlan p (asked_where a single t 0)
asked_is h g p = subst (λ (e : Emitted). IsPlan p e) (λ i. asked_where (h i) single (g i) 0)

-- each as one of its parameter's type
pub typed_next : (types : List SqlType) (i : ℕ) (d : SqlType) (front longer : List ScalarCode)
    (s : ScalarCode) (whole : Scalars) → i < length types →
    scalar_of s ≡ of_type (get_or types i d) (argument i) → longer ≡ front ++ s ∷ [] →
    put front (read_outward (top (length types)) i (drop i types)) ≡ whole →
    put longer (read_outward (top (length types)) (i + 1) (drop (i + 1) types)) ≡ whole
typed_next types i d front longer s whole h cell f b =
    let e = top (length types) in let t = get_or types i d in let others = drop (i + 1) types in
    let next : suc i ≡ i + 1 = omega arith in
    put_more front longer s (read_outward e (i + 1) others) f ∙
    ap (λ x. put front (more x (read_outward e (i + 1) others))) cell ∙
    ap (λ n. put front (more (of_type t (argument i)) (read_outward e n others))) (sym next) ∙
    ap (λ p. put front (more (of_type t (read (outward p))) (read_outward e (suc i) others)))
    (sym (below_inside (length types) i (given i) h)) ∙
    ap (λ (ts : List SqlType). put front (read_outward e i ts)) (sym (drop_more types i d h)) ∙ b

pub typed_done : (types : List SqlType) (i : ℕ) (front : List ScalarCode) (whole : Scalars) →
    length types ≤ i → put front (read_outward (top (length types)) i (drop i types)) ≡ whole →
    scalars_of front ≡ whole
typed_done types i front whole h b =
    sym (put-none front) ∙ ap (λ (ts : List SqlType). put front
    (read_outward (top (length types)) i ts)) (sym (drop_all i types h)) ∙ b

-- ---- the last cell

-- three scalars after others
pub three_put : (front one two three : List ScalarCode) (x y z : ScalarCode) (a b c : Scalar) →
    scalar_of x ≡ a → scalar_of y ≡ b → scalar_of z ≡ c → one ≡ front ++ x ∷ [] →
    two ≡ one ++ y ∷ [] → three ≡ two ++ z ∷ [] →
    put three none ≡ put front (more a (more b (only c)))
three_put front one two three x y z a b c x_is y_is z_is h g e =
    put_more two three z none e ∙ put_more one two y (only (scalar_of z)) g ∙
    put_more front one x (more (scalar_of y) (only (scalar_of z))) h ∙
    (λ j. put front (more (x_is j) (more (y_is j) (only (z_is j)))))

pub last_is : (returns : SqlType) (two five : List ScalarCode) →
    ((others : Scalars) → put two others ≡ more (code_is 0)
    (more (assigning returns (col 1)) others)) →
    put five none ≡ put two (more (code_is 1) (more raised_area (only without_return_cell))) →
    word case_word (scalars_of five) ≡ last_cell returns
last_is returns two five first h = ap (word case_word) (sym (put-none five) ∙ h ∙
    first (more (code_is 1) (more raised_area (only without_return_cell))))

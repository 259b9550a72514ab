-- Loops that put a cell, a test or a store for each of several.
use Rattle.std.proofs.Common.{◌≡◌, ℕ, zero, suc, ◌+◌, ◌-◌, ◌<◌, ◌≤◌, List, [], ◌∷◌, ◌++◌, map, length}
use Rattle.std.proofs.Common.{drop, false, get_or, replicate, refl, sym, ap, ◌∙◌, arith}
use Rattle.std.proofs.Common.{append_assoc}
use Rattle.std.proofs.lemmas.List.{drop_all, drop_more}
use Rattle.bound_trees.specs.declared.statement.BoundTarget.{BoundTarget}
use Rattle.sql_values.specs.declared.value.SqlType.{SqlType}
use Rattle.rel_algebra.specs.Bodies.{Target}
use Rattle.sql_values.specs.declared.value.Value.TheVariants.{Bool as Truth}
use Rattle.rel_algebra.specs.BodyChain.{arguments, column_at, first_cells, null_of, null_scalars}
use Rattle.rel_algebra.specs.BodyChain.{target_stores}
use Rattle.rel_algebra.specs.BodyDispatch.{Env, store_if}
use Rattle.rel_algebra.specs.BodySteps.{Store, tag}
use Rattle.rel_algebra.specs.Emissions.{assigning, checks}
use Rattle.rel_algebra.specs.Joins.{places}
use Rattle.rel_algebra.specs.Plan.{Scalar, Scalars, argument, constant, more, none}
use Rattle.rel_algebra.specs.PlanView.{scalar_of, scalars_of}
use Rattle.rel_algebra.specs.declared.scalar.Scalar.{Scalar as ScalarCode}
use Rattle.routine_views.specs.Views.{target}
use Rattle.plan_expressions.specs.Emission.{put, value_check}
use Rattle.plan_expressions.proofs.Laws.{map-last, put-none}
use Rattle.plan_steps.specs.Steps.{stores_of}
use Rattle.plan_steps.specs.declared.step.Store.{Store as StoreCode}
use Rattle.plan_steps.proofs.Stores.{places_last, places_next, put_more}

-- ---- a cell for each

pub cells_next : {A B : Type 0} (view : A → B) (f : List B → ℕ → Scalars) (g : A → ℕ → Scalar)
    (cons : (y : A) (ys : List B) (m : ℕ) → f (view y ∷ ys) m ≡ more (g y m) (f ys (suc m)))
    (xs : List A) (i m next : ℕ) (d : A) (front longer : List ScalarCode) (s : ScalarCode)
    (whole : Scalars) → i < length xs → scalar_of s ≡ g (get_or xs i d) m →
    longer ≡ front ++ s ∷ [] → next ≡ suc m → put front (f (map view (drop i xs)) m) ≡ whole →
    put longer (f (map view (drop (i + 1) xs)) next) ≡ whole
cells_next view f g cons xs i m next d front longer s whole h cell grown after b =
    let others = map view (drop (i + 1) xs) in
    put_more front longer s (f others next) grown ∙
    (λ j. put front (more (cell j) (f others (after j)))) ∙
    ap (put front) (sym (cons (get_or xs i d) others m)) ∙
    ap (λ ys. put front (f (map view ys) m)) (sym (drop_more xs i d h)) ∙ b

-- the same, where each is assigned to a type
pub assigned_next : {A B : Type 0} (view : A → B) (f : List B → ℕ → Scalars) (typed : A → SqlType)
    (g : A → ℕ → Scalar) (cons : (y : A) (ys : List B) (m : ℕ) →
    f (view y ∷ ys) m ≡ more (assigning (typed y) (g y m)) (f ys (suc m)))
    (xs : List A) (i m next : ℕ) (d : A) (front longer : List ScalarCode) (s : ScalarCode)
    (cell : Scalar) (whole : Scalars) → i < length xs →
    scalar_of s ≡ assigning (typed (get_or xs i d)) cell → cell ≡ g (get_or xs i d) m →
    longer ≡ front ++ s ∷ [] → next ≡ suc m → put front (f (map view (drop i xs)) m) ≡ whole →
    put longer (f (map view (drop (i + 1) xs)) next) ≡ whole
assigned_next view f typed g cons xs i m next d front longer s cell whole h is cell_is grown after
    b =
    cells_next view f (λ y k. assigning (typed y) (g y k)) cons xs i m next d front longer s whole h
    (is ∙ ap (assigning (typed (get_or xs i d))) cell_is) grown after b

pub cells_done : {A B : Type 0} (view : A → B) (f : List B → ℕ → Scalars) (xs : List A) (i m : ℕ)
    (front : List ScalarCode) (whole : Scalars) → length xs ≤ i → f [] m ≡ none →
    put front (f (map view (drop i xs)) m) ≡ whole → scalars_of front ≡ whole
cells_done view f xs i m front whole h nothing b =
    sym (put-none front) ∙ ap (put front) (sym nothing) ∙
    ap (λ ys. put front (f (map view ys) m)) (sym (drop_all i xs h)) ∙ b

-- ---- a test for each of some columns

pub checks_next : (front longer : List ScalarCode) (first count i : ℕ) (s : ScalarCode)
    (x : ℕ) (whole : Scalars) → i < count → x ≡ first + i → scalar_of s ≡ value_check x →
    longer ≡ front ++ s ∷ [] → put front (checks (places (first + i) (count - i))) ≡ whole →
    put longer (checks (places (first + (i + 1)) (count - (i + 1)))) ≡ whole
checks_next front longer first count i s x whole h at is f b =
    let others = places (first + (i + 1)) (count - (i + 1)) in
    put_more front longer s (checks others) f ∙
    ap (λ y. put front (more y (checks others))) (is ∙ ap value_check at) ∙
    ap (λ (ps : List ℕ). put front (checks ps)) (sym (places_next first count i h)) ∙ b

pub checks_done : (front : List ScalarCode) (first count i : ℕ) (whole : Scalars) → i ≡ count →
    put front (checks (places (first + i) (count - i))) ≡ whole → scalars_of front ≡ whole
checks_done front first count i whole h b =
    sym (put-none front) ∙
    ap (λ (ps : List ℕ). put front (checks ps)) (sym (places_last first count)) ∙
    ap (λ n. put front (checks (places (first + n) (count - n)))) (sym h) ∙ b

-- ---- a store for each target

pub stores_next : (env : Env) (n t : ℕ) (ts : List BoundTarget) (i cell next : ℕ)
    (d : BoundTarget) (column : ℕ) (front longer : List StoreCode) (whole : List Store) →
    i < length ts → column ≡ column_at n env.columns (get_or ts i d).slot →
    stores_of longer ≡ stores_of front ++ store_if t cell column ∷ [] → next ≡ suc cell →
    stores_of front ++ target_stores (map target (drop i ts)) env n t cell ≡ whole →
    stores_of longer ++ target_stores (map target (drop (i + 1) ts)) env n t next ≡ whole
stores_next env n t ts i cell next d column front longer whole h at grown after b =
    let others = target_stores (map target (drop (i + 1) ts)) env n t in
    (λ j. grown j ++ others (after j)) ∙
    append_assoc (stores_of front) (store_if t cell column ∷ []) (others (suc cell)) ∙
    ap (λ c. stores_of front ++ store_if t cell c ∷ others (suc cell)) at ∙
    ap (λ (ys : List BoundTarget). stores_of front ++ target_stores (map target ys) env n t cell)
    (sym (drop_more ts i d h)) ∙ b

pub stores_done : (env : Env) (n t : ℕ) (ts : List BoundTarget) (i cell : ℕ)
    (front : List StoreCode) (whole : List Store) → length ts ≤ i →
    stores_of front ++ target_stores (map target (drop i ts)) env n t cell ≡ whole →
    stores_of front ≡ whole
stores_done env n t ts i cell front whole h b =
    sym (append_none (stores_of front)) ∙
    ap (λ (ys : List BoundTarget). stores_of front ++ target_stores (map target ys) env n t cell)
    (sym (drop_all i ts h)) ∙ b
  where
    append_none : (xs : List Store) → xs ++ [] ≡ xs
    append_none [] = refl
    append_none (y ∷ ys) = ap (λ zs. y ∷ zs) (append_none ys)

-- ---- a target for each item that is read

pub targets_next : {A B : Type 0} (view : A → B) (f : List B → List Target) (g : A → BoundTarget)
    (cons : (y : A) (ys : List B) → f (view y ∷ ys) ≡ target (g y) ∷ f ys)
    (xs : List A) (i : ℕ) (d : A) (front longer : List BoundTarget) (whole : List Target) →
    i < length xs → longer ≡ front ++ g (get_or xs i d) ∷ [] →
    map target front ++ f (map view (drop i xs)) ≡ whole →
    map target longer ++ f (map view (drop (i + 1) xs)) ≡ whole
targets_next view f g cons xs i d front longer whole h grown b =
    let others = map view (drop (i + 1) xs) in
    let x = g (get_or xs i d) in
    ap (λ (ts : List BoundTarget). map target ts ++ f others) grown ∙
    ap (λ (ts : List Target). ts ++ f others) (map-last target front x) ∙
    append_assoc (map target front) (target x ∷ []) (f others) ∙
    ap (λ (ts : List Target). map target front ++ ts) (sym (cons (get_or xs i d) others)) ∙
    ap (λ ys. map target front ++ f (map view ys)) (sym (drop_more xs i d h)) ∙ b

pub targets_done : {A B : Type 0} (view : A → B) (f : List B → List Target) (xs : List A) (i : ℕ)
    (front : List BoundTarget) (whole : List Target) → length xs ≤ i → f [] ≡ [] →
    map target front ++ f (map view (drop i xs)) ≡ whole → map target front ≡ whole
targets_done view f xs i front whole h nothing b =
    sym (append_none (map target front)) ∙
    ap (λ (ts : List Target). map target front ++ ts) (sym nothing) ∙
    ap (λ ys. map target front ++ f (map view ys)) (sym (drop_all i xs h)) ∙ b
  where
    append_none : (xs : List Target) → xs ++ [] ≡ xs
    append_none [] = refl
    append_none (y ∷ ys) = ap (λ zs. y ∷ zs) (append_none ys)

-- ---- a code after the arms of handlers

pub arms_last : (before all : List ScalarCode) (s : ScalarCode) (t : Scalar) (whole : Scalars) →
    all ≡ before ++ s ∷ [] → scalar_of s ≡ t → put before (more t none) ≡ whole →
    scalars_of all ≡ whole
arms_last before all s t whole grown is b =
    sym (put-none all) ∙ put_more before all s none grown ∙
    ap (λ x. put before (more x none)) is ∙ b

-- ---- so many columns

pub nulls_next : (t : SqlType) (front longer : List ScalarCode) (count i : ℕ) (s : ScalarCode)
    (whole : Scalars) → i < count → scalar_of s ≡ null_of t → longer ≡ front ++ s ∷ [] →
    put front (null_scalars t (count - i)) ≡ whole →
    put longer (null_scalars t (count - (i + 1))) ≡ whole
nulls_next t front longer count i s whole h is f b =
    let many : count - i ≡ suc (count - (i + 1)) = omega (arith, h) in
    put_more front longer s (null_scalars t (count - (i + 1))) f ∙
    ap (λ x. put front (more x (null_scalars t (count - (i + 1))))) is ∙
    ap (λ n. put front (null_scalars t n)) (sym many) ∙ b

pub nulls_done : (t : SqlType) (front : List ScalarCode) (count i : ℕ) (whole : Scalars) →
    i ≡ count → put front (null_scalars t (count - i)) ≡ whole → scalars_of front ≡ whole
nulls_done t front count i whole h b =
    let none_left : count - i ≡ 0 = omega (arith, h) in
    sym (put-none front) ∙ ap (λ n. put front (null_scalars t n)) (sym none_left) ∙ b

pub copies_next : (x n : ℕ) (columns longer : List ℕ) → columns ≡ replicate n x →
    longer ≡ columns ++ x ∷ [] → longer ≡ replicate (n + 1) x
copies_next x n columns longer h grown =
    let next : suc n ≡ n + 1 = omega arith in
    grown ∙ ap (λ (cs : List ℕ). cs ++ x ∷ []) h ∙ last n ∙ ap (λ m. replicate m x) next
  where
    last : (m : ℕ) → replicate m x ++ x ∷ [] ≡ replicate (suc m) x
    last zero = refl
    last (suc m) = ap (λ cs. x ∷ cs) (last m)

-- the cells before the parameters
pub first_put : (returns : SqlType) (count : ℕ) (c0 c1 : List ScalarCode) (x y z : ScalarCode) →
    c0 ≡ x ∷ y ∷ [] → c1 ≡ c0 ++ z ∷ [] → scalar_of x ≡ tag 3 → scalar_of y ≡ null_of returns →
    scalar_of z ≡ constant (Truth false) →
    put c1 (arguments 0 (count - 0)) ≡ first_cells returns (arguments 0 count)
first_put returns count c0 c1 x y z h g a b d =
    let all : count - 0 ≡ count = omega arith in
    put_more c0 c1 z (arguments 0 (count - 0)) g ∙
    ap (λ (ss : List ScalarCode). put ss (more (scalar_of z) (arguments 0 (count - 0)))) h ∙
    (λ j. more (a j) (more (b j) (more (d j) (arguments 0 (all j)))))

pub arguments_next : (front longer : List ScalarCode) (count i : ℕ) (s : ScalarCode)
    (whole : Scalars) → i < count → scalar_of s ≡ argument i → longer ≡ front ++ s ∷ [] →
    put front (arguments i (count - i)) ≡ whole →
    put longer (arguments (i + 1) (count - (i + 1))) ≡ whole
arguments_next front longer count i s whole h is f b =
    let many : count - i ≡ suc (count - (i + 1)) = omega (arith, h) in
    let next : suc i ≡ i + 1 = omega arith in
    put_more front longer s (arguments (i + 1) (count - (i + 1))) f ∙
    ap (λ x. put front (more x (arguments (i + 1) (count - (i + 1))))) is ∙
    ap (λ n. put front (more (argument i) (arguments n (count - (i + 1))))) (sym next) ∙
    ap (λ n. put front (arguments i n)) (sym many) ∙ b

pub arguments_done : (front : List ScalarCode) (count i : ℕ) (whole : Scalars) → i ≡ count →
    put front (arguments i (count - i)) ≡ whole → scalars_of front ≡ whole
arguments_done front count i whole h b =
    let none_left : count - i ≡ 0 = omega (arith, h) in
    sym (put-none front) ∙ ap (λ n. put front (arguments i n)) (sym none_left) ∙ b

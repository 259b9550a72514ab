-- Loops over what handlers wait for, and over handlers.
use Rattle.std.proofs.Common.{◌≡◌, ℕ, suc, ◌+◌, ◌<◌, ◌≤◌, List, [], ◌∷◌, ◌++◌, map, length, drop}
use Rattle.std.proofs.Common.{get_or, refl, sym, ap, ◌∙◌}
use Rattle.std.proofs.lemmas.List.{drop_all}
use Rattle.bound_trees.specs.declared.condition.BoundConditionValue.{BoundConditionValue}
use Rattle.bound_trees.specs.declared.condition.BoundConditionValue.TheVariants as waited
use Rattle.bound_trees.specs.declared.statement.BoundHandler.{BoundHandler, out-BoundHandler}
use Rattle.rel_algebra.specs.Bodies.{HandlerType}
use Rattle.rel_algebra.specs.BodyDispatch.{Coded, Codes, arm, dispatch, general_tests, matching}
use Rattle.rel_algebra.specs.BodyDispatch.{named_tests, scope_arms}
use Rattle.rel_algebra.specs.BodySteps.{tag}
use Rattle.rel_algebra.specs.Plan.{Scalar, Scalars, case_word, more, none, or_word, word}
use Rattle.rel_algebra.specs.PlanView.{scalar_of, scalars_of}
use Rattle.rel_algebra.specs.Tree.{ConditionValue}
use Rattle.rel_algebra.specs.declared.scalar.ListWord.TheVariants as listed
use Rattle.rel_algebra.specs.declared.scalar.Scalar.{Scalar as ScalarCode}
use Rattle.rel_algebra.specs.declared.scalar.Scalar.TheVariants as scalar
use Rattle.block_plans.specs.Callees.{Callees}
use Rattle.routine_views.specs.Views.{condition_value, handler_type}
use Rattle.plan_expressions.specs.Emission.{put}
use Rattle.plan_expressions.proofs.Laws.{length-map, put-none, rest, scalar_of-Listed}
use Rattle.plan_steps.specs.Places.{aimed_by, codes_in, coded_in, env_in, marked, scope_in}
use Rattle.plan_steps.specs.declared.dispatch.Aim.TheVariants.{Leaving}
use Rattle.plan_steps.specs.declared.place.Place.{Place}
use Rattle.plan_steps.specs.declared.sight.Scope.{Scope}
use Rattle.plan_steps.specs.declared.sight.Sight.{Sight}
use Rattle.plan_steps.proofs.Stores.{put_more}

-- ---- tests of what one handler waits for

-- the tests of what is left begin with those of the value at its place
values_at : (f : List ConditionValue → Scalars) (vs : List BoundConditionValue) (i : ℕ)
    (x : BoundConditionValue) → i < length vs → x ≡ get_or vs i x →
    f (map condition_value (drop i vs)) ≡ f (condition_value x ∷ map condition_value
    (drop (i + 1) vs))
values_at f vs i x h is = ap (λ (xs : List BoundConditionValue). f (map condition_value xs))
    (rest vs i x h is)

pub tests_next : (f : List ConditionValue → Scalars) (front longer : List ScalarCode)
    (vs : List BoundConditionValue) (i : ℕ) (x : BoundConditionValue) (whole : Scalars) →
    i < length vs → x ≡ get_or vs i x →
    ((others : List ConditionValue) → put longer (f others) ≡ put front
    (f (condition_value x ∷ others))) →
    put front (f (map condition_value (drop i vs))) ≡ whole →
    put longer (f (map condition_value (drop (i + 1) vs))) ≡ whole
tests_next f front longer vs i x whole h is puts b =
    puts (map condition_value (drop (i + 1) vs)) ∙
    ap (put front) (sym (values_at f vs i x h is)) ∙ b

-- a test more
pub test_put : (front longer : List ScalarCode) (s : ScalarCode) (x y : Scalars) →
    longer ≡ front ++ s ∷ [] → y ≡ more (scalar_of s) x → put longer x ≡ put front y
test_put front longer s x y h e = put_more front longer s x h ∙ ap (put front) (sym e)

pub tests_done : (f : List ConditionValue → Scalars) (front : List ScalarCode)
    (vs : List BoundConditionValue) (i : ℕ) (whole : Scalars) → length vs ≤ i →
    f [] ≡ scalars_of [] → put front (f (map condition_value (drop i vs))) ≡ whole →
    scalars_of front ≡ whole
tests_done f front vs i whole h nothing b = sym (put-none front) ∙ ap (put front) (sym nothing) ∙
    ap (λ (xs : List BoundConditionValue). put front (f (map condition_value xs)))
    (sym (drop_all i vs h)) ∙ b

pub named_State : (x : BoundConditionValue) (state : List ℕ) (t : ℕ) (s : ScalarCode)
    (others : List ConditionValue) → x ≡ waited.State state →
    scalar_of s ≡ matching (condition_value x) t →
    named_tests (condition_value x ∷ others) t ≡ more (scalar_of s) (named_tests others t)
named_State x state t s others h is =
    ap (λ (y : BoundConditionValue). named_tests (condition_value y ∷ others) t) h ∙
    ap (λ y. more y (named_tests others t))
    (sym (is ∙ ap (λ (y : BoundConditionValue). matching (condition_value y) t) h))

-- the test of a class
pub general_SqlException : (x : BoundConditionValue) (t : ℕ) (s : ScalarCode)
    (others : List ConditionValue) → x ≡ waited.SqlException →
    scalar_of s ≡ matching (condition_value x) t →
    general_tests (condition_value x ∷ others) t ≡ more (scalar_of s) (general_tests others t)
general_SqlException x t s others h is =
    ap (λ (y : BoundConditionValue). general_tests (condition_value y ∷ others) t) h ∙
    ap (λ y. more y (general_tests others t))
    (sym (is ∙ ap (λ (y : BoundConditionValue). matching (condition_value y) t) h))

pub general_SqlWarning : (x : BoundConditionValue) (t : ℕ) (s : ScalarCode)
    (others : List ConditionValue) → x ≡ waited.SqlWarning →
    scalar_of s ≡ matching (condition_value x) t →
    general_tests (condition_value x ∷ others) t ≡ more (scalar_of s) (general_tests others t)
general_SqlWarning x t s others h is =
    ap (λ (y : BoundConditionValue). general_tests (condition_value y ∷ others) t) h ∙
    ap (λ y. more y (general_tests others t))
    (sym (is ∙ ap (λ (y : BoundConditionValue). matching (condition_value y) t) h))

pub general_NotFound : (x : BoundConditionValue) (t : ℕ) (s : ScalarCode)
    (others : List ConditionValue) → x ≡ waited.NotFound →
    scalar_of s ≡ matching (condition_value x) t →
    general_tests (condition_value x ∷ others) t ≡ more (scalar_of s) (general_tests others t)
general_NotFound x t s others h is =
    ap (λ (y : BoundConditionValue). general_tests (condition_value y ∷ others) t) h ∙
    ap (λ y. more y (general_tests others t))
    (sym (is ∙ ap (λ (y : BoundConditionValue). matching (condition_value y) t) h))

-- ---- arms

-- an arm with tests
pub arm_put : (tests front more_front all : List ScalarCode) (test code : ScalarCode) (to : ℕ)
    (others : Scalars) → ¬ (tests ≡ []) → scalar_of test ≡ word or_word (scalars_of tests) →
    scalar_of code ≡ tag to → more_front ≡ front ++ test ∷ [] → all ≡ more_front ++ code ∷ [] →
    put all others ≡ put front (arm (scalars_of tests) to others)
arm_put [] front more_front all test code to others some test_is code_is h g = absurd (some refl)
arm_put (s ∷ ss) front more_front all test code to others some test_is code_is h g =
    put_more more_front all code others g ∙
    put_more front more_front test (more (scalar_of code) others) h ∙
    (λ j. put front (more (test_is j) (more (code_is j) others)))

-- what nothing takes
pub untaken_put : (front one two three : List ScalarCode) (test out here : ScalarCode)
    (x y z : Scalar) → scalar_of test ≡ x → scalar_of out ≡ y → scalar_of here ≡ z →
    one ≡ front ++ test ∷ [] → two ≡ one ++ out ∷ [] → three ≡ two ++ here ∷ [] →
    put three none ≡ put front (more x (more y (more z none)))
untaken_put front one two three test out here x y z x_is y_is z_is h g e =
    put_more two three here none e ∙ put_more one two out (more (scalar_of here) none) g ∙
    put_more front one test (more (scalar_of out) (more (scalar_of here) none)) h ∙
    (λ j. put front (more (x_is j) (more (y_is j) (more (z_is j) none))))

-- the arms of handlers, by what their tests are
pub arms_next : (tests : List ConditionValue → Scalars) (to : HandlerType → ℕ → ℕ)
    (arms : List Coded → ℕ → Scalars → Scalars)
    (cons : (h : Coded) (hs : List Coded) (n : ℕ) (others : Scalars) →
    arms (h ∷ hs) n others ≡ arm (tests h.takes) (to h.kind n) (arms hs (suc n) others))
    (known : Callees) (outer : Codes) (hs : List BoundHandler) (i own next code : ℕ)
    (x : BoundHandler) (ts : List ScalarCode) (old new : List ScalarCode) (left whole : Scalars) →
    i < length hs → x ≡ get_or hs i x →
    scalars_of ts ≡ tests (map condition_value (out-BoundHandler x).values) →
    code ≡ to (handler_type (out-BoundHandler x).handler_type) own → next ≡ suc own →
    ((others : Scalars) → put new others ≡ put old (arm (scalars_of ts) code others)) →
    put old (arms (map (coded_in known outer) (drop i hs)) own left) ≡ whole →
    put new (arms (map (coded_in known outer) (drop (i + 1) hs)) next left) ≡ whole
arms_next tests to arms cons known outer hs i own next code x ts old new left whole h is ts_are aims
    nexts puts b =
    let others = map (coded_in known outer) (drop (i + 1) hs) in
    puts (arms others next left) ∙
    (λ j. put old (arm (ts_are j) (aims j) (arms others (nexts j) left))) ∙
    ap (put old) (sym (cons (coded_in known outer x) others own left)) ∙
    ap (λ (xs : List BoundHandler). put old (arms (map (coded_in known outer) xs) own left))
    (sym (rest hs i x h is)) ∙ b

pub arms_done : (arms : List Coded → ℕ → Scalars → Scalars)
    (nothing : (n : ℕ) (others : Scalars) → arms [] n others ≡ others)
    (known : Callees) (outer : Codes) (hs : List BoundHandler) (i own : ℕ)
    (now : List ScalarCode) (left whole : Scalars) → length hs ≤ i →
    put now (arms (map (coded_in known outer) (drop i hs)) own left) ≡ whole →
    put now left ≡ whole
arms_done arms nothing known outer hs i own now left whole h b =
    ap (put now) (sym (nothing own left)) ∙
    ap (λ (xs : List BoundHandler). put now (arms (map (coded_in known outer) xs) own left))
    (sym (drop_all i hs h)) ∙ b

-- the handlers in sight: those of the innermost compound statement, and the others
pub dispatch_put : (p : Place) (s : Scope) (outer x : Sight) (first many next here t exit : ℕ)
    (old mid new : List ScalarCode) → exit ≡ marked p.exits.now s.level →
    many ≡ length s.handlers.now → next ≡ first + many →
    codes_in p.functions.now x ≡ scope_in p.functions.now (codes_in p.functions.now outer) s
    ∷ codes_in p.functions.now outer →
    ((known : Callees) (around : Codes) (left : Scalars) → put mid left ≡ put old
    (scope_arms (aimed_by (Leaving exit)) (map (coded_in known around) s.handlers.now) first t
    left)) →
    put new none ≡ put mid (dispatch (codes_in p.functions.now outer) (env_in p) next here t) →
    put new none ≡ put old (dispatch (codes_in p.functions.now x) (env_in p) first here t)
dispatch_put p s outer x first many next here t exit old mid new exit_is many_is next_is x_is arms
    others =
    let k = p.functions.now in let o = codes_in k outer in
    let after : next ≡ first + length (map (coded_in k o) s.handlers.now) =
    next_is ∙ ap (λ n. first + n)
    (many_is ∙ sym (length-map (coded_in k o) s.handlers.now)) in
    others ∙ arms k o (dispatch o (env_in p) next here t) ∙
    (λ j. put old (scope_arms (aimed_by (Leaving (exit_is j)))
    (map (coded_in k o) s.handlers.now) first t (dispatch o (env_in p) (after j) here t))) ∙
    ap (λ (codes : Codes). put old (dispatch codes (env_in p) first here t)) (sym x_is)

-- CASE over arms
pub case_arms : (arms : List ScalarCode) (cells : Scalars) → put arms none ≡ cells →
    scalar_of (scalar.Listed listed.Case arms) ≡ word case_word cells
case_arms arms cells h = scalar_of-Listed listed.Case arms ∙
    ap (word case_word) (sym (put-none arms) ∙ h)

-- a test and its code before other arms
pub arms_after : (a0 a1 a2 a3 : List ScalarCode) (test goes : ScalarCode) (x : Scalar)
    (others : Scalars) → a0 ≡ [] → a1 ≡ a0 ++ test ∷ [] → a2 ≡ a1 ++ goes ∷ [] →
    scalar_of test ≡ x → put a3 none ≡ put a2 others →
    put a3 none ≡ more x (more (scalar_of goes) others)
arms_after a0 a1 a2 a3 test goes x others none_is h g is e =
    e ∙ put_more a1 a2 goes others g ∙
    put_more a0 a1 test (more (scalar_of goes) others) h ∙
    ap (λ (ss : List ScalarCode). put ss (more (scalar_of test) (more (scalar_of goes) others)))
    none_is ∙ ap (λ y. more y (more (scalar_of goes) others)) is

-- A call of a function that returns NULL on NULL input, and the CASE over its parameters.
use Rattle.std.proofs.Common.{◌≡◌, refl, sym, ap, ◌∙◌, arith, ℕ, suc, ◌+◌, Bool, true}
use Rattle.std.proofs.Common.{false, ◌||◌, List, [], ◌∷◌, length, slice_index_or}
use Rattle.std.specs.Prelude.{if◌then◌else◌, not}
use Rattle.std.specs.List.{list_any}
use Rattle.sql_values.specs.declared.value.Value.{Value}
use Rattle.sql_values.specs.declared.value.Value.TheVariants.{Null, Bool as Truth}
use Rattle.sql_values.specs.declared.value.SqlType.{SqlType}
use Rattle.sql_values.specs.declared.value.SqlType.TheVariants as type
use Rattle.sql_values.specs.Casts.{assigned}
use Rattle.sql_values.specs.Values.{is_null, is_true}
use Rattle.rel_algebra.specs.Tree.{Expr, Returned}
use Rattle.rel_algebra.specs.World.{World, Frame, Ends, Eval, Gives, after, frame_of, give, unit}
use Rattle.rel_algebra.specs.World.{unit_of, outcome, Called, no_self}
use Rattle.rel_algebra.specs.Calls.{null_or}
use Rattle.rel_algebra.specs.Plain.{planned_expr}
use Rattle.rel_algebra.specs.Meaning.{ev, ev_or, call}
use Rattle.rel_algebra.specs.Returning.{assigned_to}
use Rattle.rel_algebra.proofs.Laws.{returned_means}
use Rattle.rel_algebra.proofs.Laws.{expr_is, ending_body}
use Rattle.rel_algebra.proofs.Laws.{plans}
use Rattle.null_guards.specs.Guards.{null_test_trees, guarded_tree}
use Rattle.null_guards.specs.Laws.{NullCallsMean}

-- NULL is assigned to each type as NULL
null-assigned : (t : SqlType) (w : World) → outcome (assigned t Null) w ≡ Gives Null w
null-assigned type.Integer w = refl
null-assigned (type.Varchar n) w = refl
null-assigned type.Boolean w = refl

-- ---- whether an argument is NULL

-- one test, and those after it
abbrev next : Bool → (Value → Eval Value) → Eval Value
next b later = if b then give (Truth true) else later (if not b then Truth false else Null)

further : (b : Bool) (later : Value → Eval Value) (any : Bool) (w : World) →
    later (Truth false) w ≡ Gives (Truth any) w → next b later w ≡ Gives (Truth (b || any)) w
further true later any w p = refl
further false later any w p = p

module _ (values : List Value) (w : World) where
  -- the values from a place on
  abbrev From : ℕ → List Value → Type 0
  From place vs = (i : ℕ) → slice_index_or values (i + place) Null ≡ slice_index_or vs i Null

  rest : (place : ℕ) (v : Value) (vs : List Value) → From place (v ∷ vs) → From (suc place) vs
  rest place v vs at i =
      let next : i + suc place ≡ suc i + place = omega arith in
      ap (λ n. slice_index_or values n Null) next ∙ at (suc i)

  tested : (place : ℕ) (vs : List Value) → From place vs
      → ev_or (null_test_trees place (length vs)) (Truth false) no_self [] (frame_of values) w
      ≡ Gives (Truth (list_any is_null vs)) w
  tested place [] at = refl
  tested place (v ∷ vs) at =
      let trees = null_test_trees (suc place) (length vs) in
      let later : Value → Eval Value = λ so. ev_or trees so no_self [] (frame_of values) in
      let here : place ≡ 0 + place = omega arith in
      ap (λ (x : Value). next (is_null x) later w)
      (ap (λ n. slice_index_or values n Null) here ∙ at 0)
      ∙ further (is_null v) later (list_any is_null vs) w
      (tested (suc place) vs (rest place v vs at))

-- ---- the CASE

module _ (returns : SqlType) (e : Expr) (values : List Value) (w : World) where
  -- what is returned, assigned to the result's type
  abbrev returning : Eval Value → Ends Value
  returning body = assigned_to returns (unit body) w

  abbrev body : Eval Value
  body = ev e no_self [] (frame_of values)

  -- NULL, or what the body gives
  abbrev either : Bool → Ends Value
  either b = if b then Gives Null w else returning body

  called : (b : Bool) (go : Eval Value) → go w ≡ returning body →
      (if b then give Null else go) w ≡ either b
  called true go p = refl
  called false go p = p

  chosen : (b : Bool) (test : Eval Value) → test w ≡ Gives (Truth b) w →
      returning (λ v. after (test v) (λ x. if is_true x then give Null else body)) ≡ either b
  chosen b test p = ap (λ (d : Ends Value). after (unit_of w
      (after d (λ x. if is_true x then give Null else body))) (λ x. outcome (assigned returns x))) p
      ∙ by b
    where
      by : (b : Bool) → after (unit_of w ((if b then give Null else body) w))
          (λ x. outcome (assigned returns x)) ≡ either b
      by true = null-assigned returns w
      by false = refl

  from-first : (vs : List Value) → values ≡ vs → From values w 0 vs
  from-first vs is i =
      let same : i + 0 ≡ i = omega arith in
      ap (λ n. slice_index_or values n Null) same ∙ ap (λ xs. slice_index_or xs i Null) is

  asked : (vs : List Value) → values ≡ vs →
      returning (ev (guarded_tree (length vs) e) no_self [] (frame_of values)) ≡ either
      (list_any is_null vs)
  asked [] is = refl
  asked (v ∷ vs) is =
      chosen (list_any is_null (v ∷ vs))
      (ev_or (null_test_trees 0 (length (v ∷ vs))) (Truth false) no_self [] (frame_of values))
      (tested values w 0 (v ∷ vs) (from-first (v ∷ vs) is))

-- ---- what a self-call would do

-- an expression that has a plan ends so whatever a self-call does
same_ends : (e : Expr) (one two : Called) (f : Frame) (w : World) → planned_expr e ≡ true →
    ev e one [] f w ≡ ev e two [] f w
same_ends e one two f w p = expr_is e (plans e p) one [] f w f.variables
    ∙ sym (expr_is e (plans e p) two [] f w f.variables)

-- the body of a function that returns NULL on NULL input, where no argument is NULL
abbrev inside : SqlType → Expr → List Value → Eval Value
inside returns e values w = ending_body returns (frame_of values) w
    (ev e (null_or true no_self) [] (frame_of values) w)

body_ends : (parameters : List SqlType) (returns : SqlType) (e : Expr) (values : List Value)
    (w : World) → planned_expr e ≡ true →
    inside returns e values w ≡ call (Returned parameters returns e) values w
body_ends parameters returns e values w p = ap (ending_body returns (frame_of values) w)
    (same_ends e (null_or true no_self) (null_or false no_self) (frame_of values) w p)

pub null_calls_mean : NullCallsMean
null_calls_mean parameters returns e values w p many =
    let guarded = guarded_tree (length parameters) e in
    called returns e values w (list_any is_null values) (inside returns e values)
    (body_ends parameters returns e values w p
    ∙ returned_means.called false parameters returns e values w)
    ∙ sym (returned_means.called false parameters returns guarded values w
    ∙ ap (λ n. returning returns e values w (ev (guarded_tree n e) no_self [] (frame_of values)))
    (sym many)
    ∙ asked returns e values w values refl)

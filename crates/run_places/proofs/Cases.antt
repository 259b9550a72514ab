-- CASE, arm by arm. ISO/IEC 9075-2, 6.12 (case expression).
use Rattle.std.proofs.Common.{ℕ, ◌≡◌, ◌<◌, ◌≤◌, ◌+◌, ◌∷◌, Bool, true, false, List, length, drop}
use Rattle.std.proofs.Common.{get_or, if◌then◌else◌, sym, ap, ◌∙◌, subst, arith, Result, Ok, Err}
use Rattle.std.proofs.lemmas.List.{drop_more, drop_all}
use Rattle.sql_values.specs.declared.value.Value.{Value}
use Rattle.bound_trees.specs.declared.expr.BoundExpr.{BoundExpr}
use Rattle.row_types.specs.Rows.{Row}
use Rattle.rel_algebra.specs.World.{World, Frame, Ends, Eval, Called, after}
use Rattle.rel_algebra.specs.Meaning.{ev, ev_case}
use Rattle.routine_views.specs.Views.{Known, expr_in}
use Rattle.run_places.specs.Views.{exprs_in}
use Rattle.run_choices.specs.declared.stop.Stop.{Stop}
use Rattle.run_expressions.specs.Content.{Content, world_of}
use Rattle.run_places.specs.Cost.{costs}
use Rattle.run_expressions.specs.Ending.{Ended}
use Rattle.run_expressions.proofs.Laws.{Going, goes_on, stops, ends_as}
use Rattle.run_places.proofs.Trees.{rest}

-- what is left begins with a test and its result
arm_at : (es : List BoundExpr) (i : ℕ) (x d : BoundExpr) → i + 2 ≤ length es → x ≡ get_or es i x →
    drop i es ≡ x ∷ get_or es (i + 1) d ∷ drop (i + 2) es
arm_at es i x d h is =
    let two : i + 1 + 1 ≡ i + 2 = omega arith in
    rest es i x (omega (arith, h)) is ∙ ap (λ (xs : List BoundExpr). x ∷ xs)
    (drop_more es (i + 1) d (omega (arith, h)) ∙ ap (λ n. get_or es (i + 1) d ∷ drop n es) two)

-- what follows a test
abbrev arm : Called → Known → BoundExpr → List BoundExpr → (Value → Bool) → List Row → Frame → Value
    →
    Eval Value
arm self k y es passes rows f v = if passes v then ev (expr_in k y) self rows f else ev_case
    (exprs_in k es) passes self rows f

case_at : (self : Called) (k : Known) (es : List BoundExpr) (i : ℕ) (x d : BoundExpr)
    (passes : Value → Bool)
    (rows : List Row) (f : Frame) (w : World) → i + 2 ≤ length es → x ≡ get_or es i x →
    ev_case (exprs_in k (drop i es)) passes self rows f w ≡ after
    (ev (expr_in k x) self rows f w) (arm self k (get_or es (i + 1) d) (drop (i + 2) es) passes
    rows f)
case_at self k es i x d passes rows f w h is = ap (λ (xs : List BoundExpr).
    ev_case (exprs_in k xs) passes self rows f w) (arm_at es i x d h is)

-- a test stops
pub test_stops : (self : Called) (k : Known) (es : List BoundExpr) (i : ℕ) (x : BoundExpr)
    (passes : Value → Bool)
    (rows : List Row) (f : Frame) (old now new : Content) (s : Stop) (whole : Ends Value)
    (r : Result Value Stop) →
    i + 2 ≤ length es → x ≡ get_or es i x → Going old now
    (ev_case (exprs_in k (drop i es)) passes self rows f (world_of now)) whole →
    Ended {A = Value} now new (Err s) (ev (expr_in k x) self rows f (world_of now)) → r ≡ Err s →
    Ended old new r whole
test_stops self k es i x passes rows f old now new s whole r h is g d answer =
    stops old now new s (ev (expr_in k x) self rows f (world_of now))
    (arm self k (get_or es (i + 1) x) (drop (i + 2) es) passes rows f)
    (ev_case (exprs_in k (drop i es)) passes self rows f (world_of now)) whole r
    (case_at self k es i x x passes rows f (world_of now) h is) g d answer

-- a test gives its value
tested : (self : Called) (k : Known) (es : List BoundExpr) (i : ℕ) (x d : BoundExpr)
    (passes : Value → Bool)
    (b : Bool) (rows : List Row) (f : Frame) (old now new : Content) (v : Value)
    (whole : Ends Value) →
    i + 2 ≤ length es → x ≡ get_or es i x → Going old now
    (ev_case (exprs_in k (drop i es)) passes self rows f (world_of now)) whole →
    Ended now new (Ok v) (ev (expr_in k x) self rows f (world_of now)) → passes v ≡ b →
    Going old new ((if b then ev (expr_in k (get_or es (i + 1) d)) self rows f else ev_case
    (exprs_in k (drop (i + 2) es)) passes self rows f) (world_of new)) whole
tested self k es i x d passes b rows f old now new v whole h is g t answer =
    subst (λ (b : Bool). Going old new
    ((if b then ev (expr_in k (get_or es (i + 1) d)) self rows f else ev_case
    (exprs_in k (drop (i + 2) es)) passes self rows f) (world_of new)) whole) answer
    (goes_on old now new v (ev (expr_in k x) self rows f (world_of now))
    (arm self k (get_or es (i + 1) d) (drop (i + 2) es) passes rows f)
    (ev_case (exprs_in k (drop i es)) passes self rows f (world_of now)) whole
    (case_at self k es i x d passes rows f (world_of now) h is) g t)

-- a test passes, and its result is the whole
pub test_passes : (self : Called) (k : Known) (es : List BoundExpr) (i : ℕ) (x y : BoundExpr)
    (passes : Value → Bool) (rows : List Row) (f : Frame) (old now new end : Content) (v : Value)
    (whole : Ends Value) (r : Result Value Stop) →
    i + 2 ≤ length es → x ≡ get_or es i x → y ≡ get_or es (i + 1) y →
    Going old now (ev_case (exprs_in k (drop i es)) passes self rows f (world_of now))
    whole →
    Ended now new (Ok v) (ev (expr_in k x) self rows f (world_of now)) → passes v ≡ true →
    Ended new end r (ev (expr_in k y) self rows f (world_of new)) → Ended old end r whole
test_passes self k es i x y passes rows f old now new end v whole r h is there g t answer d =
    ends_as old new end (ev (expr_in k (get_or es (i + 1) y)) self rows f (world_of new)) whole
    (ev (expr_in k y) self rows f (world_of new)) r
    (tested self k es i x y passes true rows f old now new v whole h is g t answer)
    (ap (λ (e : BoundExpr). ev (expr_in k e) self rows f (world_of new)) (sym there)) d

-- a test doesn't pass, and the next is looked at
pub test_fails : (self : Called) (k : Known) (es : List BoundExpr) (i : ℕ) (x : BoundExpr)
    (passes : Value → Bool)
    (rows : List Row) (f : Frame) (old now new : Content) (v : Value) (whole : Ends Value) →
    i + 2 ≤ length es → x ≡ get_or es i x → Going old now
    (ev_case (exprs_in k (drop i es)) passes self rows f (world_of now)) whole →
    Ended now new (Ok v) (ev (expr_in k x) self rows f (world_of now)) → passes v ≡ false →
    Going old new (ev_case (exprs_in k (drop (i + 2) es)) passes self rows f (world_of new))
    whole
test_fails self k es i x passes rows f old now new v whole h is g t answer =
    tested self k es i x x passes false rows f old now new v whole h is g t answer

-- the last result, which has no test
pub last_result : (self : Called) (k : Known) (es : List BoundExpr) (i : ℕ) (x : BoundExpr)
    (passes : Value → Bool) (rows : List Row) (f : Frame) (old now new : Content)
    (whole : Ends Value) (r : Result Value Stop) →
    i < length es → length es ≤ i + 1 → x ≡ get_or es i x →
    Going old now (ev_case (exprs_in k (drop i es)) passes self rows f (world_of now))
    whole →
    Ended now new r (ev (expr_in k x) self rows f (world_of now)) → Ended old new r whole
last_result self k es i x passes rows f old now new whole r h end is g d =
    ends_as old now new (ev_case (exprs_in k (drop i es)) passes self rows f (world_of now))
    whole (ev (expr_in k x) self rows f (world_of now)) r g
    (ap (λ (xs : List BoundExpr). ev_case (exprs_in k xs) passes self rows f (world_of now))
    (rest es i x h is ∙ ap (λ (xs : List BoundExpr). x ∷ xs) (drop_all (i + 1) es end))) d

-- what is left costs less
pub costs-arm : (k : Known) (es : List BoundExpr) (i : ℕ) (x : BoundExpr) → i + 2 ≤ length es →
    x ≡ get_or es i x → costs (exprs_in k (drop (i + 2) es)) ≤ costs (exprs_in k (drop i es))
costs-arm k es i x h is = omega (
  arith,
  ap (λ (xs : List BoundExpr). costs (exprs_in k xs))
      (arm_at es i x x h is),
)

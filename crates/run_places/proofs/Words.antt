-- Words over operands: those that take the values of all of them, and CASE with an operand.
use Rattle.std.proofs.Common.{ℕ, ◌≡◌, ◌<◌, ◌≤◌, ◌-◌, ◌*◌, ◌∷◌, [], Bool, true, List, length, map}
use Rattle.std.proofs.Common.{take, drop, get_or, if◌then◌else◌, refl, sym, ap, ◌∙◌, subst, arith}
use Rattle.std.proofs.Common.{Result, Ok, Err, Some}
use Rattle.std.proofs.lemmas.Bool.{leb-true}
use Rattle.std.proofs.lemmas.List.{length-map, take_all}
use Rattle.sql_values.specs.declared.value.Value.{Value}
use Rattle.sql_values.specs.declared.value.Value.TheVariants.{Null}
use Rattle.bound_trees.specs.Operands.{takes}
use Rattle.bound_trees.specs.declared.expr.BoundExpr.{BoundExpr}
use Rattle.bound_trees.specs.declared.expr.BoundOperation.{BoundOperation}
use Rattle.bound_trees.specs.declared.expr.BoundOperation.TheVariants as bound
use Rattle.row_types.specs.Rows.{Row}
use Rattle.rel_algebra.specs.Tree.{Exprs, NoExpr, MoreExprs, Literal, Operation, Negation}
use Rattle.rel_algebra.specs.Tree.{Comparing, Modulo, CharLength, Substring, Cast, Opposite}
use Rattle.rel_algebra.specs.Tree.{NullTest, TrueTest, FalseTest, AnyOf}
use Rattle.rel_algebra.specs.World.{World, Frame, Ends, Eval, Called, after, give}
use Rattle.rel_algebra.specs.Meaning.{ev, ev_all, ev_args, ev_case, carried}
use Rattle.routine_views.specs.Views.{Known, expr_in}
use Rattle.run_places.specs.Views.{exprs_in}
use Rattle.catalog_store.specs.View.{operated, standing, stood, over_all, case_of}
use Rattle.run_choices.specs.declared.stop.Stop.{Stop}
use Rattle.run_expressions.specs.Content.{Content, world_of}
use Rattle.run_places.specs.Cost.{cost, costs}
use Rattle.run_expressions.specs.Ending.{Ended}
use Rattle.run_expressions.specs.Following.{Follows}
use Rattle.run_expressions.specs.Words.{strict_value}
use Rattle.run_choices.specs.Words.{passes_by}
use Rattle.run_expressions.proofs.Laws.{going, goes_on, stops, ends_as, follows}

-- without parameters the arguments are the values themselves
args_all : (es : Exprs) (self : Called) (rows : List Row) (f : Frame) (w : World) →
    ev_args es [] self rows f w ≡ ev_all es self rows f w
args_all NoExpr self rows f w = refl
args_all (MoreExprs e es) self rows f w = λ i. after (ev e self rows f w)
    (λ v u. after (args_all es self rows f u i) (λ vs. give (v ∷ vs)))

-- a word that takes all
over_all_ev : (self : Called) (k : Known) (o : Operation) (es : List BoundExpr) (rows : List Row)
    (f : Frame)
    (w : World) →
    ev (stood (over_all o) (map (expr_in k) es)) self rows f w ≡ after
    (ev_args (exprs_in k es) [] self rows f w) (λ vs. carried (strict_value (over_all o) vs))
over_all_ev self k o es rows f w = ap (λ e. after e (λ vs. carried (strict_value (over_all o) vs)))
    (sym (args_all (exprs_in k es) self rows f w))

stands : (k : Known) (word : BoundOperation) (es : List BoundExpr) →
    takes word (length es) ≡ true → operated word (map (expr_in k) es) ≡ stood (standing word)
    (map (expr_in k) es)
stands k word es h =
    ap (λ n. if takes word n then stood (standing word) (map (expr_in k) es) else Literal Null)
    (length-map es (expr_in k)) ∙ ap (λ b. if b then stood (standing word) (map (expr_in k) es)
    else Literal Null) h

-- each word but the constructs takes all
strict : (word : BoundOperation) → (word ≡ bound.And → ⊥) → (word ≡ bound.Or → ⊥) →
    (word ≡ bound.Coalesce → ⊥) → (word ≡ bound.Case → ⊥) → (word ≡ bound.CaseOf → ⊥) →
    (o : Operation) × (standing word ≡ over_all o)
strict bound.Negation a b c d e = (Negation, refl)
strict bound.Opposite a b c d e = (Opposite, refl)
strict (bound.Comparing comparison) a b c d e = (Comparing comparison, refl)
strict bound.NullTest a b c d e = (NullTest, refl)
strict bound.TrueTest a b c d e = (TrueTest, refl)
strict bound.FalseTest a b c d e = (FalseTest, refl)
strict bound.AnyOf a b c d e = (AnyOf, refl)
strict bound.Modulo a b c d e = (Modulo, refl)
strict bound.CharLength a b c d e = (CharLength, refl)
strict bound.Substring a b c d e = (Substring, refl)
strict (bound.Cast t) a b c d e = (Cast t, refl)
strict bound.And a b c d e = absurd (a refl)
strict bound.Or a b c d e = absurd (b refl)
strict bound.Coalesce a b c d e = absurd (c refl)
strict bound.Case a b c d e = absurd (d refl)
strict bound.CaseOf a b c d e = absurd (e refl)

-- the word takes so many operands, and all of them
pub record IsStrict (word : BoundOperation) (count : ℕ) : Type 0 where
  pub operation : Operation
  pub stands : standing word ≡ over_all operation
  pub takes : takes word count ≡ true

pub is_strict : (word : BoundOperation) (count : ℕ) (b : Bool) → b ≡ takes word count → b ≡ true →
    (word ≡ bound.And → ⊥) → (word ≡ bound.Or → ⊥) → (word ≡ bound.Coalesce → ⊥) →
    (word ≡ bound.Case → ⊥) →
    (word ≡ bound.CaseOf → ⊥) → IsStrict word count
is_strict word count b h ok and or coalesce case case_of =
    let s = strict word and or coalesce case case_of in
    record { operation = s.0; stands = s.1; takes = sym h ∙ ok }

-- what follows the operands
abbrev done : BoundOperation → List Value → Eval Value
done word vs = carried (strict_value (standing word) vs)

strict_ev : (self : Called) (k : Known) (word : BoundOperation) (es : List BoundExpr)
    (rows : List Row)
    (f : Frame) (w : World) → IsStrict word (length es) →
    ev (operated word (map (expr_in k) es)) self rows f w ≡ after
    (ev_args (exprs_in k es) [] self rows f w) (done word)
strict_ev self k word es rows f w h =
    ap (λ e. ev e self rows f w) (stands k word es h.takes)
    ∙ subst (λ s. ev (stood s (map (expr_in k) es)) self rows f w ≡ after
    (ev_args (exprs_in k es) [] self rows f w) (λ vs. carried (strict_value s vs)))
    (sym h.stands)
    (over_all_ev self k h.operation es rows f w)

-- what is made of the operands is what the word gives
pub strict_ends : (self : Called) (k : Known) (word : BoundOperation) (es : List BoundExpr)
    (rows : List Row)
    (f : Frame) (old new : Content) (values : Result (List Value) Stop) (r : Result Value Stop) →
    IsStrict word (length es) →
    Ended old new values (ev_args (exprs_in k es) [] self rows f (world_of old)) →
    Follows values r (λ vs. carried (strict_value (standing word) vs)) →
    Ended old new r (ev (operated word (map (expr_in k) es)) self rows f (world_of old))
strict_ends self k word es rows f old new values r h d made =
    subst (λ (e : Ends Value). Ended old new r e) (sym (strict_ev self k word es rows f
    (world_of old) h))
    (follows old new values r (ev_args (exprs_in k es) [] self rows f (world_of old)) (done word)
    made d)

-- ---- CASE with an operand: x, and then its arms

-- the arms, as the code cuts them
abbrev pub arms_of : List BoundExpr → List BoundExpr
arms_of es = take (length es - 1) (drop 1 es)

split : (es : List BoundExpr) (x : BoundExpr) → 1 ≤ length es → x ≡ get_or es 0 x →
    es ≡ x ∷ arms_of es
split [] x h is = absurd (omega (arith, h))
split (y ∷ ys) x h is = ap (λ (z : BoundExpr). z ∷ ys) (sym is) ∙
    ap (λ (xs : List BoundExpr). x ∷ xs) (sym (take_all (length (y ∷ ys) - 1) ys (omega arith)))

case_of_list : (self : Called) (k : Known) (x : BoundExpr) (arms : List BoundExpr) (rows : List Row)
    (f : Frame)
    (w : World) → 2 ≤ length arms →
    ev (case_of (map (expr_in k) (x ∷ arms))) self rows f w ≡ after
    (ev (expr_in k x) self rows f w) (λ v. ev_case (exprs_in k arms) (passes_by (Some v))
    self rows f)
case_of_list self k x [] rows f w h = absurd (omega (arith, h))
case_of_list self k x (y ∷ []) rows f w h = absurd (omega (arith, h))
case_of_list self k x (y ∷ z ∷ arms) rows f w h = refl

case_of_costs : (k : Known) (x : BoundExpr) (arms : List BoundExpr) → 2 ≤ length arms →
    costs (exprs_in k arms) < cost (case_of (map (expr_in k) (x ∷ arms)))
case_of_costs k x [] h = absurd (omega (arith, h))
case_of_costs k x (y ∷ []) h = absurd (omega (arith, h))
case_of_costs k x (y ∷ z ∷ arms) h = omega arith

-- a word that is CASE with an operand x, over x and its arms
pub record IsCaseOf (word : BoundOperation) (es : List BoundExpr) (x : BoundExpr) : Type 0 where
  pub word_is : word ≡ bound.CaseOf
  pub one : 1 ≤ length es
  pub first : x ≡ get_or es 0 x
  pub taken : takes word (length es) ≡ true

-- it has an arm
two : (word : BoundOperation) (es : List BoundExpr) (x : BoundExpr) → IsCaseOf word es x →
    2 ≤ length (arms_of es)
two word es x h =
    let three : 3 ≤ length es = leb-true 3 (length es)
    (ap (λ (o : BoundOperation). takes o (length es)) (sym h.word_is) ∙ h.taken) in
    omega (arith, three, ap length (split es x h.one h.first))

cased : (k : Known) (word : BoundOperation) (es : List BoundExpr) (x : BoundExpr) →
    IsCaseOf word es x → operated word (map (expr_in k) es) ≡ case_of
    (map (expr_in k) (x ∷ arms_of es))
cased k word es x h =
    stands k word es h.taken ∙ ap (λ (o : BoundOperation). stood (standing o) (map (expr_in k) es))
    h.word_is
    ∙ ap (λ (xs : List BoundExpr). case_of (map (expr_in k) xs)) (split es x h.one h.first)

case_of_ev : (self : Called) (k : Known) (word : BoundOperation) (es : List BoundExpr)
    (x : BoundExpr)
    (rows : List Row) (f : Frame) (w : World) → IsCaseOf word es x →
    ev (operated word (map (expr_in k) es)) self rows f w ≡ after
    (ev (expr_in k x) self rows f w) (λ v. ev_case (exprs_in k (arms_of es))
    (passes_by (Some v)) self rows f)
case_of_ev self k word es x rows f w h =
    ap (λ e. ev e self rows f w) (cased k word es x h) ∙
    case_of_list self k x (arms_of es) rows f w (two word es x h)

pub arms_cost : (k : Known) (word : BoundOperation) (es : List BoundExpr) (x : BoundExpr) →
    IsCaseOf word es x → 8 * costs (exprs_in k (arms_of es)) < 8 * cost
    (operated word (map (expr_in k) es))
arms_cost k word es x h =
    omega (arith, ap cost (cased k word es x h), case_of_costs k x (arms_of es) (two word es x h))

-- the operand stops
pub case_of_stops : (self : Called) (k : Known) (word : BoundOperation) (es : List BoundExpr)
    (x : BoundExpr)
    (rows : List Row) (f : Frame) (old new : Content) (s : Stop) (r : Result Value Stop) →
    IsCaseOf word es x →
    Ended {A = Value} old new (Err s) (ev (expr_in k x) self rows f (world_of old)) → r ≡ Err s →
    Ended old new r (ev (operated word (map (expr_in k) es)) self rows f (world_of old))
case_of_stops self k word es x rows f old new s r h d answer =
    let whole = ev (operated word (map (expr_in k) es)) self rows f (world_of old) in
    stops {A = Value} {B = Value} old old new s (ev (expr_in k x) self rows f (world_of old))
    (λ v. ev_case (exprs_in k (arms_of es)) (passes_by (Some v)) self rows f) whole whole r
    (case_of_ev self k word es x rows f (world_of old) h) (going old whole whole refl) d answer

-- the arms end as the whole
pub case_of_ends : (self : Called) (k : Known) (word : BoundOperation) (es : List BoundExpr)
    (x : BoundExpr)
    (rows : List Row) (f : Frame) (old now new : Content) (v : Value) (r : Result Value Stop) →
    IsCaseOf word es x →
    Ended old now (Ok v) (ev (expr_in k x) self rows f (world_of old)) →
    Ended now new r (ev_case (exprs_in k (arms_of es)) (passes_by (Some v)) self rows f
    (world_of now)) →
    Ended old new r (ev (operated word (map (expr_in k) es)) self rows f (world_of old))
case_of_ends self k word es x rows f old now new v r h d e =
    let whole = ev (operated word (map (expr_in k) es)) self rows f (world_of old) in
    let left = ev_case (exprs_in k (arms_of es)) (passes_by (Some v)) self rows f
    (world_of now) in
    ends_as old now new left whole left r
    (goes_on old old now v (ev (expr_in k x) self rows f (world_of old))
    (λ v. ev_case (exprs_in k (arms_of es)) (passes_by (Some v)) self rows f) whole whole
    (case_of_ev self k word es x rows f (world_of old) h)
    (going old whole whole refl) d) refl e

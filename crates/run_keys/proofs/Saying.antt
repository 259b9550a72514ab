-- What conjuncts say of each row, and which rows they leave out.
use Rattle.std.proofs.Common.{◌≡◌, ◌<◌, ◌+◌, ℕ, Bool, true, false, not, List}
use Rattle.std.proofs.Common.{[], ◌∷◌, ◌||◌, if◌then◌else◌, ◌≤◌, arith, ap₂, refl, ap, sym, ◌∙◌, map, subst, length, drop, slice_index_or}
use Rattle.std.proofs.Common.{Option, Some, None, IfSome}
use Rattle.std.proofs.lemmas.List.{drop_more}
use Rattle.std.proofs.lemmas.Bool.{true≢false}
use Rattle.sql_values.specs.declared.value.Value.{Value}
use Rattle.sql_values.specs.declared.value.Value.TheVariants.{Null}
use Rattle.sql_values.specs.declared.operators.Comparison.{Comparison}
use Rattle.sql_values.specs.Operators.{compared}
use Rattle.sql_values.specs.Values.{is_true}
use Rattle.row_types.specs.Rows.{Row}
use Rattle.bound_trees.specs.declared.expr.BoundExpr.{BoundExpr}
use Rattle.bound_trees.specs.declared.expr.BoundExpr.TheVariants as expr
use Rattle.bound_trees.specs.declared.expr.BoundOperation.{BoundOperation}
use Rattle.bound_trees.specs.declared.expr.BoundOperation.TheVariants as words
use Rattle.catalog_store.specs.View.{operated}
use Rattle.rel_algebra.specs.Tree.{Column, Expr, NoExpr, MoreExprs, Operate, Comparing}
use Rattle.rel_algebra.specs.World.{Called, Ends, Gives, Frame, World, after, choose, give}
use Rattle.rel_algebra.specs.Meaning.{ev, holds}
use Rattle.routine_views.specs.Views.{Known, expr_in}
use Rattle.plan_keys.specs.Terms.{holds as is_so, misses, said, turned}
use Rattle.plan_keys.specs.declared.terms.Term.{Term}
use Rattle.plan_keys.proofs.Laws.{compared_turned}
use Rattle.run_places.specs.Views.{exprs_in}
use Rattle.run_places.proofs.Laws.{expr_in-Operation}
use Rattle.run_keys.specs.LeftOut.{ComparesAs, IsFixed, LeavesOut, SaysTerm, WordSays}

-- ---- comparisons

both_sides : (c : Comparison) (a b : Expr) (x y : Value) (self : Called) (rows : List Row)
    (f : Frame) (w : World) → ev a self rows f w ≡ Gives x w → ev b self rows f w ≡ Gives y w →
    ev (Operate (Comparing c) (MoreExprs a (MoreExprs b NoExpr))) self rows f w
    ≡ Gives (compared c x y) w
both_sides c a b x y self rows f w h g = rw h (rw g refl)

-- a comparison says what its sides say
pub comparison_says : (word : BoundOperation) (c : Comparison) (sides : List BoundExpr)
    (a b : BoundExpr) (outer : List Row) (f : Frame) (t : Term) → word ≡ words.Comparing c →
    sides ≡ a ∷ b ∷ [] → ComparesAs c a b outer f t → WordSays word sides outer f t
comparison_says word c sides a b outer f t is are says k self row w =
    let s = says row in
    ap (λ (o : BoundOperation). ev (operated o (map (expr_in k) sides)) self (row ∷ outer) f w) is ∙
    (ap (λ (es : List BoundExpr). ev (operated (words.Comparing c) (map (expr_in k) es)) self
    (row ∷ outer) f w) are ∙
    (both_sides c (expr_in k a) (expr_in k b) s.left s.right self (row ∷ outer) f w
    (s.left_is k self w) (s.right_is k self w) ∙
    ap (λ (v : Value). Gives v w) s.says_so))

-- and so does the test that it is
pub operation_says : (test : BoundExpr) (word : BoundOperation) (sides : List BoundExpr)
    (es : List BoundExpr) (outer : List Row) (f : Frame) (t : Term) →
    test ≡ expr.Operation word sides → es ≡ sides → WordSays word es outer f t →
    SaysTerm test outer f t
operation_says test word sides es outer f t is are says k self row w =
    ap (λ (e : Expr). ev e self (row ∷ outer) f w)
    (ap (expr_in k) is ∙ (expr_in-Operation k word sides ∙
    ap (λ (xs : List BoundExpr). operated word (map (expr_in k) xs)) (sym are))) ∙
    says k self row w

-- a list of two
pub two_sides : (xs : List BoundExpr) (a b : BoundExpr) → 2 ≤ length xs → length xs < 3 →
    a ≡ slice_index_or xs 0 a → b ≡ slice_index_or xs 1 b → xs ≡ a ∷ b ∷ []
two_sides [] a b l h p q = absurd (omega (arith, l))
two_sides (x ∷ []) a b l h p q = absurd (omega (arith, l))
two_sides (x ∷ y ∷ []) a b l h p q = ap₂ (λ u v. u ∷ v ∷ []) (sym p) (sym q)
two_sides (x ∷ y ∷ z ∷ xs) a b l h p q = absurd (omega (arith, h))

-- a column of the row has the value that stands there
own_value : (e : BoundExpr) (place : ℕ) → ((k : Known) → expr_in k e ≡ Column 0 place) →
    (outer : List Row) (f : Frame) (row : Row) (k : Known) (self : Called) (w : World) →
    ev (expr_in k e) self (row ∷ outer) f w ≡ Gives (slice_index_or row place Null) w
own_value e place own outer f row k self w =
    ap (λ (x : Expr). ev x self (row ∷ outer) f w) (own k)

-- a term with its column on the left
pub left_compares : (c : Comparison) (a b : BoundExpr) (place : ℕ) (v : Value) (outer : List Row)
    (f : Frame) (t : Term) → ((k : Known) → expr_in k a ≡ Column 0 place) → IsFixed b outer f v →
    t.place ≡ place → t.comparison ≡ c → v ≡ t.value → ComparesAs c a b outer f t
left_compares c a b place v outer f t own fixed p q e row = record {
  left = slice_index_or row place Null;
  right = v;
  left_is = own_value a place own outer f row;
  right_is = λ k self w. fixed k self row w;
  says_so =
      ap (λ (x : Value). compared c (slice_index_or row place Null) x) e ∙
      (ap (λ (d : Comparison). compared d (slice_index_or row place Null) t.value) (sym q) ∙
      ap (λ (i : ℕ). compared t.comparison (slice_index_or row i Null) t.value) (sym p));
}

-- and with its column on the right
pub right_compares : (c d : Comparison) (a b : BoundExpr) (place : ℕ) (v : Value)
    (outer : List Row)
    (f : Frame) (t : Term) → ((k : Known) → expr_in k b ≡ Column 0 place) → IsFixed a outer f v →
    d ≡ turned c → t.place ≡ place → t.comparison ≡ d → v ≡ t.value → ComparesAs c a b outer f t
right_compares c d a b place v outer f t own fixed is p q e row = record {
  left = v;
  right = slice_index_or row place Null;
  left_is = λ k self w. fixed k self row w;
  right_is = own_value b place own outer f row;
  says_so =
      compared_turned c v (slice_index_or row place Null) ∙
      (ap (λ (x : Value). compared (turned c) (slice_index_or row place Null) x) e ∙
      (ap (λ (g : Comparison). compared g (slice_index_or row place Null) t.value)
      (sym (q ∙ is)) ∙
      ap (λ (i : ℕ). compared t.comparison (slice_index_or row i Null) t.value) (sym p)));
}

-- what an answer says of the term that it has
some_of : {A : Type 0} (found : Option A) (a : A) (P : A → Type 0) → found ≡ Some a →
    IfSome found P → P a
some_of found a P e h = subst (λ o. IfSome o P) e h

pub left_answers : (result : Option Term) (found : Option Value) (c : Comparison)
    (a b : BoundExpr) (place : ℕ) (outer : List Row) (f : Frame) →
    ((k : Known) → expr_in k a ≡ Column 0 place) → IfSome found (IsFixed b outer f) →
    IfSome result (λ t. t.place ≡ place) → IfSome result (λ t. t.comparison ≡ c) →
    IfSome result (λ t. found ≡ Some t.value) → IfSome result (ComparesAs c a b outer f)
left_answers None found c a b place outer f own fixed p q e = tt
left_answers (Some t) found c a b place outer f own fixed p q e =
    left_compares c a b place t.value outer f t own
    (some_of found t.value (IsFixed b outer f) e fixed) p q refl

pub right_answers : (result : Option Term) (found : Option Value) (c d : Comparison)
    (a b : BoundExpr) (place : ℕ) (outer : List Row) (f : Frame) →
    ((k : Known) → expr_in k b ≡ Column 0 place) → IfSome found (IsFixed a outer f) →
    d ≡ turned c → IfSome result (λ t. t.place ≡ place) → IfSome result (λ t. t.comparison ≡ d) →
    IfSome result (λ t. found ≡ Some t.value) → IfSome result (ComparesAs c a b outer f)
right_answers None found c d a b place outer f own fixed is p q e = tt
right_answers (Some t) found c d a b place outer f own fixed is p q e =
    right_compares c d a b place t.value outer f t own
    (some_of found t.value (IsFixed a outer f) e fixed) is p q refl

-- ---- conjuncts

-- a conjunct that is not true ends them
pub left_here : (e : BoundExpr) (es : List BoundExpr) (outer : List Row) (f : Frame) (t : Term)
    (row : Row) → SaysTerm e outer f t → not (is_so t row) ≡ true →
    LeavesOut (e ∷ es) outer f row
left_here e es outer f t row says h k self w =
    ap (λ (d : Ends Value). after d (λ v. choose v (holds (exprs_in k es) self (row ∷ outer) f)
    (give false))) (says k self row w) ∙
    ends_there (is_true (said t row)) h
  where
    ends_there : (b : Bool) → not b ≡ true →
        (if b then holds (exprs_in k es) self (row ∷ outer) f else give false) w ≡ Gives false w
    ends_there true h = absurd (true≢false (sym h))
    ends_there false h = refl

-- one that is true leaves it to those after it
pub left_later : (e : BoundExpr) (es : List BoundExpr) (outer : List Row) (f : Frame) (t : Term)
    (row : Row) → SaysTerm e outer f t → LeavesOut es outer f row →
    LeavesOut (e ∷ es) outer f row
left_later e es outer f t row says out k self w =
    ap (λ (d : Ends Value). after d (λ v. choose v (holds (exprs_in k es) self (row ∷ outer) f)
    (give false))) (says k self row w) ∙
    goes_there (is_true (said t row))
  where
    goes_there : (b : Bool) →
        (if b then holds (exprs_in k es) self (row ∷ outer) f else give false) w ≡ Gives false w
    goes_there true = out k self w
    goes_there false = refl

-- ---- a conjunct more

at_place : (tests : List BoundExpr) (i : ℕ) (e : BoundExpr) → i < length tests →
    e ≡ slice_index_or tests i e → drop i tests ≡ e ∷ drop (i + 1) tests
at_place tests i e l is = drop_more tests i e l ∙ ap (λ x. x ∷ drop (i + 1) tests) (sym is)

-- what the conjuncts from the next on leave out, those from this one on do
pub later_more : (tests : List BoundExpr) (i : ℕ) (e : BoundExpr) (t : Term) (found : Option Term)
    (outer : List Row) (f : Frame) (row : Row) → i < length tests → e ≡ slice_index_or tests i e →
    found ≡ Some t → IfSome found (SaysTerm e outer f) →
    (LeavesOut (drop i tests) outer f row → LeavesOut tests outer f row) →
    LeavesOut (drop (i + 1) tests) outer f row → LeavesOut tests outer f row
later_more tests i e t found outer f row l is s says on out =
    on (subst (λ (es : List BoundExpr). LeavesOut es outer f row) (sym (at_place tests i e l is))
    (left_later e (drop (i + 1) tests) outer f t row
    (some_of found t (SaysTerm e outer f) s says) out))

either : (m h : Bool) {P : Type 0} → (m ≡ true → P) → (h ≡ true → P) → (m || h) ≡ true → P
either true h p q e = p refl
either false h p q e = q e

-- what the terms leave out, and with this one more
pub terms_more : (tests : List BoundExpr) (i : ℕ) (e : BoundExpr) (terms longer : List Term)
    (t : Term) (found : Option Term) (outer : List Row) (f : Frame) (row : Row) → i < length tests →
    e ≡ slice_index_or tests i e →
    (misses longer row ≡ true → (misses terms row || not (is_so t row)) ≡ true) → found ≡ Some t →
    IfSome found (SaysTerm e outer f) →
    (misses terms row ≡ true → LeavesOut tests outer f row) →
    (LeavesOut (drop i tests) outer f row → LeavesOut tests outer f row) →
    misses longer row ≡ true → LeavesOut tests outer f row
terms_more tests i e terms longer t found outer f row l is more s says all on h =
    either (misses terms row) (not (is_so t row)) all
    (λ (q : not (is_so t row) ≡ true).
    on (subst (λ (es : List BoundExpr). LeavesOut es outer f row) (sym (at_place tests i e l is))
    (left_here e (drop (i + 1) tests) outer f t row
    (some_of found t (SaysTerm e outer f) s says) q)))
    (more h)

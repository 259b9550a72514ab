-- What a comparison that is true says of the order of its sides; and columns of stored rows.
use Rattle.std.proofs.Common.{◌≡◌, ◌<◌, ◌+◌, ℕ, zero, suc, Bool, true, false, not, List, [], ◌∷◌}
use Rattle.std.proofs.Common.{◌||◌, refl, ap, sym, ◌∙◌, map, subst, rules, length, drop}
use Rattle.std.proofs.Common.{Ordering, Less, Equal, Greater, slice_index_or, Option, Some, None}
use Rattle.std.proofs.Common.{IfSome}
use Rattle.std.proofs.lemmas.List.{drop_more}
use Rattle.std.specs.Cmp.{bool_cmp_total}
use Rattle.std.specs.Ordering.{int_cmp, bool_cmp, ordering_reverse}
use Rattle.std.proofs.lemmas.Bool.{true≢false}
use Rattle.std.proofs.lemmas.Cmp.{int_cmp_total, nat_cmp_total, lists_total}
use Rattle.sql_values.specs.declared.value.Value.{Value}
use Rattle.sql_values.specs.declared.value.Value.TheVariants.{Null, Int, Str, Bool as Truth}
use Rattle.sql_values.specs.declared.operators.Comparison.{Comparison}
use Rattle.sql_values.specs.declared.operators.Comparison.TheVariants.{Equals, NotEquals, LessThan}
use Rattle.sql_values.specs.declared.operators.Comparison.TheVariants.{LessThanOrEquals}
use Rattle.sql_values.specs.declared.operators.Comparison.TheVariants.{GreaterThan}
use Rattle.sql_values.specs.declared.operators.Comparison.TheVariants.{GreaterThanOrEquals}
use Rattle.sql_values.specs.Operators.{allows, compared}
use Rattle.sql_values.specs.Values.{is_true, text_cmp}
use Rattle.row_types.specs.Rows.{Row, value_cmp}
use Rattle.row_types.specs.declared.cell.Cell.{Cell}
use Rattle.row_types.specs.declared.cell.Cell.TheVariants.{Val}
use Rattle.rel_algebra.specs.declared.plan.Node.{Node}
use Rattle.rel_algebra.specs.declared.scalar.Scalar.{Scalar as Code}
use Rattle.rel_algebra.specs.declared.scalar.Scalar.TheVariants.{Compare, rolls-Compare}
use Rattle.rel_algebra.specs.declared.scalar.Scalar.TheOpen.{Scalar-F}
use Rattle.rel_algebra.specs.declared.scalar.Scalar.TheFolds.{fold-roll-Scalar}
use Rattle.rel_algebra.specs.Tree.{Comparing}
use Rattle.rel_algebra.specs.Plan.{Scalar, cell_at, cell_of, column, more, none, shown, strict}
use Rattle.rel_algebra.specs.Plan.{word, word_cell}
use Rattle.rel_algebra.specs.PlanView.{Link, link_step, scalar_of, scalar_step}
use Rattle.plan_scalars.specs.Sights.{sight_of}
use Rattle.plan_keys.specs.LeftOut.{left_out, node_leaves_out}
use Rattle.plan_keys.specs.Terms.{holds, misses, said, turned}
use Rattle.plan_keys.specs.declared.terms.Term.{Term}

-- ---- the two sides in the other order

allows_turned : (c : Comparison) (r : Ordering) →
    allows c (ordering_reverse r) ≡ allows (turned c) r
allows_turned Equals Less = refl
allows_turned Equals Equal = refl
allows_turned Equals Greater = refl
allows_turned NotEquals Less = refl
allows_turned NotEquals Equal = refl
allows_turned NotEquals Greater = refl
allows_turned LessThan Less = refl
allows_turned LessThan Equal = refl
allows_turned LessThan Greater = refl
allows_turned LessThanOrEquals Less = refl
allows_turned LessThanOrEquals Equal = refl
allows_turned LessThanOrEquals Greater = refl
allows_turned GreaterThan Less = refl
allows_turned GreaterThan Equal = refl
allows_turned GreaterThan Greater = refl
allows_turned GreaterThanOrEquals Less = refl
allows_turned GreaterThanOrEquals Equal = refl
allows_turned GreaterThanOrEquals Greater = refl

pub compared_turned : (c : Comparison) (x y : Value) → compared c x y ≡ compared (turned c) y x
compared_turned c Null Null = refl
compared_turned c Null (Int y) = refl
compared_turned c Null (Str t) = refl
compared_turned c Null (Truth q) = refl
compared_turned c (Int x) Null = refl
compared_turned c (Int x) (Int y) =
    ap (λ r. Truth (allows c r)) (int_cmp_total.antisymm x y) ∙
    ap (λ b. Truth b) (allows_turned c (int_cmp y x))
compared_turned c (Int x) (Str t) = refl
compared_turned c (Int x) (Truth q) = refl
compared_turned c (Str s) Null = refl
compared_turned c (Str s) (Int y) = refl
compared_turned c (Str s) (Str t) =
    ap (λ r. Truth (allows c r)) ((lists_total nat_cmp_total).antisymm s t) ∙
    ap (λ b. Truth b) (allows_turned c (text_cmp t s))
compared_turned c (Str s) (Truth q) = refl
compared_turned c (Truth p) Null = refl
compared_turned c (Truth p) (Int y) = refl
compared_turned c (Truth p) (Str t) = refl
compared_turned c (Truth p) (Truth q) =
    ap (λ r. Truth (allows c r)) (bool_cmp_total.antisymm p q) ∙
    ap (λ b. Truth b) (allows_turned c (bool_cmp q p))

-- ---- what is true of two values

pub true_allows : (c : Comparison) (x y : Value) → is_true (compared c x y) ≡ true →
    allows c (value_cmp x y) ≡ true
true_allows c Null y h = absurd (true≢false (sym h))
true_allows c (Int x) Null h = absurd (true≢false (sym h))
true_allows c (Int x) (Int y) h = h
true_allows c (Int x) (Str t) h = absurd (true≢false (sym h))
true_allows c (Int x) (Truth q) h = absurd (true≢false (sym h))
true_allows c (Str s) Null h = absurd (true≢false (sym h))
true_allows c (Str s) (Int y) h = absurd (true≢false (sym h))
true_allows c (Str s) (Str t) h = h
true_allows c (Str s) (Truth q) h = absurd (true≢false (sym h))
true_allows c (Truth p) Null h = absurd (true≢false (sym h))
true_allows c (Truth p) (Int y) h = absurd (true≢false (sym h))
true_allows c (Truth p) (Str t) h = absurd (true≢false (sym h))
true_allows c (Truth p) (Truth q) h = h

pub equal_is : (r : Ordering) → allows Equals r ≡ true → r ≡ Equal
equal_is Less h = absurd (true≢false (sym h))
equal_is Equal h = refl
equal_is Greater h = absurd (true≢false (sym h))

-- ---- columns of stored rows

pub column_value : (row : Row) (i : ℕ) → cell_at (map Val row) i ≡ Val (slice_index_or row i Null)
column_value [] i = refl
column_value (v ∷ row) zero = refl
column_value (v ∷ row) (suc i) = column_value row i

-- ---- terms

compare_is : (whole a b : Code) (c : Comparison) → whole ≡ Compare c a b →
    scalar_of whole ≡ word (strict (Comparing c)) (more (scalar_of a) (more (scalar_of b) none))
compare_is whole a b c is =
    ap scalar_of (is ∙ sym (rolls-Compare c a b)) ∙
    fold-roll-Scalar Scalar Link scalar_step link_step (Scalar-F.Compare c a b)

both_values : (c : Comparison) (x y : Cell) (u v : Value) → x ≡ Val u → y ≡ Val v →
    word_cell (strict (Comparing c)) (x ∷ y ∷ []) ≡ Val (compared c u v)
both_values c x y u v h k = rw h (rw k refl)

-- what a scalar is on all rows
abbrev pub Fixed : Code → List (List Cell) → List Value → Value → Type 0
Fixed s o args v = (r : List Cell) → cell_of (scalar_of s) (sight_of r o args) ≡ Val v

-- what a test says of each row of values
abbrev pub Says : Code → List (List Cell) → List Value → Term → Type 0
Says test o args t = (row : Row) → cell_of (scalar_of test) (sight_of (shown row) o args)
    ≡ Val (said t row)

left_said : (test a b : Code) (c : Comparison) (i : ℕ) (o : List (List Cell)) (args : List Value)
    (t : Term) → test ≡ Compare c a b → scalar_of a ≡ column 0 i → t.place ≡ i →
    t.comparison ≡ c → Fixed b o args t.value → Says test o args t
left_said test a b c i o args t is own p q f row =
    let s = sight_of (shown row) o args in
    ap (λ x. cell_of x s) (compare_is test a b c is) ∙
    (both_values c (cell_of (scalar_of a) s) (cell_of (scalar_of b) s)
    (slice_index_or row i Null) t.value
    (ap (λ x. cell_of x s) own ∙ column_value row i) (f (shown row)) ∙
    (ap (λ d. Val (compared d (slice_index_or row i Null) t.value)) (sym q) ∙
    ap (λ k. Val (compared t.comparison (slice_index_or row k Null) t.value)) (sym p)))

right_said : (test a b : Code) (c d : Comparison) (i : ℕ) (o : List (List Cell))
    (args : List Value) (t : Term) → test ≡ Compare c a b → scalar_of b ≡ column 0 i →
    t.place ≡ i → t.comparison ≡ d → d ≡ turned c → Fixed a o args t.value → Says test o args t
right_said test a b c d i o args t is own p q e f row =
    let s = sight_of (shown row) o args in
    let x = slice_index_or row i Null in
    ap (λ y. cell_of y s) (compare_is test a b c is) ∙
    (both_values c (cell_of (scalar_of a) s) (cell_of (scalar_of b) s) t.value x
    (f (shown row)) (ap (λ y. cell_of y s) own ∙ column_value row i) ∙
    (ap (λ v. Val v) (compared_turned c t.value x) ∙
    (ap (λ k. Val (compared k x t.value)) (sym (q ∙ e)) ∙
    ap (λ k. Val (compared t.comparison (slice_index_or row k Null) t.value)) (sym p))))

some_value : (found : Option Value) (v : Value) (P : Value → Type 0) → found ≡ Some v →
    IfSome found P → P v
some_value found v P e h = subst (λ f. IfSome f P) e h

pub left_term : (result : Option Term) (found : Option Value) (test a x b y : Code)
    (c : Comparison) (i : ℕ) (o : List (List Cell)) (args : List Value) → test ≡ Compare c a b →
    x ≡ a → y ≡ b → scalar_of x ≡ column 0 i → IfSome result (λ t. t.place ≡ i) →
    IfSome result (λ t. t.comparison ≡ c) → IfSome result (λ t. found ≡ Some t.value) →
    IfSome found (Fixed y o args) → IfSome result (Says test o args)
left_term None found test a x b y c i o args is xa yb own p q v f = search rules
left_term (Some t) found test a x b y c i o args is xa yb own p q v f =
    left_said test a b c i o args t is (ap scalar_of (sym xa) ∙ own) p q
    (subst (λ z. Fixed z o args t.value) yb (some_value found t.value (Fixed y o args) v f))

pub right_term : (result : Option Term) (found : Option Value) (test a x b y : Code)
    (c d : Comparison) (i : ℕ) (o : List (List Cell)) (args : List Value) →
    test ≡ Compare c a b → x ≡ a → y ≡ b → scalar_of y ≡ column 0 i → d ≡ turned c →
    IfSome result (λ t. t.place ≡ i) →
    IfSome result (λ t. t.comparison ≡ d) → IfSome result (λ t. found ≡ Some t.value) →
    IfSome found (Fixed x o args) → IfSome result (Says test o args)
right_term None found test a x b y c d i o args is xa yb own e p q v f = search rules
right_term (Some t) found test a x b y c d i o args is xa yb own e p q v f =
    right_said test a b c d i o args t is (ap scalar_of (sym yb) ∙ own) p q e
    (subst (λ z. Fixed z o args t.value) xa (some_value found t.value (Fixed x o args) v f))

-- ---- a Filter more

or_moved : (m p h l : Bool) → (p ≡ true → (m || h) ≡ true) → (p || l) ≡ true →
    (m || (h || l)) ≡ true
or_moved true p h l f e = refl
or_moved false true true l f e = refl
or_moved false true false l f e = absurd (true≢false (sym (f refl)))
or_moved false false true l f e = refl
or_moved false false false l f e = e

more_terms : (ns : List Node) (i : ℕ) (n : Node) (terms longer : List Term) (t : Term) (row : Row)
    (o : List (List Cell)) (args : List Value) → i < length ns → n ≡ slice_index_or ns i n →
    (misses longer row ≡ true → (misses terms row || not (holds t row)) ≡ true) →
    ((later : Bool) → node_leaves_out n (shown row) o args later ≡ (not (holds t row) || later)) →
    (misses longer row || left_out (drop (i + 1) ns) (shown row) o args) ≡ true →
    (misses terms row || left_out (drop i ns) (shown row) o args) ≡ true
more_terms ns i n terms longer t row o args l is e f h =
    let rest = left_out (drop (i + 1) ns) (shown row) o args in
    let at : drop i ns ≡ n ∷ drop (i + 1) ns = drop_more ns i n l ∙
    ap (λ x. x ∷ drop (i + 1) ns) (sym is) in
    ap (λ xs. misses terms row || left_out xs (shown row) o args) at ∙
    (ap (λ b. misses terms row || b) (f rest) ∙
    or_moved (misses terms row) (misses longer row) (not (holds t row)) rest e h)

-- the same of a node's answer
pub found_more : (ns : List Node) (i : ℕ) (n : Node) (terms longer : List Term) (t : Term)
    (found : Option Term) (row : Row) (o : List (List Cell)) (args : List Value) → i < length ns →
    n ≡ slice_index_or ns i n →
    (misses longer row ≡ true → (misses terms row || not (holds t row)) ≡ true) → found ≡ Some t →
    IfSome found (λ u. (r : Row) (later : Bool) → node_leaves_out n (shown r) o args later
    ≡ (not (holds u r) || later)) →
    (misses longer row || left_out (drop (i + 1) ns) (shown row) o args) ≡ true →
    (misses terms row || left_out (drop i ns) (shown row) o args) ≡ true
found_more ns i n terms longer t found row o args l is e s f =
    more_terms ns i n terms longer t row o args l is e
    (subst (λ g. IfSome g (λ u. (r : Row) (later : Bool) →
    node_leaves_out n (shown r) o args later ≡ (not (holds u r) || later))) s f row)

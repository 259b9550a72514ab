-- What terms that all hold say of a row's key.
use Rattle.std.proofs.Common.{◌≡◌, ◌<◌, ℕ, zero, suc, Bool, true, false, List, [], ◌∷◌, ◌++◌}
use Rattle.std.proofs.Common.{refl, ap, sym, ◌∙◌, take, get_or, length, Ordering, Less, Equal}
use Rattle.std.proofs.Common.{Greater, slice_index_or, arith, rules, Result, Ok, Err, IfOk}
use Rattle.std.specs.Ordering.{ordering_then}
use Rattle.std.proofs.lemmas.Bool.{true≢false}
use Rattle.sql_values.specs.declared.value.Value.{Value}
use Rattle.sql_values.specs.declared.value.Value.TheVariants.{Null}
use Rattle.sql_values.specs.declared.operators.Comparison.{Comparison}
use Rattle.sql_values.specs.declared.operators.Comparison.TheVariants.{Equals, NotEquals, LessThan}
use Rattle.sql_values.specs.declared.operators.Comparison.TheVariants.{LessThanOrEquals}
use Rattle.sql_values.specs.declared.operators.Comparison.TheVariants.{GreaterThan}
use Rattle.sql_values.specs.declared.operators.Comparison.TheVariants.{GreaterThanOrEquals}
use Rattle.sql_values.specs.Operators.{allows}
use Rattle.row_types.specs.Rows.{Row, to_key, value_cmp}
use Rattle.plan_keys.specs.Bounds.{before, bounds_on, stands_before, takes_ties}
use Rattle.plan_keys.specs.Terms.{holds, misses}
use Rattle.plan_keys.specs.declared.bounds.Bound.{Bound}
use Rattle.plan_keys.specs.declared.terms.Term.{Term}
use Rattle.plan_keys.proofs.Compared.{true_allows}

then_first : (r s : Ordering) → ordering_then r s ≡ Equal → r ≡ Equal
then_first Less s h = cc
then_first Equal s h = refl
then_first Greater s h = cc

then_second : (r s : Ordering) → ordering_then r s ≡ Equal → s ≡ Equal
then_second Less s h = cc
then_second Equal s h = h
then_second Greater s h = cc

then_last : (r : Ordering) → ordering_then r Equal ≡ r
then_last Less = refl
then_last Equal = refl
then_last Greater = refl

-- where the first columns have the values, the next one decides
pub next_decides : (key : List ℕ) (i j : ℕ) (d : ℕ) (sought : List Value) (v : Value) (row : Row) →
    i < length key → j ≡ suc i → to_key (take i key) sought row ≡ Equal →
    to_key (take j key) (sought ++ v ∷ []) row
    ≡ value_cmp (slice_index_or row (get_or key i d) Null) v
next_decides [] i j d sought v row l e h = absurd (omega (arith, l))
next_decides (k ∷ key) zero j d [] v row l e h =
    ap (λ n. to_key (take n (k ∷ key)) (v ∷ []) row) e ∙
    then_last (value_cmp (slice_index_or row k Null) v)
next_decides (k ∷ key) zero j d (s ∷ sought) v row l e h = cc
next_decides (k ∷ key) (suc i) j d [] v row l e h = cc
next_decides (k ∷ key) (suc i) j d (s ∷ sought) v row l e h =
    let first = value_cmp (slice_index_or row k Null) s in
    let rest = to_key (take i key) sought row in
    ap (λ n. to_key (take n (k ∷ key)) (s ∷ (sought ++ v ∷ [])) row) e ∙
    (ap (λ r. ordering_then r (to_key (take (suc i) key) (sought ++ v ∷ []) row))
    (then_first first rest h) ∙
    next_decides key i (suc i) d sought v row (omega (arith, l)) refl (then_second first rest h))

-- a bound of a comparison that holds
side_of : (high : Bool) (c : Comparison) (r : Ordering) → bounds_on high c ≡ true →
    allows c r ≡ true → before (takes_ties high c) r ≡ high
side_of true Equals r b h = absurd (true≢false (sym b))
side_of true NotEquals r b h = absurd (true≢false (sym b))
side_of true LessThan Less b h = refl
side_of true LessThan Equal b h = absurd (true≢false (sym h))
side_of true LessThan Greater b h = absurd (true≢false (sym h))
side_of true LessThanOrEquals Less b h = refl
side_of true LessThanOrEquals Equal b h = refl
side_of true LessThanOrEquals Greater b h = absurd (true≢false (sym h))
side_of true GreaterThan r b h = absurd (true≢false (sym b))
side_of true GreaterThanOrEquals r b h = absurd (true≢false (sym b))
side_of false Equals r b h = absurd (true≢false (sym b))
side_of false NotEquals r b h = absurd (true≢false (sym b))
side_of false LessThan r b h = absurd (true≢false (sym b))
side_of false LessThanOrEquals r b h = absurd (true≢false (sym b))
side_of false GreaterThan Less b h = absurd (true≢false (sym h))
side_of false GreaterThan Equal b h = absurd (true≢false (sym h))
side_of false GreaterThan Greater b h = refl
side_of false GreaterThanOrEquals Less b h = absurd (true≢false (sym h))
side_of false GreaterThanOrEquals Equal b h = refl
side_of false GreaterThanOrEquals Greater b h = refl

pub before_tie : (high : Bool) (r : Ordering) → r ≡ Equal → before high r ≡ high
before_tie true r h = ap (before true) h
before_tie false r h = ap (before false) h

pub length_more : (vs : List Value) (v : Value) → length (vs ++ v ∷ []) ≡ suc (length vs)
length_more [] v = refl
length_more (u ∷ vs) v = ap suc (length_more vs v)

pub bounded : (key : List ℕ) (sought more : List Value) (t : Term) (high through : Bool)
    (row : Row) → length sought < length key → more ≡ sought ++ t.value ∷ [] →
    through ≡ takes_ties high t.comparison → t.place ≡ slice_index_or key (length sought) 0 →
    bounds_on high t.comparison ≡ true → holds t row ≡ true →
    to_key (take (length sought) key) sought row ≡ Equal →
    stands_before key more through row ≡ high
bounded key sought more t high through row l m th p b h e =
    let c = t.comparison in
    let x = slice_index_or row t.place Null in
    let n = length more in
    let longer : n ≡ suc (length sought) = ap length m ∙ length_more sought t.value in
    ap (λ q. before q (to_key (take n key) more row)) th ∙
    (ap (λ vs. before (takes_ties high c) (to_key (take n key) vs row)) m ∙
    (ap (before (takes_ties high c))
    (next_decides key (length sought) n 0 sought t.value row l longer e) ∙
    (ap (λ i. before (takes_ties high c) (value_cmp (slice_index_or row i Null) t.value)) (sym p) ∙
    side_of high c (value_cmp x t.value) b (true_allows c x t.value h))))

-- the same of an answer, for each row for which all terms hold
pub bounded_by : {E : Type 0} (result : Result Bound E) (key : List ℕ) (terms : List Term)
    (sought : List Value) (value : Value) (t : Term) (high ties : Bool) (n : ℕ) →
    n ≡ length sought → n < length key → value ≡ t.value →
    ties ≡ takes_ties high t.comparison → t.place ≡ slice_index_or key n 0 →
    bounds_on high t.comparison ≡ true →
    ((row : Row) → misses terms row ≡ false → holds t row ≡ true) →
    ((row : Row) → misses terms row ≡ false → to_key (take (length sought) key) sought row ≡ Equal)
    → IfOk result (λ b. b.sought ≡ sought ++ value ∷ []) → IfOk result (λ b. b.through ≡ ties) →
    IfOk result (λ b. (row : Row) → misses terms row ≡ false →
    stands_before key b.sought b.through row ≡ high)
bounded_by (Ok b) key terms sought value t high ties n e l v s p d h q m th =
    λ row none. bounded key sought b.sought t high b.through row
    (omega (arith, l, e)) (m ∙ ap (λ u. sought ++ u ∷ []) v) (th ∙ s)
    (p ∙ ap (λ k. slice_index_or key k 0) e) d (h row none) (q row none)
bounded_by (Err x) key terms sought value t high ties n e l v s p d h q m th = search rules

-- one column more that has its value
pub equal_more : (key : List ℕ) (sought longer : List Value) (v u : Value) (n : ℕ) (row : Row) →
    n ≡ length sought → n < length key → longer ≡ sought ++ v ∷ [] → v ≡ u →
    to_key (take (length sought) key) sought row ≡ Equal →
    value_cmp (slice_index_or row (slice_index_or key n 0) Null) u ≡ Equal →
    to_key (take (length longer) key) longer row ≡ Equal
equal_more key sought longer v u n row e l m w h q =
    ap (λ vs. to_key (take (length vs) key) vs row) m ∙
    (next_decides key (length sought) (length (sought ++ v ∷ [])) 0 sought v row
    (omega (arith, l, e)) (length_more sought v) h ∙
    (ap (λ i. value_cmp (slice_index_or row (slice_index_or key i 0) Null) v) (sym e) ∙
    (ap (value_cmp (slice_index_or row (slice_index_or key n 0) Null)) w ∙ q)))

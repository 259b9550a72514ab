-- What kinds that are there say of the parts that they are made of, and how many they are.
use Rattle.std.proofs.Common.{◌≡◌, ℕ, zero, suc, ◌+◌, nat_lt, Bool, true, false, ◌&&◌, List}
use Rattle.std.proofs.Common.{[], ◌∷◌, length, Option, Some, None, refl, sym, ap, ◌∙◌, arith}
use Rattle.sql_values.specs.declared.fold.FoldKind.{FoldKind}
use Rattle.row_types.specs.declared.sort_key.SortKey.{SortKey}
use Rattle.bind_kinds.specs.declared.kind.Kind.{Kind}
use Rattle.bind_kinds.specs.Kinds.{fits}
use Rattle.rel_algebra.specs.Removal.{less}
use Rattle.rel_algebra.specs.WellFormed.{keys_fit}
use Rattle.typing_trees.specs.Kinds.{aggregate_allows, aggregate_gives}
use Rattle.typing_trees.specs.Around.{Around, then, only_if}
use Rattle.typing_trees.specs.Queries.{ExprKind, aggregate_kinds, group_row, is_true_value}
use Rattle.typing_trees.specs.Queries.{keys_within, kinds_of, more_rows, only_column}
use Rattle.typing_trees.specs.Queries.{row_kinds}

-- ---- what may fail

pub then_some : {A B : Type 0} (o : Option A) (f : A → Option B) (y : B) → then o f ≡ Some y →
    (x : A) × (o ≡ Some x) × (f x ≡ Some y)
then_some None f y h = absurd cc
then_some (Some x) f y h = (x, refl, h)

pub only_some : {A : Type 0} (b : Bool) (o : Option A) (y : A) → only_if b o ≡ Some y →
    (b ≡ true) × (o ≡ Some y)
only_some true o y h = (refl, h)
only_some false o y h = absurd cc

pub value_some : (o : Option Kind) → is_true_value o ≡ true → (k : Kind) × (o ≡ Some k)
value_some None h = absurd cc
value_some (Some k) h = (k, refl)

pub some_same : {A : Type 0} (x y : A) → Some x ≡ Some y → x ≡ y
some_same x y h = cc

pub halves : (b c : Bool) → (b && c) ≡ true → (b ≡ true) × (c ≡ true)
halves true c h = (refl, h)
halves false c h = absurd cc

pub and_true : (b c : Bool) → b ≡ true → c ≡ true → (b && c) ≡ true
and_true true c p q = q
and_true false c p q = p

-- ---- how many there are

pub one_column : (ks : List Kind) (k : Kind) → only_column ks ≡ Some k → length ks ≡ 1
one_column [] k h = absurd cc
one_column (j ∷ []) k h = refl
one_column (j ∷ i ∷ ks) k h = absurd cc

row_long : (cs ks js : List Kind) → row_kinds cs ks ≡ Some js → length js ≡ length cs
row_long [] [] js h = ap length (sym (some_same [] js h))
row_long [] (k ∷ ks) js h = absurd cc
row_long (c ∷ cs) [] js h = absurd cc
row_long (c ∷ cs) (k ∷ ks) js h =
    let fit = only_some (fits c k) (then (row_kinds cs ks) (λ is. Some (_ ∷ is))) js h in
    let rest = then_some (row_kinds cs ks) (λ is. Some (_ ∷ is)) js fit.1 in
    ap length (sym (some_same _ js rest.2)) ∙ ap suc (row_long cs ks rest.0 rest.1)

pub more_long : (a : Around) (cs : List Kind) (rs : List (List ExprKind)) (js : List Kind) →
    more_rows a cs rs ≡ Some js → length js ≡ length cs
more_long a cs [] js h = ap length (sym (some_same cs js h))
more_long a cs (r ∷ rs) js h =
    let row = then_some (kinds_of a r) _ js h in
    let columns = then_some (row_kinds cs row.0) _ js row.2 in
    more_long a columns.0 rs js columns.2 ∙ row_long cs row.0 columns.0 columns.1

aggregates_long : (ks : List Kind) (fs : List FoldKind) (gs : List Kind) →
    aggregate_kinds ks fs ≡ Some gs → length ks ≡ length fs
aggregates_long [] [] gs h = refl
aggregates_long [] (f ∷ fs) gs h = absurd cc
aggregates_long (k ∷ ks) [] gs h = absurd cc
aggregates_long (k ∷ ks) (f ∷ fs) gs h =
    let fit = only_some (aggregate_allows f k) (then (aggregate_kinds ks fs)
    (λ is. Some (aggregate_gives f k ∷ is))) gs h in
    let rest = then_some (aggregate_kinds ks fs) _ gs fit.1 in
    ap suc (aggregates_long ks fs rest.0 rest.1)

-- the grouping columns, and one for each aggregate
pub group_long : (n : ℕ) (ks : List Kind) (fs : List FoldKind) (gs : List Kind) →
    group_row n ks fs ≡ Some gs → length ks ≡ n + length fs
group_long zero ks fs gs h = let e = aggregates_long ks fs gs h in omega (arith, e)
group_long (suc n) [] fs gs h = absurd cc
group_long (suc n) (k ∷ ks) fs gs h =
    let rest = then_some (group_row n ks fs) _ gs h in
    let e = group_long n ks fs rest.0 rest.1 in omega (arith, e)

-- ---- ORDER BY

less_same : (i n : ℕ) → nat_lt i n ≡ true → less i n ≡ true
less_same i zero h = absurd (grind arith)
less_same zero (suc n) h = refl
less_same (suc i) (suc n) h = less_same i n (grind arith)

pub keys_there : (n : ℕ) (keys : List SortKey) → keys_within n keys ≡ true → keys_fit keys n ≡ true
keys_there n [] h = refl
keys_there n (key ∷ keys) h =
    let both = halves (nat_lt key.place n) (keys_within n keys) h in
    and_true (less key.place n) (keys_fit keys n) (less_same key.place n both.0)
    (keys_there n keys both.1)

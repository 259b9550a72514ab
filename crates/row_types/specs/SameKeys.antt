-- Being the same is an equivalence of keys, and keys that are the same feed the same to a hasher.
use Rattle.std.specs.Prelude.{◌≡◌, ◌&&◌, Bool, true, false, [], ◌∷◌, Decides}
use Rattle.std.specs.Cmp.{IsEquivalence, decided, signed_Decides, first_so, second_so}
use Rattle.std.specs.Ordering.{is_eq, bool_cmp}
use Rattle.std.proofs.Common.{refl, sym, ap, ◌∙◌}
use Rattle.std.proofs.lemmas.Map.Text.{is_eq-slice_cmp}
use Rattle.std.proofs.lemmas.Slice.Eq.{bytes_eq-Decides}
use mathlib.Core.Bool.{true≢false}
use Rattle.sql_values.specs.declared.value.Value.{Value}
use Rattle.sql_values.specs.declared.value.Value.TheVariants.{Null, Int, Str, Bool as Truth}
use Rattle.row_types.specs.Rows.{Row}
use Rattle.row_types.specs.Groups.{same_value, same_row}
use Rattle.row_types.specs.Keys.{values_writes}

-- from a test that both fails and passes follows anything
never : {P : Type 0} → false ≡ true → P
never h = absurd (true≢false (sym h))

-- truth values that tie are one
same_truth : (p q : Bool) → is_eq (bool_cmp p q) ≡ true → p ≡ q
same_truth true true h = refl
same_truth true false h = never h
same_truth false true h = never h
same_truth false false h = refl

-- values that are the same are equal, NULL among them
same_is : (a b : Value) → same_value a b ≡ true → a ≡ b
same_is Null Null h = refl
same_is Null (Truth q) h = never h
same_is Null (Int n) h = never h
same_is Null (Str t) h = never h
same_is (Truth p) Null h = never h
same_is (Truth p) (Truth q) h = ap Truth (same_truth p q h)
same_is (Truth p) (Int n) h = never h
same_is (Truth p) (Str t) h = never h
same_is (Int m) Null h = never h
same_is (Int m) (Truth q) h = never h
same_is (Int m) (Int n) h = ap Int ((signed_Decides m n).0 h)
same_is (Int m) (Str t) h = never h
same_is (Str s) Null h = never h
same_is (Str s) (Truth q) h = never h
same_is (Str s) (Int n) h = never h
same_is (Str s) (Str t) h = ap Str ((bytes_eq-Decides s t).0 (sym (is_eq-slice_cmp s t) ∙ h))

-- each value is the same as itself
itself : (a : Value) → same_value a a ≡ true
itself Null = refl
itself (Truth true) = refl
itself (Truth false) = refl
itself (Int n) = (signed_Decides n n).1 refl
itself (Str s) = is_eq-slice_cmp s s ∙ (bytes_eq-Decides s s).1 refl

-- rows that are the same are equal
row_is : (a b : Row) → same_row a b ≡ true → a ≡ b
row_is [] [] h = refl
row_is [] (y ∷ ys) h = never h
row_is (x ∷ xs) [] h = never h
row_is (x ∷ xs) (y ∷ ys) h = λ i. same_is x y (first_so (same_value x y) (same_row xs ys) h) i ∷
    row_is xs ys (second_so (same_value x y) (same_row xs ys) h) i

-- each row is the same as itself
row_itself : (a : Row) → same_row a a ≡ true
row_itself [] = refl
row_itself (x ∷ xs) = λ i. itself x i && row_itself xs i

-- the test for the same decides whether rows are equal
pub same_row_Decides : (a b : Row) → Decides (same_row a b) (a ≡ b)
same_row_Decides a b = (row_is a b, λ e. ap (same_row a) (sym e) ∙ row_itself a)

-- so being the same is an equivalence, which a key's `Eq` owes
pub same_row_equiv : IsEquivalence same_row
same_row_equiv = decided same_row same_row_Decides

-- keys that are the same feed the same to a hasher, which a key's `Hash` owes
pub same_rows_alike : (a b : Row) → same_row a b ≡ true → values_writes a ≡ values_writes b
same_rows_alike a b h = ap values_writes (row_is a b h)

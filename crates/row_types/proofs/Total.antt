-- The order of values and of keys is total.
use Rattle.std.proofs.Common.{ℕ, ◌≡◌, List, refl, Less, Equal}
use Rattle.std.specs.Cmp.{IsTotalOrder, bool_cmp_total}
use Rattle.std.specs.Cmp.Lexicographic.{slice_cmp}
use Rattle.std.specs.Ordering.{ordering_reverse}
use Rattle.std.proofs.lemmas.Cmp.{int_cmp_total, nat_cmp_total, lists_total, on_total}
use Rattle.sql_values.specs.declared.value.Value.{Value}
use Rattle.sql_values.specs.declared.value.Value.TheVariants.{Null, Int, Str, Bool as Truth}
use Rattle.sql_values.specs.Values.{text_cmp}
use Rattle.row_types.specs.Rows.{value_cmp, key_of, by_key}

pub text_cmp_total : IsTotalOrder text_cmp
text_cmp_total = lists_total nat_cmp_total

turned : (a b : Value) → value_cmp a b ≡ ordering_reverse (value_cmp b a)
turned Null Null = refl
turned Null (Truth q) = refl
turned Null (Int n) = refl
turned Null (Str t) = refl
turned (Truth p) Null = refl
turned (Truth p) (Truth q) = bool_cmp_total.antisymm p q
turned (Truth p) (Int n) = refl
turned (Truth p) (Str t) = refl
turned (Int m) Null = refl
turned (Int m) (Truth q) = refl
turned (Int m) (Int n) = int_cmp_total.antisymm m n
turned (Int m) (Str t) = refl
turned (Str s) Null = refl
turned (Str s) (Truth q) = refl
turned (Str s) (Int n) = refl
turned (Str s) (Str t) = text_cmp_total.antisymm s t

chained : (a b c : Value) → value_cmp a b ≡ Less → value_cmp b c ≡ Less → value_cmp a c ≡ Less
chained Null Null c h k = cc
chained Null (Truth q) Null h k = cc
chained Null (Truth q) (Truth r) h k = refl
chained Null (Truth q) (Int r) h k = refl
chained Null (Truth q) (Str u) h k = refl
chained Null (Int n) Null h k = cc
chained Null (Int n) (Truth r) h k = cc
chained Null (Int n) (Int r) h k = refl
chained Null (Int n) (Str u) h k = refl
chained Null (Str t) Null h k = cc
chained Null (Str t) (Truth r) h k = cc
chained Null (Str t) (Int r) h k = cc
chained Null (Str t) (Str u) h k = refl
chained (Truth p) Null c h k = cc
chained (Truth p) (Truth q) Null h k = cc
chained (Truth p) (Truth q) (Truth r) h k = bool_cmp_total.trans p q r h k
chained (Truth p) (Truth q) (Int r) h k = refl
chained (Truth p) (Truth q) (Str u) h k = refl
chained (Truth p) (Int n) Null h k = cc
chained (Truth p) (Int n) (Truth r) h k = cc
chained (Truth p) (Int n) (Int r) h k = refl
chained (Truth p) (Int n) (Str u) h k = refl
chained (Truth p) (Str t) Null h k = cc
chained (Truth p) (Str t) (Truth r) h k = cc
chained (Truth p) (Str t) (Int r) h k = cc
chained (Truth p) (Str t) (Str u) h k = refl
chained (Int m) Null c h k = cc
chained (Int m) (Truth q) c h k = cc
chained (Int m) (Int n) Null h k = cc
chained (Int m) (Int n) (Truth r) h k = cc
chained (Int m) (Int n) (Int r) h k = int_cmp_total.trans m n r h k
chained (Int m) (Int n) (Str u) h k = refl
chained (Int m) (Str t) Null h k = cc
chained (Int m) (Str t) (Truth r) h k = cc
chained (Int m) (Str t) (Int r) h k = cc
chained (Int m) (Str t) (Str u) h k = refl
chained (Str s) Null c h k = cc
chained (Str s) (Truth q) c h k = cc
chained (Str s) (Int n) c h k = cc
chained (Str s) (Str t) Null h k = cc
chained (Str s) (Str t) (Truth r) h k = cc
chained (Str s) (Str t) (Int r) h k = cc
chained (Str s) (Str t) (Str u) h k = text_cmp_total.trans s t u h k

alike : (a b c : Value) → value_cmp a b ≡ Equal → value_cmp a c ≡ value_cmp b c
alike Null Null c h = refl
alike Null (Truth q) c h = cc
alike Null (Int n) c h = cc
alike Null (Str t) c h = cc
alike (Truth p) Null c h = cc
alike (Truth p) (Truth q) Null h = refl
alike (Truth p) (Truth q) (Truth r) h = bool_cmp_total.congr p q r h
alike (Truth p) (Truth q) (Int r) h = refl
alike (Truth p) (Truth q) (Str u) h = refl
alike (Truth p) (Int n) c h = cc
alike (Truth p) (Str t) c h = cc
alike (Int m) Null c h = cc
alike (Int m) (Truth q) c h = cc
alike (Int m) (Int n) Null h = refl
alike (Int m) (Int n) (Truth r) h = refl
alike (Int m) (Int n) (Int r) h = int_cmp_total.congr m n r h
alike (Int m) (Int n) (Str u) h = refl
alike (Int m) (Str t) c h = cc
alike (Str s) Null c h = cc
alike (Str s) (Truth q) c h = cc
alike (Str s) (Int n) c h = cc
alike (Str s) (Str t) Null h = refl
alike (Str s) (Str t) (Truth r) h = refl
alike (Str s) (Str t) (Int r) h = refl
alike (Str s) (Str t) (Str u) h = text_cmp_total.congr s t u h

pub value_cmp_total : IsTotalOrder value_cmp
value_cmp_total = record { antisymm = turned; trans = chained; congr = alike }

pub key_cmp_total : IsTotalOrder (slice_cmp value_cmp)
key_cmp_total = lists_total value_cmp_total

pub by_key_total : (key : List ℕ) → IsTotalOrder (by_key key)
by_key_total key = on_total (key_of key) key_cmp_total

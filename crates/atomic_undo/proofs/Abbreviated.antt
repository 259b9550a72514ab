-- Where the abbreviated keys of two rows differ, they stand as the keys do: rows that are sorted by
-- them are sorted by their keys. Of values of one kind it is wanted alone that they are so, as
-- those of a column are that takes no NULL.
use Rattle.std.proofs.Common.{ℕ, pos, ◌≡◌, ◌<◌, ◌<ℤ◌, Bool, true, false, List, [], ◌∷◌, refl, sym}
use Rattle.std.proofs.Common.{ap, ◌∙◌, subst, arith, get_or, Ordering, Less, Equal, Greater}
use Rattle.std.proofs.lemmas.Cmp.{int_cmp_total}
use Rattle.std.specs.Cmp.{int_ranks, nat_cmp_is}
use Rattle.std.specs.Ordering.{MatchOrdering, int_cmp, ordering_then, ordering_reverse}
use Rattle.sql_values.specs.declared.value.Value.{Value}
use Rattle.sql_values.specs.declared.value.Value.TheVariants.{Null, Int, Str, Bool as Truth}
use Rattle.sql_values.specs.declared.value.SqlType.{SqlType}
use Rattle.sql_values.specs.declared.value.SqlType.TheVariants.{Integer, Varchar, Boolean}
use Rattle.sql_values.specs.Values.{is_null, text_cmp}
use Rattle.row_types.specs.Rows.{Row, rank, value_cmp, key_of, by_key, is_of}
use Rattle.row_types.proofs.Laws.{by_key_total}
use Rattle.atomic_undo.specs.Sorting.{abbreviated, abbreviated_key}

abbrev first_of : List ℕ → Row → Value
first_of key row = get_or (key_of key row) 0 Null

-- two values of a type that aren't NULL are of one kind
abbrev rank_of : SqlType → ℕ
rank_of Integer = 2
rank_of (Varchar most) = 3
rank_of Boolean = 1

ranked : (t : SqlType) (v : Value) → is_of t v ≡ true → is_null v ≡ false → rank v ≡ rank_of t
ranked t Null h n = cc
ranked Integer (Int z) h n = refl
ranked Integer (Str s) h n = cc
ranked Integer (Truth p) h n = cc
ranked (Varchar most) (Int z) h n = cc
ranked (Varchar most) (Str s) h n = refl
ranked (Varchar most) (Truth p) h n = cc
ranked Boolean (Int z) h n = cc
ranked Boolean (Str s) h n = cc
ranked Boolean (Truth p) h n = refl

pub of_one_kind : (t : SqlType) (v w : Value) → is_of t v ≡ true → is_null v ≡ false →
    is_of t w ≡ true → is_null w ≡ false → rank v ≡ rank w
of_one_kind t v w h n k m = ranked t v h n ∙ sym (ranked t w k m)

below : (c d : ℕ) → int_cmp (pos c) (pos d) ≡ Less → c < d
below c d h =
    let l : pos c <ℤ pos d = subst (λ o. MatchOrdering o (pos c <ℤ pos d) (pos c ≡ pos d)
    (pos d <ℤ pos c)) h (int_ranks (pos c) (pos d)) in
    grind arith

-- texts: the first characters decide where they differ
by_first : (s t : List ℕ) → int_cmp (pos (get_or s 0 0)) (pos (get_or t 0 0)) ≡ Less →
    text_cmp s t ≡ Less
by_first [] [] h = cc
by_first [] (d ∷ t) h = refl
by_first (c ∷ s) [] h = absurd (let l = below c 0 h in omega (arith, l))
by_first (c ∷ s) (d ∷ t) h = ap (λ r. ordering_then r (text_cmp s t))
    (sym (nat_cmp_is c d Less (below c d h)))

truths : (p q : Bool) → int_cmp (abbreviated (Truth p)) (abbreviated (Truth q)) ≡ Less →
    value_cmp (Truth p) (Truth q) ≡ Less
truths false false h = cc
truths false true h = refl
truths true false h = cc
truths true true h = cc

agrees : (v w : Value) → rank v ≡ rank w → int_cmp (abbreviated v) (abbreviated w) ≡ Less →
    value_cmp v w ≡ Less
agrees Null Null e h = cc
agrees (Truth p) (Truth q) e h = truths p q h
agrees (Int m) (Int n) e h = h
agrees (Str s) (Str t) e h = by_first s t h
agrees Null (Truth q) e h = cc
agrees Null (Int n) e h = cc
agrees Null (Str t) e h = cc
agrees (Truth p) Null e h = cc
agrees (Truth p) (Int n) e h = cc
agrees (Truth p) (Str t) e h = cc
agrees (Int m) Null e h = cc
agrees (Int m) (Truth q) e h = cc
agrees (Int m) (Str t) e h = cc
agrees (Str s) Null e h = cc
agrees (Str s) (Truth q) e h = cc
agrees (Str s) (Int n) e h = cc

less : (key : List ℕ) (a b : Row) → rank (first_of key a) ≡ rank (first_of key b) →
    int_cmp (abbreviated_key key a) (abbreviated_key key b) ≡ Less → by_key key a b ≡ Less
less [] a b e h = cc
less (i ∷ is) a b e h = ap (λ r. ordering_then r (by_key is a b))
    (agrees (get_or a i Null) (get_or b i Null) e h)

turned_back : (key : List ℕ) (a b : Row) → by_key key b a ≡ Less → by_key key a b ≡ Greater
turned_back key a b h = (by_key_total key).antisymm a b ∙ ap ordering_reverse h

told : (o r : Ordering) → (o ≡ Less → r ≡ Less) → (o ≡ Greater → r ≡ Greater) →
    ordering_then o r ≡ r
told Less r f g = sym (f refl)
told Equal r f g = refl
told Greater r f g = sym (g refl)

-- by the abbreviated keys, and where they tie by the keys, is by the keys
pub abbreviated_agrees : (key : List ℕ) (a b : Row) →
    rank (first_of key a) ≡ rank (first_of key b) →
    ordering_then (int_cmp (abbreviated_key key a) (abbreviated_key key b)) (by_key key a b) ≡
    by_key key a b
abbreviated_agrees key a b e = told (int_cmp (abbreviated_key key a) (abbreviated_key key b))
    (by_key key a b) (less key a b e)
    (λ g. turned_back key a b (less key b a (sym e)
    (int_cmp_total.antisymm (abbreviated_key key b) (abbreviated_key key a) ∙
    ap ordering_reverse g)))

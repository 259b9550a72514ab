-- The steps of a comparison of two keys.
use Rattle.std.proofs.Common.{arith, ℕ, ◌≡◌, ◌<◌, ◌+◌, ◌≤◌, List, [], ◌∷◌, refl, sym, ap, ◌∙◌}
use Rattle.std.proofs.Common.{get_or, drop, length, Some, None, slice_get, Ordering, Less, Equal}
use Rattle.std.proofs.Common.{Greater, unwrap_or, Bool, true, false, not, ◌==◌}
use Rattle.std.proofs.lemmas.Option.{unwrap_or-slice_get}
use Rattle.std.proofs.lemmas.List.{at_drop_more, at_drop_all, drop_more, drop_all}
use Rattle.std.specs.Ordering.{ordering_then, ordering_index}
use Rattle.sql_values.specs.declared.value.Value.{Value}
use Rattle.sql_values.specs.declared.value.Value.TheVariants.{Null}
use Rattle.row_types.specs.Rows.{Row, value_cmp, by_key, to_key}

pub some_there : (row : Row) (place : ℕ) (x : Value) → Some x ≡ slice_get row place →
    x ≡ get_or row place Null
some_there row place x h = ap (λ o. unwrap_or o Null) h ∙ unwrap_or-slice_get row place Null

pub none_there : (row : Row) (place : ℕ) → None ≡ slice_get row place → Null ≡ get_or row place Null
none_there row place h = ap (λ o. unwrap_or o Null) h ∙ unwrap_or-slice_get row place Null

at_place : (key : List ℕ) (a b : Row) (i : ℕ) → i < length key →
    by_key (drop i key) a b ≡ ordering_then (value_cmp (get_or a (get_or key i 0) Null)
    (get_or b (get_or key i 0) Null)) (by_key (drop (i + 1) key) a b)
at_place key a b i l = at_drop_more (λ ks. by_key ks a b) key i 0 l

pub same_at : (key : List ℕ) (a b : Row) (i : ℕ) → i < length key →
    value_cmp (get_or a (get_or key i 0) Null) (get_or b (get_or key i 0) Null) ≡ Equal →
    by_key (drop i key) a b ≡ by_key (drop (i + 1) key) a b
same_at key a b i l h = at_place key a b i l ∙
    ap (λ r. ordering_then r (by_key (drop (i + 1) key) a b)) h

told : (r s : Ordering) → (r ≡ Equal → ⊥) → ordering_then r s ≡ r
told Less s f = refl
told Equal s f = absurd (f refl)
told Greater s f = refl

pub other_at : (key : List ℕ) (a b : Row) (i : ℕ) → i < length key →
    (value_cmp (get_or a (get_or key i 0) Null) (get_or b (get_or key i 0) Null) ≡ Equal → ⊥) →
    by_key (drop i key) a b ≡ value_cmp (get_or a (get_or key i 0) Null)
    (get_or b (get_or key i 0) Null)
other_at key a b i l f = at_place key a b i l ∙
    told (value_cmp (get_or a (get_or key i 0) Null) (get_or b (get_or key i 0) Null))
    (by_key (drop (i + 1) key) a b) f

pub no_more : (key : List ℕ) (a b : Row) (i : ℕ) → length key ≤ i → by_key (drop i key) a b ≡ Equal
no_more key a b i l = at_drop_all (λ ks. by_key ks a b) key i l

-- what a test of an order says
pub tested_same : (r : Ordering) (b : Bool) → b ≡ not (ordering_index r == 1) → b ≡ false →
    r ≡ Equal
tested_same Less b h k = cc
tested_same Equal b h k = refl
tested_same Greater b h k = cc

pub tested_other : (r : Ordering) (b : Bool) → b ≡ not (ordering_index r == 1) → b ≡ true →
    r ≡ Equal → ⊥
tested_other Less b h k e = cc
tested_other Equal b h k e = cc
tested_other Greater b h k e = cc

-- the same of a row and a key
to_place : (key : List ℕ) (sought : List Value) (row : Row) (i : ℕ) (v : Value) →
    i < length sought → length key ≡ length sought → v ≡ get_or sought i v →
    to_key (drop i key) (drop i sought) row ≡ ordering_then
    (value_cmp (get_or row (get_or key i 0) Null) v)
    (to_key (drop (i + 1) key) (drop (i + 1) sought) row)
to_place key sought row i v l e h =
    let k : i < length key = omega arith in
    ap (λ ks. to_key ks (drop i sought) row) (drop_more key i 0 k)
    ∙ ap (λ vs. to_key (get_or key i 0 ∷ drop (i + 1) key) vs row)
    (drop_more sought i v l ∙ ap (λ w. w ∷ drop (i + 1) sought) (sym h))

pub same_to : (key : List ℕ) (sought : List Value) (row : Row) (i : ℕ) (v : Value) →
    i < length sought → length key ≡ length sought → v ≡ get_or sought i v →
    value_cmp (get_or row (get_or key i 0) Null) v ≡ Equal →
    to_key (drop i key) (drop i sought) row ≡ to_key (drop (i + 1) key) (drop (i + 1) sought)
    row
same_to key sought row i v l e h q = to_place key sought row i v l e h ∙
    ap (λ r. ordering_then r (to_key (drop (i + 1) key) (drop (i + 1) sought) row)) q

pub other_to : (key : List ℕ) (sought : List Value) (row : Row) (i : ℕ) (v : Value) →
    i < length sought → length key ≡ length sought → v ≡ get_or sought i v →
    (value_cmp (get_or row (get_or key i 0) Null) v ≡ Equal → ⊥) →
    to_key (drop i key) (drop i sought) row ≡ value_cmp (get_or row (get_or key i 0) Null) v
other_to key sought row i v l e h f = to_place key sought row i v l e h ∙
    told (value_cmp (get_or row (get_or key i 0) Null) v)
    (to_key (drop (i + 1) key) (drop (i + 1) sought) row) f

pub no_more_to : (key : List ℕ) (sought : List Value) (row : Row) (i : ℕ) → length sought ≤ i →
    length key ≡ length sought → to_key (drop i key) (drop i sought) row ≡ Equal
no_more_to key sought row i l e =
    ap (λ ks. to_key ks (drop i sought) row) (drop_all i key (omega arith)) ∙
    ap (λ vs. to_key [] vs row) (drop_all i sought l)

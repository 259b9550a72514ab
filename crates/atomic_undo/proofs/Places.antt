-- Tables at places.
use Rattle.std.proofs.Common.{ℕ, zero, suc, ◌≡◌, ◌<◌, List, [], ◌∷◌, refl, ap, ◌∙◌, arith, length}
use Rattle.std.proofs.Common.{le_trans}
use Rattle.row_types.specs.Rows.{Row}
use Rattle.row_types.specs.Tables.{Table, Tables, table_at, with_table, with_rows, with_rows_at}
use Rattle.table_store.specs.Memory.{NoLess}

pub length-with : (t : ℕ) (x : Table) (ts : Tables) → length (with_table t x ts) ≡ length ts
length-with t x [] = refl
length-with zero x (s ∷ ss) = refl
length-with (suc t) x (s ∷ ss) = ap suc (length-with t x ss)

pub at-with : (t : ℕ) (x : Table) (ts : Tables) → t < length ts → table_at (with_table t x ts) t ≡ x
at-with t x [] l = absurd (omega arith)
at-with zero x (s ∷ ss) l = refl
at-with (suc t) x (s ∷ ss) l = at-with t x ss (omega arith)

pub with-with : (t : ℕ) (x y : Table) (ts : Tables) →
    with_table t y (with_table t x ts) ≡ with_table t y ts
with-with t x y [] = refl
with-with zero x y (s ∷ ss) = refl
with-with (suc t) x y (s ∷ ss) = ap (λ (us : Tables). s ∷ us) (with-with t x y ss)

pub with-at : (t : ℕ) (ts : Tables) → with_table t (table_at ts t) ts ≡ ts
with-at t [] = refl
with-at zero (s ∷ ss) = refl
with-at (suc t) (s ∷ ss) = ap (λ (us : Tables). s ∷ us) (with-at t ss)

-- the rows of a table that was given rows
pub rows-with : (t : ℕ) (rows : List Row) (ts : Tables) → t < length ts →
    table_at (with_rows_at t rows ts) t ≡ with_rows rows (table_at ts t)
rows-with t rows ts l = at-with t (with_rows rows (table_at ts t)) ts l

pub rows_at-rows_at : (t : ℕ) (rows more : List Row) (ts : Tables) → t < length ts →
    with_rows_at t more (with_rows_at t rows ts) ≡ with_rows_at t more ts
rows_at-rows_at t rows more ts l =
    ap (λ (x : Table). with_table t (with_rows more x) (with_rows_at t rows ts))
    (rows-with t rows ts l) ∙ with-with t (with_rows rows (table_at ts t))
    (with_rows more (table_at ts t)) ts

pub rows_at-same : (t : ℕ) (ts : Tables) → with_rows_at t (table_at ts t).rows ts ≡ ts
rows_at-same t ts = with-at t ts

pub no_less-trans : (ls ms ns : List ℕ) → NoLess ls ms → NoLess ms ns → NoLess ls ns
no_less-trans ls ms ns h k at = le_trans (h at) (k at)

pub no_less-refl : (ns : List ℕ) → NoLess ns ns
no_less-refl ns at = omega arith

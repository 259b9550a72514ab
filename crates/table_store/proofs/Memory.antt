-- Tables as they lie in a list of named ones.
use Rattle.std.proofs.Common.{ℕ, zero, suc, ◌≡◌, ◌<◌, ◌≤◌, List, [], ◌∷◌, refl, sym, ap, ◌∙◌, subst}
use Rattle.std.proofs.Common.{arith, map, get_or, length, slice_get, Some, unwrap_or}
use Rattle.indexmap.specs.IndexMap.{set_value_at}
use Rattle.row_types.specs.Rows.{Row}
use Rattle.row_types.specs.Tables.{Table, Tables, table_at, with_table, with_rows, with_rows_at}
use Rattle.table_store.specs.Kept.{Kept}
use Rattle.table_store.specs.Memory.{Named, Memory, stored_of, capacity_of, memory_of, kept_at}
use Rattle.table_store.specs.Memory.{NoLess}

abbrev pub kept_of : List Named → List Kept
kept_of ns = map (λ (n : Named). n.1) ns

same_some : (k l : Kept) → Some k ≡ Some l → k ≡ l
same_some k l h = ap (λ o. unwrap_or o k) h

table_there : (ns : List Named) (t : ℕ) (k : Kept) → slice_get (kept_of ns) t ≡ Some k →
    table_at (map stored_of ns) t ≡ k.table
table_there [] t k h = cc
table_there (n ∷ ns) zero k h = ap (λ (x : Kept). x.table) (same_some n.1 k h)
table_there (n ∷ ns) (suc t) k h = table_there ns t k h

capacity_there : (ns : List Named) (t : ℕ) (k : Kept) → slice_get (kept_of ns) t ≡ Some k →
    get_or (map capacity_of ns) t 0 ≡ k.capacity
capacity_there [] t k h = cc
capacity_there (n ∷ ns) zero k h = ap (λ (x : Kept). x.capacity) (same_some n.1 k h)
capacity_there (n ∷ ns) (suc t) k h = capacity_there ns t k h

kept_there : (ns : List Named) (t : ℕ) (k : Kept) → slice_get (kept_of ns) t ≡ Some k →
    kept_at (memory_of ns) t ≡ k
kept_there ns t k h = λ i. record {
  table = table_there ns t k h i;
  capacity =
      capacity_there ns t k h i;
}

set_there : (ns : List Named) (t : ℕ) (k : Kept) (x : Table) → k.table ≡ x →
    map stored_of (set_value_at ns t k) ≡ with_table t x (map stored_of ns)
set_there [] t k x h = refl
set_there (n ∷ ns) zero k x h = λ i. record { name = n.0; table = h i } ∷ map stored_of ns
set_there (n ∷ ns) (suc t) k x h = ap (λ (ss : Tables). stored_of n ∷ ss) (set_there ns t k x h)

same_there : (ns : List Named) (t : ℕ) (k l : Kept) → slice_get (kept_of ns) t ≡ Some k →
    l.table ≡ k.table → map stored_of (set_value_at ns t l) ≡ map stored_of ns
same_there [] t k l h e = refl
same_there (n ∷ ns) zero k l h e =
    let s : l.table ≡ n.1.table = e ∙ ap (λ (x : Kept). x.table) (sym (same_some n.1 k h)) in
    λ i. record { name = n.0; table = s i } ∷ map stored_of ns
same_there (n ∷ ns) (suc t) k l h e = ap (λ (ss : Tables). stored_of n ∷ ss)
    (same_there ns t k l h e)

no_less_there : (ns : List Named) (t : ℕ) (k l : Kept) → slice_get (kept_of ns) t ≡ Some k →
    k.capacity ≤ l.capacity → NoLess (map capacity_of ns) (map capacity_of (set_value_at ns t l))
no_less_there [] t k l h c at = omega arith
no_less_there (n ∷ ns) zero k l h c zero = subst (λ (x : Kept). x.capacity ≤ l.capacity)
    (sym (same_some n.1 k h)) c
no_less_there (n ∷ ns) zero k l h c (suc at) = omega arith
no_less_there (n ∷ ns) (suc t) k l h c zero = omega arith
no_less_there (n ∷ ns) (suc t) k l h c (suc at) = no_less_there ns t k l h c at

value_there : (ns : List Named) (t : ℕ) (k l : Kept) → slice_get (kept_of ns) t ≡ Some k →
    slice_get (kept_of (set_value_at ns t l)) t ≡ Some l
value_there [] t k l h = cc
value_there (n ∷ ns) zero k l h = refl
value_there (n ∷ ns) (suc t) k l h = value_there ns t k l h

-- ---- the same, told of the value that contracts see

pub length-stored : (ns : List Named) → length (map stored_of ns) ≡ length ns
length-stored [] = refl
length-stored (n ∷ ns) = ap suc (length-stored ns)

pub within : (ns : List Named) (m : Memory) (t : ℕ) → memory_of ns ≡ m → t < length m.tables →
    t < length ns
within ns m t e l =
    let h : length (map stored_of ns) ≡ length m.tables = ap (λ (x : Memory). length x.tables) e in
    omega (arith, length-stored ns)

pub kept_is : (ns : List Named) (m : Memory) (t : ℕ) (k : Kept) → memory_of ns ≡ m →
    slice_get (kept_of ns) t ≡ Some k → kept_at m t ≡ k
kept_is ns m t k e h = ap (λ (x : Memory). kept_at x t) (sym e) ∙ kept_there ns t k h

pub tables_are : (F : List Row → List Row) (ns : List Named) (m : Memory) (t : ℕ) (k l : Kept) →
    memory_of ns ≡ m → slice_get (kept_of ns) t ≡ Some k
    → l.table ≡ with_rows (F k.table.rows) k.table → map stored_of (set_value_at ns t l) ≡
    with_rows_at t (F (table_at m.tables t).rows) m.tables
tables_are F ns m t k l e h b =
    let s : k.table ≡ table_at m.tables t = sym (ap (λ (x : Kept). x.table) (kept_is ns m t k e h))
    in
    set_there ns t l (with_rows (F (table_at m.tables t).rows) (table_at m.tables t))
    (b ∙ ap (λ (x : Table). with_rows (F x.rows) x) s)
    ∙ ap (λ (x : Memory). with_table t (with_rows (F (table_at m.tables t).rows)
    (table_at m.tables t)) x.tables) e

pub tables_stay : (ns : List Named) (m : Memory) (t : ℕ) (k l : Kept) → memory_of ns ≡ m →
    slice_get (kept_of ns) t ≡ Some k → l.table ≡ k.table
    → map stored_of (set_value_at ns t l) ≡ m.tables
tables_stay ns m t k l e h b = same_there ns t k l h b ∙ ap (λ (x : Memory). x.tables) e

pub no_less_is : (ns : List Named) (m : Memory) (t : ℕ) (k l : Kept) → memory_of ns ≡ m →
    slice_get (kept_of ns) t ≡ Some k → k.capacity ≤ l.capacity
    → NoLess m.capacities (map capacity_of (set_value_at ns t l))
no_less_is ns m t k l e h c = subst (λ (x : Memory). NoLess x.capacities
    (map capacity_of (set_value_at ns t l))) e (no_less_there ns t k l h c)

-- what the table at the place is then
pub kept_then : (ns : List Named) (t : ℕ) (k l : Kept) → slice_get (kept_of ns) t ≡ Some k →
    kept_at (memory_of (set_value_at ns t l)) t ≡ l
kept_then ns t k l h = kept_there (set_value_at ns t l) t l (value_there ns t k l h)

-- Tables by their names and tables by their places.
use Rattle.std.proofs.Common.{ℕ, zero, suc, ◌≡◌, ◌<◌, List, [], ◌∷◌, refl, sym, ap, ◌∙◌, arith}
use Rattle.std.proofs.Common.{cond, option_map, Option, Some, None, length, remove, ⊎_elim, true}
use Rattle.std.proofs.Common.{false}
use Rattle.std.proofs.lemmas.Bool.{cases_Bool}
use Rattle.std.specs.Str.{bytes_eq}
use Rattle.row_types.specs.Rows.{Row}
use Rattle.row_types.specs.Tables.{Table, Tables, Stored, names_of, with_rows, table_named}
use Rattle.row_types.specs.Tables.{rows_named, rows_of, with_table_named, with_rows_named}
use Rattle.row_types.specs.Tables.{without_table_named, place_named, table_at, with_table}
use Rattle.row_types.specs.Tables.{with_rows_at}

none_past : (o : Option ℕ) → option_map suc o ≡ None → o ≡ None
none_past None e = refl
none_past (Some i) e = cc

some_past : (o : Option ℕ) (i : ℕ) → option_map suc o ≡ Some i → (j : ℕ) × (o ≡ Some j) ×
    (i ≡ suc j)
some_past None i e = cc
some_past (Some j) i e = (j, refl, cc)

-- ---- the first table has the name, or another

module _ (name : List ℕ) (s : Stored) (ss : Tables) where
  place_here : bytes_eq s.name name ≡ true → place_named name (s ∷ ss) ≡ Some 0
  place_here e = ap (λ b. cond b (Some 0) (option_map suc (place_named name ss))) e

  place_after : bytes_eq s.name name ≡ false →
      place_named name (s ∷ ss) ≡ option_map suc (place_named name ss)
  place_after e = ap (λ b. cond b (Some 0) (option_map suc (place_named name ss))) e

  table_here : bytes_eq s.name name ≡ true → table_named name (s ∷ ss) ≡ Some s.table
  table_here e = ap (λ b. cond b (Some s.table) (table_named name ss)) e

  table_after : bytes_eq s.name name ≡ false → table_named name (s ∷ ss) ≡ table_named name ss
  table_after e = ap (λ b. cond b (Some s.table) (table_named name ss)) e

  less_here : bytes_eq s.name name ≡ true → without_table_named name (s ∷ ss) ≡ ss
  less_here e = ap (λ b. cond b ss (s ∷ without_table_named name ss)) e

  less_after : bytes_eq s.name name ≡ false →
      without_table_named name (s ∷ ss) ≡ s ∷ without_table_named name ss
  less_after e = ap (λ b. cond b ss (s ∷ without_table_named name ss)) e

  set_here : (t : Table) → bytes_eq s.name name ≡ true →
      with_table_named name t (s ∷ ss) ≡ record { name = s.name; table = t } ∷ ss
  set_here t e = ap (λ b. cond b (record { name = s.name; table = t } ∷ ss)
      (s ∷ with_table_named name t ss)) e

  set_after : (t : Table) → bytes_eq s.name name ≡ false →
      with_table_named name t (s ∷ ss) ≡ s ∷ with_table_named name t ss
  set_after t e = ap (λ b. cond b (record { name = s.name; table = t } ∷ ss)
      (s ∷ with_table_named name t ss)) e

  rows_here : (rows : List Row) → bytes_eq s.name name ≡ true → with_rows_named name rows (s ∷ ss) ≡
      record { name = s.name; table = with_rows rows s.table } ∷ ss
  rows_here rows e = ap (λ b. cond b (record { name = s.name; table = with_rows rows s.table } ∷ ss)
      (s ∷ with_rows_named name rows ss)) e

  rows_after : (rows : List Row) → bytes_eq s.name name ≡ false →
      with_rows_named name rows (s ∷ ss) ≡ s ∷ with_rows_named name rows ss
  rows_after rows e =
      ap (λ b. cond b (record { name = s.name; table = with_rows rows s.table } ∷ ss)
      (s ∷ with_rows_named name rows ss)) e

  -- a name that stands further on stands one place further on
  after_some : (i : ℕ) → bytes_eq s.name name ≡ false → place_named name (s ∷ ss) ≡ Some i →
      (j : ℕ) × (place_named name ss ≡ Some j) × (i ≡ suc j)
  after_some i e h = some_past (place_named name ss) i (sym (place_after e) ∙ h)

  after_none : bytes_eq s.name name ≡ false → place_named name (s ∷ ss) ≡ None →
      place_named name ss ≡ None
  after_none e h = none_past (place_named name ss) (sym (place_after e) ∙ h)

  here_first : (i : ℕ) → bytes_eq s.name name ≡ true → place_named name (s ∷ ss) ≡ Some i → 0 ≡ i
  here_first i e h = let z : Some 0 ≡ Some i = sym (place_here e) ∙ h in cc

  not_none : {P : Type 0} → bytes_eq s.name name ≡ true → place_named name (s ∷ ss) ≡ None → P
  not_none e h = let z = sym (place_here e) ∙ h in cc

-- ---- a name that stands at a place

pub place_named-within : (name : List ℕ) (ts : Tables) (i : ℕ) → place_named name ts ≡ Some i →
    i < length ts
place_named-within name [] i h = cc
place_named-within name (s ∷ ss) i h = ⊎_elim
    (λ e. let at = here_first name s ss i e h in omega arith)
    (λ e. let l = after_some name s ss i e h in
    let w : l.0 < length ss = place_named-within name ss l.0 l.1 in let at = l.2 in omega arith)
    (cases_Bool (bytes_eq s.name name))

pub table_named-at : (name : List ℕ) (ts : Tables) (i : ℕ) → place_named name ts ≡ Some i →
    table_named name ts ≡ Some (table_at ts i)
table_named-at name [] i h = cc
table_named-at name (s ∷ ss) i h = ⊎_elim
    (λ e. table_here name s ss e ∙ ap (λ j. Some (table_at (s ∷ ss) j))
    (here_first name s ss i e h))
    (λ e. let l = after_some name s ss i e h in table_after name s ss e ∙
    table_named-at name ss l.0 l.1 ∙ ap (λ j. Some (table_at (s ∷ ss) j)) (sym l.2))
    (cases_Bool (bytes_eq s.name name))

pub with_table_named-at : (name : List ℕ) (t : Table) (ts : Tables) (i : ℕ) →
    place_named name ts ≡ Some i → with_table_named name t ts ≡ with_table i t ts
with_table_named-at name t [] i h = cc
with_table_named-at name t (s ∷ ss) i h = ⊎_elim
    (λ e. set_here name s ss t e ∙ ap (λ j. with_table j t (s ∷ ss)) (here_first name s ss i e h))
    (λ e.
    let l = after_some name s ss i e h in
    set_after name s ss t e ∙ ap (λ (xs : Tables). s ∷ xs) (with_table_named-at name t ss l.0 l.1) ∙
    ap (λ j. with_table j t (s ∷ ss)) (sym l.2))
    (cases_Bool (bytes_eq s.name name))

pub with_rows_named-at : (name : List ℕ) (rows : List Row) (ts : Tables) (i : ℕ) →
    place_named name ts ≡ Some i → with_rows_named name rows ts ≡ with_rows_at i rows ts
with_rows_named-at name rows [] i h = cc
with_rows_named-at name rows (s ∷ ss) i h = ⊎_elim
    (λ e. rows_here name s ss rows e ∙ ap (λ j. with_rows_at j rows (s ∷ ss))
    (here_first name s ss i e h))
    (λ e.
    let l = after_some name s ss i e h in
    rows_after name s ss rows e ∙ ap (λ (xs : Tables). s ∷ xs)
    (with_rows_named-at name rows ss l.0 l.1) ∙
    ap (λ j. with_rows_at j rows (s ∷ ss)) (sym l.2))
    (cases_Bool (bytes_eq s.name name))

pub without_table_named-at : (name : List ℕ) (ts : Tables) (i : ℕ) → place_named name ts ≡ Some i →
    without_table_named name ts ≡ remove ts i
without_table_named-at name [] i h = cc
without_table_named-at name (s ∷ ss) i h = ⊎_elim
    (λ e. less_here name s ss e ∙ ap (remove (s ∷ ss)) (here_first name s ss i e h))
    (λ e.
    let l = after_some name s ss i e h in
    less_after name s ss e ∙ ap (λ (xs : Tables). s ∷ xs) (without_table_named-at name ss l.0 l.1) ∙
    ap (remove (s ∷ ss)) (sym l.2))
    (cases_Bool (bytes_eq s.name name))

-- ---- a name that stands nowhere

pub table_named-none : (name : List ℕ) (ts : Tables) → place_named name ts ≡ None →
    table_named name ts ≡ None
table_named-none name [] h = refl
table_named-none name (s ∷ ss) h = ⊎_elim
    (λ e. not_none name s ss e h)
    (λ e. table_after name s ss e ∙ table_named-none name ss (after_none name s ss e h))
    (cases_Bool (bytes_eq s.name name))

pub with_table_named-none : (name : List ℕ) (t : Table) (ts : Tables) → place_named name ts ≡ None →
    with_table_named name t ts ≡ ts
with_table_named-none name t [] h = refl
with_table_named-none name t (s ∷ ss) h = ⊎_elim
    (λ e. not_none name s ss e h)
    (λ e. set_after name s ss t e ∙ ap (λ (xs : Tables). s ∷ xs)
    (with_table_named-none name t ss (after_none name s ss e h)))
    (cases_Bool (bytes_eq s.name name))

pub with_rows_named-none : (name : List ℕ) (rows : List Row) (ts : Tables) →
    place_named name ts ≡ None → with_rows_named name rows ts ≡ ts
with_rows_named-none name rows [] h = refl
with_rows_named-none name rows (s ∷ ss) h = ⊎_elim
    (λ e. not_none name s ss e h)
    (λ e. rows_after name s ss rows e ∙ ap (λ (xs : Tables). s ∷ xs)
    (with_rows_named-none name rows ss (after_none name s ss e h)))
    (cases_Bool (bytes_eq s.name name))

pub without_table_named-none : (name : List ℕ) (ts : Tables) → place_named name ts ≡ None →
    without_table_named name ts ≡ ts
without_table_named-none name [] h = refl
without_table_named-none name (s ∷ ss) h = ⊎_elim
    (λ e. not_none name s ss e h)
    (λ e. less_after name s ss e ∙ ap (λ (xs : Tables). s ∷ xs)
    (without_table_named-none name ss (after_none name s ss e h)))
    (cases_Bool (bytes_eq s.name name))

-- ---- names stay where a table is replaced

pub names_of-with_table : (i : ℕ) (t : Table) (ts : Tables) →
    names_of (with_table i t ts) ≡ names_of ts
names_of-with_table i t [] = refl
names_of-with_table zero t (s ∷ ss) = refl
names_of-with_table (suc i) t (s ∷ ss) = ap (λ (xs : List (List ℕ)). s.name ∷ xs)
    (names_of-with_table i t ss)

pub place_named-with_table : (name : List ℕ) (i : ℕ) (t : Table) (ts : Tables) →
    place_named name (with_table i t ts) ≡ place_named name ts
place_named-with_table name i t [] = refl
place_named-with_table name zero t (s ∷ ss) = refl
place_named-with_table name (suc i) t (s ∷ ss) =
    ap (λ o. cond (bytes_eq s.name name) (Some 0) (option_map suc o))
    (place_named-with_table name i t ss)

pub table_at-with_table : (i : ℕ) (t : Table) (ts : Tables) → i < length ts →
    table_at (with_table i t ts) i ≡ t
table_at-with_table i t [] l = absurd (omega arith)
table_at-with_table zero t (s ∷ ss) l = refl
table_at-with_table (suc i) t (s ∷ ss) l = table_at-with_table i t ss (omega arith)

pub table_at-other : (i j : ℕ) (t : Table) (ts : Tables) → ¬ (i ≡ j) →
    table_at (with_table i t ts) j ≡ table_at ts j
table_at-other i j t [] n = refl
table_at-other zero zero t (s ∷ ss) n = absurd (n refl)
table_at-other zero (suc j) t (s ∷ ss) n = refl
table_at-other (suc i) zero t (s ∷ ss) n = refl
table_at-other (suc i) (suc j) t (s ∷ ss) n = table_at-other i j t ss (λ e. n (ap suc e))

-- the rows of a name, by its place
pub rows_named-at : (name : List ℕ) (ts : Tables) (i : ℕ) → place_named name ts ≡ Some i →
    rows_named name ts ≡ (table_at ts i).rows
rows_named-at name ts i h = ap rows_of (table_named-at name ts i h)

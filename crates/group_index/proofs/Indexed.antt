-- A row more in the group of its key.
use Rattle.std.proofs.Common.{◌≡◌, ℕ, zero, suc, ◌+◌, ◌<◌, ◌≤◌, Bool, true, false, List, [], ◌∷◌}
use Rattle.std.proofs.Common.{◌++◌, Some, None, cond, if◌then◌else◌, position, slice_get, filter}
use Rattle.std.proofs.Common.{length, map, drop, get_or, refl, sym, ap, ◌∙◌, ⊎_elim, arith}
use Rattle.std.proofs.lemmas.Bool.{cases_Bool}
use Rattle.std.proofs.lemmas.List.{append-nil, append_assoc, drop_more, drop_all}
use Rattle.std.proofs.lemmas.Iterator.Adapters.{position_from-zero}
use Rattle.std.specs.List.{position_from}
use Rattle.std.specs.Option.{option_map}
use Rattle.std.specs.Map.{keys_of, values_of, lookup}
use Rattle.indexmap.specs.IndexMap.{insert_entry, set_value_at}
use Rattle.sql_conditions.specs.Conditions.{Area}
use Rattle.row_types.specs.declared.cell.Cell.{Cell}
use Rattle.row_types.specs.declared.cell.Cell.TheVariants.{Val, Cond}
use Rattle.row_types.specs.Cells.{PlanRow, cell_at}
use Rattle.row_types.specs.Rows.{Row}
use Rattle.row_types.specs.Groups.{same_row}
use Rattle.row_types.specs.SameKeys.{same_row_Decides, same_row_equiv}
use Rattle.group_index.specs.Indexed.{cells_at_places, values_in, group_of, pushed_at}

abbrev Entries : Type 0
Entries = List (Row × List PlanRow)

pub replaced : (es : Entries) (at : ℕ) (row : PlanRow) (x new : List PlanRow) →
    slice_get (values_of es) at ≡ Some x → new ≡ x ++ row ∷ [] →
    set_value_at es at new ≡ pushed_at at row es
replaced [] at row x new h n = refl
replaced (e ∷ es) zero row x new h n = let s : e.1 ≡ x = cc in
    ap (λ (k : List PlanRow). (e.0, k) ∷ es) (n ∙ ap (λ (k : List PlanRow). k ++ row ∷ []) (sym s))
replaced (e ∷ es) (suc at) row x new h n = ap (λ (fs : Entries). e ∷ fs)
    (replaced es at row x new h n)

-- one row where it has the key
abbrev pub one_where : Bool → PlanRow → List PlanRow
one_where b row = if b then row ∷ [] else []

abbrev first : Bool → List PlanRow → List PlanRow → List PlanRow
first b here rest = if b then here else rest

module _ (key : Row) (row : PlanRow) (q : Row) where
  -- the group has the key
  same : (k : Row) (here rest : List PlanRow) → same_row key k ≡ true → (b : Bool) →
      same_row q k ≡ b → first b (here ++ row ∷ []) rest ≡ first b here rest ++ one_where
      (same_row key q) row
  same k here rest t true h =
      let e : key ≡ k = (same_row_Decides key k).0 t in
      let f : q ≡ k = (same_row_Decides q k).0 h in
      ap (λ b. here ++ one_where b row) (sym ((same_row_Decides key q).1 (e ∙ sym f)))
  same k here rest t false h =
      let e : key ≡ k = (same_row_Decides key k).0 t in
      let g : same_row key q ≡ false = same_row_equiv.symm key q ∙ (ap (same_row q) e ∙ h) in
      sym (append-nil rest) ∙ ap (λ b. rest ++ one_where b row) (sym g)

  -- it has another key
  other : (k : Row) (here new rest : List PlanRow) → same_row key k ≡ false →
      new ≡ rest ++ one_where (same_row key q) row → (b : Bool) → same_row q k ≡ b →
      first b here new ≡ first b here rest ++ one_where (same_row key q) row
  other k here new rest t n true h =
      let f : q ≡ k = (same_row_Decides q k).0 h in
      let g : same_row key q ≡ false = ap (same_row key) f ∙ t in
      sym (append-nil here) ∙ ap (λ b. here ++ one_where b row) (sym g)
  other k here new rest t n false h = n

  pushed_from : (n : ℕ) (es : Entries) (at : ℕ) →
      position_from (same_row key) n (keys_of es) ≡ Some at →
      (i : ℕ) × (at ≡ n + i) × (group_of q (pushed_at i row es) ≡ group_of q es ++ one_where
      (same_row key q) row)
  pushed_from n [] at h = cc
  pushed_from n (e ∷ es) at h = ⊎_elim
      (λ t.
      let s : Some n ≡ Some at = ap (λ b. cond b (Some n)
      (position_from (same_row key) (n + 1) (keys_of es))) (sym t) ∙ h in
      let m : n ≡ at = cc in
      (0, omega (arith, m), same e.0 e.1 (group_of q es) t (same_row q e.0) refl))
      (λ f.
      let l = pushed_from (n + 1) es at
      (ap (λ b. cond b (Some n) (position_from (same_row key) (n + 1) (keys_of es))) (sym f) ∙
      h) in
      let m : at ≡ n + 1 + l.0 = l.1 in (
        suc l.0,
        omega (arith, m),
        other e.0 e.1 (group_of q (pushed_at l.0 row es))
            (group_of q es) f l.2 (same_row q e.0) refl,
      ))
      (cases_Bool (same_row key e.0))

  pub pushed : (es : Entries) (at : ℕ) → Some at ≡ position (same_row key) (keys_of es) →
      group_of q (pushed_at at row es) ≡ group_of q es ++ one_where (same_row key q) row
  pushed es at h =
      let l = pushed_from 0 es at (sym (position_from-zero (same_row key) (keys_of es)) ∙ sym h) in
      let m : at ≡ 0 + l.0 = l.1 in
      let e : at ≡ l.0 = omega (arith, m) in
      ap (λ i. group_of q (pushed_at i row es)) e ∙ l.2

  alone : (b : Bool) → same_row q key ≡ b → first b (row ∷ []) [] ≡ one_where (same_row key q) row
  alone b h = ap (λ c. one_where c row) (sym h ∙ same_row_equiv.symm q key)

  missing_from : (n : ℕ) (es : Entries) → position_from (same_row key) n (keys_of es) ≡ None →
      group_of q (insert_entry same_row es key (row ∷ [])) ≡ group_of q es ++ one_where
      (same_row key q) row
  missing_from n [] h = alone (same_row q key) refl
  missing_from n (e ∷ es) h = ⊎_elim
      (λ t. let s : Some n ≡ None = ap (λ b. cond b (Some n) (position_from (same_row key) (n + 1) (keys_of es))) (sym t) ∙ h in cc)
      (λ f.
      let rest =
      missing_from (n + 1) es
      (ap (λ b. cond b (Some n) (position_from (same_row key) (n + 1) (keys_of es))) (sym f) ∙
      h) in
      ap (λ b. group_of q (if b then (e.0, row ∷ []) ∷ es else e ∷ insert_entry same_row es key
      (row ∷ []))) f
      ∙ other e.0 e.1 (group_of q (insert_entry same_row es key (row ∷ []))) (group_of q es) f rest
      (same_row q e.0) refl)
      (cases_Bool (same_row key e.0))

  pub missing : (es : Entries) → None ≡ position (same_row key) (keys_of es) →
      group_of q (insert_entry same_row es key (row ∷ [])) ≡ group_of q es ++ one_where
      (same_row key q) row
  missing es h = missing_from 0 es (sym (position_from-zero (same_row key) (keys_of es)) ∙ sym h)

-- ---- keys of cells

pub all_values : (vs : Row) → values_in (map Val vs) ≡ Some vs
all_values [] = refl
all_values (v ∷ vs) = ap (option_map (λ (xs : Row). v ∷ xs)) (all_values vs)

pub one_raises : (vs : Row) (area : Area) (cells : List Cell) →
    values_in (map Val vs ++ Cond area ∷ cells) ≡ None
one_raises [] area cells = refl
one_raises (v ∷ vs) area cells = ap (option_map (λ (xs : Row). v ∷ xs)) (one_raises vs area cells)

pub raised_at : (row : List Cell) (columns : List ℕ) (key : Row) (i : ℕ) (area : Area) →
    i < length columns → Cond area ≡ cell_at row (get_or columns i 0) →
    map Val key ++ cells_at_places row (drop i columns) ≡ cells_at_places row columns →
    None ≡ values_in (cells_at_places row columns)
raised_at row columns key i area l h k =
    let at : drop i columns ≡ get_or columns i 0 ∷ drop (i + 1) columns = drop_more columns i 0 l in
    sym (ap values_in (sym k ∙ ap (λ (is : List ℕ). map Val key ++ cells_at_places row is) at ∙
    ap (λ (c : Cell). map Val key ++ c ∷ cells_at_places row (drop (i + 1) columns)) (sym h))
    ∙ one_raises key area (cells_at_places row (drop (i + 1) columns)))

pub all_taken : (row : List Cell) (columns : List ℕ) (key : Row) (i : ℕ) → length columns ≤ i →
    map Val key ++ cells_at_places row (drop i columns) ≡ cells_at_places row columns →
    Some key ≡ values_in (cells_at_places row columns)
all_taken row columns key i l k =
    sym (ap values_in (sym k ∙ ap (λ (is : List ℕ). map Val key ++ cells_at_places row is)
    (drop_all i columns l) ∙ append-nil (map Val key)) ∙ all_values key)

-- ---- a group, by its key

pub there : (key : Row) (es : Entries) (rows : List PlanRow) →
    lookup (same_row key) es ≡ Some rows → group_of key es ≡ rows
there key [] rows h = cc
there key (e ∷ es) rows h = by_test (same_row key e.0) h (there key es rows)
  where
    by_test : (b : Bool) → cond b (Some e.1) (lookup (same_row key) es) ≡ Some rows →
        (lookup (same_row key) es ≡ Some rows → group_of key es ≡ rows) →
        first b e.1 (group_of key es) ≡ rows
    by_test true k more = cc
    by_test false k more = more k

pub absent : (key : Row) (es : Entries) → lookup (same_row key) es ≡ None → group_of key es ≡ []
absent key [] h = refl
absent key (e ∷ es) h = by_test (same_row key e.0) h (absent key es)
  where
    by_test : (b : Bool) → cond b (Some e.1) (lookup (same_row key) es) ≡ None →
        (lookup (same_row key) es ≡ None → group_of key es ≡ []) →
        first b e.1 (group_of key es) ≡ []
    by_test true k more = cc
    by_test false k more = more k

-- ---- rows, one by one

-- the rest of the rows, where one more was taken
pub one_further : (test : PlanRow → Bool) (row : PlanRow) (here new rest left whole : List PlanRow)
    → left ≡ row ∷ rest → new ≡ here ++ one_where (test row) row →
    here ++ filter test left ≡ whole → new ++ filter test rest ≡ whole
one_further test row here new rest left whole f n k =
    ap (λ (xs : List PlanRow). xs ++ filter test rest) n
    ∙ (append_assoc here (one_where (test row) row) (filter test rest) ∙
    (ap (λ (xs : List PlanRow). here ++ xs) (kept (test row)) ∙
    (ap (λ (xs : List PlanRow). here ++ filter test xs) (sym f) ∙ k)))
  where
    kept : (b : Bool) → one_where b row ++ filter test rest ≡ cond b (row ∷ filter test rest)
        (filter test rest)
    kept true = refl
    kept false = refl

pub none_left : (test : PlanRow → Bool) (here left whole : List PlanRow) → length left ≤ 0 →
    here ++ filter test left ≡ whole → here ≡ whole
none_left test here [] whole l k = sym (append-nil here) ∙ k
none_left test here (row ∷ left) whole l k = absurd (omega (arith, l))

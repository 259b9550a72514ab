-- Rows that are looked at, or taken, one after another.
use Rattle.std.proofs.Common.{◌≡◌, ℕ, ◌+◌, ◌<◌, ◌≤◌, List, [], ◌∷◌, ◌++◌, length, map, take, drop}
use Rattle.std.proofs.Common.{slice_index_or, Some, None, Ok, Err, refl, sym, ap, ◌∙◌, arith}
use Rattle.std.proofs.lemmas.List.{take_more, drop_more, drop_all, take_all, map-append, append-nil}
use Rattle.sql_values.specs.declared.value.Value.{Value}
use Rattle.sql_conditions.specs.Conditions.{Area}
use Rattle.row_types.specs.Rows.{Row}
use Rattle.row_types.specs.declared.cell.Cell.{Cell}
use Rattle.row_types.specs.declared.cell.Cell.TheVariants.{Val, Cond}
use Rattle.row_types.specs.Cells.{PlanRow, Whole, Poisoned, area_in, row_area, cells_end, row_end}
use Rattle.row_types.specs.Cells.{with_value}
use Rattle.rel_algebra.specs.Endings.{Ending, after}
use Rattle.rel_algebra.specs.Plan.{collected, values_of, shown, shown_rows}

with_is : (v : Value) (end : Ending Row) → with_value v end ≡ after end (λ vs. Ok (v ∷ vs))
with_is v (Ok vs) = refl
with_is v (Err a) = refl

-- two ways to say what cells come to
pub cells_end_is : (cs : List Cell) → cells_end cs ≡ values_of cs
cells_end_is [] = refl
cells_end_is (Cond a ∷ cs) = refl
cells_end_is (Val v ∷ cs) = ap (with_value v) (cells_end_is cs) ∙ with_is v (values_of cs)

-- the first row, and then the others
abbrev pub first_and : Ending Row → Ending (List Row) → Ending (List Row)
first_and first rest = after first (λ r. after rest (λ rs. Ok (r ∷ rs)))

pub collected_first : (row : PlanRow) (rows : List PlanRow) →
    collected (row ∷ rows) ≡ first_and (row_end row) (collected rows)
collected_first (Whole cs) rows = ap (λ end. first_and end (collected rows)) (sym (cells_end_is cs))
collected_first (Poisoned a) rows = refl

-- rows in front of what is left
abbrev pub rows_and : List Row → Ending (List Row) → Ending (List Row)
rows_and [] end = end
rows_and (r ∷ rs) end = after (rows_and rs end) (λ qs. Ok (r ∷ qs))

pub rows_and_push : (rs : List Row) (r : Row) (end : Ending (List Row)) →
    rows_and (rs ++ r ∷ []) end ≡ rows_and rs (first_and (Ok r) end)
rows_and_push [] r end = refl
rows_and_push (q ∷ rs) r end = ap (λ e. after e (λ qs. Ok (q ∷ qs))) (rows_and_push rs r end)

pub rows_and_ok : (rs qs : List Row) → rows_and rs (Ok qs) ≡ Ok (rs ++ qs)
rows_and_ok [] qs = refl
rows_and_ok (r ∷ rs) qs = ap (λ e. after e (λ ps. Ok (r ∷ ps))) (rows_and_ok rs qs)

pub rows_and_err : (rs : List Row) (a : Area) → rows_and rs (Err a) ≡ Err a
rows_and_err [] a = refl
rows_and_err (r ∷ rs) a = ap (λ e. after e (λ qs. Ok (r ∷ qs))) (rows_and_err rs a)

-- one row more was taken: its values
pub took_values : (rs : List Row) (row : PlanRow) (rest : List PlanRow) (r : Row) →
    row_end row ≡ Ok r → rows_and (rs ++ r ∷ []) (collected rest) ≡ rows_and rs
    (collected (row ∷ rest))
took_values rs row rest r h = rows_and_push rs r (collected rest) ∙
    ap (rows_and rs) (ap (λ e. first_and e (collected rest)) (sym h) ∙
    sym (collected_first row rest))

-- one row more was taken: its area
pub took_area : (rs : List Row) (row : PlanRow) (rest : List PlanRow) (a : Area) →
    row_end row ≡ Err a → rows_and rs (collected (row ∷ rest)) ≡ Err a
took_area rs row rest a h = ap (rows_and rs) (collected_first row rest ∙
    ap (λ e. first_and e (collected rest)) h) ∙ rows_and_err rs a

-- the values among cells
abbrev pub among_cells : List Cell → Row
among_cells [] = []
among_cells (Val v ∷ cs) = v ∷ among_cells cs
among_cells (Cond a ∷ cs) = among_cells cs

abbrev pub among_row : PlanRow → Row
among_row (Whole cs) = among_cells cs
among_row (Poisoned a) = []

cells_whole : (cs : List Cell) → area_in cs ≡ None → shown (among_cells cs) ≡ cs
cells_whole [] h = refl
cells_whole (Val v ∷ cs) h = ap (λ ds. Val v ∷ ds) (cells_whole cs h)
cells_whole (Cond a ∷ cs) h = cc

pub row_whole : (row : PlanRow) → row_area row ≡ None → Whole (shown (among_row row)) ≡ row
row_whole (Whole cs) h = ap Whole (cells_whole cs h)
row_whole (Poisoned a) h = cc

cells_ok : (cs : List Cell) → area_in cs ≡ None → cells_end cs ≡ Ok (among_cells cs)
cells_ok [] h = refl
cells_ok (Val v ∷ cs) h = ap (with_value v) (cells_ok cs h)
cells_ok (Cond a ∷ cs) h = cc

pub row_ok : (row : PlanRow) → row_area row ≡ None → row_end row ≡ Ok (among_row row)
row_ok (Whole cs) h = cells_ok cs h
row_ok (Poisoned a) h = cc

cells_err : (cs : List Cell) (a : Area) → area_in cs ≡ Some a → cells_end cs ≡ Err a
cells_err [] a h = cc
cells_err (Val v ∷ cs) a h = ap (with_value v) (cells_err cs a h)
cells_err (Cond b ∷ cs) a h = let e : b ≡ a = cc in ap Err e

pub row_err : (row : PlanRow) (a : Area) → row_area row ≡ Some a → row_end row ≡ Err a
row_err (Whole cs) a h = cells_err cs a h
row_err (Poisoned b) a h = let e : b ≡ a = cc in ap Err e

pub shown_append : (rs : List Row) (r : Row) →
    shown_rows (rs ++ r ∷ []) ≡ shown_rows rs ++ Whole (shown r) ∷ []
shown_append [] r = refl
shown_append (q ∷ rs) r = ap (λ qs. Whole (shown q) ∷ qs) (shown_append rs r)

-- the first row was taken, and has values
pub values_taken : (values us : List Row) (row : PlanRow) (left rest whole : List PlanRow)
    (r : Row) → left ≡ row ∷ rest → row_end row ≡ Ok r → us ≡ values ++ r ∷ [] →
    rows_and values (collected left) ≡ collected whole →
    rows_and us (collected rest) ≡ collected whole
values_taken values us row left rest whole r f e p k =
    ap (λ vs. rows_and vs (collected rest)) p ∙
    (took_values values row rest r e ∙ (ap (λ rs. rows_and values (collected rs)) (sym f) ∙ k))

-- it was taken, and has an area
pub area_taken : (values : List Row) (row : PlanRow) (left rest whole : List PlanRow) (a : Area) →
    left ≡ row ∷ rest → row_end row ≡ Err a →
    rows_and values (collected left) ≡ collected whole → Err a ≡ collected whole
area_taken values row left rest whole a f e k = sym (took_area values row rest a e) ∙
    (ap (λ rs. rows_and values (collected rs)) (sym f) ∙ k)

-- all were taken
pub all_taken : (values : List Row) (left whole : List PlanRow) → length left ≤ 0 →
    rows_and values (collected left) ≡ collected whole → Ok values ≡ collected whole
all_taken values [] whole l k = sym (ap Ok (append-nil values)) ∙ (sym (rows_and_ok values []) ∙ k)
all_taken values (row ∷ left) whole l k = absurd (omega (arith, l))

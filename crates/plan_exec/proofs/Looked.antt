-- Rows that are looked at, one after another.
use Rattle.std.proofs.Common.{◌≡◌, ℕ, ◌+◌, ◌<◌, ◌≤◌, List, [], ◌∷◌, ◌++◌, length, map, take, drop}
use Rattle.std.proofs.Common.{slice_index_or, Some, None, Ok, Err, refl, sym, ap, ◌∙◌}
use Rattle.std.proofs.lemmas.List.{take_more, drop_more, drop_all, take_all, map-append, append-nil}
use Rattle.sql_conditions.specs.Conditions.{Area}
use Rattle.row_types.specs.Cells.{PlanRow, Whole, row_area}
use Rattle.rel_algebra.specs.Plan.{collected, shown, shown_rows}
use Rattle.plan_exec.specs.Answers.{shown_end}
use Rattle.plan_rows.proofs.Laws.{among_row, row_err, row_ok, row_whole, rows_and, rows_and_ok}
use Rattle.plan_rows.proofs.Laws.{shown_append, took_area, took_values}

-- the first i rows have no area
pub record Looked (rows : List PlanRow) (i : ℕ) : Type 0 where
  pub rest : rows_and (map among_row (take i rows)) (collected (drop i rows)) ≡ collected rows
  pub whole : shown_rows (map among_row (take i rows)) ≡ take i rows

at_place : (rows : List PlanRow) (i : ℕ) (row : PlanRow) → i < length rows →
    row ≡ slice_index_or rows i row → drop i rows ≡ row ∷ drop (i + 1) rows
at_place rows i row l h = drop_more rows i row l ∙ ap (λ r. r ∷ drop (i + 1) rows) (sym h)

pub none_looked : (rows : List PlanRow) → Looked rows 0
none_looked rows = record { rest = refl; whole = refl }

pub one_more : (rows : List PlanRow) (i : ℕ) (row : PlanRow) → i < length rows →
    row ≡ slice_index_or rows i row → row_area row ≡ None → Looked rows i → Looked rows (i + 1)
one_more rows i row l h n k =
    let front : take (i + 1) rows ≡ take i rows ++ row ∷ [] = take_more rows i row l ∙
    ap (λ r. take i rows ++ r ∷ []) (sym h) in
    let values : map among_row (take (i + 1) rows) ≡ map among_row (take i rows) ++ among_row row ∷
    [] = ap (map among_row) front ∙ map-append among_row (take i rows) (row ∷ []) in
    record {
      rest = ap (λ vs. rows_and vs (collected (drop (i + 1) rows))) values
          ∙ (took_values (map among_row (take i rows)) row (drop (i + 1) rows) (among_row row)
          (row_ok row n)
          ∙ (ap (λ rs. rows_and (map among_row (take i rows)) (collected rs))
          (sym (at_place rows i row l h)) ∙ k.rest));
      whole = ap shown_rows values ∙ (shown_append (map among_row (take i rows)) (among_row row)
          ∙ (ap (λ rs. rs ++ Whole (shown (among_row row)) ∷ []) k.whole ∙
          (ap (λ r. take i rows ++ r ∷ []) (row_whole row n) ∙ sym front)));
    }

pub area_found : (rows : List PlanRow) (i : ℕ) (row : PlanRow) (a : Area) → i < length rows →
    row ≡ slice_index_or rows i row → row_area row ≡ Some a → Looked rows i → collected rows ≡ Err a
area_found rows i row a l h s k =
    sym k.rest ∙ (ap (λ rs. rows_and (map among_row (take i rows)) (collected rs))
    (at_place rows i row l h)
    ∙ took_area (map among_row (take i rows)) row (drop (i + 1) rows) a (row_err row a s))

pub all_looked : (rows : List PlanRow) (i : ℕ) → length rows ≤ i → Looked rows i →
    Ok rows ≡ shown_end (collected rows)
all_looked rows i l k =
    let vs = map among_row (take i rows) in
    let all : collected rows ≡ Ok (vs ++ []) = sym k.rest ∙
    (ap (λ rs. rows_and vs (collected rs)) (drop_all i rows l) ∙ rows_and_ok vs []) in
    sym (ap shown_end all ∙ ap Ok (ap shown_rows (append-nil vs) ∙ (k.whole ∙ take_all i rows l)))

-- Rows that a table may hold, after an edit.
use Rattle.std.proofs.Common.{ℕ, ◌≡◌, ◌<◌, List, true, ap, ◌∙◌, insert, remove, set, get_or, length}
use Rattle.std.proofs.Common.{Err, Equal}
use Rattle.std.specs.List.{list_all}
use Rattle.row_types.specs.declared.ColumnType.{ColumnType}
use Rattle.row_types.specs.Ordered.{rises, put, searched}
use Rattle.row_types.specs.Rows.{Row, by_key, fits, well_kept}
use Rattle.row_types.specs.Tables.{Table}
use Rattle.table_store.specs.Kept.{Kept, IsKept, CanInsert, CanReplace}
use Rattle.std.proofs.lemmas.Bool.{and_parts, and_from}
use Rattle.row_types.proofs.Laws.{by_key_total}
use Rattle.row_types.proofs.Laws.{rises-remove, all-remove, insert_is_put, none_stands, rises-put}
use Rattle.row_types.proofs.Laws.{all-put, err_within, all-set, rises-set}

pub kept_fits : (cs : List ColumnType) (key : List ℕ) (rows : List Row) →
    well_kept cs key rows ≡ true → list_all (fits cs key) rows ≡ true
kept_fits cs key rows h = (and_parts (list_all (fits cs key) rows) (rises (by_key key) rows) h).0

pub kept_rises : (cs : List ColumnType) (key : List ℕ) (rows : List Row) →
    well_kept cs key rows ≡ true → rises (by_key key) rows ≡ true
kept_rises cs key rows h = (and_parts (list_all (fits cs key) rows) (rises (by_key key) rows) h).1

pub well_kept-remove : (cs : List ColumnType) (key : List ℕ) (rows : List Row) (at : ℕ) →
    well_kept cs key rows ≡ true → well_kept cs key (remove rows at) ≡ true
well_kept-remove cs key rows at h =
    and_from (list_all (fits cs key) (remove rows at)) (rises (by_key key) (remove rows at))
    (all-remove (fits cs key) rows at (kept_fits cs key rows h))
    (rises-remove (by_key key) (by_key_total key) rows at (kept_rises cs key rows h))

-- a row that fits goes in where its key is not found
pub well_kept-insert : (cs : List ColumnType) (key : List ℕ) (rows : List Row) (row : Row)
    (at : ℕ) → well_kept cs key rows ≡ true → fits cs key row ≡ true
    → searched (λ r. by_key key r row) rows ≡ Err at → well_kept cs key (insert rows at row) ≡ true
well_kept-insert cs key rows row at h f e =
    let o = by_key_total key in
    ap (well_kept cs key) (insert_is_put (by_key key) o row rows at e)
    ∙ and_from (list_all (fits cs key) (put (by_key key) row rows))
    (rises (by_key key) (put (by_key key) row rows))
    (all-put (by_key key) o (fits cs key) row rows ∙
    and_from (fits cs key row) (list_all (fits cs key) rows) f (kept_fits cs key rows h))
    (rises-put (by_key key) o row rows (kept_rises cs key rows h)
    (none_stands (by_key key) o row rows at (kept_rises cs key rows h) e))

pub can_insert : (t : Table) (capacity : ℕ) (row : Row) (at : ℕ) →
    well_kept t.columns t.key t.rows ≡ true → fits t.columns t.key row ≡ true
    → searched (λ r. by_key t.key r row) t.rows ≡ Err at → length t.rows < capacity →
    CanInsert record { table = t; capacity = capacity } at row
can_insert t capacity row at h f e l = record {
  place = err_within (λ r. by_key t.key r row) t.rows at e;
  room = l;
  kept = well_kept-insert t.columns t.key t.rows row at h f e;
}

-- a row that fits takes the place of one with its key
pub well_kept-set : (cs : List ColumnType) (key : List ℕ) (rows : List Row) (row : Row) (at : ℕ) →
    at < length rows → well_kept cs key rows ≡ true → fits cs key row ≡ true
    → by_key key row (get_or rows at row) ≡ Equal → well_kept cs key (set rows at row) ≡ true
well_kept-set cs key rows row at l h f e =
    and_from (list_all (fits cs key) (set rows at row)) (rises (by_key key) (set rows at row))
    (all-set (fits cs key) rows at row f (kept_fits cs key rows h))
    (rises-set (by_key key) (by_key_total key) row rows at l e (kept_rises cs key rows h))

pub can_replace : (k : Kept) (row : Row) (at : ℕ) → IsKept k → at < length k.table.rows →
    fits k.table.columns k.table.key row ≡ true →
    by_key k.table.key row (get_or k.table.rows at row) ≡ Equal
    → CanReplace k at row
can_replace k row at h l f e = record {
  place = l;
  kept = well_kept-set k.table.columns k.table.key k.table.rows row at l h.rows f e;
}

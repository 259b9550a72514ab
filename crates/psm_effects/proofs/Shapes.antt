-- Edits of rows keep the shapes of tables, and so does taking them back.
use Rattle.std.proofs.Common.{◌≡◌, ℕ, zero, suc, List, [], ◌∷◌, refl, ap, ◌∙◌}
use Rattle.row_types.specs.Rows.{Row}
use Rattle.row_types.specs.Tables.{Tables, table_at, with_rows_at}
use Rattle.atomic_undo.specs.declared.log.Entry.{Entry}
use Rattle.atomic_undo.specs.Undo.{undone, rows_before}
use Rattle.psm_effects.specs.Shapes.{Shape, shape_of, shapes_of}

pub shapes-with_rows_at : (at : ℕ) (rows : List Row) (ts : Tables) →
    shapes_of (with_rows_at at rows ts) ≡ shapes_of ts
shapes-with_rows_at at rows [] = refl
shapes-with_rows_at zero rows (s ∷ ss) = refl
shapes-with_rows_at (suc at) rows (s ∷ ss) = ap (λ (more : List Shape). shape_of s ∷ more)
    (shapes-with_rows_at at rows ss)

pub shapes-undone : (es : List Entry) (ts : Tables) → shapes_of (undone es ts) ≡ shapes_of ts
shapes-undone [] ts = refl
shapes-undone (e ∷ es) ts =
    shapes-with_rows_at e.table (rows_before e.edits (table_at (undone es ts) e.table).rows)
    (undone es ts) ∙ shapes-undone es ts

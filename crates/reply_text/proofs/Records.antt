-- Records of rows, one after another.
use Rattle.std.proofs.Common.{ℕ, ◌≡◌, ◌++◌, ◌∷◌, [], List, Result, Ok, Err, sym, ap, ◌∙◌}
use Rattle.std.proofs.Common.{append_assoc}
use Rattle.std.proofs.lemmas.List.{append-nil}
use Rattle.std.specs.List.{flat_map}
use Rattle.sql_values.specs.declared.value.Value.{Value}
use Rattle.sql_conditions.specs.Conditions.{Area}
use Rattle.row_types.specs.Cells.{PlanRow, row_end, with_values, value_rows}
use Rattle.reply_text.specs.Texts.{record_text}

-- the record of a row that has values, and then others
record_first : (end : Result (List Value) Area) (rows : List (List Value)) (w : List ℕ) →
    (w ++ flat_map record_text (with_values end [])) ++ flat_map record_text rows ≡ w ++
    flat_map record_text (with_values end rows)
record_first (Ok values) rows w =
    append_assoc w (record_text values ++ []) (flat_map record_text rows) ∙
    ap (λ (t : List ℕ). w ++ (t ++ flat_map record_text rows)) (append-nil (record_text values))
record_first (Err area) rows w = ap (λ (t : List ℕ). t ++ flat_map record_text rows) (append-nil w)

-- one row more is written
pub row_written : (row : PlanRow) (rest rows : List PlanRow) (old new whole : List ℕ) →
    rows ≡ row ∷ rest →
    new ≡ old ++ flat_map record_text (with_values (row_end row) []) →
    old ++ flat_map record_text (value_rows rows) ≡ whole →
    new ++ flat_map record_text (value_rows rest) ≡ whole
row_written row rest rows old new whole is written before =
    ap (λ (t : List ℕ). t ++ flat_map record_text (value_rows rest)) written ∙
    record_first (row_end row) (value_rows rest) old
    ∙ ap (λ (rs : List PlanRow). old ++ flat_map record_text (value_rows rs)) (sym is) ∙ before

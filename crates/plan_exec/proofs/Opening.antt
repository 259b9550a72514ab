-- A row that is opened: its cells, or its area.
use Rattle.std.proofs.Common.{◌≡◌, true, false, List, [], ◌++◌, Option, Some, None, is_some, Ok}
use Rattle.std.proofs.Common.{Err, refl, sym, ap, ◌∙◌}
use Rattle.std.proofs.lemmas.List.{append-nil}
use Rattle.sql_conditions.specs.Conditions.{Area}
use Rattle.row_types.specs.Rows.{Row}
use Rattle.row_types.specs.declared.cell.Cell.{Cell}
use Rattle.row_types.specs.Cells.{PlanRow, Whole, Poisoned, area_in, row_cells, row_end}
use Rattle.rel_algebra.specs.Plan.{shown}
use Rattle.plan_exec.specs.Applying.{has_condition}
use Rattle.plan_rows.proofs.Laws.{cells_end_is, row_ok}
use Rattle.plan_exec.proofs.Settled.{told_values}

-- its cells stand apart
pub cells_apart : (row : PlanRow) (cs : List Cell) → has_condition row ≡ true → cs ≡ row_cells row →
    Whole cs ≡ row
cells_apart (Whole cells) cs h e = ap Whole e
cells_apart (Poisoned a) cs h e = cc

-- it has values
pub row_of_values : (row : PlanRow) (vs : Row) (cs : List Cell) → cs ≡ [] → row_end row ≡ Ok vs →
    Whole (shown vs ++ cs) ≡ row
row_of_values (Whole cells) vs cs e h =
    ap (λ ds. Whole (shown vs ++ ds)) e ∙ ap Whole
    (append-nil (shown vs) ∙ sym (told_values cells vs (sym (cells_end_is cells) ∙ h)))
row_of_values (Poisoned a) vs cs e h = cc

none_of : (o : Option Area) → is_some o ≡ false → o ≡ None
none_of None h = refl
none_of (Some a) h = cc

-- it is poisoned
pub row_of_area : (row : PlanRow) (a : Area) → has_condition row ≡ false → row_end row ≡ Err a →
    Poisoned a ≡ row
row_of_area (Whole cells) a h k =
    let whole = sym k ∙ row_ok (Whole cells) (none_of (area_in cells) h) in cc
row_of_area (Poisoned b) a h k = cc

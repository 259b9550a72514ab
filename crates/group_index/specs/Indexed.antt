-- Rows of plans in groups by keys. ISO/IEC 9075-2, 7.13 (group by clause).
use Rattle.std.specs.Prelude.{ℕ, zero, suc, Bool, true, false, List, [], ◌∷◌, ◌++◌, map, Option}
use Rattle.std.specs.Prelude.{Some, None, if◌then◌else◌}
use Rattle.std.specs.Option.{option_map}
use Rattle.row_types.specs.declared.cell.Cell.{Cell}
use Rattle.row_types.specs.declared.cell.Cell.TheVariants.{Val, Cond}
use Rattle.row_types.specs.Cells.{PlanRow, Whole, Poisoned, cell_at}
use Rattle.row_types.specs.Rows.{Row}
use Rattle.row_types.specs.Groups.{same_row}

-- the cells at places, NULL past the row's end
abbrev pub cells_at_places : List Cell → List ℕ → List Cell
cells_at_places cells places = map (λ i. cell_at cells i) places

-- the values of cells, where each is one
abbrev pub values_in : List Cell → Option Row
values_in [] = Some []
values_in (Val v ∷ cells) = option_map (λ (vs : Row). v ∷ vs) (values_in cells)
values_in (Cond area ∷ cells) = None

-- the values of a row at the places of its key; a row that is poisoned or has a condition there has
-- none
abbrev pub row_key : List ℕ → PlanRow → Option Row
row_key places (Whole cells) = values_in (cells_at_places cells places)
row_key places (Poisoned area) = None

-- a row's key is the one that is sought; a row without a key is in no group
abbrev pub is_key : Row → Option Row → Bool
is_key key None = false
is_key key (Some k) = same_row k key

-- NULL equals NULL
abbrev pub has_key : List ℕ → Row → PlanRow → Bool
has_key places key row = is_key key (row_key places row)

-- a row that is an area in place of cells
abbrev pub is_poisoned : PlanRow → Bool
is_poisoned (Whole cells) = false
is_poisoned (Poisoned area) = true

-- the rows of a key among groups
abbrev pub group_of : Row → List (Row × List PlanRow) → List PlanRow
group_of key [] = []
group_of key (g ∷ gs) = if same_row key g.0 then g.1 else group_of key gs

-- with a row more in the group at a place
abbrev pub pushed_at : ℕ → PlanRow → List (Row × List PlanRow) → List (Row × List PlanRow)
pushed_at at row [] = []
pushed_at zero row (g ∷ gs) = (g.0, g.1 ++ row ∷ []) ∷ gs
pushed_at (suc at) row (g ∷ gs) = g ∷ pushed_at at row gs

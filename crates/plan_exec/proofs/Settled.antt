-- Lists that are settled: what is collected of a list tells the list, where it has no area.
use Rattle.std.proofs.Common.{◌≡◌, ℕ, ◌≤◌, List, [], ◌∷◌, Ok, Err, refl, ap, ap₂, ◌∙◌, arith}
use Rattle.sql_values.specs.declared.value.Value.{Value}
use Rattle.sql_conditions.specs.Conditions.{Area}
use Rattle.row_types.specs.Rows.{Row}
use Rattle.row_types.specs.declared.cell.Cell.{Cell}
use Rattle.row_types.specs.declared.cell.Cell.TheVariants.{Val, Cond}
use Rattle.row_types.specs.Cells.{PlanRow, Whole, Poisoned}
use Rattle.row_types.specs.Sorting.{in_order}
use Rattle.row_types.specs.declared.sort_key.SortKey.{SortKey}
use Rattle.rel_algebra.specs.Endings.{Ending, after}
use Rattle.rel_algebra.specs.Plan.{collected, values_of, shown, shown_rows, finished, settled}
use Rattle.rel_algebra.specs.Plan.{settled_as, settled_then, with_settled, crossed, sorted}
use Rattle.plan_exec.specs.Answers.{shown_end}
use Rattle.rel_algebra.specs.Work.{over_pairs}
use Rattle.plan_nodes.specs.Joins.{both_ends, from_end, pairs, pairs_work}

-- cells and rows, told by what they come to
abbrev ToldCells : List Cell → Ending Row → Type 0
ToldCells cs (Ok vs) = cs ≡ shown vs
ToldCells cs (Err a) = Unit {0}

abbrev pub Told : List PlanRow → Ending (List Row) → Type 0
Told rows (Ok rs) = rows ≡ shown_rows rs
Told rows (Err a) = Unit {0}

cell_more : (v : Value) (cs : List Cell) (e : Ending Row) → ToldCells cs e →
    ToldCells (Val v ∷ cs) (after e (λ vs. Ok (v ∷ vs)))
cell_more v cs (Ok vs) h = ap (λ ds. Val v ∷ ds) h
cell_more v cs (Err a) h = tt

told_cells : (cs : List Cell) → ToldCells cs (values_of cs)
told_cells [] = refl
told_cells (Cond a ∷ cs) = tt
told_cells (Val v ∷ cs) = cell_more v cs (values_of cs) (told_cells cs)

told_by : (cs : List Cell) (e : Ending Row) (vs : Row) → ToldCells cs e → e ≡ Ok vs → cs ≡ shown vs
told_by cs (Ok us) vs h k = let same : us ≡ vs = cc in h ∙ ap shown same
told_by cs (Err a) vs h k = cc

pub told_values : (cs : List Cell) (vs : Row) → values_of cs ≡ Ok vs → cs ≡ shown vs
told_values cs vs h = told_by cs (values_of cs) vs (told_cells cs) h

row_more : (cs : List Cell) (rows : List PlanRow) (e : Ending Row) (f : Ending (List Row)) →
    ToldCells cs e → Told rows f → Told (Whole cs ∷ rows)
    (after e (λ r. after f (λ rs. Ok (r ∷ rs))))
row_more cs rows (Ok vs) (Ok rs) h k = ap₂ (λ ds qs. Whole ds ∷ qs) h k
row_more cs rows (Ok vs) (Err a) h k = tt
row_more cs rows (Err a) f h k = tt

pub told : (rows : List PlanRow) → Told rows (collected rows)
told [] = refl
told (Poisoned a ∷ rows) = tt
told (Whole cs ∷ rows) = row_more cs rows (values_of cs) (collected rows) (told_cells cs)
    (told rows)

-- ---- one list

settled_by : (rows : List PlanRow) (e : Ending (List Row)) → Told rows e →
    settled_as e rows ≡ finished e
settled_by rows (Ok rs) h = h
settled_by rows (Err a) h = refl

pub settled_is : (rows : List PlanRow) → settled rows ≡ finished (collected rows)
settled_is rows = settled_by rows (collected rows) (told rows)

sorted_by : (keys : List SortKey) (e : Ending (List Row)) →
    sorted keys e ≡ finished (after e (λ rs. Ok (in_order keys rs)))
sorted_by keys (Ok rs) = refl
sorted_by keys (Err a) = refl

pub sorted_is : (keys : List SortKey) (rows : List PlanRow) →
    sorted keys (collected rows) ≡ finished (after (collected rows) (λ rs. Ok (in_order keys rs)))
sorted_is keys rows = sorted_by keys (collected rows)

answered_by : (rows : List PlanRow) (e : Ending (List Row)) → Ok rows ≡ shown_end e →
    rows ≡ finished e
answered_by rows (Ok rs) h = cc
answered_by rows (Err a) h = cc

-- the rows of an answer
pub answered_rows : (rows whole : List PlanRow) → Ok rows ≡ shown_end (collected whole) →
    rows ≡ finished (collected whole)
answered_rows rows whole h = answered_by rows (collected whole) h

raised_by : (a : Area) (e : Ending (List Row)) → Err a ≡ shown_end e → Poisoned a ∷ [] ≡ finished e
raised_by a (Ok rs) h = cc
raised_by a (Err b) h = cc

-- its area
pub raised_rows : (a : Area) (whole : List PlanRow) → Err a ≡ shown_end (collected whole) →
    Poisoned a ∷ [] ≡ finished (collected whole)
raised_rows a whole h = raised_by a (collected whole) h

-- ---- two lists

crossed_by : (xs ys : List PlanRow) (e f : Ending (List Row)) → Told xs e → Told ys f →
    settled_then e xs (λ left. settled_then f ys (crossed left)) ≡ from_end (both_ends e f) pairs
crossed_by xs ys (Ok ls) (Ok rs) h k = ap₂ (λ us vs. crossed us vs) h k
crossed_by xs ys (Ok ls) (Err b) h k = refl
crossed_by xs ys (Err a) f h k = refl

-- all pairs of two settled lists
pub crossed_is : (xs ys : List PlanRow) → with_settled xs (λ left. with_settled ys (crossed left)) ≡
    from_end (both_ends (collected xs) (collected ys)) pairs
crossed_is xs ys = crossed_by xs ys (collected xs) (collected ys) (told xs) (told ys)

joined_by : (join : List PlanRow → List PlanRow → List PlanRow) (xs ys : List PlanRow)
    (e f : Ending (List Row)) → Told xs e → Told ys f →
    settled_then e xs (λ left. settled_then f ys (λ right. settled (join left right))) ≡ finished
    (after (both_ends e f) (λ s. collected (join (shown_rows s.0) (shown_rows s.1))))
joined_by join xs ys (Ok ls) (Ok rs) h k = ap₂ (λ us vs. settled (join us vs)) h k ∙
    settled_is (join (shown_rows ls) (shown_rows rs))
joined_by join xs ys (Ok ls) (Err b) h k = refl
joined_by join xs ys (Err a) f h k = refl

-- what is made of two settled lists, settled
pub joined_is : (join : List PlanRow → List PlanRow → List PlanRow) (xs ys : List PlanRow) →
    with_settled xs (λ left. with_settled ys (λ right. settled (join left right)))
    ≡ finished (after (both_ends (collected xs) (collected ys))
    (λ s. collected (join (shown_rows s.0) (shown_rows s.1))))
joined_is join xs ys = joined_by join xs ys (collected xs) (collected ys) (told xs) (told ys)

-- the pairs of two lists are those of the settled ones
pairs_by : (f : List Cell → ℕ) (xs ys : List PlanRow) (e d : Ending (List Row)) → Told xs e →
    Told ys d → pairs_work f (both_ends e d) ≤ over_pairs f (settled_as e xs) (settled_as d ys)
pairs_by f xs ys (Ok ls) (Ok rs) h k =
    let same : over_pairs f xs ys ≡ over_pairs f (shown_rows ls) (shown_rows rs) =
    ap₂ (λ us vs. over_pairs f us vs) h k in
    omega (arith, same)
pairs_by f xs ys (Ok ls) (Err b) h k = omega arith
pairs_by f xs ys (Err a) d h k = omega arith

pub pairs_within : (f : List Cell → ℕ) (xs ys : List PlanRow) →
    pairs_work f (both_ends (collected xs) (collected ys)) ≤ over_pairs f (settled xs) (settled ys)
pairs_within f xs ys = pairs_by f xs ys (collected xs) (collected ys) (told xs) (told ys)

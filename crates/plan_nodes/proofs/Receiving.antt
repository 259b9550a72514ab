-- Rows that were received one after another.
use Rattle.std.proofs.Common.{◌≡◌, ℕ, true, false, List, [], ◌∷◌, ◌++◌, map, fold, length, Ok, Err}
use Rattle.std.proofs.Common.{refl, sym, ap, subst, ◌∙◌}
use Rattle.std.proofs.lemmas.List.{append_assoc, append-nil}
use Rattle.std.proofs.lemmas.Bool.{false≢true}
use Rattle.sql_values.specs.declared.value.Value.{Value}
use Rattle.sql_conditions.specs.Conditions.{Area}
use Rattle.row_types.specs.Rows.{Row}
use Rattle.row_types.specs.declared.cell.Cell.{Cell}
use Rattle.row_types.specs.declared.cell.Cell.TheVariants.{Val}
use Rattle.row_types.specs.Cells.{PlanRow, Whole, cells_end, row_end, with_value}
use Rattle.rel_algebra.specs.declared.plan.Node.{Node, roll-Node}
use Rattle.rel_algebra.specs.declared.plan.Node.TheOpen.{Node-F}
use Rattle.rel_algebra.specs.declared.plan.Node.TheVariants.{Group, rolls-Extend, rolls-Apply}
use Rattle.rel_algebra.specs.declared.plan.Node.TheVariants.{rolls-Filter, rolls-Keep, rolls-Cross}
use Rattle.rel_algebra.specs.declared.plan.Node.TheVariants.{rolls-LeftOuter, rolls-Settle}
use Rattle.rel_algebra.specs.declared.plan.Node.TheVariants.{rolls-Group, rolls-Sort}
use Rattle.rel_algebra.specs.declared.plan.Plan.{Plan}
use Rattle.rel_algebra.specs.Endings.{Ending}
use Rattle.rel_algebra.specs.Plan.{collected}
use Rattle.row_types.specs.declared.aggregate_column.AggregateColumn.{AggregateColumn}
use Rattle.group_index.specs.Folded.{Folded, no_rows, with_row}
use Rattle.plan_nodes.specs.declared.received.Received.{Received}
use Rattle.plan_nodes.specs.declared.received.Received.TheVariants.{Rows, Folds, Raised}
use Rattle.plan_nodes.specs.Fates.{by_row, passed}
use Rattle.plan_nodes.specs.Receiving.{folded_with, with_plan_row, received, is_list, takes_list}
use Rattle.plan_nodes.specs.Receiving.{nothing_for}
use Rattle.plan_rows.proofs.Laws.{first_and, collected_first}
use Rattle.plan_nodes.proofs.Nodes.{none_passed, of_layer}

-- rows that come in turn
pub received_append : (r : Received) (xs ys : List PlanRow) →
    received r (xs ++ ys) ≡ received (received r xs) ys
received_append r [] ys = refl
received_append r (x ∷ xs) ys = received_append (with_plan_row r x) xs ys

pub list_received : (rows xs : List PlanRow) → received (Rows rows) xs ≡ Rows (rows ++ xs)
list_received rows [] = ap Rows (sym (append-nil rows))
list_received rows (x ∷ xs) = list_received (rows ++ x ∷ []) xs ∙
    ap Rows (append_assoc rows (x ∷ []) xs)

pub rows_same : (xs ys : List PlanRow) → Rows xs ≡ Rows ys → xs ≡ ys
rows_same xs ys h = cc

-- a list of rows tells them
pub list_of : (xs rows : List PlanRow) → received (Rows []) xs ≡ Rows rows → xs ≡ rows
list_of xs rows h = rows_same xs rows (sym (list_received [] xs) ∙ h)

pub raised_received : (a : Area) (xs : List PlanRow) → received (Raised a) xs ≡ Raised a
raised_received a [] = refl
raised_received a (x ∷ xs) = raised_received a xs

-- what was received keeps its form
folded_no_list : (f : Folded) (e : Ending Row) → is_list (folded_with f e) ≡ is_list (Folds f)
folded_no_list f (Ok row) = refl
folded_no_list f (Err a) = refl

one_more : (r : Received) (row : PlanRow) → is_list (with_plan_row r row) ≡ is_list r
one_more (Rows rows) row = refl
one_more (Folds f) row = folded_no_list f (row_end row)
one_more (Raised a) row = refl

pub form_stays : (r : Received) (xs : List PlanRow) → is_list (received r xs) ≡ is_list r
form_stays r [] = refl
form_stays r (x ∷ xs) = form_stays (with_plan_row r x) xs ∙ one_more r x

-- to a node that takes a list comes a list
abbrev BeginsList : Node → Type 0
BeginsList n = takes_list n ≡ true → nothing_for n ≡ Rows []

begins_at : (y : Node-F Node Plan) → BeginsList (roll-Node y)
begins_at (Node-F.Extend ss) = subst BeginsList (sym (rolls-Extend ss)) (λ h. refl)
begins_at (Node-F.Apply when kind inner) = subst BeginsList (sym (rolls-Apply when kind inner))
    (λ h. refl)
begins_at (Node-F.Filter s) = subst BeginsList (sym (rolls-Filter s)) (λ h. refl)
begins_at (Node-F.Keep places) = subst BeginsList (sym (rolls-Keep places)) (λ h. refl)
begins_at (Node-F.Cross right) = subst BeginsList (sym (rolls-Cross right)) (λ h. refl)
begins_at (Node-F.LeftOuter ns s n right) = subst BeginsList (sym (rolls-LeftOuter ns s n right))
    (λ h. refl)
begins_at Node-F.Settle = subst BeginsList (sym rolls-Settle) (λ h. refl)
begins_at (Node-F.Group places aggregates) = subst BeginsList (sym (rolls-Group places aggregates))
    (λ h. absurd (false≢true h))
begins_at (Node-F.Sort keys) = subst BeginsList (sym (rolls-Sort keys)) (λ h. refl)

pub begins_list : (n : Node) → takes_list n ≡ true → nothing_for n ≡ Rows []
begins_list = of_layer BeginsList begins_at

-- to another, which doesn't act on each row alone, comes what is folded
abbrev BeginsFolds : Node → Type 0
BeginsFolds n = by_row n ≡ false → takes_list n ≡ false → is_list (nothing_for n) ≡ false

folds_at : (y : Node-F Node Plan) → BeginsFolds (roll-Node y)
folds_at (Node-F.Extend ss) = subst BeginsFolds (sym (rolls-Extend ss))
    (λ h k. absurd (false≢true (sym h)))
folds_at (Node-F.Apply when kind inner) = subst BeginsFolds (sym (rolls-Apply when kind inner))
    (λ h k. absurd (false≢true (sym k)))
folds_at (Node-F.Filter s) = subst BeginsFolds (sym (rolls-Filter s))
    (λ h k. absurd (false≢true (sym h)))
folds_at (Node-F.Keep places) = subst BeginsFolds (sym (rolls-Keep places))
    (λ h k. absurd (false≢true (sym h)))
folds_at (Node-F.Cross right) = subst BeginsFolds (sym (rolls-Cross right))
    (λ h k. absurd (false≢true (sym k)))
folds_at (Node-F.LeftOuter ns s n right) = subst BeginsFolds (sym (rolls-LeftOuter ns s n right))
    (λ h k. absurd (false≢true (sym k)))
folds_at Node-F.Settle = subst BeginsFolds (sym rolls-Settle) (λ h k. absurd (false≢true (sym k)))
folds_at (Node-F.Group places aggregates) = subst BeginsFolds (sym (rolls-Group places aggregates))
    (λ h k. refl)
folds_at (Node-F.Sort keys) = subst BeginsFolds (sym (rolls-Sort keys))
    (λ h k. absurd (false≢true (sym k)))

pub begins_folds : (n : Node) → by_row n ≡ false → takes_list n ≡ false →
    is_list (nothing_for n) ≡ false
begins_folds = of_layer BeginsFolds folds_at

pub came_as_list : (n : Node) (xs rows : List PlanRow) (came : Received) → takes_list n ≡ true →
    came ≡ Rows rows → received (nothing_for n) xs ≡ came → xs ≡ rows
came_as_list n xs rows came t e h = list_of xs rows
    (ap (λ r. received r xs) (sym (begins_list n t)) ∙ (h ∙ e))

-- rows that came to a Group
pub group_came : (n : Node) (places : List ℕ) (aggregates : List AggregateColumn)
    (xs : List PlanRow) (came : Received) → n ≡ Group places aggregates →
    received (nothing_for n) xs ≡ came →
    received (Folds (no_rows places aggregates)) xs ≡ came
group_came n places aggregates xs came e h = ap (λ m. received (nothing_for m) xs) (sym e) ∙ h

-- rows that pass no node, given as a list
pub given_whole : (ns : List Node) (o : List (List Cell)) (args : List Value) (into : Received)
    (out rows : List PlanRow) → ns ≡ [] → into ≡ Rows [] → out ≡ rows →
    Rows out ≡ received into (passed ns o args rows)
given_whole ns o args into out rows n i e =
    ap Rows e ∙ (sym (list_received [] rows) ∙
    (ap (λ r. received r rows) (sym i) ∙ ap (received into)
    (sym (none_passed ns o args rows (ap length n)))))

-- ---- rows that are folded

pub values_end_is : (vs : List Value) → cells_end (map Val vs) ≡ Ok vs
values_end_is [] = refl
values_end_is (v ∷ vs) = ap (with_value v) (values_end_is vs)

-- a row of values, folded
pub folded_values : (r : Received) (f g : Folded) (vs : List Value) (cs : List Cell) → r ≡ Folds f →
    map Val vs ≡ cs → g ≡ with_row f vs → Folds g ≡ with_plan_row r (Whole cs)
folded_values r f g vs cs h m e =
    ap Folds e ∙ (sym (ap (folded_with f) (ap cells_end (sym m) ∙ values_end_is vs)) ∙
    ap (λ x. with_plan_row x (Whole cs)) (sym h))

pub folds_same : (f g : Folded) → Folds f ≡ Folds g → f ≡ g
folds_same f g h = cc

-- what is folded of all rows, or their first area
abbrev pub folded_end : Folded → Ending (List Row) → Received
folded_end f (Ok rs) = Folds (fold with_row f rs)
folded_end f (Err a) = Raised a

first_folded : (f : Folded) (row : Row) (rest : Ending (List Row)) →
    folded_end (with_row f row) rest ≡ folded_end f (first_and (Ok row) rest)
first_folded f row (Ok rs) = refl
first_folded f row (Err a) = refl

pub folds_received : (f : Folded) (xs : List PlanRow) →
    received (Folds f) xs ≡ folded_end f (collected xs)
folds_received f [] = refl
folds_received f (x ∷ xs) = by_end (λ g. folds_received g xs) (row_end x) ∙
    ap (folded_end f) (sym (collected_first x xs))
  where
    by_end : ((g : Folded) → received (Folds g) xs ≡ folded_end g (collected xs)) →
        (e : Ending Row) → received (folded_with f e) xs ≡ folded_end f (first_and e (collected xs))
    by_end more (Ok row) = more (with_row f row) ∙ first_folded f row (collected xs)
    by_end more (Err a) = raised_received a xs

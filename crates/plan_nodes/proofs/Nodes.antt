-- A stretch of nodes over an input: its rows are those of the input, each passed through all nodes;
-- and no node takes from the input's work.
use Rattle.std.proofs.Common.{◌≡◌, ℕ, ◌≤◌, true, false, Bool, ◌&&◌, List, [], ◌∷◌, ◌++◌, length}
use Rattle.std.proofs.Common.{if◌then◌else◌, refl, sym, ap, subst, ◌∙◌, arith}
use Rattle.std.specs.List.{list_all}
use Rattle.std.proofs.lemmas.List.{append_assoc, append-nil}
use Rattle.std.proofs.lemmas.Bool.{false≢true}
use Rattle.sql_values.specs.declared.value.Value.{Value}
use Rattle.sql_values.specs.Values.{is_true}
use Rattle.row_types.specs.declared.cell.Cell.{Cell}
use Rattle.row_types.specs.declared.cell.Cell.TheVariants.{Val, Cond}
use Rattle.row_types.specs.Cells.{PlanRow, Whole, Poisoned}
use Rattle.rel_algebra.specs.declared.plan.Node.{Node, out-Node, roll-Node}
use Rattle.rel_algebra.specs.declared.plan.Node.TheOpen.{Node-F}
use Rattle.rel_algebra.specs.declared.plan.Node.TheFolds.{map-Node, fold-roll-Node}
use Rattle.rel_algebra.specs.declared.plan.Node.TheVariants.{Extend, Apply, Filter, Keep, Cross}
use Rattle.rel_algebra.specs.declared.plan.Node.TheVariants.{LeftOuter, Settle, Group, Sort}
use Rattle.rel_algebra.specs.declared.plan.Node.TheVariants.{rolls-Extend, rolls-Apply}
use Rattle.rel_algebra.specs.declared.plan.Node.TheVariants.{rolls-Filter, rolls-Keep, rolls-Cross}
use Rattle.rel_algebra.specs.declared.plan.Node.TheVariants.{rolls-LeftOuter, rolls-Settle}
use Rattle.rel_algebra.specs.declared.plan.Node.TheVariants.{rolls-Group, rolls-Sort}
use Rattle.rel_algebra.specs.declared.plan.Node.TheViews.{roll-out-Node}
use Rattle.rel_algebra.specs.declared.plan.ApplyKind.{ApplyKind}
use Rattle.rel_algebra.specs.declared.plan.Plan.{Plan}
use Rattle.rel_algebra.specs.declared.scalar.Scalar.{Scalar}
use Rattle.row_types.specs.declared.aggregate_column.AggregateColumn.{AggregateColumn}
use Rattle.row_types.specs.declared.sort_key.SortKey.{SortKey}
use Rattle.rel_algebra.specs.Plain.{Inputs}
use Rattle.rel_algebra.specs.Plan.{PlanTree, den, each, kept, sight, cell_of, extend, apply, filter}
use Rattle.rel_algebra.specs.Plan.{anew, keep, cross, left_outer, settle, group, sort}
use Rattle.rel_algebra.specs.PlanView.{NodeTree, node_step, plan_step, node_of, tree_of, with_node}
use Rattle.rel_algebra.specs.PlanView.{with_nodes, run_of, kind_of, scalar_of, scalars_of}
use Rattle.rel_algebra.specs.PlanView.{aggregates_of}
use Rattle.rel_algebra.specs.Work.{work_below}
use Rattle.plan_rows.specs.declared.tests.Tested.TheVariants as test
use Rattle.plan_nodes.specs.Fates.{RowOutcome, Stays, Gone, Raises, tested, tested_fate}
use Rattle.plan_nodes.specs.Fates.{node_fate, go_on, fate, fate_rows, passed, by_row}

-- ---- rows

pub each_append : (f : List Cell → List PlanRow) (xs ys : List PlanRow) →
    each f (xs ++ ys) ≡ each f xs ++ each f ys
each_append f [] ys = refl
each_append f (Whole row ∷ xs) ys = ap (λ zs. f row ++ zs) (each_append f xs ys) ∙
    sym (append_assoc (f row) (each f xs) (each f ys))
each_append f (Poisoned a ∷ xs) ys = ap (λ zs. Poisoned a ∷ zs) (each_append f xs ys)

each_each : (f g : List Cell → List PlanRow) (rows : List PlanRow) →
    each g (each f rows) ≡ each (λ row. each g (f row)) rows
each_each f g [] = refl
each_each f g (Whole row ∷ rows) = each_append g (f row) (each f rows) ∙
    ap (λ zs. each g (f row) ++ zs) (each_each f g rows)
each_each f g (Poisoned a ∷ rows) = ap (λ zs. Poisoned a ∷ zs) (each_each f g rows)

pub each_same : (f g : List Cell → List PlanRow) → ((row : List Cell) → f row ≡ g row) →
    (rows : List PlanRow) → each f rows ≡ each g rows
each_same f g h [] = refl
each_same f g h (Whole row ∷ rows) = ap (λ xs. xs ++ each f rows) (h row) ∙
    ap (λ ys. g row ++ ys) (each_same f g h rows)
each_same f g h (Poisoned a ∷ rows) = ap (λ zs. Poisoned a ∷ zs) (each_same f g h rows)

each_itself : (rows : List PlanRow) → each (λ row. Whole row ∷ []) rows ≡ rows
each_itself [] = refl
each_itself (Whole row ∷ rows) = ap (λ zs. Whole row ∷ zs) (each_itself rows)
each_itself (Poisoned a ∷ rows) = ap (λ zs. Poisoned a ∷ zs) (each_itself rows)

-- no node leaves the rows as they are
pub none_passed : (ns : List Node) (o : List (List Cell)) (args : List Value)
    (rows : List PlanRow) → length ns ≡ 0 → passed ns o args rows ≡ rows
none_passed [] o args rows e = each_itself rows
none_passed (n ∷ ns) o args rows e = absurd (omega (arith, e))

kept_by : (b : Bool) (row : List Cell) → (if b then Whole row ∷ [] else []) ≡ fate_rows
    (tested_fate (if b then test.Stays else test.Gone) row)
kept_by true row = refl
kept_by false row = refl

kept_tested : (c : Cell) (row : List Cell) → kept c row ≡ fate_rows (tested c row)
kept_tested (Cond a) row = refl
kept_tested (Val v) row = kept_by (is_true v) row

gone_on : (f : RowOutcome) (go : List Cell → RowOutcome) →
    each (λ row. fate_rows (go row)) (fate_rows f) ≡ fate_rows (go_on f go)
gone_on (Stays row) go = append-nil (fate_rows (go row))
gone_on Gone go = refl
gone_on (Raises a) go = refl

-- ---- the plain trees of nodes

pub node_is : (y : Node-F Node Plan) → node_of (roll-Node y) ≡ node_step
    (map-Node Node Plan NodeTree PlanTree node_of tree_of y)
node_is y = fold-roll-Node NodeTree PlanTree node_step plan_step y

pub of_layer : (P : Node → Type 0) → ((y : Node-F Node Plan) → P (roll-Node y)) → (n : Node) → P n
of_layer P h n = subst P (roll-out-Node n) (h (out-Node n))

pub over_extend : (ss : List Scalar) (input : PlanTree) →
    with_node (Extend ss) input ≡ extend (scalars_of ss) input
over_extend ss input = ap (λ n. with_node n input) (sym (rolls-Extend ss)) ∙
    ap (λ (t : NodeTree). t.over input) (node_is (Node-F.Extend ss))

pub over_apply : (when : Scalar) (kind : ApplyKind) (inner : Plan) (input : PlanTree) →
    with_node (Apply when kind inner) input ≡ apply (scalar_of when) (kind_of kind) anew
    (tree_of inner) input
over_apply when kind inner input =
    ap (λ n. with_node n input) (sym (rolls-Apply when kind inner)) ∙
    ap (λ (t : NodeTree). t.over input) (node_is (Node-F.Apply when kind inner))

pub over_filter : (s : Scalar) (input : PlanTree) →
    with_node (Filter s) input ≡ filter (scalar_of s) input
over_filter s input = ap (λ n. with_node n input) (sym (rolls-Filter s)) ∙
    ap (λ (t : NodeTree). t.over input) (node_is (Node-F.Filter s))

pub over_keep : (places : List ℕ) (input : PlanTree) →
    with_node (Keep places) input ≡ keep places input
over_keep places input = ap (λ n. with_node n input) (sym (rolls-Keep places)) ∙
    ap (λ (t : NodeTree). t.over input) (node_is (Node-F.Keep places))

pub over_cross : (right : Plan) (input : PlanTree) →
    with_node (Cross right) input ≡ cross input (tree_of right)
over_cross right input = ap (λ n. with_node n input) (sym (rolls-Cross right)) ∙
    ap (λ (t : NodeTree). t.over input) (node_is (Node-F.Cross right))

pub over_outer : (ns : List Node) (s : Scalar) (n : ℕ) (right : Plan) (input : PlanTree) →
    with_node (LeftOuter ns s n right) input ≡ left_outer (run_of ns) (scalar_of s) n input
    (tree_of right)
over_outer ns s n right input =
    ap (λ m. with_node m input) (sym (rolls-LeftOuter ns s n right)) ∙
    ap (λ (t : NodeTree). t.over input) (node_is (Node-F.LeftOuter ns s n right))

pub over_settle : (input : PlanTree) → with_node Settle input ≡ settle input
over_settle input = ap (λ n. with_node n input) (sym rolls-Settle) ∙
    ap (λ (t : NodeTree). t.over input) (node_is Node-F.Settle)

pub over_group : (places : List ℕ) (aggregates : List AggregateColumn) (input : PlanTree) →
    with_node (Group places aggregates) input ≡ group places (aggregates_of aggregates) input
over_group places aggregates input =
    ap (λ n. with_node n input) (sym (rolls-Group places aggregates)) ∙
    ap (λ (t : NodeTree). t.over input) (node_is (Node-F.Group places aggregates))

pub over_sort : (keys : List SortKey) (input : PlanTree) →
    with_node (Sort keys) input ≡ sort keys input
over_sort keys input = ap (λ n. with_node n input) (sym (rolls-Sort keys)) ∙
    ap (λ (t : NodeTree). t.over input) (node_is (Node-F.Sort keys))

-- ---- a stretch

-- one node is its fates
abbrev IsFates : Node → Type 0
IsFates n = by_row n ≡ true → (input : PlanTree) (w : Inputs) (o : List (List Cell)) →
    den (with_node n input) w o ≡ each (λ row. fate_rows (node_fate n row o w.args)) (den input w o)

fates_at : (y : Node-F Node Plan) → IsFates (roll-Node y)
fates_at (Node-F.Extend ss) = subst IsFates (sym (rolls-Extend ss))
    (λ h input w o. ap (λ t. den t w o) (over_extend ss input))
fates_at (Node-F.Apply when kind inner) = subst IsFates (sym (rolls-Apply when kind inner))
    (λ h. absurd (false≢true h))
fates_at (Node-F.Filter s) =
    subst IsFates (sym (rolls-Filter s))
    (λ h input w o. ap (λ t. den t w o) (over_filter s input) ∙
    each_same _ _ (λ row. kept_tested (cell_of (scalar_of s) (sight w o row)) row)
    (den input w o))
fates_at (Node-F.Keep places) = subst IsFates (sym (rolls-Keep places))
    (λ h input w o. ap (λ t. den t w o) (over_keep places input))
fates_at (Node-F.Cross right) = subst IsFates (sym (rolls-Cross right)) (λ h. absurd (false≢true h))
fates_at (Node-F.LeftOuter ns s n right) = subst IsFates (sym (rolls-LeftOuter ns s n right))
    (λ h. absurd (false≢true h))
fates_at Node-F.Settle = subst IsFates (sym rolls-Settle) (λ h. absurd (false≢true h))
fates_at (Node-F.Group places aggregates) = subst IsFates (sym (rolls-Group places aggregates))
    (λ h. absurd (false≢true h))
fates_at (Node-F.Sort keys) = subst IsFates (sym (rolls-Sort keys)) (λ h. absurd (false≢true h))

node_den : (n : Node) → IsFates n
node_den = of_layer IsFates fates_at

pub and_both : (a b : Bool) → (a && b) ≡ true → (a ≡ true) × (b ≡ true)
and_both true b h = (refl, h)
and_both false b h = absurd (false≢true h)

-- nodes that act row by row over an input
pub nodes_den : (ns : List Node) (input : PlanTree) (w : Inputs) (o : List (List Cell)) →
    list_all by_row ns ≡ true → den (with_nodes ns input) w o ≡ passed ns o w.args (den input w o)
nodes_den [] input w o h = sym (each_itself (den input w o))
nodes_den (n ∷ ns) input w o h =
    let both = and_both (by_row n) (list_all by_row ns) h in
    nodes_den ns (with_node n input) w o both.1
    ∙ (ap (λ rows. passed ns o w.args rows) (node_den n both.0 input w o)
    ∙ (each_each (λ row. fate_rows (node_fate n row o w.args))
    (λ row. fate_rows (fate ns row o w.args)) (den input w o)
    ∙ each_same _ _ (λ row. gone_on (node_fate n row o w.args) (λ r. fate ns r o w.args))
    (den input w o)))

-- ---- work

abbrev IsDearer : Node → Type 0
IsDearer n = (input : PlanTree) (w : Inputs) (o : List (List Cell)) →
    work_below input w o ≤ work_below (with_node n input) w o

dearer_step : (y : Node-F NodeTree PlanTree) (input : PlanTree) (w : Inputs)
    (o : List (List Cell)) → work_below input w o ≤ work_below ((node_step y).over input) w o
dearer_step (Node-F.Extend ss) input w o = omega arith
dearer_step (Node-F.Apply when kind inner) input w o = omega arith
dearer_step (Node-F.Filter s) input w o = omega arith
dearer_step (Node-F.Keep places) input w o = omega arith
dearer_step (Node-F.Cross right) input w o = omega arith
dearer_step (Node-F.LeftOuter ns s n right) input w o = omega arith
dearer_step Node-F.Settle input w o = omega arith
dearer_step (Node-F.Group places aggregates) input w o = omega arith
dearer_step (Node-F.Sort keys) input w o = omega arith

pub node_work : (n : Node) → IsDearer n
node_work = of_layer IsDearer (λ y input w o.
    subst (λ (t : NodeTree). work_below input w o ≤ work_below (t.over input) w o) (sym (node_is y))
    (dearer_step (map-Node Node Plan NodeTree PlanTree node_of tree_of y) input w o))

-- no node takes from the work
pub nodes_work : (ns : List Node) (input : PlanTree) (w : Inputs) (o : List (List Cell)) →
    work_below input w o ≤ work_below (with_nodes ns input) w o
nodes_work [] input w o = omega arith
nodes_work (n ∷ ns) input w o = omega (
  arith,
  node_work n input w o,
  nodes_work ns
      (with_node n input) w o,
)

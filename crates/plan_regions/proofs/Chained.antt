-- Nodes that each make one row of one row, over a plan of one row.
use Rattle.std.proofs.Common.{◌≡◌, ℕ, true, false, Bool, ◌&&◌, List, [], ◌∷◌, refl, sym, ap, subst}
use Rattle.std.proofs.Common.{◌∙◌}
use Rattle.std.specs.List.{list_all}
use Rattle.std.proofs.lemmas.Bool.{false≢true}
use Rattle.row_types.specs.declared.aggregate_column.AggregateColumn.{AggregateColumn}
use Rattle.row_types.specs.declared.cell.Cell.{Cell}
use Rattle.row_types.specs.Cells.{PlanRow, Whole}
use Rattle.rel_algebra.specs.declared.plan.Leaf.{Leaf}
use Rattle.rel_algebra.specs.declared.plan.Leaf.TheVariants.{Unit as UnitLeaf}
use Rattle.rel_algebra.specs.declared.plan.Node.{Node, out-Node, roll-Node}
use Rattle.rel_algebra.specs.declared.plan.Node.TheOpen.{Node-F}
use Rattle.rel_algebra.specs.declared.plan.Node.TheFolds.{fold-roll-Node, fold-roll-Plan, map-Node}
use Rattle.rel_algebra.specs.declared.plan.Node.TheVariants.{Extend, Apply, Filter, Keep, Cross}
use Rattle.rel_algebra.specs.declared.plan.Node.TheVariants.{LeftOuter, Settle, Group, Sort}
use Rattle.rel_algebra.specs.declared.plan.Node.TheVariants.{rolls-Extend, rolls-Apply}
use Rattle.rel_algebra.specs.declared.plan.Node.TheVariants.{rolls-Filter, rolls-Keep, rolls-Cross}
use Rattle.rel_algebra.specs.declared.plan.Node.TheVariants.{rolls-LeftOuter, rolls-Settle}
use Rattle.rel_algebra.specs.declared.plan.Node.TheVariants.{rolls-Group, rolls-Sort}
use Rattle.rel_algebra.specs.declared.plan.Node.TheViews.{roll-out-Node}
use Rattle.rel_algebra.specs.declared.plan.Plan.{Plan}
use Rattle.rel_algebra.specs.declared.scalar.Scalar.{Scalar}
use Rattle.rel_algebra.specs.Plain.{Inputs}
use Rattle.rel_algebra.specs.Plan.{PlanTree, den, each, extend, keep}
use Rattle.rel_algebra.specs.PlanView.{NodeTree, leaf_of, node_of, node_step, plan_step, scalars_of}
use Rattle.rel_algebra.specs.PlanView.{tree_of, with_node, with_nodes}
use Rattle.region_steps.specs.Chains.{chain_cells, is_of_chain, node_cells}

node_is : (y : Node-F Node Plan) → node_of (roll-Node y) ≡ node_step
    (map-Node Node Plan NodeTree PlanTree node_of tree_of y)
node_is y = fold-roll-Node NodeTree PlanTree node_step plan_step y

-- one node on the one row of a plan
abbrev IsOne : Node → Type 0
IsOne n = is_of_chain n ≡ true → (input : PlanTree) (w : Inputs) (o : List (List Cell))
    (row : List Cell) → den input w o ≡ Whole row ∷ [] →
    den (with_node n input) w o ≡ Whole (node_cells n row o w.args) ∷ []

over_extend : (ss : List Scalar) (input : PlanTree) →
    with_node (Extend ss) input ≡ extend (scalars_of ss) input
over_extend ss input = ap (λ n. with_node n input) (sym (rolls-Extend ss)) ∙
    ap (λ (t : NodeTree). t.over input) (node_is (Node-F.Extend ss))

over_keep : (places : List ℕ) (input : PlanTree) →
    with_node (Keep places) input ≡ keep places input
over_keep places input = ap (λ n. with_node n input) (sym (rolls-Keep places)) ∙
    ap (λ (t : NodeTree). t.over input) (node_is (Node-F.Keep places))

one_at : (y : Node-F Node Plan) → IsOne (roll-Node y)
one_at (Node-F.Extend ss) = subst IsOne (sym (rolls-Extend ss))
    (λ h input w o row e. ap (λ t. den t w o) (over_extend ss input) ∙
    ap (λ rows. each (λ r. Whole (node_cells (Extend ss) r o w.args) ∷ []) rows) e)
one_at (Node-F.Apply when kind inner) = subst IsOne (sym (rolls-Apply when kind inner))
    (λ h. absurd (false≢true h))
one_at (Node-F.Filter s) = subst IsOne (sym (rolls-Filter s)) (λ h. absurd (false≢true h))
one_at (Node-F.Keep places) = subst IsOne (sym (rolls-Keep places))
    (λ h input w o row e. ap (λ t. den t w o) (over_keep places input) ∙
    ap (λ rows. each (λ r. Whole (node_cells (Keep places) r o w.args) ∷ []) rows) e)
one_at (Node-F.Cross right) = subst IsOne (sym (rolls-Cross right)) (λ h. absurd (false≢true h))
one_at (Node-F.LeftOuter ns s n right) = subst IsOne (sym (rolls-LeftOuter ns s n right))
    (λ h. absurd (false≢true h))
one_at Node-F.Settle = subst IsOne (sym rolls-Settle) (λ h. absurd (false≢true h))
one_at (Node-F.Group places aggregates) = subst IsOne (sym (rolls-Group places aggregates))
    (λ h. absurd (false≢true h))
one_at (Node-F.Sort keys) = subst IsOne (sym (rolls-Sort keys)) (λ h. absurd (false≢true h))

node_one : (n : Node) → IsOne n
node_one n = subst IsOne (roll-out-Node n) (one_at (out-Node n))

and_both : (a b : Bool) → (a && b) ≡ true → (a ≡ true) × (b ≡ true)
and_both true b h = (refl, h)
and_both false b h = absurd (false≢true h)

nodes_one : (ns : List Node) (input : PlanTree) (w : Inputs) (o : List (List Cell))
    (row : List Cell) → list_all is_of_chain ns ≡ true → den input w o ≡ Whole row ∷ [] →
    den (with_nodes ns input) w o ≡ Whole (chain_cells ns row o w.args) ∷ []
nodes_one [] input w o row h e = e
nodes_one (n ∷ ns) input w o row h e =
    let both = and_both (is_of_chain n) (list_all is_of_chain ns) h in
    nodes_one ns (with_node n input) w o (node_cells n row o w.args) both.1
    (node_one n both.0 input w o row e)

-- a whole plan over the row without cells
pub plan_one : (p : Plan) (ns : List Node) (w : Inputs) (o : List (List Cell)) →
    p.leaf ≡ UnitLeaf → ns ≡ p.nodes → list_all is_of_chain ns ≡ true →
    den (tree_of p) w o ≡ Whole (chain_cells p.nodes [] o w.args) ∷ []
plan_one p ns w o l e h =
    let tree : tree_of p ≡ with_nodes p.nodes (leaf_of p.leaf) =
    fold-roll-Plan NodeTree PlanTree node_step plan_step
    (record { leaf = p.leaf; nodes = p.nodes }) in
    ap (λ t. den t w o) tree
    ∙ (ap (λ x. den (with_nodes p.nodes (leaf_of x)) w o) l
    ∙ nodes_one p.nodes (leaf_of UnitLeaf) w o [] (ap (list_all is_of_chain) (sym e) ∙ h) refl)

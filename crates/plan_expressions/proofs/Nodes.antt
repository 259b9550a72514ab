-- A node more over a plan.
use Rattle.std.proofs.Common.{◌≡◌, ℕ, List, [], ◌∷◌, ◌++◌, Bool, true, false, IsTrue, map, refl}
use Rattle.std.proofs.Common.{sym, ap, subst, ◌∙◌}
use Rattle.row_types.specs.declared.aggregate_column.AggregateColumn.{AggregateColumn}
use Rattle.row_types.specs.declared.sort_key.SortKey.{SortKey}
use Rattle.rel_algebra.specs.declared.scalar.Scalar.{Scalar as ScalarCode}
use Rattle.rel_algebra.specs.declared.plan.Node.{Node, out-Node, roll-Node}
use Rattle.rel_algebra.specs.declared.plan.Node.TheOpen.{Node-F}
use Rattle.rel_algebra.specs.declared.plan.Node.TheFolds.{fold-roll-Node, fold-roll-Plan}
use Rattle.rel_algebra.specs.declared.plan.Node.TheVariants.{Extend, Apply, Filter, Keep, Cross}
use Rattle.rel_algebra.specs.declared.plan.Node.TheVariants.{LeftOuter, Settle, Group, Sort}
use Rattle.rel_algebra.specs.declared.plan.Node.TheVariants.{rolls-Extend, rolls-Apply}
use Rattle.rel_algebra.specs.declared.plan.Node.TheVariants.{rolls-Filter, rolls-Keep, rolls-Cross}
use Rattle.rel_algebra.specs.declared.plan.Node.TheVariants.{rolls-LeftOuter, rolls-Settle}
use Rattle.rel_algebra.specs.declared.plan.Node.TheVariants.{rolls-Group, rolls-Sort}
use Rattle.rel_algebra.specs.declared.plan.Node.TheViews.{roll-out-Node}
use Rattle.rel_algebra.specs.declared.plan.Plan.{Plan}
use Rattle.rel_algebra.specs.declared.plan.ApplyKind.{ApplyKind}
use Rattle.rel_algebra.specs.Plan.{PlanTree, unit_row, extend, apply, filter, keep, cross}
use Rattle.rel_algebra.specs.Plan.{left_outer, settle, group, sort, Nodes, no_node, extend_by}
use Rattle.rel_algebra.specs.Plan.{apply_by, on_each, anew}
use Rattle.rel_algebra.specs.Emit.{is_plain}
use Rattle.rel_algebra.specs.PlanView.{NodeTree, node_step, plan_step, node_of, with_node}
use Rattle.rel_algebra.specs.PlanView.{with_nodes, run_of, leaf_of, tree_of, scalar_of, scalars_of}
use Rattle.rel_algebra.specs.PlanView.{kind_of, aggregates_of}
use Rattle.plan_expressions.specs.Drafts.{is_unit_row}

-- ---- what nodes and plans stand for

node_of-Extend : (ss : List ScalarCode) → node_of (Extend ss) ≡ node_step (Node-F.Extend ss)
node_of-Extend ss = ap node_of (sym (rolls-Extend ss)) ∙
    fold-roll-Node NodeTree PlanTree node_step plan_step (Node-F.Extend ss)

node_of-Apply : (s : ScalarCode) (k : ApplyKind) (p : Plan) →
    node_of (Apply s k p) ≡ node_step (Node-F.Apply s k (tree_of p))
node_of-Apply s k p = ap node_of (sym (rolls-Apply s k p)) ∙
    fold-roll-Node NodeTree PlanTree node_step plan_step (Node-F.Apply s k p)

node_of-Filter : (s : ScalarCode) → node_of (Filter s) ≡ node_step (Node-F.Filter s)
node_of-Filter s = ap node_of (sym (rolls-Filter s)) ∙
    fold-roll-Node NodeTree PlanTree node_step plan_step (Node-F.Filter s)

node_of-Keep : (is : List ℕ) → node_of (Keep is) ≡ node_step (Node-F.Keep is)
node_of-Keep is = ap node_of (sym (rolls-Keep is)) ∙
    fold-roll-Node NodeTree PlanTree node_step plan_step (Node-F.Keep is)

node_of-Cross : (p : Plan) → node_of (Cross p) ≡ node_step (Node-F.Cross (tree_of p))
node_of-Cross p = ap node_of (sym (rolls-Cross p)) ∙
    fold-roll-Node NodeTree PlanTree node_step plan_step (Node-F.Cross p)

node_of-LeftOuter : (ns : List Node) (s : ScalarCode) (n : ℕ) (p : Plan) →
    node_of (LeftOuter ns s n p) ≡ node_step (Node-F.LeftOuter (map node_of ns) s n (tree_of p))
node_of-LeftOuter ns s n p = ap node_of (sym (rolls-LeftOuter ns s n p)) ∙
    fold-roll-Node NodeTree PlanTree node_step plan_step (Node-F.LeftOuter ns s n p)

node_of-Settle : node_of Settle ≡ node_step Node-F.Settle
node_of-Settle = ap node_of (sym rolls-Settle) ∙
    fold-roll-Node NodeTree PlanTree node_step plan_step Node-F.Settle

node_of-Group : (is : List ℕ) (ags : List AggregateColumn) →
    node_of (Group is ags) ≡ node_step (Node-F.Group is ags)
node_of-Group is ags = ap node_of (sym (rolls-Group is ags)) ∙
    fold-roll-Node NodeTree PlanTree node_step plan_step (Node-F.Group is ags)

node_of-Sort : (keys : List SortKey) → node_of (Sort keys) ≡ node_step (Node-F.Sort keys)
node_of-Sort keys = ap node_of (sym (rolls-Sort keys)) ∙
    fold-roll-Node NodeTree PlanTree node_step plan_step (Node-F.Sort keys)

pub tree_of-parts : (p : Plan) → tree_of p ≡ with_nodes p.nodes (leaf_of p.leaf)
tree_of-parts p = fold-roll-Plan NodeTree PlanTree node_step plan_step
    (record { leaf = p.leaf; nodes = p.nodes })

-- what holds of each kind of node
pub of_layer : (P : Node → Type 0) → ((y : Node-F Node Plan) → P (roll-Node y)) → (n : Node) → P n
of_layer P h n = subst P (roll-out-Node n) (h (out-Node n))

-- ---- each node over its input

pub with-Extend : (ss : List ScalarCode) (p : PlanTree) →
    with_node (Extend ss) p ≡ extend (scalars_of ss) p
with-Extend ss p = ap (λ (n : NodeTree). n.over p) (node_of-Extend ss)

pub with-Apply : (s : ScalarCode) (k : ApplyKind) (i : Plan) (p : PlanTree) →
    with_node (Apply s k i) p ≡ apply (scalar_of s) (kind_of k) anew (tree_of i) p
with-Apply s k i p = ap (λ (n : NodeTree). n.over p) (node_of-Apply s k i)

pub with-Filter : (s : ScalarCode) (p : PlanTree) → with_node (Filter s) p ≡ filter (scalar_of s) p
with-Filter s p = ap (λ (n : NodeTree). n.over p) (node_of-Filter s)

pub with-Keep : (is : List ℕ) (p : PlanTree) → with_node (Keep is) p ≡ keep is p
with-Keep is p = ap (λ (n : NodeTree). n.over p) (node_of-Keep is)

pub with-Cross : (r : Plan) (p : PlanTree) → with_node (Cross r) p ≡ cross p (tree_of r)
with-Cross r p = ap (λ (n : NodeTree). n.over p) (node_of-Cross r)

pub with-LeftOuter : (ns : List Node) (s : ScalarCode) (n : ℕ) (r : Plan) (p : PlanTree) →
    with_node (LeftOuter ns s n r) p ≡ left_outer (run_of ns) (scalar_of s) n p (tree_of r)
with-LeftOuter ns s n r p = ap (λ (x : NodeTree). x.over p) (node_of-LeftOuter ns s n r)

pub with-Settle : (p : PlanTree) → with_node Settle p ≡ settle p
with-Settle p = ap (λ (n : NodeTree). n.over p) node_of-Settle

pub with-Group : (is : List ℕ) (ags : List AggregateColumn) (p : PlanTree) →
    with_node (Group is ags) p ≡ group is (aggregates_of ags) p
with-Group is ags p = ap (λ (n : NodeTree). n.over p) (node_of-Group is ags)

pub with-Sort : (keys : List SortKey) (p : PlanTree) → with_node (Sort keys) p ≡ sort keys p
with-Sort keys p = ap (λ (n : NodeTree). n.over p) (node_of-Sort keys)

-- each node below a run
pub below-Extend : (ss : List ScalarCode) (rest : Nodes) →
    (node_of (Extend ss)).below rest ≡ extend_by (scalars_of ss) rest
below-Extend ss rest = ap (λ (n : NodeTree). n.below rest) (node_of-Extend ss)

pub below-Apply : (s : ScalarCode) (k : ApplyKind) (i : Plan) (rest : Nodes) →
    (node_of (Apply s k i)).below rest ≡ apply_by (scalar_of s) (kind_of k) anew (tree_of i) rest
below-Apply s k i rest = ap (λ (n : NodeTree). n.below rest) (node_of-Apply s k i)

pub below-Filter : (s : ScalarCode) (rest : Nodes) → (node_of (Filter s)).below rest ≡ rest
below-Filter s rest = ap (λ (n : NodeTree). n.below rest) (node_of-Filter s)

pub below-Keep : (is : List ℕ) (rest : Nodes) → (node_of (Keep is)).below rest ≡ rest
below-Keep is rest = ap (λ (n : NodeTree). n.below rest) (node_of-Keep is)

pub below-Cross : (r : Plan) (rest : Nodes) → (node_of (Cross r)).below rest ≡ rest
below-Cross r rest = ap (λ (n : NodeTree). n.below rest) (node_of-Cross r)

pub below-LeftOuter : (ns : List Node) (s : ScalarCode) (n : ℕ) (r : Plan) (rest : Nodes) →
    (node_of (LeftOuter ns s n r)).below rest ≡ rest
below-LeftOuter ns s n r rest = ap (λ (x : NodeTree). x.below rest) (node_of-LeftOuter ns s n r)

pub below-Settle : (rest : Nodes) → (node_of Settle).below rest ≡ rest
below-Settle rest = ap (λ (n : NodeTree). n.below rest) node_of-Settle

pub below-Group : (is : List ℕ) (ags : List AggregateColumn) (rest : Nodes) →
    (node_of (Group is ags)).below rest ≡ rest
below-Group is ags rest = ap (λ (n : NodeTree). n.below rest) (node_of-Group is ags)

pub below-Sort : (keys : List SortKey) (rest : Nodes) → (node_of (Sort keys)).below rest ≡ rest
below-Sort keys rest = ap (λ (n : NodeTree). n.below rest) (node_of-Sort keys)

-- ---- one more

pub one_node_more : (ns : List Node) (n : Node) (p : PlanTree) →
    with_nodes (ns ++ n ∷ []) p ≡ with_node n (with_nodes ns p)
one_node_more [] n p = refl
one_node_more (m ∷ ns) n p = one_node_more ns n (with_node m p)

-- nodes with one after them
pub one_after : (ns ms : List Node) (n : Node) (p : PlanTree) → ms ≡ ns ++ n ∷ [] →
    with_nodes ms p ≡ with_node n (with_nodes ns p)
one_after ns ms n p h = ap (λ (xs : List Node). with_nodes xs p) h ∙ one_node_more ns n p

-- ---- Unit alone

abbrev NotUnit : Node → Type 0
NotUnit n = (p : PlanTree) → is_unit_row (with_node n p) ≡ false

node_at : (y : Node-F Node Plan) → NotUnit (roll-Node y)
node_at (Node-F.Extend ss) = subst NotUnit (sym (rolls-Extend ss))
    (λ p. ap is_unit_row (with-Extend ss p))
node_at (Node-F.Apply s k i) = subst NotUnit (sym (rolls-Apply s k i))
    (λ p. ap is_unit_row (with-Apply s k i p))
node_at (Node-F.Filter s) = subst NotUnit (sym (rolls-Filter s))
    (λ p. ap is_unit_row (with-Filter s p))
node_at (Node-F.Keep places) = subst NotUnit (sym (rolls-Keep places))
    (λ p. ap is_unit_row (with-Keep places p))
node_at (Node-F.Cross r) = subst NotUnit (sym (rolls-Cross r))
    (λ p. ap is_unit_row (with-Cross r p))
node_at (Node-F.LeftOuter ns s n r) = subst NotUnit (sym (rolls-LeftOuter ns s n r))
    (λ p. ap is_unit_row (with-LeftOuter ns s n r p))
node_at Node-F.Settle = subst NotUnit (sym rolls-Settle) (λ p. ap is_unit_row (with-Settle p))
node_at (Node-F.Group is ags) = subst NotUnit (sym (rolls-Group is ags))
    (λ p. ap is_unit_row (with-Group is ags p))
node_at (Node-F.Sort keys) = subst NotUnit (sym (rolls-Sort keys))
    (λ p. ap is_unit_row (with-Sort keys p))

is_node : (n : Node) → NotUnit n
is_node = of_layer NotUnit node_at

pub not_unit : (ns : List Node) (p : PlanTree) → is_unit_row p ≡ false →
    is_unit_row (with_nodes ns p) ≡ false
not_unit [] p h = h
not_unit (n ∷ ns) p h = not_unit ns (with_node n p) (is_node n p)

pub unit_empty : (ns : List Node) (b : Bool) → (IsTrue b → ns ≡ []) → (ns ≡ [] → IsTrue b) →
    b ≡ is_unit_row (with_nodes ns unit_row)
unit_empty [] b f g = g refl
unit_empty (n ∷ ns) true f g = absurd (let never = f refl in cc)
unit_empty (n ∷ ns) false f g = sym (not_unit ns (with_node n unit_row) (is_node n unit_row))

pub on_each-not_unit : (a : Nodes) (p : PlanTree) → is_unit_row p ≡ false →
    is_unit_row (on_each a p) ≡ false
on_each-not_unit no_node p h = h
on_each-not_unit (extend_by ss a) p h = on_each-not_unit a (extend ss p) refl
on_each-not_unit (apply_by when kind way inner a) p h =
    on_each-not_unit a (apply when kind way inner p) refl

pub plain_unit : (a : Nodes) → is_unit_row (on_each a unit_row) ≡ is_plain a
plain_unit no_node = refl
plain_unit (extend_by ss a) = on_each-not_unit a (extend ss unit_row) refl
plain_unit (apply_by when kind way inner a) = on_each-not_unit a (apply when kind way inner unit_row) refl

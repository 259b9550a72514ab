-- Which tables each node adds to those of the plan below it.
use Rattle.std.proofs.Common.{◌≡◌, ℕ, suc, ◌+◌, ◌<◌, List, [], ◌∷◌, ◌++◌, length, get_or, drop}
use Rattle.std.proofs.Common.{refl, ap, sym, subst, ◌∙◌, append_assoc, add-one, drop-cons}
use Rattle.std.specs.List.{flat_map}
use Rattle.rel_algebra.specs.Plan.{PlanTree, Nodes, no_node, unit_row}
use Rattle.rel_algebra.specs.PlanView.{NodeTree, leaf_of, node_step, plan_step, node_of, with_node}
use Rattle.rel_algebra.specs.PlanView.{with_nodes, run_of, tree_of}
use Rattle.rel_algebra.specs.declared.plan.ApplyKind.{ApplyKind}
use Rattle.rel_algebra.specs.declared.plan.Node.{Node, out-Node, roll-Node}
use Rattle.rel_algebra.specs.declared.plan.Node.TheVariants.{Apply, rolls-Apply}
use Rattle.rel_algebra.specs.declared.plan.Node.TheViews.{roll-out-Node}
use Rattle.rel_algebra.specs.declared.plan.Node.TheOpen.{Node-F}
use Rattle.rel_algebra.specs.declared.plan.Node.TheFolds.{fold-roll-Node, fold-roll-Plan}
use Rattle.rel_algebra.specs.declared.plan.Plan.{Plan}
use Rattle.rel_algebra.specs.declared.scalar.Scalar.{Scalar}
use Rattle.scanned_tables.specs.Scans.{scans, scans_in}
use Rattle.scanned_tables.specs.declared.scans.ScannedTable.{ScannedTable}

-- what a node adds in a plan, and in a run
abbrev pub over_scans : Node → List ScannedTable
over_scans n = scans (with_node n unit_row)

abbrev pub below_scans : Node → List ScannedTable
below_scans n = scans_in ((node_of n).below no_node)

record Adds (n : NodeTree) : Type 0 where
  over : (input : PlanTree) → scans (n.over input) ≡ scans input ++ scans (n.over unit_row)
  below : (rest : Nodes) → scans_in (n.below rest) ≡ scans_in (n.below no_node) ++ scans_in rest

nothing_more : (xs : List ScannedTable) → xs ≡ xs ++ []
nothing_more [] = refl
nothing_more (x ∷ xs) = ap (λ (ys : List ScannedTable). x ∷ ys) (nothing_more xs)

adds_at : (y : Node-F NodeTree PlanTree) → Adds (node_step y)
adds_at (Node-F.Extend ss) = record { over = λ input. nothing_more (scans input); below = λ rest. refl }
adds_at (Node-F.Apply s k inner) = record {
  over = λ input. refl;
  below = λ rest. ap (λ (ys : List ScannedTable). ys ++ scans_in rest) (nothing_more (scans inner));
}
adds_at (Node-F.Filter s) = record { over = λ input. nothing_more (scans input); below = λ rest. refl }
adds_at (Node-F.Keep places) =
    record { over = λ input. nothing_more (scans input); below = λ rest. refl }
adds_at (Node-F.Cross right) = record { over = λ input. refl; below = λ rest. refl }
adds_at (Node-F.LeftOuter nodes s n right) =
    record { over = λ input. refl; below = λ rest. refl }
adds_at Node-F.Settle = record { over = λ input. nothing_more (scans input); below = λ rest. refl }
adds_at (Node-F.Group places aggregates) =
    record { over = λ input. nothing_more (scans input); below = λ rest. refl }
adds_at (Node-F.Sort keys) =
    record { over = λ input. nothing_more (scans input); below = λ rest. refl }

adds : (n : Node) → Adds (node_of n)
adds n =
    subst (λ m. Adds (node_of m)) (roll-out-Node n)
    (subst Adds (sym (fold-roll-Node NodeTree PlanTree node_step plan_step (out-Node n)))
    (adds_at _))

-- what one level adds in a run
below_level : (m : Node) (n : NodeTree) → node_of m ≡ n → below_scans m ≡ scans_in (n.below no_node)
below_level m n h = ap (λ (x : NodeTree). scans_in (x.below no_node)) h

-- an Apply adds the tables of its plan
pub below-Apply : (n : Node) (s : Scalar) (k : ApplyKind) (p : Plan) → n ≡ Apply s k p →
    below_scans n ≡ scans (tree_of p)
below-Apply n s k p is =
    below_level n (node_step (Node-F.Apply s k (tree_of p)))
    (ap node_of (is ∙ sym (rolls-Apply s k p))
    ∙ fold-roll-Node NodeTree PlanTree node_step plan_step (Node-F.Apply s k p))
    ∙ sym (nothing_more (scans (tree_of p)))

abbrev OtherThanApply : Node → Type 0
OtherThanApply n = (s : Scalar) (k : ApplyKind) (p : Plan) → n ≡ Apply s k p → ⊥

other_at : (y : Node-F Node Plan) → OtherThanApply (roll-Node y) → below_scans (roll-Node y) ≡ []
other_at (Node-F.Apply s k p) h = absurd (h s k p (rolls-Apply s k p))
other_at (Node-F.Extend ss) h = below_level (roll-Node (Node-F.Extend ss)) _
    (fold-roll-Node NodeTree PlanTree node_step plan_step (Node-F.Extend ss))
other_at (Node-F.Filter s) h = below_level (roll-Node (Node-F.Filter s)) _
    (fold-roll-Node NodeTree PlanTree node_step plan_step (Node-F.Filter s))
other_at (Node-F.Keep places) h = below_level (roll-Node (Node-F.Keep places)) _
    (fold-roll-Node NodeTree PlanTree node_step plan_step (Node-F.Keep places))
other_at (Node-F.Cross r) h = below_level (roll-Node (Node-F.Cross r)) _
    (fold-roll-Node NodeTree PlanTree node_step plan_step (Node-F.Cross r))
other_at (Node-F.LeftOuter ns s n r) h = below_level (roll-Node (Node-F.LeftOuter ns s n r)) _
    (fold-roll-Node NodeTree PlanTree node_step plan_step (Node-F.LeftOuter ns s n r))
other_at Node-F.Settle h = below_level (roll-Node Node-F.Settle) _
    (fold-roll-Node NodeTree PlanTree node_step plan_step Node-F.Settle)
other_at (Node-F.Group places ags) h = below_level (roll-Node (Node-F.Group places ags)) _
    (fold-roll-Node NodeTree PlanTree node_step plan_step (Node-F.Group places ags))
other_at (Node-F.Sort keys) h = below_level (roll-Node (Node-F.Sort keys)) _
    (fold-roll-Node NodeTree PlanTree node_step plan_step (Node-F.Sort keys))

-- no other node adds any to a run
pub below-other : (n : Node) (found : List ScannedTable) → OtherThanApply n →
    found ≡ found ++ below_scans n
below-other n found h =
    nothing_more found
    ∙ ap (λ (xs : List ScannedTable). found ++ xs) (sym (subst (λ (m : Node). below_scans m ≡ [])
    (roll-out-Node n) (other_at (out-Node n) (subst OtherThanApply (sym (roll-out-Node n)) h))))

all_over_scans : (ns : List Node) (input : PlanTree) →
    scans (with_nodes ns input) ≡ scans input ++ flat_map over_scans ns
all_over_scans [] input = nothing_more (scans input)
all_over_scans (n ∷ ns) input =
    all_over_scans ns (with_node n input)
    ∙ ap (λ (ys : List ScannedTable). ys ++ flat_map over_scans ns) ((adds n).over input)
    ∙ append_assoc (scans input) (over_scans n) (flat_map over_scans ns)

-- the tables of a run, node by node
pub run_scans : (ns : List Node) → scans_in (run_of ns) ≡ flat_map below_scans ns
run_scans [] = refl
run_scans (n ∷ ns) = (adds n).below (run_of ns)
    ∙ ap (λ (ys : List ScannedTable). below_scans n ++ ys) (run_scans ns)

-- the tables of a plan: that of its leaf, and then node by node
pub plan_scans : (p : Plan) →
    scans (tree_of p) ≡ scans (leaf_of p.leaf) ++ flat_map over_scans p.nodes
plan_scans p =
    let whole : tree_of p ≡ with_nodes p.nodes (leaf_of p.leaf) =
    fold-roll-Plan NodeTree PlanTree node_step plan_step (record { leaf = p.leaf; nodes = p.nodes })
    in
    ap scans whole ∙ all_over_scans p.nodes (leaf_of p.leaf)

-- ---- as code meets them

-- a plan's leaf, and the nodes that are left
pub leaf_first : (p : Plan) (before found : List ScannedTable) →
    found ≡ before ++ scans (leaf_of p.leaf) →
    found ++ flat_map over_scans p.nodes ≡ before ++ scans (tree_of p)
leaf_first p before found h =
    ap (λ (ys : List ScannedTable). ys ++ flat_map over_scans p.nodes) h
    ∙ append_assoc before (scans (leaf_of p.leaf)) (flat_map over_scans p.nodes)
    ∙ ap (λ (ys : List ScannedTable). before ++ ys) (sym (plan_scans p))

-- a run, of which all nodes are left
pub all_left : (ns : List Node) (before : List ScannedTable) →
    before ++ flat_map below_scans ns ≡ before ++ scans_in (run_of ns)
all_left ns before = ap (λ (ys : List ScannedTable). before ++ ys) (sym (run_scans ns))

-- one node more
pub one_more : (f : Node → List ScannedTable) (ns : List Node) (i : ℕ) (n : Node)
    (found later whole : List ScannedTable) → i < length ns → n ≡ get_or ns i n →
    later ≡ found ++ f n → found ++ flat_map f (drop i ns) ≡ whole →
    later ++ flat_map f (drop (i + 1) ns) ≡ whole
one_more f ns i n found later whole h is more e =
    rw add-one
    (ap (λ (ys : List ScannedTable). ys ++ flat_map f (drop (suc i) ns)) more
    ∙ append_assoc found (f n) (flat_map f (drop (suc i) ns))
    ∙ ap (λ (m : Node). found ++ (f m ++ flat_map f (drop (suc i) ns))) is
    ∙ ap (λ (ms : List Node). found ++ flat_map f ms) (sym (drop-cons ns i n h))
    ∙ e)

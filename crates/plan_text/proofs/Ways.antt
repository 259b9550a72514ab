-- A plan of the code runs each inner plan anew, so nothing else counts in it.
use Rattle.std.proofs.Common.{ℕ, ◌≡◌, List, [], ◌∷◌, map, refl, sym, ap, subst, ◌∙◌, arith}
use Rattle.rel_algebra.specs.declared.plan.Leaf.{Leaf}
use Rattle.rel_algebra.specs.declared.plan.Leaf.TheVariants as leaf
use Rattle.rel_algebra.specs.declared.plan.Node.{Node, roll-Node}
use Rattle.rel_algebra.specs.declared.plan.Node.TheOpen.{Node-F, Plan-F}
use Rattle.rel_algebra.specs.declared.plan.Node.TheFolds.{fold-roll-Node, fold-roll-Plan, map-Node}
use Rattle.rel_algebra.specs.declared.plan.Node.TheFolds.{map-Plan, ind-Plan}
use Rattle.rel_algebra.specs.declared.plan.Plan.{Plan, roll-Plan}
use Rattle.rel_algebra.specs.Plan.{Way, anew, PlanTree, Nodes}
use Rattle.rel_algebra.specs.PlanView.{NodeTree, node_step, plan_step, node_of, tree_of, leaf_of}
use Rattle.rel_algebra.specs.PlanView.{all_over, run}
use Rattle.plan_text.specs.NodeCounts.{ways, ways_in}

-- a node that adds nothing to what counts
record AddsNone (f : Way → ℕ) (n : NodeTree) : Type 0 where
  over : (input : PlanTree) → ways f (n.over input) ≡ ways f input
  below : (rest : Nodes) → ways_in f (n.below rest) ≡ ways_in f rest

module _ (f : Way → ℕ) (none : f anew ≡ 0) where
  abbrev SeenNode : Type 0
  SeenNode = (n : Node) × AddsNone f (node_of n)

  abbrev SeenPlan : Type 0
  SeenPlan = (p : Plan) × (ways f (tree_of p) ≡ 0)

  abbrev nodes_in : List SeenNode → List Node
  nodes_in ns = map (λ (n : SeenNode). n.0) ns

  nodes_over : (ns : List SeenNode) (input : PlanTree) →
      ways f (all_over (map node_of (nodes_in ns)) input) ≡ ways f input
  nodes_over [] input = refl
  nodes_over (n ∷ ns) input = nodes_over ns ((node_of n.0).over input) ∙ n.1.over input

  nodes_run : (ns : List SeenNode) → ways_in f (run (map node_of (nodes_in ns))) ≡ 0
  nodes_run [] = refl
  nodes_run (n ∷ ns) = n.1.below (run (map node_of (nodes_in ns))) ∙ nodes_run ns

  leaf_none : (l : Leaf) → ways f (leaf_of l) ≡ 0
  leaf_none leaf.Unit = refl
  leaf_none (leaf.Scan name columns) = refl
  leaf_none (leaf.Values rows) = refl

  -- a node, by what its layer makes
  abbrev by_layer : (y : Node-F Node Plan) →
      AddsNone f (node_step (map-Node Node Plan NodeTree PlanTree node_of tree_of y)) →
      AddsNone f (node_of (roll-Node y))
  by_layer y h = subst (AddsNone f)
      (sym (fold-roll-Node NodeTree PlanTree node_step plan_step y)) h

  abbrev node_layer : Node-F SeenNode SeenPlan → Node-F Node Plan
  node_layer y = map-Node SeenNode SeenPlan Node Plan (λ n. n.0) (λ p. p.0) y

  abbrev plan_layer : Plan-F SeenNode SeenPlan → Plan-F Node Plan
  plan_layer y = map-Plan SeenNode SeenPlan Node Plan (λ n. n.0) (λ p. p.0) y

  node_none : (y : Node-F SeenNode SeenPlan) → AddsNone f (node_of (roll-Node (node_layer y)))
  node_none (Node-F.Extend ss) =
      by_layer (Node-F.Extend ss) (record { over = λ input. refl; below = λ rest. refl })
  node_none (Node-F.Apply s k inner) = by_layer (Node-F.Apply s k inner.0) (record {
    over = λ input. omega (arith, none, inner.1);
    below = λ rest. omega (arith, none, inner.1);
  })
  node_none (Node-F.Filter s) =
      by_layer (Node-F.Filter s) (record { over = λ input. refl; below = λ rest. refl })
  node_none (Node-F.Keep places) =
      by_layer (Node-F.Keep places) (record { over = λ input. refl; below = λ rest. refl })
  node_none (Node-F.Cross right) = by_layer (Node-F.Cross right.0) (record {
    over = λ input. omega (arith, right.1);
    below = λ rest. refl;
  })
  node_none (Node-F.LeftOuter nodes s n right) =
      by_layer (Node-F.LeftOuter (nodes_in nodes) s n right.0) (record {
        over = λ input. omega (arith, right.1, nodes_run nodes);
        below = λ rest. refl;
      })
  node_none Node-F.Settle =
      by_layer Node-F.Settle (record { over = λ input. refl; below = λ rest. refl })
  node_none (Node-F.Group places aggregates) = by_layer (Node-F.Group places aggregates)
      (record { over = λ input. refl; below = λ rest. refl })
  node_none (Node-F.Sort keys) =
      by_layer (Node-F.Sort keys) (record { over = λ input. refl; below = λ rest. refl })

  plan_none : (y : Plan-F SeenNode SeenPlan) → ways f (tree_of (roll-Plan (plan_layer y))) ≡ 0
  plan_none y =
      ap (ways f) (fold-roll-Plan NodeTree PlanTree node_step plan_step
      (record { leaf = y.leaf; nodes = nodes_in y.nodes })) ∙
      (nodes_over y.nodes (leaf_of y.leaf) ∙ leaf_none y.leaf)

  -- what doesn't count at an Apply that is run anew doesn't count in a plan of the code
  pub ways_none : (p : Plan) → ways f (tree_of p) ≡ 0
  ways_none = ind-Plan (λ n. AddsNone f (node_of n)) (λ p. ways f (tree_of p) ≡ 0)
      (λ x y is. subst (λ z. AddsNone f (node_of (roll-Node z))) is (node_none y))
      (λ x y is. subst (λ z. ways f (tree_of (roll-Plan z)) ≡ 0) is (plan_none y))

-- How many Apply nodes each node adds to those of the plan below it.
use Rattle.std.proofs.Common.{◌≡◌, ◌+◌, ℕ, List, [], ◌∷◌, refl, ap, sym, subst, arith}
use Rattle.std.specs.List.{sum_by}
use Rattle.std.proofs.lemmas.List.Sums.{sum_by-cons}
use Rattle.rel_algebra.specs.Applies.{applies, applies_in}
use Rattle.rel_algebra.specs.Plan.{PlanTree, Nodes, no_node, unit_row}
use Rattle.rel_algebra.specs.PlanView.{NodeTree, leaf_of, node_step, plan_step, node_of, with_node}
use Rattle.rel_algebra.specs.PlanView.{with_nodes, run_of, tree_of}
use Rattle.rel_algebra.specs.declared.plan.Leaf.{Leaf}
use Rattle.rel_algebra.specs.declared.plan.Leaf.TheVariants as leaf
use Rattle.rel_algebra.specs.declared.plan.Node.{Node, out-Node}
use Rattle.rel_algebra.specs.declared.plan.Node.TheViews.{roll-out-Node}
use Rattle.rel_algebra.specs.declared.plan.Node.TheOpen.{Node-F}
use Rattle.rel_algebra.specs.declared.plan.Node.TheFolds.{fold-roll-Node, fold-roll-Plan}
use Rattle.rel_algebra.specs.declared.plan.Plan.{Plan}

-- what a node adds in a plan, and in a run
abbrev pub over_count : Node → ℕ
over_count n = applies (with_node n unit_row)

abbrev pub below_count : Node → ℕ
below_count n = applies_in ((node_of n).below no_node)

record Counts (n : NodeTree) : Type 0 where
  over : (input : PlanTree) → applies (n.over input) ≡ applies (n.over unit_row) + applies input
  below : (rest : Nodes) → applies_in (n.below rest) ≡ applies_in (n.below no_node)
      + applies_in rest

counts_at : (y : Node-F NodeTree PlanTree) → Counts (node_step y)
counts_at (Node-F.Extend ss) = record { over = λ input. omega arith; below = λ rest. omega arith }
counts_at (Node-F.Apply s k inner) =
    record { over = λ input. omega arith; below = λ rest. omega arith }
counts_at (Node-F.Filter s) = record { over = λ input. omega arith; below = λ rest. omega arith }
counts_at (Node-F.Keep places) = record { over = λ input. omega arith; below = λ rest. omega arith }
counts_at (Node-F.Cross right) = record { over = λ input. omega arith; below = λ rest. omega arith }
counts_at (Node-F.LeftOuter nodes s n right) =
    record { over = λ input. omega arith; below = λ rest. omega arith }
counts_at Node-F.Settle = record { over = λ input. omega arith; below = λ rest. omega arith }
counts_at (Node-F.Group places aggregates) =
    record { over = λ input. omega arith; below = λ rest. omega arith }
counts_at (Node-F.Sort keys) = record { over = λ input. omega arith; below = λ rest. omega arith }

counts : (n : Node) → Counts (node_of n)
counts n =
    subst (λ m. Counts (node_of m)) (roll-out-Node n)
    (subst Counts (sym (fold-roll-Node NodeTree PlanTree node_step plan_step (out-Node n)))
    (counts_at _))

all_over_count : (ns : List Node) (input : PlanTree) → applies (with_nodes ns input)
    ≡ sum_by over_count ns + applies input
all_over_count [] input = omega arith
all_over_count (n ∷ ns) input = omega (
  arith,
  all_over_count ns (with_node n input),
  (counts n).over input,
  sum_by-cons over_count n ns,
)

pub run_count : (ns : List Node) → applies_in (run_of ns) ≡ sum_by below_count ns
run_count [] = refl
run_count (n ∷ ns) = omega (
  arith,
  run_count ns,
  (counts n).below (run_of ns),
  sum_by-cons below_count n ns,
)

leaf_count : (l : Leaf) → applies (leaf_of l) ≡ 0
leaf_count leaf.Unit = refl
leaf_count (leaf.Scan name columns) = refl
leaf_count (leaf.Values rows) = refl

pub plan_count : (p : Plan) → applies (tree_of p) ≡ sum_by over_count p.nodes
plan_count p =
    let whole : tree_of p ≡ with_nodes p.nodes (leaf_of p.leaf) =
    fold-roll-Plan NodeTree PlanTree node_step plan_step (record { leaf = p.leaf; nodes = p.nodes })
    in
    omega (arith, ap applies whole, all_over_count p.nodes (leaf_of p.leaf), leaf_count p.leaf)

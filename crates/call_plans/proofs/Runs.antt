-- Nodes of a function's plan, in memory and as its emission has them.
use Rattle.std.proofs.Common.{◌≡◌, ℕ, ◌+◌, ◌<◌, List, [], ◌∷◌, Option, Some, None, length, drop}
use Rattle.std.proofs.Common.{get_or, refl, sym, ap, subst, ◌∙◌, suc, add-one, drop-cons, arith}
use Rattle.catalog_store.specs.Kept.{with_below, run_of as kept_run}
use Rattle.rel_algebra.specs.Emit.{width}
use Rattle.rel_algebra.specs.Plan.{Nodes, PlanTree, anew, apply_by, extend_by, no_node, on_each}
use Rattle.rel_algebra.specs.Plan.{kind_width, scalar_count}
use Rattle.rel_algebra.specs.PlanView.{NodeTree, kind_of, node_of, node_step, plan_step, run_of}
use Rattle.rel_algebra.specs.PlanView.{scalar_of, scalars_of, tree_of, with_node, with_nodes}
use Rattle.rel_algebra.specs.declared.plan.ApplyKind.{ApplyKind}
use Rattle.rel_algebra.specs.declared.plan.Node.{Node, out-Node, roll-Node}
use Rattle.rel_algebra.specs.declared.plan.Node.TheFolds.{fold-roll-Node}
use Rattle.rel_algebra.specs.declared.plan.Node.TheOpen.{Node-F}
use Rattle.rel_algebra.specs.declared.plan.Node.TheVariants.{Apply, Extend, rolls-Apply}
use Rattle.rel_algebra.specs.declared.plan.Node.TheVariants.{rolls-Extend}
use Rattle.rel_algebra.specs.declared.plan.Node.TheViews.{roll-out-Node}
use Rattle.rel_algebra.specs.declared.plan.Plan.{Plan}
use Rattle.rel_algebra.specs.declared.scalar.Scalar.{Scalar}

-- ---- a run

abbrev or_none : Option Nodes → Nodes
or_none None = no_node
or_none (Some a) = a

-- a node that begins a run: what is left of it, which stands over the node as the run does
record Begins (n : Node) (o : Option Nodes) (a : Nodes) : Type 0 where
  rest : Nodes
  is : o ≡ Some rest
  over : (t : PlanTree) → on_each rest (with_node n t) ≡ on_each a t
  below : (node_of n).below rest ≡ a

begins_at : (y : Node-F Node Plan) (o : Option Nodes) (a : Nodes) → with_below y o ≡ Some a →
    Begins (roll-Node y) o a
begins_at (Node-F.Extend ss) None a h = absurd (let never = h in cc)
begins_at (Node-F.Extend ss) (Some rest) a h =
    let e : node_of (roll-Node (Node-F.Extend ss)) ≡ node_step (Node-F.Extend ss) =
    fold-roll-Node NodeTree PlanTree node_step plan_step (Node-F.Extend ss) in
    let whole : extend_by (scalars_of ss) rest ≡ a = ap or_none h in
    record {
      rest = rest;
      is = refl;
      over = λ t. ap (λ (x : NodeTree). on_each rest (x.over t)) e
          ∙ ap (λ (x : Nodes). on_each x t) whole;
      below = ap (λ (x : NodeTree). x.below rest) e ∙ whole;
    }
begins_at (Node-F.Apply s k p) None a h = absurd (let never = h in cc)
begins_at (Node-F.Apply s k p) (Some rest) a h =
    let e : node_of (roll-Node (Node-F.Apply s k p)) ≡ node_step (Node-F.Apply s k (tree_of p)) =
    fold-roll-Node NodeTree PlanTree node_step plan_step (Node-F.Apply s k p) in
    let whole : apply_by (scalar_of s) (kind_of k) anew (tree_of p) rest ≡ a = ap or_none h in
    record {
      rest = rest;
      is = refl;
      over = λ t. ap (λ (x : NodeTree). on_each rest (x.over t)) e
          ∙ ap (λ (x : Nodes). on_each x t) whole;
      below = ap (λ (x : NodeTree). x.below rest) e ∙ whole;
    }
begins_at _ o a h = absurd (let never = h in cc)

begins : (n : Node) (ns : List Node) (a : Nodes) → kept_run (n ∷ ns) ≡ Some a →
    Begins n (kept_run ns) a
begins n ns a h =
    subst (λ (m : Node). Begins m (kept_run ns) a) (roll-out-Node n)
    (begins_at (out-Node n) (kept_run ns) a h)

-- nodes that are a run stand over a plan as that run does
pub stand_over : (ns : List Node) (a : Nodes) (t : PlanTree) → kept_run ns ≡ Some a →
    with_nodes ns t ≡ on_each a t
stand_over [] a t h = ap (λ (x : Nodes). on_each x t) (ap or_none h)
stand_over (n ∷ ns) a t h =
    let b = begins n ns a h in stand_over ns b.rest (with_node n t) b.is ∙ b.over t

-- and are that run
pub are_run : (ns : List Node) (a : Nodes) → kept_run ns ≡ Some a → run_of ns ≡ a
are_run [] a h = ap or_none h
are_run (n ∷ ns) a h =
    let b = begins n ns a h in
    ap (λ (r : Nodes). (node_of n).below r) (are_run ns b.rest b.is) ∙ b.below

-- ---- widths

-- what a node adds to the columns of a row, whatever stands above it
record Widens (n : NodeTree) : Type 0 where
  more : (rest : Nodes) (c : ℕ) → width (n.below rest) c ≡ width rest (c + width (n.below no_node) 0)

from_zero : (k : ℕ) → k ≡ 0 + k
from_zero k = omega arith

nothing_more : (rest : Nodes) (c : ℕ) → width rest c ≡ width rest (c + 0)
nothing_more rest c = ap (width rest) (omega arith)

widens_at : (y : Node-F NodeTree PlanTree) → Widens (node_step y)
widens_at (Node-F.Extend ss) = record {
  more = λ rest c. ap (λ (k : ℕ). width rest (c + k)) (from_zero (scalar_count (scalars_of ss)));
}
widens_at (Node-F.Apply s k inner) = record {
  more = λ rest c. ap (λ (j : ℕ). width rest (c + j)) (from_zero (kind_width (kind_of k)));
}
widens_at (Node-F.Filter s) = record { more = nothing_more }
widens_at (Node-F.Keep places) = record { more = nothing_more }
widens_at (Node-F.Cross right) = record { more = nothing_more }
widens_at (Node-F.LeftOuter nodes s n right) = record { more = nothing_more }
widens_at Node-F.Settle = record { more = nothing_more }
widens_at (Node-F.Group places aggregates) = record { more = nothing_more }
widens_at (Node-F.Sort keys) = record { more = nothing_more }

widens : (n : Node) → Widens (node_of n)
widens n =
    subst (λ (m : Node). Widens (node_of m)) (roll-out-Node n)
    (subst Widens (sym (fold-roll-Node NodeTree PlanTree node_step plan_step (out-Node n)))
    (widens_at _))

-- a node more
pub wider : (ns : List Node) (i : ℕ) (n : Node) (c d w whole : ℕ) → i < length ns →
    n ≡ get_or ns i n → d ≡ width ((node_of n).below no_node) 0 → w ≡ c + d →
    width (run_of (drop i ns)) c ≡ whole → width (run_of (drop (i + 1) ns)) w ≡ whole
wider ns i n c d w whole h is adds sum left =
    rw add-one
    (ap (width (run_of (drop (suc i) ns))) (sum ∙ ap (λ k. c + k) adds)
    ∙ sym ((widens n).more (run_of (drop (suc i) ns)) c)
    ∙ ap (λ (m : Node). width ((node_of m).below (run_of (drop (suc i) ns))) c) is
    ∙ ap (λ (ms : List Node). width (run_of ms) c) (sym (drop-cons ns i n h))
    ∙ left)

-- ---- one node, by its form

pub extend_wide : (n : Node) (ss : List Scalar) → n ≡ Extend ss →
    length ss ≡ width ((node_of n).below no_node) 0
extend_wide n ss is =
    sym (counted ss) ∙ from_zero (scalar_count (scalars_of ss))
    ∙ sym (ap (λ (x : NodeTree). width (x.below no_node) 0)
    (ap node_of (is ∙ sym (rolls-Extend ss))
    ∙ fold-roll-Node NodeTree PlanTree node_step plan_step (Node-F.Extend ss)))
  where
    counted : (xs : List Scalar) → scalar_count (scalars_of xs) ≡ length xs
    counted [] = refl
    counted (x ∷ xs) = ap suc (counted xs)

pub apply_wide : (n : Node) (s : Scalar) (k : ApplyKind) (p : Plan) (c : ℕ) → n ≡ Apply s k p →
    c ≡ kind_width (kind_of k) → c ≡ width ((node_of n).below no_node) 0
apply_wide n s k p c is cells =
    cells ∙ from_zero (kind_width (kind_of k))
    ∙ sym (ap (λ (x : NodeTree). width (x.below no_node) 0)
    (ap node_of (is ∙ sym (rolls-Apply s k p))
    ∙ fold-roll-Node NodeTree PlanTree node_step plan_step (Node-F.Apply s k p)))

-- neither an Extend nor an Apply
abbrev Other : Node → Type 0
Other n = ((ss : List Scalar) → n ≡ Extend ss → ⊥)
    × ((s : Scalar) (k : ApplyKind) (p : Plan) → n ≡ Apply s k p → ⊥)

-- what one level adds
narrow : (y : Node-F Node Plan) (n : NodeTree) → node_of (roll-Node y) ≡ n →
    0 ≡ width (n.below no_node) 0 → 0 ≡ width ((node_of (roll-Node y)).below no_node) 0
narrow y n is h = h ∙ sym (ap (λ (x : NodeTree). width (x.below no_node) 0) is)

other_at : (y : Node-F Node Plan) → Other (roll-Node y) →
    0 ≡ width ((node_of (roll-Node y)).below no_node) 0
other_at (Node-F.Extend ss) h = absurd (h.0 ss (rolls-Extend ss))
other_at (Node-F.Apply s k p) h = absurd (h.1 s k p (rolls-Apply s k p))
other_at (Node-F.Filter s) h = narrow (Node-F.Filter s) _
    (fold-roll-Node NodeTree PlanTree node_step plan_step (Node-F.Filter s)) refl
other_at (Node-F.Keep places) h = narrow (Node-F.Keep places) _
    (fold-roll-Node NodeTree PlanTree node_step plan_step (Node-F.Keep places)) refl
other_at (Node-F.Cross r) h = narrow (Node-F.Cross r) _
    (fold-roll-Node NodeTree PlanTree node_step plan_step (Node-F.Cross r)) refl
other_at (Node-F.LeftOuter ns s n r) h = narrow (Node-F.LeftOuter ns s n r) _
    (fold-roll-Node NodeTree PlanTree node_step plan_step (Node-F.LeftOuter ns s n r)) refl
other_at Node-F.Settle h = narrow Node-F.Settle _
    (fold-roll-Node NodeTree PlanTree node_step plan_step Node-F.Settle) refl
other_at (Node-F.Group places ags) h = narrow (Node-F.Group places ags) _
    (fold-roll-Node NodeTree PlanTree node_step plan_step (Node-F.Group places ags)) refl
other_at (Node-F.Sort keys) h = narrow (Node-F.Sort keys) _
    (fold-roll-Node NodeTree PlanTree node_step plan_step (Node-F.Sort keys)) refl

pub other_narrow : (n : Node) → Other n → 0 ≡ width ((node_of n).below no_node) 0
other_narrow n h =
    subst (λ (m : Node). 0 ≡ width ((node_of m).below no_node) 0) (roll-out-Node n)
    (other_at (out-Node n) (subst Other (sym (roll-out-Node n)) h))

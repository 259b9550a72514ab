-- Runs of nodes, one after the other.
use Rattle.std.proofs.Common.{ℕ, ◌≡◌, ◌+◌, refl, ap}
use Rattle.rel_algebra.specs.Plan.{PlanTree, Nodes, no_node, extend_by, apply_by, kind_width}
use Rattle.rel_algebra.specs.Plan.{extend, apply, on_each}
use Rattle.rel_algebra.specs.Emit.{joined_nodes, width, scalar_count}

pub on_each-joined : (a b : Nodes) (p : PlanTree) →
    on_each (joined_nodes a b) p ≡ on_each b (on_each a p)
on_each-joined no_node b p = refl
on_each-joined (extend_by ss a) b p = on_each-joined a b (extend ss p)
on_each-joined (apply_by when kind way inner a) b p = on_each-joined a b (apply when kind way inner p)

pub width-joined : (a b : Nodes) (n : ℕ) → width (joined_nodes a b) n ≡ width b (width a n)
width-joined no_node b n = refl
width-joined (extend_by ss a) b n = width-joined a b (n + scalar_count ss)
width-joined (apply_by when kind way inner a) b n = width-joined a b (n + kind_width kind)

pub joined-joined : (a b c : Nodes) → joined_nodes (joined_nodes a b) c ≡ joined_nodes a
    (joined_nodes b c)
joined-joined no_node b c = refl
joined-joined (extend_by ss a) b c = ap (λ x. extend_by ss x) (joined-joined a b c)
joined-joined (apply_by when kind way inner a) b c =
    ap (λ x. apply_by when kind way inner x) (joined-joined a b c)

pub joined-nothing : (a : Nodes) → joined_nodes a no_node ≡ a
joined-nothing no_node = refl
joined-nothing (extend_by ss a) = ap (λ x. extend_by ss x) (joined-nothing a)
joined-nothing (apply_by when kind way inner a) =
    ap (λ x. apply_by when kind way inner x) (joined-nothing a)

-- The nodes of a plan over one row without cells are read off its tree.
use Rattle.std.proofs.Common.{◌≡◌, List, [], ◌∷◌, Option, Some, None, refl, sym, ap, subst, ◌∙◌}
use Rattle.rel_algebra.specs.declared.plan.Leaf.{Leaf}
use Rattle.rel_algebra.specs.declared.plan.Leaf.TheVariants.{Unit as UnitLeaf, Scan, Values}
use Rattle.rel_algebra.specs.declared.plan.Node.{Node, roll-Node}
use Rattle.rel_algebra.specs.declared.plan.Node.TheOpen.{Node-F}
use Rattle.rel_algebra.specs.declared.plan.Node.TheViews.{out-roll-Node}
use Rattle.rel_algebra.specs.declared.plan.Node.TheVariants.{Extend, Apply, rolls-Extend}
use Rattle.rel_algebra.specs.declared.plan.Node.TheVariants.{rolls-Apply, rolls-Filter, rolls-Keep}
use Rattle.rel_algebra.specs.declared.plan.Node.TheVariants.{rolls-Cross, rolls-LeftOuter}
use Rattle.rel_algebra.specs.declared.plan.Node.TheVariants.{rolls-Settle, rolls-Group, rolls-Sort}
use Rattle.rel_algebra.specs.declared.plan.Plan.{Plan}
use Rattle.rel_algebra.specs.declared.plan.ApplyKind.{ApplyKind}
use Rattle.rel_algebra.specs.declared.scalar.Scalar.{Scalar as ScalarCode}
use Rattle.rel_algebra.specs.Plan.{Scalar, Scalars, Kind, PlanTree, unit_row, extend, apply, Nodes}
use Rattle.rel_algebra.specs.Plan.{no_node, extend_by, apply_by, on_each, anew}
use Rattle.rel_algebra.specs.PlanView.{leaf_of, scalar_of, scalars_of, kind_of, tree_of, with_node}
use Rattle.rel_algebra.specs.PlanView.{with_nodes, run_of}
use Rattle.rel_algebra.specs.Emit.{joined_nodes}
use Rattle.catalog_store.specs.Kept.{extended, applied, with_below, run_of as kept_run}
use Rattle.plan_expressions.proofs.Joins.{joined-nothing}
use Rattle.plan_expressions.proofs.Nodes.{with-Extend, with-Apply, with-Filter, with-Keep}
use Rattle.plan_expressions.proofs.Nodes.{with-Cross, with-LeftOuter, with-Settle, with-Group}
use Rattle.plan_expressions.proofs.Nodes.{with-Sort, below-Extend, below-Apply, of_layer}

-- the nodes of a tree that is a run over one row without cells, with others above them
abbrev pub run_in : PlanTree → Nodes → Option Nodes
run_in unit_row above = Some above
run_in (extend ss input) above = run_in input (extend_by ss above)
run_in (apply when kind way inner input) above = run_in input (apply_by when kind way inner above)
run_in _ above = None

run_in-on_each : (a : Nodes) (t : PlanTree) (above : Nodes) →
    run_in (on_each a t) above ≡ run_in t (joined_nodes a above)
run_in-on_each no_node t above = refl
run_in-on_each (extend_by ss a) t above = run_in-on_each a (extend ss t) above
run_in-on_each (apply_by when kind way inner a) t above =
    run_in-on_each a (apply when kind way inner t) above

abbrev after_run : Option Nodes → (Nodes → Option Nodes) → Option Nodes
after_run None f = None
after_run (Some a) f = f a

after_extended : (ss : Scalars) (o : Option Nodes) (t : PlanTree) →
    after_run o (run_in (extend ss t)) ≡ after_run (extended ss o) (run_in t)
after_extended ss None t = refl
after_extended ss (Some a) t = refl

after_applied : (w : Scalar) (k : Kind) (i : PlanTree) (o : Option Nodes) (t : PlanTree) →
    after_run o (run_in (apply w k anew i t)) ≡ after_run (applied w k i o) (run_in t)
after_applied w k i None t = refl
after_applied w k i (Some a) t = refl

after_none : (o : Option Nodes) → after_run o (λ a. None) ≡ None
after_none None = refl
after_none (Some a) = refl

-- a run by its first node
kept_at : (y : Node-F Node Plan) (ns : List Node) →
    kept_run (roll-Node y ∷ ns) ≡ with_below y (kept_run ns)
kept_at y ns = ap (λ z. with_below z (kept_run ns)) (out-roll-Node y)

pub kept-Extend : (ss : List ScalarCode) (ns : List Node) →
    kept_run (Extend ss ∷ ns) ≡ extended (scalars_of ss) (kept_run ns)
kept-Extend ss ns = ap (λ m. kept_run (m ∷ ns)) (sym (rolls-Extend ss)) ∙
    kept_at (Node-F.Extend ss) ns

pub kept-Apply : (s : ScalarCode) (k : ApplyKind) (i : Plan) (ns : List Node) →
    kept_run (Apply s k i ∷ ns) ≡ applied (scalar_of s) (kind_of k) (tree_of i) (kept_run ns)
kept-Apply s k i ns = ap (λ m. kept_run (m ∷ ns)) (sym (rolls-Apply s k i)) ∙
    kept_at (Node-F.Apply s k i) ns

-- a node either is an Extend or an Apply, or is none of a run
pub data Adding (n : Node) : Type 0 where
  adds : (ss : List ScalarCode) → n ≡ Extend ss → Adding n
  asks : (s : ScalarCode) (k : ApplyKind) (i : Plan) → n ≡ Apply s k i → Adding n
  acts : ((ns : List Node) → kept_run (n ∷ ns) ≡ None) →
      ((t : PlanTree) (a : Nodes) → run_in (with_node n t) a ≡ None) → Adding n

adding_at : (y : Node-F Node Plan) → Adding (roll-Node y)
adding_at (Node-F.Extend ss) = adds ss (rolls-Extend ss)
adding_at (Node-F.Apply s k i) = asks s k i (rolls-Apply s k i)
adding_at (Node-F.Filter s) = subst Adding (sym (rolls-Filter s))
    (acts (λ ns. ap (λ m. kept_run (m ∷ ns)) (sym (rolls-Filter s)) ∙ kept_at (Node-F.Filter s) ns)
    (λ t a. ap (λ x. run_in x a) (with-Filter s t)))
adding_at (Node-F.Keep places) = subst Adding (sym (rolls-Keep places))
    (acts (λ ns. ap (λ m. kept_run (m ∷ ns)) (sym (rolls-Keep places)) ∙
    kept_at (Node-F.Keep places) ns) (λ t a. ap (λ x. run_in x a) (with-Keep places t)))
adding_at (Node-F.Cross r) = subst Adding (sym (rolls-Cross r))
    (acts (λ ns. ap (λ m. kept_run (m ∷ ns)) (sym (rolls-Cross r)) ∙ kept_at (Node-F.Cross r) ns)
    (λ t a. ap (λ x. run_in x a) (with-Cross r t)))
adding_at (Node-F.LeftOuter ms s n r) = subst Adding (sym (rolls-LeftOuter ms s n r))
    (acts (λ ns. ap (λ m. kept_run (m ∷ ns)) (sym (rolls-LeftOuter ms s n r)) ∙
    kept_at (Node-F.LeftOuter ms s n r) ns) (λ t a. ap (λ x. run_in x a)
    (with-LeftOuter ms s n r t)))
adding_at Node-F.Settle = subst Adding (sym rolls-Settle)
    (acts (λ ns. ap (λ m. kept_run (m ∷ ns)) (sym rolls-Settle) ∙ kept_at Node-F.Settle ns)
    (λ t a. ap (λ x. run_in x a) (with-Settle t)))
adding_at (Node-F.Group is ags) = subst Adding (sym (rolls-Group is ags))
    (acts (λ ns. ap (λ m. kept_run (m ∷ ns)) (sym (rolls-Group is ags)) ∙
    kept_at (Node-F.Group is ags) ns) (λ t a. ap (λ x. run_in x a) (with-Group is ags t)))
adding_at (Node-F.Sort keys) = subst Adding (sym (rolls-Sort keys))
    (acts (λ ns. ap (λ m. kept_run (m ∷ ns)) (sym (rolls-Sort keys)) ∙
    kept_at (Node-F.Sort keys) ns) (λ t a. ap (λ x. run_in x a) (with-Sort keys t)))

pub adding : (n : Node) → Adding n
adding = of_layer Adding adding_at

over_other : (o : Option Nodes) (t : PlanTree) → ((a : Nodes) → run_in t a ≡ None) →
    after_run o (run_in t) ≡ None
over_other None t none = refl
over_other (Some a) t none = none a

-- a node below a run
node_below : (n : Node) (ns : List Node) (t : PlanTree) → Adding n →
    after_run (kept_run ns) (run_in (with_node n t)) ≡ after_run (kept_run (n ∷ ns)) (run_in t)
node_below n ns t (adds ss is) =
    ap (λ m. after_run (kept_run ns) (run_in (with_node m t))) is ∙
    ap (λ x. after_run (kept_run ns) (run_in x)) (with-Extend ss t)
    ∙ after_extended (scalars_of ss) (kept_run ns) t ∙
    ap (λ o. after_run o (run_in t)) (sym (kept-Extend ss ns)) ∙
    ap (λ m. after_run (kept_run (m ∷ ns)) (run_in t)) (sym is)
node_below n ns t (asks s k i is) =
    ap (λ m. after_run (kept_run ns) (run_in (with_node m t))) is ∙
    ap (λ x. after_run (kept_run ns) (run_in x)) (with-Apply s k i t)
    ∙ after_applied (scalar_of s) (kind_of k) (tree_of i) (kept_run ns) t ∙
    ap (λ o. after_run o (run_in t)) (sym (kept-Apply s k i ns))
    ∙ ap (λ m. after_run (kept_run (m ∷ ns)) (run_in t)) (sym is)
node_below n ns t (acts none other) = over_other (kept_run ns) (with_node n t) (other t) ∙
    ap (λ o. after_run o (run_in t)) (sym (none ns))

run_in-nodes : (ns : List Node) (t : PlanTree) →
    run_in (with_nodes ns t) no_node ≡ after_run (kept_run ns) (run_in t)
run_in-nodes [] t = refl
run_in-nodes (n ∷ ns) t = run_in-nodes ns (with_node n t) ∙ node_below n ns t (adding n)

after_unit : (o : Option Nodes) → after_run o (run_in unit_row) ≡ o
after_unit None = refl
after_unit (Some a) = refl

-- a plan that is a run over one row without cells has just the nodes of the run
pub run_of_nodes : (l : Leaf) (ns : List Node) (a : Nodes) →
    with_nodes ns (leaf_of l) ≡ on_each a unit_row → kept_run ns ≡ Some a
run_of_nodes l ns a h =
    by l (sym (run_in-nodes ns (leaf_of l)) ∙ ap (λ t. run_in t no_node) h ∙
    run_in-on_each a unit_row no_node ∙ ap (λ x. Some x) (joined-nothing a))
  where
    by : (l : Leaf) → after_run (kept_run ns) (run_in (leaf_of l)) ≡ Some a → kept_run ns ≡ Some a
    by UnitLeaf is = sym (after_unit (kept_run ns)) ∙ is
    by (Scan name columns) is = let never : None ≡ Some a = sym (after_none (kept_run ns)) ∙ is in
        cc
    by (Values rows) is = let never : None ≡ Some a = sym (after_none (kept_run ns)) ∙ is in cc

abbrev or_none : Option Nodes → Nodes
or_none None = no_node
or_none (Some a) = a

run_extended : (ss : List ScalarCode) (ns : List Node) (a : Nodes) (o : Option Nodes) →
    ((b : Nodes) → o ≡ Some b → run_of ns ≡ b) → extended (scalars_of ss) o ≡ Some a →
    run_of (Extend ss ∷ ns) ≡ a
run_extended ss ns a None f h = let never = h in cc
run_extended ss ns a (Some b) f h = below-Extend ss (run_of ns) ∙
    ap (λ x. extend_by (scalars_of ss) x) (f b refl) ∙ ap or_none h

run_applied : (s : ScalarCode) (k : ApplyKind) (i : Plan) (ns : List Node) (a : Nodes)
    (o : Option Nodes) → ((b : Nodes) → o ≡ Some b → run_of ns ≡ b) →
    applied (scalar_of s) (kind_of k) (tree_of i) o ≡ Some a → run_of (Apply s k i ∷ ns) ≡ a
run_applied s k i ns a None f h = let never = h in cc
run_applied s k i ns a (Some b) f h =
    below-Apply s k i (run_of ns) ∙ ap (λ x. apply_by (scalar_of s) (kind_of k) anew (tree_of i) x)
    (f b refl) ∙ ap or_none h

run_begun : (n : Node) (ns : List Node) (a : Nodes) → Adding n →
    ((b : Nodes) → kept_run ns ≡ Some b → run_of ns ≡ b) → kept_run (n ∷ ns) ≡ Some a →
    run_of (n ∷ ns) ≡ a
run_begun n ns a (adds ss is) f h = ap (λ m. run_of (m ∷ ns)) is ∙
    run_extended ss ns a (kept_run ns) f (sym (kept-Extend ss ns) ∙
    ap (λ m. kept_run (m ∷ ns)) (sym is) ∙ h)
run_begun n ns a (asks s k i is) f h = ap (λ m. run_of (m ∷ ns)) is ∙
    run_applied s k i ns a (kept_run ns) f (sym (kept-Apply s k i ns) ∙
    ap (λ m. kept_run (m ∷ ns)) (sym is) ∙ h)
run_begun n ns a (acts none other) f h = let never : None ≡ Some a = sym (none ns) ∙ h in cc

-- nodes that are a run are done on each row as that run
pub run_is : (ns : List Node) (a : Nodes) → kept_run ns ≡ Some a → run_of ns ≡ a
run_is [] a h = ap or_none h
run_is (n ∷ ns) a h = run_begun n ns a (adding n) (λ b is. run_is ns b is) h

no_run_by : (n : Node) (ns : List Node) → Adding n → ((ss : List ScalarCode) → ¬ (n ≡ Extend ss)) →
    ((s : ScalarCode) (k : ApplyKind) (i : Plan) → ¬ (n ≡ Apply s k i)) → kept_run (n ∷ ns) ≡ None
no_run_by n ns (adds ss is) h g = absurd (h ss is)
no_run_by n ns (asks s k i is) h g = absurd (g s k i is)
no_run_by n ns (acts none other) h g = none ns

-- no other node is one of a run
pub no_run : (n : Node) (ns : List Node) → ((ss : List ScalarCode) → ¬ (n ≡ Extend ss)) →
    ((s : ScalarCode) (k : ApplyKind) (i : Plan) → ¬ (n ≡ Apply s k i)) → kept_run (n ∷ ns) ≡ None
no_run n ns h g = no_run_by n ns (adding n) h g

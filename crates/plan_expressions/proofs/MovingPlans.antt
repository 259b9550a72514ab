-- Plans inside a function's plan, moved to where it is merged.
use Rattle.std.proofs.Common.{ℕ, suc, ◌≡◌, ◌<◌, ◌≤◌, ◌+◌, ◌∷◌, [], ◌++◌, List, map, length, take}
use Rattle.std.proofs.Common.{drop, get_or, refl, sym, ap, ◌∙◌, subst, arith}
use Rattle.std.proofs.lemmas.List.{take_more, take_all}
use Rattle.row_types.specs.declared.aggregate_column.AggregateColumn.{AggregateColumn}
use Rattle.row_types.specs.declared.sort_key.SortKey.{SortKey}
use Rattle.rel_algebra.specs.declared.plan.ApplyKind.{ApplyKind}
use Rattle.rel_algebra.specs.declared.plan.Leaf.{Leaf}
use Rattle.rel_algebra.specs.declared.plan.Node.{Node}
use Rattle.rel_algebra.specs.declared.plan.Node.TheVariants.{Extend, Apply, Filter, Keep, Cross}
use Rattle.rel_algebra.specs.declared.plan.Node.TheVariants.{LeftOuter, Settle, Group, Sort}
use Rattle.rel_algebra.specs.declared.plan.Plan.{Plan}
use Rattle.rel_algebra.specs.declared.plan.ScalarRow.{ScalarRow}
use Rattle.rel_algebra.specs.declared.scalar.Scalar.{Scalar as ScalarCode}
use Rattle.rel_algebra.specs.Plan.{Scalars, PlanTree, Nodes, no_node, extend, apply, filter, keep}
use Rattle.rel_algebra.specs.Plan.{cross, left_outer, extend_by, apply_by, anew}
use Rattle.rel_algebra.specs.PlanView.{scalar_of, scalars_of, lists_of, kind_of, leaf_of, tree_of}
use Rattle.rel_algebra.specs.PlanView.{with_node, with_nodes, node_of, run_of}
use Rattle.rel_algebra.specs.Merged.{Move, moved_scalar, moved_scalars, moved_lists, moved_kind}
use Rattle.rel_algebra.specs.Merged.{moved_tree, moved_nodes}
use Rattle.plan_expressions.specs.Merging.{IsMoved, AreMoved}
use Rattle.plan_expressions.proofs.Lists.{rest, map-last}
use Rattle.plan_expressions.proofs.Nodes.{tree_of-parts, with-Extend, with-Apply, with-Filter}
use Rattle.plan_expressions.proofs.Nodes.{with-Keep, with-Cross, with-LeftOuter, with-Settle}
use Rattle.plan_expressions.proofs.Nodes.{with-Group, with-Sort, below-Extend, below-Apply}
use Rattle.plan_expressions.proofs.Nodes.{below-Filter, below-Keep, below-Cross, below-LeftOuter}
use Rattle.plan_expressions.proofs.Nodes.{below-Settle, below-Group, below-Sort}

-- ---- nodes

pub nodes_over : (v : Move) (d : ℕ) (ns ms : List Node) (t : PlanTree) → AreMoved v d ns ms →
    with_nodes ms (moved_tree v d t) ≡ moved_tree v d (with_nodes ns t)
nodes_over v d [] [] t m = refl
nodes_over v d [] (y ∷ ms) t m = absurd m
nodes_over v d (x ∷ ns) [] t m = absurd m
nodes_over v d (x ∷ ns) (y ∷ ms) t m = ap (λ u. with_nodes ms u) (m.0.over t) ∙
    nodes_over v d ns ms (with_node x t) m.1

pub nodes_run : (v : Move) (d : ℕ) (ns ms : List Node) → AreMoved v d ns ms →
    run_of ms ≡ moved_nodes v (suc d) (run_of ns)
nodes_run v d [] [] m = refl
nodes_run v d [] (y ∷ ms) m = absurd m
nodes_run v d (x ∷ ns) [] m = absurd m
nodes_run v d (x ∷ ns) (y ∷ ms) m = ap (λ u. (node_of y).below u) (nodes_run v d ns ms m.1) ∙
    m.0.below (run_of ns)

pub one_moved : (v : Move) (d : ℕ) (ns ms : List Node) (x y : Node) → AreMoved v d ns ms →
    IsMoved v d x y → AreMoved v d (ns ++ x ∷ []) (ms ++ y ∷ [])
one_moved v d [] [] x y m one = (one, tt)
one_moved v d [] (z ∷ ms) x y m one = absurd m
one_moved v d (w ∷ ns) [] x y m one = absurd m
one_moved v d (w ∷ ns) (z ∷ ms) x y m one = (m.0, one_moved v d ns ms x y m.1 one)

take_next : {A : Type 0} (xs : List A) (i : ℕ) (x : A) → i < length xs → x ≡ get_or xs i x →
    take (i + 1) xs ≡ take i xs ++ x ∷ []
take_next xs i x h is = take_more xs i x h ∙ ap (λ y. take i xs ++ y ∷ []) (sym is)

pub nodes_next : (v : Move) (d : ℕ) (ns : List Node) (i : ℕ) (x y : Node) (front longer : List Node)
    → i < length ns → x ≡ get_or ns i x → IsMoved v d x y → longer ≡ front ++ y ∷ [] →
    AreMoved v d (take i ns) front → AreMoved v d (take (i + 1) ns) longer
nodes_next v d ns i x y front longer h is one f m =
    subst (λ (xs : List Node). AreMoved v d xs longer) (sym (take_next ns i x h is))
    (subst (λ (ys : List Node). AreMoved v d (take i ns ++ x ∷ []) ys) (sym f)
    (one_moved v d (take i ns) front x y m one))

pub nodes_done : (v : Move) (d : ℕ) (ns : List Node) (i : ℕ) (front : List Node) → length ns ≤ i →
    AreMoved v d (take i ns) front → AreMoved v d ns front
nodes_done v d ns i front h m = subst (λ (xs : List Node). AreMoved v d xs front) (take_all i ns h)
    m

-- ---- each kind of node

row_is : (row d : ℕ) → row ≡ d + 1 → row ≡ suc d
row_is row d h = omega (arith, h)

pub extend_moved : (v : Move) (d row : ℕ) (n : Node) (ss copies : List ScalarCode) → row ≡ d + 1 →
    n ≡ Extend ss → scalars_of copies ≡ moved_scalars v row (scalars_of ss) →
    IsMoved v d n (Extend copies)
extend_moved v d row n ss copies r is copy =
    let same : scalars_of copies ≡ moved_scalars v (suc d) (scalars_of ss) = copy ∙
    ap (λ q. moved_scalars v q (scalars_of ss)) (row_is row d r) in
    subst (λ (m : Node). IsMoved v d m (Extend copies)) (sym is) (record {
      over = λ t. with-Extend copies (moved_tree v d t) ∙
          ap (λ xs. extend xs (moved_tree v d t)) same ∙
          ap (moved_tree v d) (sym (with-Extend ss t));
      below = λ others. below-Extend copies (moved_nodes v (suc d) others) ∙
          ap (λ xs. extend_by xs (moved_nodes v (suc d) others)) same
          ∙ ap (moved_nodes v (suc d)) (sym (below-Extend ss others));
    })

pub apply_moved : (v : Move) (d row : ℕ) (n : Node) (w copy : ScalarCode) (k kind : ApplyKind)
    (p plan held : Plan) → row ≡ d + 1 → n ≡ Apply w k p →
    scalar_of copy ≡ moved_scalar v row (scalar_of w) →
    kind_of kind ≡ moved_kind v row (kind_of k) → tree_of plan ≡ moved_tree v row (tree_of p) →
    held ≡ plan →
    IsMoved v d n (Apply copy kind held)
apply_moved v d row n w copy k kind p plan held r is one how inner same =
    let level = row_is row d r in
    let first : scalar_of copy ≡ moved_scalar v (suc d) (scalar_of w) = one ∙
    ap (λ q. moved_scalar v q (scalar_of w)) level in
    let second : kind_of kind ≡ moved_kind v (suc d) (kind_of k) = how ∙
    ap (λ q. moved_kind v q (kind_of k)) level in
    let third : tree_of held ≡ moved_tree v (suc d) (tree_of p) = ap tree_of same ∙ inner ∙
    ap (λ q. moved_tree v q (tree_of p)) level in
    subst (λ (m : Node). IsMoved v d m (Apply copy kind held)) (sym is) (record {
      over = λ t. with-Apply copy kind held (moved_tree v d t) ∙
          (λ j. apply (first j) (second j) anew (third j) (moved_tree v d t)) ∙
          ap (moved_tree v d) (sym (with-Apply w k p t));
      below = λ others. below-Apply copy kind held (moved_nodes v (suc d) others) ∙
          (λ j. apply_by (first j) (second j) anew (third j) (moved_nodes v (suc d) others))
          ∙ ap (moved_nodes v (suc d)) (sym (below-Apply w k p others));
    })

pub filter_moved : (v : Move) (d row : ℕ) (n : Node) (s copy : ScalarCode) → row ≡ d + 1 →
    n ≡ Filter s → scalar_of copy ≡ moved_scalar v row (scalar_of s) → IsMoved v d n (Filter copy)
filter_moved v d row n s copy r is one =
    let same : scalar_of copy ≡ moved_scalar v (suc d) (scalar_of s) = one ∙
    ap (λ q. moved_scalar v q (scalar_of s)) (row_is row d r) in
    subst (λ (m : Node). IsMoved v d m (Filter copy)) (sym is) (record {
      over = λ t. with-Filter copy (moved_tree v d t) ∙ ap (λ x. filter x (moved_tree v d t)) same ∙
          ap (moved_tree v d) (sym (with-Filter s t));
      below = λ others. below-Filter copy (moved_nodes v (suc d) others) ∙
          ap (moved_nodes v (suc d)) (sym (below-Filter s others));
    })

pub keep_moved : (v : Move) (d : ℕ) (n : Node) (is copies : List ℕ) → n ≡ Keep is → copies ≡ is →
    IsMoved v d n (Keep copies)
keep_moved v d n is copies node same =
    subst (λ (m : Node). IsMoved v d m (Keep copies)) (sym node) (record {
      over = λ t. with-Keep copies (moved_tree v d t) ∙
          ap (λ (xs : List ℕ). keep xs (moved_tree v d t)) same ∙
          ap (moved_tree v d) (sym (with-Keep is t));
      below = λ others. below-Keep copies (moved_nodes v (suc d) others) ∙
          ap (moved_nodes v (suc d)) (sym (below-Keep is others));
    })

pub cross_moved : (v : Move) (d : ℕ) (n : Node) (p plan held : Plan) → n ≡ Cross p →
    tree_of plan ≡ moved_tree v d (tree_of p) → held ≡ plan → IsMoved v d n (Cross held)
cross_moved v d n p plan held is right same =
    subst (λ (m : Node). IsMoved v d m (Cross held)) (sym is) (record {
      over = λ t. with-Cross held (moved_tree v d t) ∙
          ap (λ u. cross (moved_tree v d t) u) (ap tree_of same ∙ right) ∙
          ap (moved_tree v d) (sym (with-Cross p t));
      below = λ others. below-Cross held (moved_nodes v (suc d) others) ∙
          ap (moved_nodes v (suc d)) (sym (below-Cross p others));
    })

pub outer_moved : (v : Move) (d row : ℕ) (n : Node) (ns ms : List Node) (s copy : ScalarCode)
    (nulls : ℕ) (p plan held : Plan) → row ≡ d + 1 → n ≡ LeftOuter ns s nulls p →
    AreMoved v d ns ms →
    scalar_of copy ≡ moved_scalar v row (scalar_of s) → tree_of plan ≡ moved_tree v d (tree_of p) →
    held ≡ plan → IsMoved v d n (LeftOuter ms copy nulls held)
outer_moved v d row n ns ms s copy nulls p plan held r is nodes one right same =
    let test : scalar_of copy ≡ moved_scalar v (suc d) (scalar_of s) = one ∙
    ap (λ q. moved_scalar v q (scalar_of s)) (row_is row d r) in
    let run = nodes_run v d ns ms nodes in
    let there : tree_of held ≡ moved_tree v d (tree_of p) = ap tree_of same ∙ right in
    subst (λ (m : Node). IsMoved v d m (LeftOuter ms copy nulls held)) (sym is) (record {
      over = λ t. with-LeftOuter ms copy nulls held (moved_tree v d t) ∙
          (λ j. left_outer (run j) (test j) nulls (moved_tree v d t) (there j))
          ∙ ap (moved_tree v d) (sym (with-LeftOuter ns s nulls p t));
      below = λ others. below-LeftOuter ms copy nulls held (moved_nodes v (suc d) others) ∙
          ap (moved_nodes v (suc d)) (sym (below-LeftOuter ns s nulls p others));
    })

pub settle_moved : (v : Move) (d : ℕ) (n : Node) → n ≡ Settle → IsMoved v d n Settle
settle_moved v d n is =
    subst (λ (m : Node). IsMoved v d m Settle) (sym is) (record {
      over = λ t. with-Settle (moved_tree v d t) ∙ ap (moved_tree v d) (sym (with-Settle t));
      below = λ others. below-Settle (moved_nodes v (suc d) others) ∙
          ap (moved_nodes v (suc d)) (sym (below-Settle others));
    })

pub group_moved : (v : Move) (d : ℕ) (n : Node) (is places : List ℕ)
    (ags columns : List AggregateColumn) → n ≡ Group is ags → places ≡ is → columns ≡ ags →
    IsMoved v d n (Group places columns)
group_moved v d n is places ags columns node same alike =
    subst (λ (m : Node). IsMoved v d m (Group places columns)) (sym node ∙ refl)
    (subst (λ (m : Node). IsMoved v d (Group is ags) m) (λ j. Group (sym same j) (sym alike j))
    (record {
      over = λ t. with-Group is ags (moved_tree v d t) ∙
          ap (moved_tree v d) (sym (with-Group is ags t));
      below = λ others. below-Group is ags (moved_nodes v (suc d) others) ∙
          ap (moved_nodes v (suc d)) (sym (below-Group is ags others));
    }))

pub sort_moved : (v : Move) (d : ℕ) (n : Node) (keys copies : List SortKey) → n ≡ Sort keys →
    copies ≡ keys → IsMoved v d n (Sort copies)
sort_moved v d n keys copies is same =
    subst (λ (m : Node). IsMoved v d m (Sort copies)) (sym is)
    (subst (λ (m : Node). IsMoved v d (Sort keys) m) (λ j. Sort (sym same j)) (record {
      over = λ t. with-Sort keys (moved_tree v d t) ∙ ap (moved_tree v d) (sym (with-Sort keys t));
      below = λ others. below-Sort keys (moved_nodes v (suc d) others) ∙
          ap (moved_nodes v (suc d)) (sym (below-Sort keys others));
    }))

-- ---- plans

pub plan_moved : (v : Move) (d : ℕ) (p q : Plan) →
    leaf_of q.leaf ≡ moved_tree v d (leaf_of p.leaf) → AreMoved v d p.nodes q.nodes →
    tree_of q ≡ moved_tree v d (tree_of p)
plan_moved v d p q leaf nodes =
    tree_of-parts q ∙ ap (with_nodes q.nodes) leaf ∙
    nodes_over v d p.nodes q.nodes (leaf_of p.leaf) nodes ∙
    ap (moved_tree v d) (sym (tree_of-parts p))

-- ---- the lists of Values

append_first : {A : Type 0} (xs ys : List A) (y : A) → (xs ++ y ∷ []) ++ ys ≡ xs ++ y ∷ ys
append_first [] ys y = refl
append_first (x ∷ xs) ys y = ap (λ zs. x ∷ zs) (append_first xs ys y)

pub rows_next : (v : Move) (row : ℕ) (rs : List ScalarRow) (i : ℕ) (x y : ScalarRow)
    (front longer : List ScalarRow) → i < length rs → x ≡ get_or rs i x →
    scalars_of y.scalars ≡ moved_scalars v row (scalars_of x.scalars) → longer ≡ front ++ y ∷ [] →
    lists_of front ++ moved_lists v row (lists_of (drop i rs)) ≡ moved_lists v row (lists_of rs) →
    lists_of longer ++ moved_lists v row (lists_of (drop (i + 1) rs)) ≡ moved_lists v row
    (lists_of rs)
rows_next v row rs i x y front longer h is copy f b =
    let others = moved_lists v row (lists_of (drop (i + 1) rs)) in
    ap (λ (xs : List ScalarRow). lists_of xs ++ others) f ∙
    ap (λ ls. ls ++ others) (map-last (λ (r : ScalarRow). scalars_of r.scalars) front y)
    ∙ append_first (lists_of front) others (scalars_of y.scalars) ∙
    ap (λ ss. lists_of front ++ ss ∷ others) copy
    ∙ ap (λ (xs : List ScalarRow). lists_of front ++ moved_lists v row (lists_of xs))
    (sym (rest rs i x h is)) ∙ b

-- Loops over stores, nodes and columns.
use Rattle.std.proofs.Common.{◌≡◌, ℕ, zero, suc, ◌+◌, ◌-◌, ◌<◌, ◌≤◌, List, [], ◌∷◌, ◌++◌}
use Rattle.std.proofs.Common.{length, reverse, refl, sym, ap, ◌∙◌, subst, arith, slice_set, drop}
use Rattle.std.proofs.Common.{append_assoc, get_or}
use Rattle.std.proofs.lemmas.List.{drop_all}
use Rattle.rel_algebra.specs.BodyDispatch.{tags}
use Rattle.rel_algebra.specs.BodySteps.{Store, asked_at, case_of, code_is, col, guarded}
use Rattle.rel_algebra.specs.BodySteps.{placed, tag}
use Rattle.rel_algebra.specs.Joins.{places}
use Rattle.rel_algebra.specs.Plan.{PlanTree, Nodes, no_node, on_each, Scalars, more}
use Rattle.rel_algebra.specs.PlanView.{NodeTree, node_of, run_of, scalar_of, scalars_of, node_step}
use Rattle.rel_algebra.specs.PlanView.{plan_step}
use Rattle.rel_algebra.specs.declared.plan.Node.{Node, out-Node}
use Rattle.rel_algebra.specs.declared.plan.Node.TheFolds.{fold-roll-Node}
use Rattle.rel_algebra.specs.declared.plan.Node.TheOpen.{Node-F}
use Rattle.rel_algebra.specs.declared.plan.Node.TheViews.{roll-out-Node}
use Rattle.rel_algebra.specs.declared.scalar.Scalar.{Scalar as ScalarCode}
use Rattle.plan_expressions.specs.Emission.{put}
use Rattle.plan_expressions.proofs.Laws.{put-append, put-none, rest, turned_last}
use Rattle.plan_steps.specs.Steps.{store_of, stores_of}
use Rattle.plan_steps.specs.declared.step.Store.{Store as StoreCode}

-- one scalar more in front of what is left
pub put_more : (front longer : List ScalarCode) (s : ScalarCode) (rest : Scalars) →
    longer ≡ front ++ s ∷ [] → put longer rest ≡ put front (more (scalar_of s) rest)
put_more front longer s rest h = ap (λ (ss : List ScalarCode). put ss rest) h ∙
    put-append front (s ∷ []) rest

-- ---- stores at a code

pub guarded_next : (front longer : List ScalarCode) (left others : List StoreCode) (s : StoreCode)
    (cell : ScalarCode) (code : ℕ) (whole : Scalars) → left ≡ others ++ s ∷ [] →
    scalar_of cell ≡ case_of (code_is code) (scalar_of s.new) (col s.column) →
    longer ≡ front ++ cell ∷ [] → put front (guarded code (stores_of (reverse left))) ≡ whole →
    put longer (guarded code (stores_of (reverse others))) ≡ whole
guarded_next front longer left others s cell code whole h is f b =
    let others_left = guarded code (stores_of (reverse others)) in
    put_more front longer cell others_left f ∙ ap (λ x. put front (more x others_left)) is ∙
    ap (λ (ss : List StoreCode). put front (guarded code (stores_of ss)))
    (sym (turned_last others s)) ∙
    ap (λ (ss : List StoreCode). put front (guarded code (stores_of (reverse ss)))) (sym h) ∙ b

pub guarded_done : (front : List ScalarCode) (left : List StoreCode) (code : ℕ) (whole : Scalars) →
    left ≡ [] → put front (guarded code (stores_of (reverse left))) ≡ whole →
    scalars_of front ≡ whole
guarded_done front left code whole h b = sym (put-none front) ∙
    ap (λ (ss : List StoreCode). put front (guarded code (stores_of (reverse ss)))) (sym h) ∙ b

-- stores after others
stores-append : (xs ys : List StoreCode) → stores_of (xs ++ ys) ≡ stores_of xs ++ stores_of ys
stores-append [] ys = refl
stores-append (x ∷ xs) ys = ap (λ (ss : List Store). store_of x ∷ ss) (stores-append xs ys)

pub stores_last : (front longer : List StoreCode) (x : StoreCode) (y : Store) →
    longer ≡ front ++ x ∷ [] → store_of x ≡ y → stores_of longer ≡ stores_of front ++ y ∷ []
stores_last front longer x y h is = ap stores_of h ∙ stores-append front (x ∷ []) ∙
    ap (λ (s : Store). stores_of front ++ s ∷ []) is

pub stores_two : (s0 s1 s2 : List StoreCode) (x y : StoreCode) → s1 ≡ s0 ++ x ∷ [] →
    s2 ≡ s1 ++ y ∷ [] → stores_of s2 ≡ stores_of s0 ++ store_of x ∷ store_of y ∷ []
stores_two s0 s1 s2 x y h g =
    ap stores_of (g ∙ ap (λ (ss : List StoreCode). ss ++ y ∷ []) h ∙
    append_assoc s0 (x ∷ []) (y ∷ [])) ∙ stores-append s0 (x ∷ y ∷ [])

-- ---- columns

pub places_next : (first count i : ℕ) → i < count →
    places (first + i) (count - i) ≡ (first + i) ∷ places (first + (i + 1)) (count - (i + 1))
places_next first count i h =
    let many : count - i ≡ suc (count - (i + 1)) = omega (arith, h) in
    let next : suc (first + i) ≡ first + (i + 1) = omega arith in
    ap (places (first + i)) many ∙
    ap (λ n. (first + i) ∷ places n (count - (i + 1))) next

pub places_none : (first count : ℕ) → places (first + 0) (count - 0) ≡ places first count
places_none first count =
    let same : first + 0 ≡ first = omega arith in let all : count - 0 ≡ count = omega arith in
    λ j. places (same j) (all j)

pub places_last : (first count : ℕ) → places (first + count) (count - count) ≡ []
places_last first count =
    let none_left : count - count ≡ 0 = omega arith in ap (places (first + count)) none_left

pub tags_next : (first count i : ℕ) → i < count →
    tags (first + i) (count - i) ≡ more (tag (first + i)) (tags (first + (i + 1)) (count - (i + 1)))
tags_next first count i h =
    let many : count - i ≡ suc (count - (i + 1)) = omega (arith, h) in
    let next : suc (first + i) ≡ first + (i + 1) = omega arith in
    ap (tags (first + i)) many ∙
    ap (λ n. more (tag (first + i)) (tags n (count - (i + 1)))) next

pub set_beyond : {A : Type 0} (xs : List A) (i : ℕ) (x : A) → length xs ≤ i → slice_set xs i x ≡ xs
set_beyond [] i x h = refl
set_beyond (y ∷ ys) zero x h = absurd (omega (arith, h))
set_beyond (y ∷ ys) (suc i) x h = ap (λ zs. y ∷ zs) (set_beyond ys i x (omega (arith, h)))

pub columns_next : (columns longer : List ℕ) (first count i x : ℕ) → i < count → x ≡ first + i →
    longer ≡ columns ++ x ∷ [] → columns ++ places (first + i) (count - i) ≡ places first count →
    longer ++ places (first + (i + 1)) (count - (i + 1)) ≡ places first count
columns_next columns longer first count i x h is f b =
    let others = places (first + (i + 1)) (count - (i + 1)) in
    ap (λ (cs : List ℕ). cs ++ others) f ∙ append_assoc columns (x ∷ []) others ∙
    ap (λ y. columns ++ y ∷ others) is ∙
    ap (λ (cs : List ℕ). columns ++ cs) (sym (places_next first count i h)) ∙ b

pub columns_done : (columns : List ℕ) (first count i : ℕ) → i ≡ count →
    columns ++ places (first + i) (count - i) ≡ places first count → columns ≡ places first count
columns_done columns first count i h b =
    sym (append_none columns) ∙ ap (λ (cs : List ℕ). columns ++ cs) (sym (places_last first count))
    ∙ ap (λ n. columns ++ places (first + n) (count - n)) (sym h) ∙ b
  where
    append_none : (xs : List ℕ) → xs ++ [] ≡ xs
    append_none [] = refl
    append_none (y ∷ ys) = ap (λ zs. y ∷ zs) (append_none ys)

pub tags_put : (front longer : List ScalarCode) (first count i : ℕ) (s : ScalarCode)
    (whole : Scalars) → i < count → scalar_of s ≡ tag (first + i) → longer ≡ front ++ s ∷ [] →
    put front (tags (first + i) (count - i)) ≡ whole →
    put longer (tags (first + (i + 1)) (count - (i + 1))) ≡ whole
tags_put front longer first count i s whole h is f b =
    let others = tags (first + (i + 1)) (count - (i + 1)) in
    put_more front longer s others f ∙ ap (λ x. put front (more x others)) is ∙
    ap (put front) (sym (tags_next first count i h)) ∙ b

pub tags_done : (front : List ScalarCode) (first count i : ℕ) (whole : Scalars) → i ≡ count →
    put front (tags (first + i) (count - i)) ≡ whole → scalars_of front ≡ whole
tags_done front first count i whole h b =
    let none_left : count - i ≡ 0 = omega (arith, h) in
    sym (put-none front) ∙ ap (λ n. put front (tags (first + i) n)) (sym none_left) ∙ b

-- the new cells of the stores that are left
pub placed_next : (stores : List StoreCode) (i : ℕ) (x : StoreCode) (m next : ℕ)
    (kept new whole : List ℕ) → i < length stores → x ≡ get_or stores i x →
    new ≡ slice_set kept x.column m → next ≡ 1 + m →
    placed (stores_of (drop i stores)) m kept ≡ whole →
    placed (stores_of (drop (i + 1) stores)) next new ≡ whole
placed_next stores i x m next kept new whole h is new_is next_is b =
    let after : next ≡ suc m = next_is ∙ omega arith in
    (λ j. placed (stores_of (drop (i + 1) stores)) (after j) (new_is j)) ∙
    ap (λ (xs : List StoreCode). placed (stores_of xs) m kept) (sym (rest stores i x h is)) ∙ b

pub placed_done : (stores : List StoreCode) (i m : ℕ) (kept whole : List ℕ) → length stores ≤ i →
    placed (stores_of (drop i stores)) m kept ≡ whole → kept ≡ whole
placed_done stores i m kept whole h b =
    ap (λ (xs : List StoreCode). placed (stores_of xs) m kept) (sym (drop_all i stores h)) ∙ b

-- ---- nodes at a code

-- what stands below a node, and what is put there of the rest
abbrev pub PutBelow : ℕ → NodeTree → Type 0
PutBelow code n = (rest : Nodes) (t : PlanTree) → on_each (asked_at code (n.below rest)) t ≡ on_each
    (asked_at code rest) (on_each (asked_at code (n.below no_node)) t)

put_layer : (code : ℕ) (y : Node-F NodeTree PlanTree) → PutBelow code (node_step y)
put_layer code (Node-F.Extend ss) = λ rest t. refl
put_layer code (Node-F.Apply s k inner) = λ rest t. refl
put_layer code (Node-F.Filter s) = λ rest t. refl
put_layer code (Node-F.Keep is) = λ rest t. refl
put_layer code (Node-F.Cross r) = λ rest t. refl
put_layer code (Node-F.LeftOuter ns s n r) = λ rest t. refl
put_layer code Node-F.Settle = λ rest t. refl
put_layer code (Node-F.Group is ags) = λ rest t. refl
put_layer code (Node-F.Sort keys) = λ rest t. refl

put_below : (code : ℕ) (n : Node) → PutBelow code (node_of n)
put_below code n = subst (λ (m : Node). PutBelow code (node_of m)) (roll-out-Node n)
    (subst (PutBelow code)
    (sym (fold-roll-Node NodeTree PlanTree node_step plan_step (out-Node n))) (put_layer code _))

pub nodes_next : (code : ℕ) (left others : List Node) (n : Node) (mid next whole : PlanTree) →
    left ≡ others ++ n ∷ [] →
    next ≡ on_each (asked_at code ((node_of n).below no_node)) mid →
    on_each (asked_at code (run_of (reverse left))) mid ≡ whole →
    on_each (asked_at code (run_of (reverse others))) next ≡ whole
nodes_next code left others n mid next whole h g b =
    ap (on_each (asked_at code (run_of (reverse others)))) g ∙
    sym (put_below code n (run_of (reverse others)) mid) ∙
    ap (λ (ns : List Node). on_each (asked_at code (run_of ns)) mid)
    (sym (turned_last others n)) ∙
    ap (λ (ns : List Node). on_each (asked_at code (run_of (reverse ns))) mid) (sym h) ∙ b

pub nodes_done : (code : ℕ) (left : List Node) (now whole : PlanTree) → left ≡ [] →
    on_each (asked_at code (run_of (reverse left))) now ≡ whole → now ≡ whole
nodes_done code left now whole h b =
    ap (λ (ns : List Node). on_each (asked_at code (run_of (reverse ns))) now) (sym h) ∙ b

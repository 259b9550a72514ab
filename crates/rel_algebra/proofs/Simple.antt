-- Of a plan whose Applies can all be removed, as that of a simple query, none is left.
use Rattle.std.proofs.Common.{◌≡◌, ℕ, zero, suc, ◌≤◌, Bool, true, false, cond, not, ◌&&◌, ◌||◌}
use Rattle.std.proofs.Common.{List, refl, ap, arith}
use Rattle.sql_values.specs.declared.operators.Comparison.TheVariants.{Equals}
use Rattle.rel_algebra.specs.Applies.{applies, way_count}
use Rattle.rel_algebra.specs.Plan.{Kind, Nodes, PlanTree, Scalar, Way, anew, apply, apply_by}
use Rattle.rel_algebra.specs.Plan.{column, cross, extend, extend_by, filter, group, keep}
use Rattle.rel_algebra.specs.Plan.{left_outer, lookup, more, no_node, none, once, scan, settle}
use Rattle.rel_algebra.specs.Plan.{sort, strict, tree_width, unit_row, values, word}
use Rattle.rel_algebra.specs.Removal.{Lower, Phase, Running, Stuck, Upper, all_removable, chained}
use Rattle.rel_algebra.specs.Removal.{inner_phase, is_anew, is_chain, is_key, is_region, keep_phase}
use Rattle.rel_algebra.specs.Removal.{keyed, kind_stays, nodes_removable, of_region, phase}
use Rattle.rel_algebra.specs.Removal.{removable, stays, stays_all, tree_within, up, way_stays}
use Rattle.rel_algebra.specs.Remove.{remove}
use Rattle.rel_algebra.specs.Staying.{can_go, staying, staying_in}
use Rattle.rel_algebra.specs.Tree.{Comparing}
use Rattle.rel_algebra.proofs.FittingNodes.{less_more}
use Rattle.rel_algebra.proofs.Staying.{remove_count}
use Rattle.rel_algebra.proofs.Truths.{and_true, left_true, never, right_true}

or_left : (a b : Bool) → a ≡ true → (a || b) ≡ true
or_left true b h = refl
or_left false b h = never h

or_right : (a b : Bool) → b ≡ true → (a || b) ≡ true
or_right true b h = refl
or_right false b h = h

or_more : (a b c d : Bool) → (a ≡ true → c ≡ true) → (b ≡ true → d ≡ true) → (a || b) ≡ true →
    (c || d) ≡ true
or_more true b c d f g h = or_left c d (f refl)
or_more false b c d f g h = or_right c d (g h)

key_more : (s : Scalar) (n m : ℕ) → n ≤ m → is_key n s ≡ true → is_key m s ≡ true
key_more (word (strict (Comparing Equals)) (more (column zero i) (more (column (suc d) j) none))) n
    m l h = less_more i n m l h
key_more _ n m l h = never h

-- what a phase tells of the plan
abbrev pub Told : PlanTree → Phase → Type 0
Told t (Lower n) = (chained t ≡ true) × (n ≤ tree_width t)
Told t (Running n) = (chained t ≡ true) × (n ≤ tree_width t)
Told t Upper = chained t ≡ true
Told t Stuck = Unit {0}

told_inner : (b : Bool) (p : Phase) (t u : PlanTree) → Told t p →
    (b ≡ true → chained t ≡ true → chained u ≡ true) → tree_width t ≤ tree_width u →
    Told u (inner_phase b p)
told_inner true (Lower n) t u h f w = let l = h.1 in (f refl h.0, omega (arith, l, w))
told_inner true (Running n) t u h f w = f refl h.0
told_inner true Upper t u h f w = f refl h
told_inner true Stuck t u h f w = tt
told_inner false p t u h f w = tt

told_up : (p : Phase) (s : Scalar) (t : PlanTree) → Told t p → stays s 1 ≡ true →
    Told (filter s t) (up p)
told_up (Lower n) s t h e = (
  and_true (stays s 1 || is_key (tree_width t) s) (chained t)
      (or_left (stays s 1) (is_key (tree_width t) s) e) h.0,
  h.1,
)
told_up (Running n) s t h e = and_true (stays s 1 || is_key (tree_width t) s) (chained t)
    (or_left (stays s 1) (is_key (tree_width t) s) e) h.0
told_up Upper s t h e = and_true (stays s 1 || is_key (tree_width t) s) (chained t)
    (or_left (stays s 1) (is_key (tree_width t) s) e) h
told_up Stuck s t h e = tt

told_key : (b : Bool) (n : ℕ) (s : Scalar) (t : PlanTree) → is_key n s ≡ b →
    (chained t ≡ true) × (n ≤ tree_width t) →
    Told (filter s t) (cond b (Running n) Stuck)
told_key true n s t e h = (
  and_true (stays s 1 || is_key (tree_width t) s) (chained t)
      (or_right (stays s 1) (is_key (tree_width t) s) (key_more s n (tree_width t) h.1 e)) h.0,
  h.1,
)
told_key false n s t e h = tt

told_keyed : (p : Phase) (s : Scalar) (t : PlanTree) → Told t p → Told (filter s t) (keyed s p)
told_keyed (Lower n) s t h = told_key (is_key n s) n s t refl h
told_keyed (Running n) s t h = told_key (is_key n s) n s t refl h
told_keyed Upper s t h = tt
told_keyed Stuck s t h = tt

told_filter : (b : Bool) (p : Phase) (s : Scalar) (t : PlanTree) → stays s 1 ≡ b → Told t p →
    Told (filter s t) (cond b (up p) (keyed s p))
told_filter true p s t e h = told_up p s t h e
told_filter false p s t e h = told_keyed p s t h

told_keep : (p : Phase) (is : List ℕ) (t : PlanTree) → Told t p → Told (keep is t) (keep_phase p)
told_keep (Lower n) is t h = h.0
told_keep (Running n) is t h = h.0
told_keep Upper is t h = h
told_keep Stuck is t h = tt

told_base : (b : Bool) (t : PlanTree) → tree_within t 0 ≡ b →
    (tree_within t 0 ≡ true → chained t ≡ true) → Told t (cond b (Lower (tree_width t)) Stuck)
told_base true t e f = (f e, omega arith)
told_base false t e f = tt

told : (t : PlanTree) → Told t (phase t)
told (extend ss t) = told_inner (stays_all ss 1) (phase t) t (extend ss t) (told t)
    (λ b h. and_true (stays_all ss 1) (chained t) b h) (omega arith)
told (apply when kind way inner t) =
    let b = (stays when 1 && (way_stays way 1 && kind_stays kind 1)) && tree_within inner 1 in
    told_inner b (phase t) t (apply when kind way inner t) (told t)
    (λ e h. and_true b (chained t) e h) (omega arith)
told (filter s t) = told_filter (stays s 1) (phase t) s t refl (told t)
told (keep is t) = told_keep (phase t) is t (told t)
told unit_row = told_base true unit_row refl (λ h. refl)
told (scan name n) = told_base true (scan name n) refl (λ h. refl)
told (values lists) = told_base (tree_within (values lists) 0) (values lists) refl (λ h. h)
told (cross a b) = told_base (tree_within (cross a b) 0) (cross a b) refl (λ h. h)
told (left_outer nodes s n a b) =
    told_base (tree_within (left_outer nodes s n a b) 0) (left_outer nodes s n a b) refl (λ h. h)
told (settle t) = told_base (tree_within t 0) (settle t) refl (λ h. h)
told (group keys ags t) = told_base (tree_within t 0) (group keys ags t) refl (λ h. h)
told (sort keys t) = told_base (tree_within t 0) (sort keys t) refl (λ h. h)

chain_told : (t : PlanTree) (p : Phase) → Told t p → is_chain p ≡ true → chained t ≡ true
chain_told t (Lower n) h e = h.0
chain_told t (Running n) h e = h.0
chain_told t Upper h e = h
chain_told t Stuck h e = never e

-- what passes the test by phases can go
pub removable_goes : (kind : Kind) (t : PlanTree) → removable kind t ≡ true →
    can_go kind anew t ≡ true
removable_goes kind t h =
    let x = is_region t && of_region kind in
    or_more (tree_within t 0) (is_chain (phase t) || x) (tree_within t 0) (chained t || x) (λ p. p)
    (or_more (is_chain (phase t)) x (chained t) x (chain_told t (phase t) (told t)) (λ p. p)) h

gone : (kind : Kind) (way : Way) (inner : PlanTree) → (not (is_anew way) || removable kind inner)
    ≡ true → cond (can_go kind way inner) 0 (way_count way) ≡ 0
gone kind anew inner h = ap (λ (b : Bool). cond b 0 1) (removable_goes kind inner h)
gone kind once inner h = refl
gone kind (lookup keys) inner h = refl

mutual
  none_stays : (t : PlanTree) → all_removable t ≡ true → staying t ≡ 0
  none_stays unit_row h = refl
  none_stays (scan name n) h = refl
  none_stays (values lists) h = refl
  none_stays (extend ss t) h = none_stays t h
  none_stays (apply when kind way inner t) h =
      let a = not (is_anew way) || removable kind inner in let b = all_removable inner in
      let c = all_removable t in
      let ab : (a && b) ≡ true = left_true (a && b) c h in
      let x = gone kind way inner (left_true a b ab) in
      let y = none_stays inner (right_true a b ab) in
      let z = none_stays t (right_true (a && b) c h) in
      omega (arith, x, y, z)
  none_stays (filter s t) h = none_stays t h
  none_stays (keep is t) h = none_stays t h
  none_stays (cross a b) h =
      let x = none_stays a (left_true (all_removable a) (all_removable b) h) in
      let y = none_stays b (right_true (all_removable a) (all_removable b) h) in
      omega (arith, x, y)
  none_stays (left_outer nodes s n a b) h =
      let ab = all_removable a && all_removable b in
      let k : ab ≡ true = right_true (nodes_removable nodes) ab h in
      let x = run_none nodes (left_true (nodes_removable nodes) ab h) in
      let y = none_stays a (left_true (all_removable a) (all_removable b) k) in
      let z = none_stays b (right_true (all_removable a) (all_removable b) k) in
      omega (arith, x, y, z)
  none_stays (settle t) h = none_stays t h
  none_stays (group keys ags t) h = none_stays t h
  none_stays (sort keys t) h = none_stays t h

  run_none : (nodes : Nodes) → nodes_removable nodes ≡ true → staying_in nodes ≡ 0
  run_none no_node h = refl
  run_none (extend_by ss rest) h = run_none rest h
  run_none (apply_by when kind way inner rest) h =
      let a = not (is_anew way) || removable kind inner in let b = all_removable inner in
      let c = nodes_removable rest in
      let ab : (a && b) ≡ true = left_true (a && b) c h in
      let x = gone kind way inner (left_true a b ab) in
      let y = none_stays inner (right_true a b ab) in
      let z = run_none rest (right_true (a && b) c h) in
      omega (arith, x, y, z)

pub none_left : (t : PlanTree) → all_removable t ≡ true → applies (remove t) ≡ 0
none_left t h = let a = remove_count t in let b = none_stays t h in omega (arith, a, b)

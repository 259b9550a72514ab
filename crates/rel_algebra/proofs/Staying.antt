-- What is left after removal: no Apply that can go, no more Applies than could not, and no outer
-- column that the plan does not use.
use Rattle.std.proofs.Common.{◌≡◌, ℕ, zero, suc, ◌+◌, ◌≤◌, Bool, true, false, cond, ◌&&◌, ◌||◌}
use Rattle.std.proofs.Common.{List, [], ◌∷◌, ◌++◌, length, refl, ap, sym, ◌∙◌, arith, length-append}
use Rattle.sql_values.specs.declared.operators.Comparison.TheVariants.{Equals}
use Rattle.sql_values.specs.declared.value.Value.TheVariants.{Int, Null, Str, Bool as Truth}
use Rattle.rel_algebra.specs.Applies.{applies, applies_in, way_count}
use Rattle.rel_algebra.specs.Emit.{joined_nodes, width, if_values}
use Rattle.rel_algebra.specs.Joins.{places}
use Rattle.rel_algebra.specs.Plan.{Kind, Nodes, PlanTree, Scalar, Way, aggregate, anew, apply}
use Rattle.rel_algebra.specs.Plan.{apply_by, argument, column, constant, cross, exists, extend}
use Rattle.rel_algebra.specs.Plan.{extend_by, filter, group, keep, kind_width, left_outer, lookup}
use Rattle.rel_algebra.specs.Plan.{member, more, no_node, none, on_each, once, scalar_count, scan}
use Rattle.rel_algebra.specs.Plan.{settle, single, sort, strict, tree_width, unit_row, values, word}
use Rattle.rel_algebra.specs.Plan.{into, Scalars}
use Rattle.rel_algebra.specs.Regions.{Columns, into_scalars, region_cells, region_columns}
use Rattle.rel_algebra.specs.Regions.{where_all, where_true}
use Rattle.rel_algebra.specs.Remove.{Removed, as_columns, as_node, put, put_by, remove}
use Rattle.rel_algebra.specs.Remove.{remove_nodes, removed_apply, removed_node}
use Rattle.rel_algebra.specs.Removal.{chained, is_key, is_region, keys_stay, kind_stays, less}
use Rattle.rel_algebra.specs.Removal.{nodes_within, of_region, stays, stays_all, tree_within}
use Rattle.rel_algebra.specs.Removal.{way_stays}
use Rattle.rel_algebra.specs.RemovalLaws.{Left}
use Rattle.rel_algebra.specs.Renaming.{merged_row, own_row, place_in, renamed_kind, renamed_scalar}
use Rattle.rel_algebra.specs.Renaming.{renamed_scalars, renamed_tree, renamed_way}
use Rattle.rel_algebra.specs.Staying.{NoneGoes, NoneGoesIn, can_go, staying, staying_in}
use Rattle.rel_algebra.specs.Tree.{Comparing}
use Rattle.rel_algebra.specs.Widening.{Wide, keys_from, widened, with_filter, with_key, with_test}
use Rattle.rel_algebra.proofs.EvenRemoved.{once_by, removed_by}
use Rattle.rel_algebra.proofs.Levels.{all_stay_renamed, applies_joined, applies_on_each}
use Rattle.rel_algebra.proofs.Levels.{applies_renamed, can_go_renamed, kind_stays_renamed}
use Rattle.rel_algebra.proofs.Levels.{merged_kept, none_goes_joined, none_goes_on_each}
use Rattle.rel_algebra.proofs.Levels.{none_goes_renamed, own_kept, stays_renamed, way_count_renamed}
use Rattle.rel_algebra.proofs.Levels.{way_stays_renamed, within_more, within_renamed}
use Rattle.rel_algebra.proofs.Truths.{and_true, both, left_true, never, right_true}
use Rattle.rel_algebra.proofs.Widths.{places_long}
use Rattle.rel_algebra.proofs.Within.{if_values_stays, joined_in, on_each_in}

or_left : (a b : Bool) → a ≡ true → (a || b) ≡ true
or_left true b h = refl
or_left false b h = never h

or_right : (a b : Bool) → b ≡ true → (a || b) ≡ true
or_right true b h = refl
or_right false b h = h

-- A filter of a chain, in its three forms.
pub filter_by : (P : Wide → Type 0) (s : Scalar) (c : Wide) (n : ℕ) →
    (stays s 1 || is_key n s) ≡ true →
    (stays s 1 ≡ true → P (with_test c.tests
    (renamed_scalar s (own_row c.outs (tree_width c.below))) c)) →
    (is_key n s ≡ true → P (with_key s c)) → P (with_filter s c)
filter_by P s c n p f g = by (stays s 1) refl p
  where
    by : (b : Bool) → stays s 1 ≡ b → (b || is_key n s) ≡ true →
        P (cond b (with_test c.tests (renamed_scalar s (own_row c.outs (tree_width c.below))) c)
        (with_key s c))
    by true e q = f e
    by false e q = g q

-- the same below all its forms, but for the filter itself and the cell
test_below : (P : PlanTree → Type 0) (tests : List (ℕ × Scalar)) (s : Scalar) (c : Wide) →
    P (filter s c.below) → P (extend (more s none) c.below) →
    P (with_test tests s c).below
test_below P [] s c a b = a
test_below P (k ∷ tests) s c a b = b

key_below : (P : PlanTree → Type 0) (s : Scalar) (c : Wide) → P c.below → P (with_key s c).below
key_below P (word (strict (Comparing Equals)) (more (column zero i) (more (column (suc d) j) none)))
    c h = h
key_below P _ c h = h

-- Wide plans use no outer column.
pub wide_closed : (t : PlanTree) → chained t ≡ true → tree_within (widened t).below 0 ≡ true
wide_closed (extend ss t) p =
    let c = widened t in let names = own_row c.outs (tree_width c.below) in
    and_true (stays_all (renamed_scalars ss names) 1) (tree_within c.below 0)
    (all_stay_renamed ss names 1 1 (own_kept c.outs (tree_width c.below) 1)
    ∙ left_true (stays_all ss 1) (chained t) p)
    (wide_closed t (right_true (stays_all ss 1) (chained t) p))
wide_closed (apply when kind way inner t) p =
    let c = widened t in let m = tree_width c.below in let names = own_row c.outs m in
    let k = own_kept c.outs m 1 in
    let a = stays when 1 && (way_stays way 1 && kind_stays kind 1) in
    let q : (a && tree_within inner 1)
    ≡ true = left_true (a && tree_within inner 1) (chained t) p in
    let same : (stays (renamed_scalar when names) 1
    && (way_stays (renamed_way way names) 1 && kind_stays (renamed_kind kind names) 1)) ≡ a =
    λ i. stays_renamed when names 1 1 k i
    && (way_stays_renamed way names 1 1 k i && kind_stays_renamed kind names 1 1 k i) in
    and_true (stays (renamed_scalar when names) 1
    && (way_stays (renamed_way way names) 1 && kind_stays (renamed_kind kind names) 1))
    (tree_within (renamed_tree inner names) 1 && tree_within c.below 0) (same
    ∙ left_true a (tree_within inner 1) q)
    (and_true (tree_within (renamed_tree inner names) 1) (tree_within c.below 0)
    (within_renamed inner names 1 1 k ∙ right_true a (tree_within inner 1) q)
    (wide_closed t (right_true (a && tree_within inner 1) (chained t) p)))
wide_closed (filter s t) p =
    let c = widened t in let m = tree_width c.below in let names = own_row c.outs m in
    let s' = renamed_scalar s names in
    let below = wide_closed t (right_true (stays s 1 || is_key (tree_width t) s) (chained t) p) in
    filter_by (λ (d : Wide). tree_within d.below 0 ≡ true) s c (tree_width t)
    (left_true (stays s 1 || is_key (tree_width t) s) (chained t) p)
    (λ e. let st : stays s' 1 ≡ true = stays_renamed s names 1 1 (own_kept c.outs m 1) ∙ e in
    test_below (λ (u : PlanTree). tree_within u 0 ≡ true) c.tests s' c
    (and_true (stays s' 1) (tree_within c.below 0) st below)
    (and_true (stays s' 1 && true) (tree_within c.below 0) (and_true (stays s' 1) true st refl)
    below))
    (λ e. key_below (λ (u : PlanTree). tree_within u 0 ≡ true) s c below)
wide_closed (keep is t) p = wide_closed t p
wide_closed unit_row p = refl
wide_closed (scan name n) p = refl
wide_closed (values lists) p = p
wide_closed (cross a b) p = p
wide_closed (left_outer nodes s n a b) p = p
wide_closed (settle t) p = p
wide_closed (group keys ags t) p = p
wide_closed (sort keys t) p = p

keys_append : (a b : List (ℕ × Scalar)) (n : ℕ) → keys_stay a n ≡ true → keys_stay b n ≡ true →
    keys_stay (a ++ b) n ≡ true
keys_append [] b n h k = k
keys_append (x ∷ a) b n h k =
    and_true (stays x.1 n) (keys_stay (a ++ b) n) (left_true (stays x.1 n) (keys_stay a n) h)
    (keys_append a b n (right_true (stays x.1 n) (keys_stay a n) h) k)

test_keys : (tests : List (ℕ × Scalar)) (s : Scalar) (c : Wide) (n : ℕ) →
    keys_stay c.tests n ≡ true → keys_stay (with_test tests s c).tests n ≡ true
test_keys [] s c n h = h
test_keys (k ∷ tests) s c n h =
    keys_append c.tests ((tree_width c.below, constant (Truth true)) ∷ []) n h refl

key_keys : (s : Scalar) (c : Wide) (n : ℕ) → stays s (suc n) ≡ true → keys_stay c.tests n ≡ true →
    keys_stay (with_key s c).tests n ≡ true
key_keys (word (strict (Comparing Equals)) (more (column zero i) (more (column (suc d) j) none))) c
    n p h =
    keys_append c.tests ((place_in c.outs (tree_width c.below) i, column d j) ∷ []) n h
    (right_true (less zero (suc n)) (less d n && true) p)
key_keys _ c n p h = h

wide_keys : (t : PlanTree) (n : ℕ) → chained t ≡ true → tree_within t n ≡ true →
    keys_stay (widened t).tests n ≡ true
wide_keys (extend ss t) n p h = wide_keys t n (right_true (stays_all ss 1) (chained t) p)
    (right_true (stays_all ss (suc n)) (tree_within t n) h)
wide_keys (apply when kind way inner t) n p h =
    let a = stays when (suc n) && (way_stays way (suc n) && kind_stays kind (suc n)) in
    wide_keys t n (right_true ((stays when 1 && (way_stays way 1 && kind_stays kind 1))
    && tree_within inner 1) (chained t) p)
    (right_true (tree_within inner (suc n)) (tree_within t n)
    (right_true a (tree_within inner (suc n) && tree_within t n) h))
wide_keys (filter s t) n p h =
    let c = widened t in
    let k = wide_keys t n (right_true (stays s 1 || is_key (tree_width t) s) (chained t) p)
    (right_true (stays s (suc n)) (tree_within t n) h) in
    filter_by (λ (d : Wide). keys_stay d.tests n ≡ true) s c (tree_width t)
    (left_true (stays s 1 || is_key (tree_width t) s) (chained t) p)
    (λ e. test_keys c.tests (renamed_scalar s (own_row c.outs (tree_width c.below))) c n k)
    (λ e. key_keys s c n (left_true (stays s (suc n)) (tree_within t n) h) k)
wide_keys (keep is t) n p h = wide_keys t n p h
wide_keys unit_row n p h = refl
wide_keys (scan name k) n p h = refl
wide_keys (values lists) n p h = refl
wide_keys (cross a b) n p h = refl
wide_keys (left_outer nodes s k a b) n p h = refl
wide_keys (settle t) n p h = refl
wide_keys (group keys ags t) n p h = refl
wide_keys (sort keys t) n p h = refl

from_keys : (tests : List (ℕ × Scalar)) (i n : ℕ) → keys_stay tests n ≡ true →
    keys_stay (keys_from i tests) n ≡ true
from_keys [] i n h = refl
from_keys (k ∷ tests) i n h =
    and_true (stays k.1 n) (keys_stay (keys_from (suc i) tests) n)
    (left_true (stays k.1 n) (keys_stay tests n) h)
    (from_keys tests (suc i) n (right_true (stays k.1 n) (keys_stay tests n) h))

-- Regions.
region_within : (t : PlanTree) (k n : ℕ) → is_region t ≡ true → tree_within t (suc n) ≡ true →
    nodes_within (region_columns t k).nodes n ≡ true
region_within unit_row k n p h = refl
region_within (extend ss t) k n p h =
    let c = region_columns t k in let m = width c.nodes k in let names = merged_row k c.places m in
    joined_in c.nodes (extend_by (renamed_scalars ss names) no_node) n
    (region_within t k n p (right_true (stays_all ss (suc (suc n))) (tree_within t (suc n)) h))
    (and_true (stays_all (renamed_scalars ss names) (suc n)) true
    (all_stay_renamed ss names (suc (suc n)) (suc n) (merged_kept k c.places m n)
    ∙ left_true (stays_all ss (suc (suc n))) (tree_within t (suc n)) h) refl)
region_within (apply when kind way inner t) k n p h =
    let c = region_columns t k in let m = width c.nodes k in let names = merged_row k c.places m in
    let l = merged_kept k c.places m n in
    let two = suc (suc n) in let a = stays when two && (way_stays way two && kind_stays kind two) in
    let q : (tree_within inner two && tree_within t (suc n))
    ≡ true = right_true a (tree_within inner two && tree_within t (suc n)) h in
    let same : (stays (renamed_scalar when names) (suc n)
    && (way_stays (renamed_way way names) (suc n) && kind_stays (renamed_kind kind names) (suc n)))
    ≡ a =
    λ i. stays_renamed when names two (suc n) l i
    && (way_stays_renamed way names two (suc n) l i
    && kind_stays_renamed kind names two (suc n) l i) in
    joined_in c.nodes (apply_by (renamed_scalar when names) (renamed_kind kind names)
    (renamed_way way names) (renamed_tree inner names) no_node) n
    (region_within t k n p (right_true (tree_within inner two) (tree_within t (suc n)) q))
    (and_true (stays (renamed_scalar when names) (suc n)
    && (way_stays (renamed_way way names) (suc n) && kind_stays (renamed_kind kind names) (suc n)))
    (tree_within (renamed_tree inner names) (suc n) && true) (same
    ∙ left_true a (tree_within inner two && tree_within t (suc n)) h)
    (and_true (tree_within (renamed_tree inner names) (suc n)) true
    (within_renamed inner names two (suc n) l
    ∙ left_true (tree_within inner two) (tree_within t (suc n)) q) refl))
region_within (keep is t) k n p h = region_within t k n p h
region_within (scan name j) k n p h = never p
region_within (values lists) k n p h = never p
region_within (filter s t) k n p h = never p
region_within (cross a b) k n p h = never p
region_within (left_outer nodes s j a b) k n p h = never p
region_within (settle t) k n p h = never p
region_within (group keys ags t) k n p h = never p
region_within (sort keys t) k n p h = never p

into_stay : (outs : List ℕ) (m i k n : ℕ) → stays_all (into_scalars outs m i k) (suc n) ≡ true
into_stay outs m i zero n = refl
into_stay outs m i (suc k) n =
    and_true (stays (if_values outs (column 0 (place_in outs m i))) (suc n))
    (stays_all (into_scalars outs m (suc i) k) (suc n))
    (if_values_stays outs (column 0 (place_in outs m i)) n refl) (into_stay outs m (suc i) k n)

cells_stay : (kind : Kind) (outs : List ℕ) (m n : ℕ) → kind_stays kind (suc n) ≡ true →
    stays_all (region_cells kind outs m) (suc n) ≡ true
cells_stay single outs m n h = refl
cells_stay exists outs m n h =
    and_true (stays (if_values outs (constant (Truth true))) (suc n)) true
    (if_values_stays outs (constant (Truth true)) n refl) refl
cells_stay (member s) outs m n h =
    and_true (stays s (suc n) && true) true (and_true (stays s (suc n)) true h refl) refl
cells_stay (aggregate ags) outs m n h = refl
cells_stay (into k) outs m n h = into_stay outs m 0 k n

case_stays : (when s : Scalar) (n : ℕ) → stays when n ≡ true → stays s n ≡ true →
    (stays when n && (stays s n && true)) ≡ true
case_stays when s n h k =
    and_true (stays when n) (stays s n && true) h (and_true (stays s n) true k refl)

where_stays : (when s : Scalar) (n : ℕ) → stays when n ≡ true → stays s n ≡ true →
    stays (where_true when s) n ≡ true
where_stays (constant (Truth true)) s n h k = k
where_stays (constant (Truth false)) s n h k = case_stays (constant (Truth false)) s n h k
where_stays (constant Null) s n h k = case_stays (constant Null) s n h k
where_stays (constant (Int z)) s n h k = case_stays (constant (Int z)) s n h k
where_stays (constant (Str t)) s n h k = case_stays (constant (Str t)) s n h k
where_stays (column level i) s n h k = case_stays (column level i) s n h k
where_stays (argument i) s n h k = case_stays (argument i) s n h k
where_stays (word w ss) s n h k = case_stays (word w ss) s n h k

where_all_stay : (when : Scalar) (ss : Scalars) (n : ℕ) → stays when n ≡ true →
    stays_all ss n ≡ true → stays_all (where_all when ss) n ≡ true
where_all_stay when none n h k = refl
where_all_stay when (more s ss) n h k =
    and_true (stays (where_true when s) n) (stays_all (where_all when ss) n)
    (where_stays when s n h (left_true (stays s n) (stays_all ss n) k))
    (where_all_stay when ss n h (right_true (stays s n) (stays_all ss n) k))

-- What an Apply becomes uses no more outer columns.
abbrev pub RemovedWithin : ℕ → Removed → Type 0
RemovedWithin n (as_node way inner) =
    (way_stays way (suc n) ≡ true) × (tree_within inner (suc n) ≡ true)
RemovedWithin n (as_columns c) = nodes_within c.nodes n ≡ true

apply_within : (when : Scalar) (kind : Kind) (inner : PlanTree) (k n : ℕ) →
    stays when (suc n) ≡ true → kind_stays kind (suc n) ≡ true →
    tree_within inner (suc n) ≡ true → RemovedWithin n (removed_apply when kind inner k)
apply_within when kind inner k n hw hk hi =
    removed_by (RemovedWithin n) when kind inner k
    (λ p. (once_by (λ (way : Way). way_stays way (suc n) ≡ true) when refl refl, hi))
    (λ p. (
      from_keys (widened inner).tests (length (widened inner).outs) (suc n)
          (wide_keys inner (suc n) p hi),
      within_more (widened inner).below 0 (suc n) (omega arith) (wide_closed inner p),
    ))
    (λ p q. let c = region_columns inner k in let m = width c.nodes k in
    let names = own_row (places 0 k) m in
    let l = own_kept (places 0 k) m (suc n) in
    let ss = region_cells (renamed_kind kind names) c.places m in
    let last = where_all (renamed_scalar when names) ss in
    joined_in c.nodes (extend_by last no_node) n (region_within inner k n p hi)
    (and_true (stays_all last (suc n)) true
    (where_all_stay (renamed_scalar when names) ss (suc n)
    (stays_renamed when names (suc n) (suc n) l ∙ hw)
    (cells_stay (renamed_kind kind names) c.places m n
    (kind_stays_renamed kind names (suc n) (suc n) l ∙ hk))) refl))
    (λ x y z. (refl, hi))

pub node_within : (when : Scalar) (kind : Kind) (way : Way) (inner : PlanTree) (k n : ℕ) →
    (stays when (suc n) && (way_stays way (suc n) && kind_stays kind (suc n))) ≡ true →
    tree_within inner (suc n) ≡ true →
    RemovedWithin n (removed_node when kind way inner k)
node_within when kind anew inner k n h hi =
    apply_within when kind inner k n (left_true (stays when (suc n)) (kind_stays kind (suc n)) h)
    (right_true (stays when (suc n)) (kind_stays kind (suc n)) h) hi
node_within when kind once inner k n h hi = (refl, hi)
node_within when kind (lookup keys) inner k n h hi = (
  left_true (keys_stay keys (suc n)) (kind_stays kind (suc n))
      (right_true (stays when (suc n)) (keys_stay keys (suc n) && kind_stays kind (suc n)) h),
  hi,
)

with_way : (when : Scalar) (kind : Kind) (way new : Way) (n : ℕ) →
    (stays when n && (way_stays way n && kind_stays kind n)) ≡ true → way_stays new n ≡ true →
    (stays when n && (way_stays new n && kind_stays kind n)) ≡ true
with_way when kind way new n h k =
    and_true (stays when n) (way_stays new n && kind_stays kind n)
    (left_true (stays when n) (way_stays way n && kind_stays kind n) h)
    (and_true (way_stays new n) (kind_stays kind n) k
    (right_true (way_stays way n) (kind_stays kind n)
    (right_true (stays when n) (way_stays way n && kind_stays kind n) h)))

put_within : (when : Scalar) (kind : Kind) (way : Way) (input : PlanTree) (d : Removed) (n : ℕ) →
    (stays when (suc n) && (way_stays way (suc n) && kind_stays kind (suc n))) ≡ true →
    RemovedWithin n d → tree_within input n ≡ true →
    tree_within (put when kind input d) n ≡ true
put_within when kind way input (as_node new inner) n h k p =
    and_true (stays when (suc n) && (way_stays new (suc n) && kind_stays kind (suc n)))
    (tree_within inner (suc n) && tree_within input n)
    (with_way when kind way new (suc n) h k.0)
    (and_true (tree_within inner (suc n)) (tree_within input n) k.1 p)
put_within when kind way input (as_columns c) n h k p = on_each_in c.nodes input n k p

put_by_within : (when : Scalar) (kind : Kind) (way : Way) (outs : List ℕ) (m : ℕ) (d : Removed)
    (rest : List ℕ → ℕ → Columns) (n : ℕ) →
    (stays when (suc n) && (way_stays way (suc n) && kind_stays kind (suc n))) ≡ true →
    RemovedWithin n d →
    ((is : List ℕ) (j : ℕ) → nodes_within (rest is j).nodes n ≡ true) →
    nodes_within (put_by when kind outs m d rest).nodes n ≡ true
put_by_within when kind way outs m (as_node new inner) rest n h k p =
    let r = nodes_within (rest (outs ++ places m (kind_width kind)) (m + kind_width kind)).nodes n
    in
    and_true (stays when (suc n) && (way_stays new (suc n) && kind_stays kind (suc n)))
    (tree_within inner (suc n) && r)
    (with_way when kind way new (suc n) h k.0)
    (and_true (tree_within inner (suc n)) r k.1
    (p (outs ++ places m (kind_width kind)) (m + kind_width kind)))
put_by_within when kind way outs m (as_columns c) rest n h k p =
    joined_in c.nodes (rest (outs ++ c.places) (width c.nodes m)).nodes n k
    (p (outs ++ c.places) (width c.nodes m))

mutual
  pub remove_within : (t : PlanTree) (n : ℕ) → tree_within t n ≡ true →
      tree_within (remove t) n ≡ true
  remove_within unit_row n h = refl
  remove_within (scan name k) n h = refl
  remove_within (values lists) n h = h
  remove_within (extend ss input) n h =
      and_true (stays_all ss (suc n)) (tree_within (remove input) n)
      (left_true (stays_all ss (suc n)) (tree_within input n) h)
      (remove_within input n (right_true (stays_all ss (suc n)) (tree_within input n) h))
  remove_within (apply when kind way inner input) n h =
      let a = stays when (suc n) && (way_stays way (suc n) && kind_stays kind (suc n)) in
      let b = tree_within inner (suc n) in let c = tree_within input n in
      let ha : a ≡ true = left_true a (b && c) h in
      let hb : (b && c) ≡ true = right_true a (b && c) h in
      put_within when kind way (remove input)
      (removed_node when kind way (remove inner) (tree_width (remove input))) n ha
      (node_within when kind way (remove inner) (tree_width (remove input)) n ha
      (remove_within inner (suc n) (left_true b c hb)))
      (remove_within input n (right_true b c hb))
  remove_within (filter s input) n h =
      and_true (stays s (suc n)) (tree_within (remove input) n)
      (left_true (stays s (suc n)) (tree_within input n) h)
      (remove_within input n (right_true (stays s (suc n)) (tree_within input n) h))
  remove_within (keep is input) n h = remove_within input n h
  remove_within (cross a b) n h =
      and_true (tree_within (remove a) n) (tree_within (remove b) n)
      (remove_within a n (left_true (tree_within a n) (tree_within b n) h))
      (remove_within b n (right_true (tree_within a n) (tree_within b n) h))
  remove_within (left_outer nodes s k a b) n h =
      let m = tree_width (remove a) + k in let c = remove_nodes nodes (places 0 m) m in
      let s' = renamed_scalar s (own_row c.places (width c.nodes m)) in
      let x = nodes_within nodes n in let y = stays s (suc n) in
      let ab = tree_within a n && tree_within b n in
      let hn : (x && y) ≡ true = left_true (x && y) ab h in
      let hab : ab ≡ true = right_true (x && y) ab h in
      and_true (nodes_within c.nodes n && stays s' (suc n)) (tree_within (remove a) n
      && tree_within (remove b) n)
      (and_true (nodes_within c.nodes n) (stays s' (suc n))
      (run_within nodes n (left_true x y hn) (places 0 m) m)
      (stays_renamed s (own_row c.places (width c.nodes m)) (suc n) (suc n)
      (own_kept c.places (width c.nodes m) (suc n)) ∙ right_true x y hn))
      (and_true (tree_within (remove a) n) (tree_within (remove b) n)
      (remove_within a n (left_true (tree_within a n) (tree_within b n) hab))
      (remove_within b n (right_true (tree_within a n) (tree_within b n) hab)))
  remove_within (settle input) n h = remove_within input n h
  remove_within (group keys ags input) n h = remove_within input n h
  remove_within (sort keys input) n h = remove_within input n h

  run_within : (nodes : Nodes) (n : ℕ) → nodes_within nodes n ≡ true → (outs : List ℕ) (m : ℕ) →
      nodes_within (remove_nodes nodes outs m).nodes n ≡ true
  run_within no_node n h outs m = refl
  run_within (extend_by ss rest) n h outs m =
      let ss' = renamed_scalars ss (own_row outs m) in
      and_true (stays_all ss' (suc n)) _
      (all_stay_renamed ss (own_row outs m) (suc n) (suc n) (own_kept outs m (suc n))
      ∙ left_true (stays_all ss (suc n)) (nodes_within rest n) h)
      (run_within rest n (right_true (stays_all ss (suc n)) (nodes_within rest n) h)
      (outs ++ places m (scalar_count ss)) (m + scalar_count ss))
  run_within (apply_by when kind way inner rest) n h outs m =
      let names = own_row outs m in let l = own_kept outs m (suc n) in
      let when' = renamed_scalar when names in let kind' = renamed_kind kind names in
      let way' = renamed_way way names in
      let a = stays when (suc n) && (way_stays way (suc n) && kind_stays kind (suc n)) in
      let b = tree_within inner (suc n) in let c = nodes_within rest n in
      let hb : (b && c) ≡ true = right_true a (b && c) h in
      let ha : (stays when' (suc n) && (way_stays way' (suc n) && kind_stays kind' (suc n)))
      ≡ true =
      (λ i. stays_renamed when names (suc n) (suc n) l i
      && (way_stays_renamed way names (suc n) (suc n) l i
      && kind_stays_renamed kind names (suc n) (suc n) l i))
      ∙ left_true a (b && c) h in
      put_by_within when' kind' way' outs m
      (removed_node when' kind' way' (renamed_tree (remove inner) names) m) (remove_nodes rest) n ha
      (node_within when' kind' way' (renamed_tree (remove inner) names) m n ha
      (within_renamed (remove inner) names (suc n) (suc n) l
      ∙ remove_within inner (suc n) (left_true b c hb)))
      (λ is j. run_within rest n (right_true b c hb) is j)

-- Chains and regions stay such.
chained_on_each : (nodes : Nodes) (t : PlanTree) → nodes_within nodes 0 ≡ true → chained t ≡ true →
    chained (on_each nodes t) ≡ true
chained_on_each no_node t h k = k
chained_on_each (extend_by ss a) t h k =
    chained_on_each a (extend ss t) (right_true (stays_all ss 1) (nodes_within a 0) h)
    (and_true (stays_all ss 1) (chained t) (left_true (stays_all ss 1) (nodes_within a 0) h) k)
chained_on_each (apply_by when kind way inner a) t h k =
    let x = stays when 1 && (way_stays way 1 && kind_stays kind 1) in let y = tree_within inner 1 in
    let z = nodes_within a 0 in
    let r : (y && z) ≡ true = right_true x (y && z) h in
    chained_on_each a (apply when kind way inner t) (right_true y z r)
    (and_true (x && y) (chained t) (and_true x y (left_true x (y && z) h) (left_true y z r)) k)

region_on_each : (nodes : Nodes) (t : PlanTree) → is_region (on_each nodes t) ≡ is_region t
region_on_each no_node t = refl
region_on_each (extend_by ss a) t = region_on_each a (extend ss t)
region_on_each (apply_by when kind way inner a) t = region_on_each a (apply when kind way inner t)

put_chained : (when : Scalar) (kind : Kind) (way : Way) (input : PlanTree) (d : Removed) →
    (stays when 1 && (way_stays way 1 && kind_stays kind 1)) ≡ true → RemovedWithin 0 d →
    chained input ≡ true → chained (put when kind input d) ≡ true
put_chained when kind way input (as_node new inner) h k p =
    let a = stays when 1 && (way_stays new 1 && kind_stays kind 1) in
    and_true (a && tree_within inner 1) (chained input)
    (and_true a (tree_within inner 1) (with_way when kind way new 1 h k.0) k.1) p
put_chained when kind way input (as_columns c) h k p = chained_on_each c.nodes input k p

put_region : (when : Scalar) (kind : Kind) (input : PlanTree) (d : Removed) →
    is_region (put when kind input d) ≡ is_region input
put_region when kind input (as_node way inner) = refl
put_region when kind input (as_columns c) = region_on_each c.nodes input

pub remove_region : (t : PlanTree) → is_region t ≡ true → is_region (remove t) ≡ true
remove_region unit_row h = refl
remove_region (extend ss t) h = remove_region t h
remove_region (apply when kind way inner t) h =
    put_region when kind (remove t)
    (removed_node when kind way (remove inner) (tree_width (remove t))) ∙ remove_region t h
remove_region (keep is t) h = remove_region t h
remove_region (scan name k) h = never h
remove_region (values lists) h = never h
remove_region (filter s t) h = never h
remove_region (cross a b) h = never h
remove_region (left_outer nodes s k a b) h = never h
remove_region (settle t) h = never h
remove_region (group keys ags t) h = never h
remove_region (sort keys t) h = never h

-- Widths.
abbrev pub RemovedWide : Kind → Removed → Type 0
RemovedWide kind (as_node way inner) = Unit {0}
RemovedWide kind (as_columns c) = length c.places ≡ kind_width kind

node_wide : (when : Scalar) (kind : Kind) (way : Way) (inner : PlanTree) (k : ℕ) →
    RemovedWide kind (removed_node when kind way inner k)
node_wide when kind anew inner k = removed_by (RemovedWide kind) when kind inner k (λ p. tt)
    (λ p. tt) (λ p q. places_long (width (region_columns inner k).nodes k) (kind_width kind))
    (λ x y z. tt)
node_wide when kind once inner k = tt
node_wide when kind (lookup keys) inner k = tt

put_wide : (when : Scalar) (kind : Kind) (input : PlanTree) (d : Removed) → RemovedWide kind d →
    tree_width (put when kind input d) ≡ tree_width input + kind_width kind
put_wide when kind input (as_node way inner) h = refl
put_wide when kind input (as_columns c) h =
    length-append (places 0 (tree_width input)) c.places
    ∙ both (λ (a b : ℕ). a + b) _ _ _ _ (places_long 0 (tree_width input)) h

pub remove_width : (t : PlanTree) → tree_width (remove t) ≡ tree_width t
remove_width unit_row = refl
remove_width (scan name k) = refl
remove_width (values lists) = refl
remove_width (extend ss t) = ap (λ (n : ℕ). n + scalar_count ss) (remove_width t)
remove_width (apply when kind way inner t) =
    put_wide when kind (remove t)
    (removed_node when kind way (remove inner) (tree_width (remove t)))
    (node_wide when kind way (remove inner) (tree_width (remove t)))
    ∙ ap (λ (n : ℕ). n + kind_width kind) (remove_width t)
remove_width (filter s t) = remove_width t
remove_width (keep is t) = refl
remove_width (cross a b) = both (λ (n m : ℕ). n + m) _ _ _ _ (remove_width a) (remove_width b)
remove_width (left_outer nodes s k a b) = ap (λ (n : ℕ). n + k) (remove_width a)
remove_width (settle t) = remove_width t
remove_width (group keys ags t) = refl
remove_width (sort keys t) = remove_width t

pub remove_chained : (t : PlanTree) → chained t ≡ true → chained (remove t) ≡ true
remove_chained unit_row h = refl
remove_chained (scan name k) h = refl
remove_chained (values lists) h = h
remove_chained (extend ss t) h =
    and_true (stays_all ss 1) (chained (remove t)) (left_true (stays_all ss 1) (chained t) h)
    (remove_chained t (right_true (stays_all ss 1) (chained t) h))
remove_chained (apply when kind way inner t) h =
    let a = stays when 1 && (way_stays way 1 && kind_stays kind 1) in let b = tree_within inner 1 in
    let q : (a && b) ≡ true = left_true (a && b) (chained t) h in
    let ha : a ≡ true = left_true a b q in
    put_chained when kind way (remove t)
    (removed_node when kind way (remove inner) (tree_width (remove t))) ha
    (node_within when kind way (remove inner) (tree_width (remove t)) 0 ha
    (remove_within inner 1 (right_true a b q)))
    (remove_chained t (right_true (a && b) (chained t) h))
remove_chained (filter s t) h =
    let x = stays s 1 || is_key (tree_width t) s in
    and_true (stays s 1 || is_key (tree_width (remove t)) s) (chained (remove t))
    (ap (λ (n : ℕ). stays s 1 || is_key n s) (remove_width t) ∙ left_true x (chained t) h)
    (remove_chained t (right_true x (chained t) h))
remove_chained (keep is t) h = remove_chained t h
remove_chained (cross a b) h = remove_within (cross a b) 0 h
remove_chained (left_outer nodes s k a b) h = remove_within (left_outer nodes s k a b) 0 h
remove_chained (settle t) h = remove_within t 0 h
remove_chained (group keys ags t) h = remove_within t 0 h
remove_chained (sort keys t) h = remove_within t 0 h

-- No Apply is left that can go.
wide_none : (t : PlanTree) → chained t ≡ true → NoneGoes t → NoneGoes (widened t).below
wide_none (extend ss t) p h = wide_none t (right_true (stays_all ss 1) (chained t) p) h
wide_none (apply when kind way inner t) p h =
    let c = widened t in let names = own_row c.outs (tree_width c.below) in (
      can_go_renamed kind way inner names names ∙ h.0,
      none_goes_renamed inner names h.1,
      wide_none t (right_true ((stays when 1 && (way_stays way 1 && kind_stays kind 1))
          && tree_within inner 1) (chained t) p) h.2,
    )
wide_none (filter s t) p h =
    let c = widened t in let k = wide_none t (right_true (stays s 1 || is_key (tree_width t) s)
    (chained t) p) h in
    filter_by (λ (d : Wide). NoneGoes d.below) s c (tree_width t)
    (left_true (stays s 1 || is_key (tree_width t) s) (chained t) p)
    (λ e. test_below NoneGoes c.tests (renamed_scalar s (own_row c.outs (tree_width c.below))) c k
    k) (λ e. key_below NoneGoes s c k)
wide_none (keep is t) p h = wide_none t p h
wide_none unit_row p h = h
wide_none (scan name k) p h = h
wide_none (values lists) p h = h
wide_none (cross a b) p h = h
wide_none (left_outer nodes s k a b) p h = h
wide_none (settle t) p h = h
wide_none (group keys ags t) p h = h
wide_none (sort keys t) p h = h

region_none : (t : PlanTree) (k : ℕ) → is_region t ≡ true → NoneGoes t →
    NoneGoesIn (region_columns t k).nodes
region_none unit_row k p h = tt
region_none (extend ss t) k p h =
    none_goes_joined (region_columns t k).nodes (extend_by _ no_node) (region_none t k p h) tt
region_none (apply when kind way inner t) k p h =
    let c = region_columns t k in let names = merged_row k c.places (width c.nodes k) in
    none_goes_joined c.nodes (apply_by (renamed_scalar when names) (renamed_kind kind names)
    (renamed_way way names) (renamed_tree inner names) no_node)
    (region_none t k p h.2) (
      can_go_renamed kind way inner names names
          ∙ h.0,
      none_goes_renamed inner names h.1,
      tt,
    )
region_none (keep is t) k p h = region_none t k p h
region_none (scan name j) k p h = never p
region_none (values lists) k p h = never p
region_none (filter s t) k p h = never p
region_none (cross a b) k p h = never p
region_none (left_outer nodes s j a b) k p h = never p
region_none (settle t) k p h = never p
region_none (group keys ags t) k p h = never p
region_none (sort keys t) k p h = never p

abbrev pub RemovedNone : Kind → Removed → Type 0
RemovedNone kind (as_node way inner) = (can_go kind way inner ≡ false) × NoneGoes inner
RemovedNone kind (as_columns c) = NoneGoesIn c.nodes

node_none : (when : Scalar) (kind : Kind) (way : Way) (inner : PlanTree) (k : ℕ) → NoneGoes inner →
    RemovedNone kind (removed_node when kind way inner k)
node_none when kind anew inner k h =
    removed_by (RemovedNone kind) when kind inner k
    (λ p. (once_by (λ (way : Way). can_go kind way inner ≡ false) when refl refl, h))
    (λ p. (refl, wide_none inner p h)) (λ p q. none_goes_joined (region_columns inner k).nodes
    (extend_by _ no_node) (region_none inner k p h) tt)
    (λ x y z. (λ i. x i || (y i || z i), h))
node_none when kind once inner k h = (refl, h)
node_none when kind (lookup keys) inner k h = (refl, h)

put_none : (when : Scalar) (kind : Kind) (input : PlanTree) (d : Removed) → RemovedNone kind d →
    NoneGoes input → NoneGoes (put when kind input d)
put_none when kind input (as_node way inner) h k = (h.0, h.1, k)
put_none when kind input (as_columns c) h k = none_goes_on_each c.nodes input h k

put_by_none : (when : Scalar) (kind : Kind) (outs : List ℕ) (m : ℕ) (d : Removed) (rest : List ℕ →
    ℕ → Columns) → RemovedNone kind d →
    ((is : List ℕ) (j : ℕ) → NoneGoesIn (rest is j).nodes) →
    NoneGoesIn (put_by when kind outs m d rest).nodes
put_by_none when kind outs m (as_node way inner) rest h k =
    (h.0, h.1, k (outs ++ places m (kind_width kind)) (m + kind_width kind))
put_by_none when kind outs m (as_columns c) rest h k =
    none_goes_joined c.nodes (rest (outs ++ c.places) (width c.nodes m)).nodes h
    (k (outs ++ c.places) (width c.nodes m))

mutual
  pub remove_none : (t : PlanTree) → NoneGoes (remove t)
  remove_none unit_row = tt
  remove_none (scan name k) = tt
  remove_none (values lists) = tt
  remove_none (extend ss input) = remove_none input
  remove_none (apply when kind way inner input) =
      put_none when kind (remove input)
      (removed_node when kind way (remove inner) (tree_width (remove input)))
      (node_none when kind way (remove inner) (tree_width (remove input)) (remove_none inner))
      (remove_none input)
  remove_none (filter s input) = remove_none input
  remove_none (keep is input) = remove_none input
  remove_none (cross a b) = (remove_none a, remove_none b)
  remove_none (left_outer nodes s k a b) =
      let m = tree_width (remove a) + k in
      (run_none nodes (places 0 m) m, remove_none a, remove_none b)
  remove_none (settle input) = remove_none input
  remove_none (group keys ags input) = remove_none input
  remove_none (sort keys input) = remove_none input

  run_none : (nodes : Nodes) (outs : List ℕ) (m : ℕ) → NoneGoesIn (remove_nodes nodes outs m).nodes
  run_none no_node outs m = tt
  run_none (extend_by ss rest) outs m =
      run_none rest (outs ++ places m (scalar_count ss)) (m + scalar_count ss)
  run_none (apply_by when kind way inner rest) outs m =
      let names = own_row outs m in
      put_by_none (renamed_scalar when names) (renamed_kind kind names) outs m
      (removed_node (renamed_scalar when names) (renamed_kind kind names) (renamed_way way names)
      (renamed_tree (remove inner) names) m) (remove_nodes rest)
      (node_none (renamed_scalar when names) (renamed_kind kind names) (renamed_way way names)
      (renamed_tree (remove inner) names) m
      (none_goes_renamed (remove inner) names (remove_none inner)))
      (λ is j. run_none rest is j)

-- Counts.
wide_count : (t : PlanTree) → chained t ≡ true → applies (widened t).below ≡ applies t
wide_count (extend ss t) p = wide_count t (right_true (stays_all ss 1) (chained t) p)
wide_count (apply when kind way inner t) p =
    let c = widened t in let names = own_row c.outs (tree_width c.below) in
    let k = wide_count t (right_true ((stays when 1 && (way_stays way 1 && kind_stays kind 1))
    && tree_within inner 1) (chained t) p) in
    λ i. way_count_renamed way names i + (applies_renamed inner names i + k i)
wide_count (filter s t) p =
    let c = widened t in let k = wide_count t (right_true (stays s 1 || is_key (tree_width t) s)
    (chained t) p) in
    filter_by (λ (d : Wide). applies d.below ≡ applies t) s c (tree_width t)
    (left_true (stays s 1 || is_key (tree_width t) s) (chained t) p)
    (λ e. test_below (λ (u : PlanTree). applies u ≡ applies t) c.tests
    (renamed_scalar s (own_row c.outs (tree_width c.below))) c k k)
    (λ e. key_below (λ (u : PlanTree). applies u ≡ applies t) s c k)
wide_count (keep is t) p = wide_count t p
wide_count unit_row p = refl
wide_count (scan name k) p = refl
wide_count (values lists) p = refl
wide_count (cross a b) p = refl
wide_count (left_outer nodes s k a b) p = refl
wide_count (settle t) p = refl
wide_count (group keys ags t) p = refl
wide_count (sort keys t) p = refl

region_count : (t : PlanTree) (k : ℕ) → is_region t ≡ true → applies_in (region_columns t k).nodes
    ≡ applies t
region_count unit_row k p = refl
region_count (extend ss t) k p =
    let c = region_columns t k in let names = merged_row k c.places (width c.nodes k) in
    let h = region_count t k p in
    let e = applies_joined c.nodes (extend_by (renamed_scalars ss names) no_node) in
    let z : applies_in (extend_by (renamed_scalars ss names) no_node) ≡ 0 = refl in
    omega (arith, h, e, z)
region_count (apply when kind way inner t) k p =
    let c = region_columns t k in let names = merged_row k c.places (width c.nodes k) in
    let h = region_count t k p in
    let node = apply_by (renamed_scalar when names) (renamed_kind kind names)
    (renamed_way way names) (renamed_tree inner names) no_node in
    let e = applies_joined c.nodes node in
    let z : applies_in node ≡ way_count way + (applies inner + 0) =
    λ i. way_count_renamed way names i + (applies_renamed inner names i + 0) in
    omega (arith, h, e, z)
region_count (keep is t) k p = region_count t k p
region_count (scan name j) k p = never p
region_count (values lists) k p = never p
region_count (filter s t) k p = never p
region_count (cross a b) k p = never p
region_count (left_outer nodes s j a b) k p = never p
region_count (settle t) k p = never p
region_count (group keys ags t) k p = never p
region_count (sort keys t) k p = never p

abbrev pub removed_count : Removed → ℕ
removed_count (as_node way inner) = way_count way + applies inner
removed_count (as_columns c) = applies_in c.nodes

abbrev pub stays_of : Kind → Way → PlanTree → ℕ
stays_of kind way inner = cond (can_go kind way inner) 0 (way_count way)

gone : (b : Bool) (n m : ℕ) → b ≡ true → m ≡ cond b 0 n + m
gone true n m h = let e : m ≡ 0 + m = omega arith in e
gone false n m h = never h

kept : (b : Bool) (n m : ℕ) → b ≡ false → n + m ≡ cond b 0 n + m
kept true n m h = never (sym h)
kept false n m h = refl

node_count : (when : Scalar) (kind : Kind) (way : Way) (inner : PlanTree) (k : ℕ) →
    removed_count (removed_node when kind way inner k) ≡ stays_of kind way inner + applies inner
node_count when kind anew inner k =
    let a = tree_within inner 0 in let b = chained inner in
    let c = is_region inner && of_region kind in let go = a || (b || c) in
    removed_by (λ (d : Removed). removed_count d ≡ stays_of kind anew inner + applies inner) when
    kind inner k
    (λ p. once_by (λ (way : Way). way_count way + applies inner ≡ stays_of kind anew inner
    + applies inner) when
    (let e : 0 + applies inner ≡ applies inner = omega arith in
    e ∙ gone go 1 (applies inner) (or_left a (b || c) p))
    (let e : 0 + applies inner ≡ applies inner = omega arith in
    e ∙ gone go 1 (applies inner) (or_left a (b || c) p)))
    (λ p. let e : 0 + applies (widened inner).below ≡ applies (widened inner).below = omega arith in
    e ∙ (wide_count inner p ∙ gone go 1 (applies inner) (or_right a (b || c) (or_left b c p))))
    (λ p q. let nodes = (region_columns inner k).nodes in let last : Nodes = extend_by _ no_node in
    let e = applies_joined nodes last in let z : applies_in last ≡ 0 = refl in
    let h = region_count inner k p in
    let s : applies_in (joined_nodes nodes last) ≡ applies inner = omega (arith, e, z, h) in
    s ∙ gone go 1 (applies inner)
    (or_right a (b || c) (or_right b c (and_true (is_region inner) (of_region kind) p q))))
    (λ x y z. kept go 1 (applies inner) (λ i. x i || (y i || z i)))
node_count when kind once inner k = refl
node_count when kind (lookup keys) inner k = refl

put_count : (when : Scalar) (kind : Kind) (input : PlanTree) (d : Removed) →
    applies (put when kind input d) ≡ removed_count d + applies input
put_count when kind input (as_node way inner) = omega arith
put_count when kind input (as_columns c) = applies_on_each c.nodes input

put_by_count : (when : Scalar) (kind : Kind) (outs : List ℕ) (m : ℕ) (d : Removed) (rest : List ℕ →
    ℕ → Columns) (n : ℕ) →
    ((is : List ℕ) (j : ℕ) → applies_in (rest is j).nodes ≤ n) →
    applies_in (put_by when kind outs m d rest).nodes ≤ removed_count d + n
put_by_count when kind outs m (as_node way inner) rest n h =
    let k = h (outs ++ places m (kind_width kind)) (m + kind_width kind) in omega (arith, k)
put_by_count when kind outs m (as_columns c) rest n h =
    let k = h (outs ++ c.places) (width c.nodes m) in
    let e = applies_joined c.nodes (rest (outs ++ c.places) (width c.nodes m)).nodes in
    omega (arith, k, e)

or_more : (a b c d : Bool) → (a ≡ true → c ≡ true) → (b ≡ true → d ≡ true) → (a || b) ≡ true →
    (c || d) ≡ true
or_more true b c d f g h = or_left c d (f refl)
or_more false b c d f g h = or_right c d (g h)

pub can_go_kept : (kind : Kind) (way : Way) (inner : PlanTree) → can_go kind way inner ≡ true →
    can_go kind way (remove inner) ≡ true
can_go_kept kind anew inner h =
    let x = is_region inner && of_region kind in
    let y = is_region (remove inner) && of_region kind in
    or_more (tree_within inner 0) (chained inner || x) (tree_within (remove inner) 0)
    (chained (remove inner) || y) (remove_within inner 0)
    (or_more (chained inner) x (chained (remove inner)) y (remove_chained inner)
    (λ p. and_true (is_region (remove inner)) (of_region kind)
    (remove_region inner (left_true (is_region inner) (of_region kind) p))
    (right_true (is_region inner) (of_region kind) p))) h
can_go_kept kind once inner h = never h
can_go_kept kind (lookup keys) inner h = never h

fewer : (a b : Bool) (n : ℕ) → (b ≡ true → a ≡ true) → cond a 0 n ≤ cond b 0 n
fewer true true n h = omega arith
fewer true false n h = omega arith
fewer false true n h = never (h refl)
fewer false false n h = omega arith

mutual
  pub remove_count : (t : PlanTree) → applies (remove t) ≤ staying t
  remove_count unit_row = omega arith
  remove_count (scan name k) = omega arith
  remove_count (values lists) = omega arith
  remove_count (extend ss input) = remove_count input
  remove_count (apply when kind way inner input) =
      let d = removed_node when kind way (remove inner) (tree_width (remove input)) in
      let e = put_count when kind (remove input) d in
      let c = node_count when kind way (remove inner) (tree_width (remove input)) in
      let f = fewer (can_go kind way (remove inner)) (can_go kind way inner) (way_count way)
      (can_go_kept kind way inner) in
      let a = remove_count inner in let b = remove_count input in omega (arith, e, c, f, a, b)
  remove_count (filter s input) = remove_count input
  remove_count (keep is input) = remove_count input
  remove_count (cross a b) = let p = remove_count a in let q = remove_count b in omega (arith, p, q)
  remove_count (left_outer nodes s k a b) =
      let m = tree_width (remove a) + k in let r = run_count nodes (places 0 m) m in
      let p = remove_count a in let q = remove_count b in omega (arith, r, p, q)
  remove_count (settle input) = remove_count input
  remove_count (group keys ags input) = remove_count input
  remove_count (sort keys input) = remove_count input

  run_count : (nodes : Nodes) (outs : List ℕ) (m : ℕ) → applies_in (remove_nodes nodes outs m).nodes
      ≤ staying_in nodes
  run_count no_node outs m = omega arith
  run_count (extend_by ss rest) outs m =
      run_count rest (outs ++ places m (scalar_count ss)) (m + scalar_count ss)
  run_count (apply_by when kind way inner rest) outs m =
      let names = own_row outs m in let when' = renamed_scalar when names in
      let kind' = renamed_kind kind names in let way' = renamed_way way names in
      let plan = renamed_tree (remove inner) names in
      let d = removed_node when' kind' way' plan m in
      let e = put_by_count when' kind' outs m d (remove_nodes rest) (staying_in rest)
      (λ is j. run_count rest is j) in
      let c = node_count when' kind' way' plan m in
      let s : stays_of kind' way' plan ≡ stays_of kind way (remove inner) = λ i.
      cond (can_go_renamed kind way (remove inner) names names i) 0 (way_count_renamed way names i)
      in
      let f = fewer (can_go kind way (remove inner)) (can_go kind way inner) (way_count way)
      (can_go_kept kind way inner) in
      let g = applies_renamed (remove inner) names in let a = remove_count inner in
      omega (arith, e, c, s, f, g, a)

pub remove_left : (t : PlanTree) → Left t
remove_left t = record {
  none_goes = remove_none t;
  count = remove_count t;
  within = remove_within t;
  region = remove_region t;
  chain = remove_chained t;
}

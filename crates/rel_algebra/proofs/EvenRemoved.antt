-- What removal makes of an even plan is even, and as wide.
use Rattle.rel_algebra.proofs.Regions.{region_places}
use Rattle.std.proofs.Common.{◌≡◌, ℕ, zero, suc, ◌+◌, ◌≤◌, Bool, true, false, cond, ◌&&◌, ◌||◌}
use Rattle.std.proofs.Common.{List, [], ◌∷◌, ◌++◌, length, refl, ap, sym, ◌∙◌, subst, arith}
use Rattle.std.proofs.Common.{length-append}
use Rattle.sql_values.specs.declared.operators.Comparison.TheVariants.{Equals}
use Rattle.rel_algebra.specs.Emit.{joined_nodes, width}
use Rattle.rel_algebra.specs.Even.{IsEven, KindEven, ListsEven, NodesEven, PlacesIn}
use Rattle.rel_algebra.specs.Joins.{places}
use Rattle.rel_algebra.specs.Plan.{Kind, Nodes, PlanTree, Scalar, Scalars, Way, aggregate, anew}
use Rattle.rel_algebra.specs.Plan.{apply, apply_by, column, cross, exists, extend, extend_by}
use Rattle.rel_algebra.specs.Plan.{filter, found_width, group, keep, kind_width, left_outer}
use Rattle.rel_algebra.specs.Plan.{lists_width, lookup, member, more, no_node, none, on_each, once}
use Rattle.rel_algebra.specs.Plan.{other_places, scalar_count, scan, settle, single, sort, strict}
use Rattle.rel_algebra.specs.Plan.{tree_width, unit_row, values, word, into}
use Rattle.rel_algebra.specs.Regions.{Columns, region, region_columns, region_cells, where_all}
use Rattle.rel_algebra.specs.Remove.{Removed, as_columns, as_node, once_way, put, put_by, remove}
use Rattle.rel_algebra.specs.Remove.{remove_nodes, removed_apply, removed_node}
use Rattle.rel_algebra.specs.Removal.{of_region, chained, is_key, is_region, kind_stays, stays}
use Rattle.rel_algebra.specs.Removal.{stays_all, tree_within, way_stays}
use Rattle.rel_algebra.specs.RemovalLaws.{KeptEven}
use Rattle.rel_algebra.specs.Renaming.{Renaming, inside, merged_row, own_row, renamed_kind}
use Rattle.rel_algebra.specs.Renaming.{renamed_lists, renamed_nodes, renamed_scalar}
use Rattle.rel_algebra.specs.Renaming.{renamed_scalars, renamed_tree, renamed_way}
use Rattle.rel_algebra.specs.Tree.{Comparing}
use Rattle.rel_algebra.specs.WellFormed.{is_true_constant}
use Rattle.rel_algebra.specs.Widening.{Wide, at_base, lookup_keys, lookup_plan, test_places}
use Rattle.rel_algebra.specs.Widening.{widened, with_cell, with_columns, with_filter, with_key}
use Rattle.rel_algebra.specs.Widening.{with_test}
use Rattle.rel_algebra.proofs.Places.{place_below, places_append, places_below, places_in_below}
use Rattle.rel_algebra.proofs.Places.{places_in_long, places_wide}
use Rattle.rel_algebra.proofs.Renamed.{count_renamed, kind_width_renamed, others_renamed}
use Rattle.rel_algebra.proofs.Renamed.{width_renamed}
use Rattle.rel_algebra.proofs.Rules.{TestsIn}
use Rattle.rel_algebra.proofs.Truths.{both, left_true, never, right_true}
use Rattle.rel_algebra.proofs.Widening.{less_lt, lookup_others, tests_append, tests_wide}
use Rattle.rel_algebra.proofs.Widths.{on_each_width, places_long, width_more}

-- Cases of removal.
pub once_by : (Q : Way → Type 0) (when : Scalar) → Q once → Q (lookup []) → Q (once_way when)
once_by Q when a b = by (is_true_constant when)
  where
    by : (c : Bool) → Q (cond c once (lookup []))
    by true = a
    by false = b

pub removed_by : (P : Removed → Type 0) (when : Scalar) (kind : Kind) (inner : PlanTree) (n : ℕ) →
    (tree_within inner 0 ≡ true → P (as_node (once_way when) inner)) →
    (chained inner ≡ true → P
    (as_node (lookup (lookup_keys (widened inner))) (lookup_plan (widened inner)))) →
    (is_region inner ≡ true → of_region kind ≡ true → P (as_columns (region when kind inner n))) →
    (tree_within inner 0 ≡ false → chained inner ≡ false → (is_region inner && of_region kind)
    ≡ false → P (as_node anew inner)) →
    P (removed_apply when kind inner n)
removed_by P when kind inner n ha hb hc hd = first (tree_within inner 0) refl
  where
    third : (c : Bool) → (is_region inner && of_region kind) ≡ c → tree_within inner 0 ≡ false →
        chained inner ≡ false →
        P (cond c (as_columns (region when kind inner n)) (as_node anew inner))
    third true e x y = hc (left_true (is_region inner) (of_region kind) e)
        (right_true (is_region inner) (of_region kind) e)
    third false e x y = hd x y e

    second : (b : Bool) → chained inner ≡ b → tree_within inner 0 ≡ false →
        P (cond b (as_node (lookup (lookup_keys (widened inner))) (lookup_plan (widened inner)))
        (cond (is_region inner && of_region kind) (as_columns (region when kind inner n))
        (as_node anew inner)))
    second true e x = hb e
    second false e x = third (is_region inner && of_region kind) refl x e

    first : (a : Bool) → tree_within inner 0 ≡ a →
        P (cond a (as_node (once_way when) inner)
        (cond (chained inner) (as_node (lookup (lookup_keys (widened inner)))
        (lookup_plan (widened inner)))
        (cond (is_region inner && of_region kind) (as_columns (region when kind inner n))
        (as_node anew inner))))
    first true e = ha e
    first false e = second (chained inner) refl e

-- Renamed plans.
lists_renamed : (lists : List Scalars) (names : Renaming) (k j : ℕ) → j ≡ k → ListsEven lists k →
    ListsEven (renamed_lists lists names) j
lists_renamed [] names k j e h = tt
lists_renamed (ss ∷ lists) names k j e h =
    (count_renamed ss names ∙ (h.0 ∙ sym e), lists_renamed lists names k j e h.1)

first_count : (lists : List Scalars) (names : Renaming) → lists_width (renamed_lists lists names)
    ≡ lists_width lists
first_count [] names = refl
first_count (ss ∷ lists) names = count_renamed ss names

kind_even_renamed : (kind : Kind) (names : Renaming) (n : ℕ) → KindEven kind n →
    KindEven (renamed_kind kind names) n
kind_even_renamed single names n h = h
kind_even_renamed exists names n h = tt
kind_even_renamed (member s) names n h = h
kind_even_renamed (aggregate ags) names n h = tt
kind_even_renamed (into k) names n h = tt

found_renamed : (way : Way) (names : Renaming) (n : ℕ) → found_width (renamed_way way names) n
    ≡ found_width way n
found_renamed anew names n = refl
found_renamed once names n = refl
found_renamed (lookup keys) names n =
    ap (λ (is : List ℕ). length is) (others_renamed keys names 0 n)

pub node_even : (kind : Kind) (way : Way) (names : Renaming) (n m : ℕ) → m ≡ n →
    KindEven kind (found_width way n) →
    KindEven (renamed_kind kind names) (found_width (renamed_way way names) m)
node_even kind way names n m e h =
    kind_even_renamed kind names (found_width (renamed_way way names) m)
    (subst (KindEven kind) (sym (ap (found_width (renamed_way way names)) e
    ∙ found_renamed way names n)) h)

mutual
  pub renamed_even : (t : PlanTree) (names : Renaming) (S : List ℕ → ℕ) → IsEven t S →
      IsEven (renamed_tree t names) S
  renamed_even unit_row names S h = tt
  renamed_even (scan name n) names S h = h
  renamed_even (values lists) names S h =
      lists_renamed lists (inside names) (lists_width lists)
      (lists_width (renamed_lists lists (inside names))) (first_count lists (inside names)) h
  renamed_even (extend ss input) names S h = renamed_even input names S h
  renamed_even (apply when kind way inner input) names S h = (
    node_even kind way (inside names) (tree_width inner)
        (tree_width (renamed_tree inner (inside names))) (width_renamed inner (inside names)) h.0,
    renamed_even inner (inside names) S h.1,
    renamed_even input names S h.2,
  )
  renamed_even (filter s input) names S h = renamed_even input names S h
  renamed_even (keep is input) names S h =
      (subst (PlacesIn is) (sym (width_renamed input names)) h.0, renamed_even input names S h.1)
  renamed_even (cross a b) names S h = (renamed_even a names S h.0, renamed_even b names S h.1)
  renamed_even (left_outer nodes s n a b) names S h = (
    nodes_renamed nodes (inside names) S h.0,
    width_renamed b names
        ∙ h.1,
    renamed_even a names S h.2,
    renamed_even b names S h.3,
  )
  renamed_even (settle input) names S h = renamed_even input names S h
  renamed_even (group keys ags input) names S h = renamed_even input names S h
  renamed_even (sort keys input) names S h = renamed_even input names S h

  nodes_renamed : (nodes : Nodes) (names : Renaming) (S : List ℕ → ℕ) → NodesEven nodes S →
      NodesEven (renamed_nodes nodes names) S
  nodes_renamed no_node names S h = tt
  nodes_renamed (extend_by ss rest) names S h = nodes_renamed rest names S h
  nodes_renamed (apply_by when kind way inner rest) names S h = (
    node_even kind way names (tree_width inner) (tree_width (renamed_tree inner names))
        (width_renamed inner names) h.0,
    renamed_even inner names S h.1,
    nodes_renamed rest names S h.2,
  )

-- Runs of nodes.
pub join_even : (a b : Nodes) (S : List ℕ → ℕ) → NodesEven a S → NodesEven b S →
    NodesEven (joined_nodes a b) S
join_even no_node b S h k = k
join_even (extend_by ss a) b S h k = join_even a b S h k
join_even (apply_by when kind way inner a) b S h k = (h.0, h.1, join_even a b S h.2 k)

pub on_each_even : (nodes : Nodes) (t : PlanTree) (S : List ℕ → ℕ) → NodesEven nodes S →
    IsEven t S → IsEven (on_each nodes t) S
on_each_even no_node t S h k = k
on_each_even (extend_by ss a) t S h k = on_each_even a (extend ss t) S h k
on_each_even (apply_by when kind way inner a) t S h k =
    on_each_even a (apply when kind way inner t) S h.2 (h.0, h.1, k)

-- Wide plans.
pub record WideEven (c : Wide) (t : PlanTree) (S : List ℕ → ℕ) : Type 0 where
  pub below : IsEven c.below S
  pub outs : PlacesIn c.outs (tree_width c.below)
  pub tests : TestsIn c.tests (tree_width c.below)
  pub count : length c.outs ≡ tree_width t

base_even : (t : PlanTree) (S : List ℕ → ℕ) → IsEven t S → WideEven (at_base t) t S
base_even t S h = let n = tree_width t in
    record {
      below = h;
      outs = places_below 0 n n (omega arith);
      tests = tt;
      count = places_long 0 n;
    }

columns_even : (wide : Nodes) (k : ℕ) (c : Wide) (t u : PlanTree) (S : List ℕ → ℕ) →
    WideEven c t S → NodesEven wide S →
    tree_width (on_each wide c.below) ≡ tree_width c.below + k → tree_width u ≡ tree_width t + k →
    WideEven (with_columns wide k c) u S
columns_even wide k c t u S h ne ew et =
    let n = tree_width c.below in let m = tree_width (on_each wide c.below) in
    let grown : n ≤ m = omega (arith, ew) in record {
      below = on_each_even wide c.below S ne h.below;
      outs = places_append c.outs (places n k) m (places_wide c.outs n m grown h.outs)
          (places_below n k m (omega (arith, ew)));
      tests = tests_wide c.tests n m grown h.tests;
      count = length-append c.outs (places n k)
          ∙ (both (λ (a b : ℕ). a + b) _ _ _ _ h.count (places_long n k) ∙ sym et);
    }

cell_even : (s : Scalar) (c : Wide) (t : PlanTree) (S : List ℕ → ℕ) → WideEven c t S →
    WideEven (with_cell s c) t S
cell_even s c t S h =
    let n = tree_width c.below in record {
      below = h.below;
      outs = places_wide c.outs n (n + 1) (omega arith) h.outs;
      tests = tests_append c.tests (_ ∷ []) (n + 1)
          (tests_wide c.tests n (n + 1) (omega arith) h.tests) (omega arith, tt);
      count = h.count;
    }

test_even : (tests : List (ℕ × Scalar)) (s : Scalar) (c : Wide) (t : PlanTree) (S : List ℕ → ℕ) →
    WideEven c t S → WideEven (with_test tests s c) t S
test_even [] s c t S h = record { below = h.below; outs = h.outs; tests = h.tests; count = h.count }
test_even (k ∷ tests) s c t S h = cell_even s c t S h

key_even : (s : Scalar) (c : Wide) (t : PlanTree) (S : List ℕ → ℕ) → WideEven c t S →
    is_key (tree_width t) s ≡ true → WideEven (with_key s c) t S
key_even (word (strict (Comparing Equals)) (more (column zero i) (more (column (suc d) j) none))) c
    t S h p =
    let n = tree_width c.below in let l = less_lt i (tree_width t) p in record {
      below = h.below;
      outs = h.outs;
      tests = tests_append c.tests (_ ∷ []) n h.tests
          (place_below c.outs n i h.outs (let e = h.count in omega (arith, l, e)), tt);
      count = h.count;
    }
key_even _ c t S h p = never p

filter_even : (b : Bool) (s : Scalar) (c : Wide) (t : PlanTree) (S : List ℕ → ℕ) → stays s 1 ≡ b →
    (b || is_key (tree_width t) s) ≡ true →
    WideEven c t S → WideEven (with_filter s c) t S
filter_even true s c t S e p h =
    let s' = renamed_scalar s (own_row c.outs (tree_width c.below)) in
    subst (λ (b : Bool). WideEven (cond b (with_test c.tests s' c) (with_key s c)) t S) (sym e)
    (test_even c.tests s' c t S h)
filter_even false s c t S e p h =
    let s' = renamed_scalar s (own_row c.outs (tree_width c.below)) in
    subst (λ (b : Bool). WideEven (cond b (with_test c.tests s' c) (with_key s c)) t S) (sym e)
    (key_even s c t S h p)

as_filter : (s : Scalar) (c : Wide) (t : PlanTree) (S : List ℕ → ℕ) → WideEven c t S →
    WideEven c (filter s t) S
as_filter s c t S h = record { below = h.below; outs = h.outs; tests = h.tests; count = h.count }

pub wide_even : (t : PlanTree) (S : List ℕ → ℕ) → IsEven t S → chained t ≡ true →
    WideEven (widened t) t S
wide_even (extend ss t) S h p =
    let c = widened t in let names = own_row c.outs (tree_width c.below) in
    columns_even (extend_by (renamed_scalars ss names) no_node) (scalar_count ss) c t
    (extend ss t) S
    (wide_even t S h (right_true (stays_all ss 1) (chained t) p)) tt
    (ap (λ (k : ℕ). tree_width c.below + k) (count_renamed ss names)) refl
wide_even (apply when kind way inner t) S h p =
    let c = widened t in let names = own_row c.outs (tree_width c.below) in
    columns_even (apply_by (renamed_scalar when names) (renamed_kind kind names)
    (renamed_way way names) (renamed_tree inner names) no_node) (kind_width kind)
    c t (apply when kind way inner t) S
    (wide_even t S h.2 (right_true ((stays when 1 && (way_stays way 1 && kind_stays kind 1))
    && tree_within inner 1) (chained t) p)) (
      node_even kind way names (tree_width inner) (tree_width (renamed_tree inner names))
          (width_renamed inner names) h.0,
      renamed_even inner names S h.1,
      tt,
    )
    (ap (λ (k : ℕ). tree_width c.below + k) (kind_width_renamed kind names)) refl
wide_even (filter s t) S h p =
    as_filter s (with_filter s (widened t)) t S
    (filter_even (stays s 1) s (widened t) t S refl
    (left_true (stays s 1 || is_key (tree_width t) s) (chained t) p)
    (wide_even t S h (right_true (stays s 1 || is_key (tree_width t) s) (chained t) p)))
wide_even (keep is t) S h p =
    let c = widened t in let n = tree_width c.below in let k = wide_even t S h.1 p in record {
      below = k.below;
      outs = places_in_below c.outs n is k.outs (subst (PlacesIn is) (sym k.count) h.0);
      tests = k.tests;
      count = places_in_long c.outs n is;
    }
wide_even unit_row S h p = base_even unit_row S h
wide_even (scan name n) S h p = base_even (scan name n) S h
wide_even (values lists) S h p = base_even (values lists) S h
wide_even (cross a b) S h p = base_even (cross a b) S h
wide_even (left_outer nodes s n a b) S h p = base_even (left_outer nodes s n a b) S h
wide_even (settle t) S h p = base_even (settle t) S h
wide_even (group keys ags t) S h p = base_even (group keys ags t) S h
wide_even (sort keys t) S h p = base_even (sort keys t) S h

-- Regions.
region_even : (t : PlanTree) (S : List ℕ → ℕ) → IsEven t S → is_region t ≡ true → (n : ℕ) →
    NodesEven (region_columns t n).nodes S
region_even unit_row S h p n = tt
region_even (extend ss t) S h p n =
    join_even (region_columns t n).nodes (extend_by _ no_node) S (region_even t S h p n) tt
region_even (apply when kind way inner t) S h p n =
    let c = region_columns t n in let names = merged_row n c.places (width c.nodes n) in
    join_even c.nodes (apply_by (renamed_scalar when names) (renamed_kind kind names)
    (renamed_way way names) (renamed_tree inner names) no_node) S
    (region_even t S h.2 p n) (
      node_even kind way names (tree_width inner) (tree_width (renamed_tree inner names))
          (width_renamed inner names) h.0,
      renamed_even inner names S h.1,
      tt,
    )
region_even (keep is t) S h p n = region_even t S h.1 p n
region_even (scan name k) S h p n = never p
region_even (values lists) S h p n = never p
region_even (filter s t) S h p n = never p
region_even (cross a b) S h p n = never p
region_even (left_outer nodes s k a b) S h p n = never p
region_even (settle t) S h p n = never p
region_even (group keys ags t) S h p n = never p
region_even (sort keys t) S h p n = never p

-- What an Apply becomes.
abbrev pub RemovedEven : Kind → ℕ → (List ℕ → ℕ) → Removed → Type 0
RemovedEven kind n S (as_node way inner) = KindEven kind (found_width way (tree_width inner))
    × IsEven inner S
RemovedEven kind n S (as_columns c) = NodesEven c.nodes S × PlacesIn c.places (width c.nodes n)
    × (length c.places ≡ kind_width kind)

pub others_nothing : (i n : ℕ) → other_places [] i n ≡ places i n
others_nothing i zero = refl
others_nothing i (suc n) = ap (λ (is : List ℕ). i ∷ is) (others_nothing (suc i) n)

once_even : (when : Scalar) (kind : Kind) (inner : PlanTree) → KindEven kind (tree_width inner) →
    KindEven kind (found_width (once_way when) (tree_width inner))
once_even when kind inner h =
    once_by (λ (way : Way). KindEven kind (found_width way (tree_width inner))) when h
    (subst (KindEven kind) (sym
    (ap (λ (is : List ℕ). length is) (others_nothing 0 (tree_width inner))
    ∙ places_long 0 (tree_width inner))) h)

lookup_even : (kind : Kind) (inner : PlanTree) (S : List ℕ → ℕ) → KindEven kind (tree_width inner) →
    IsEven inner S → chained inner ≡ true → (n : ℕ) →
    RemovedEven kind n S (as_node (lookup (lookup_keys (widened inner)))
    (lookup_plan (widened inner)))
lookup_even kind inner S k h p n =
    let c = widened inner in let e = wide_even inner S h p in (
      subst (KindEven kind) (sym (ap (λ (is : List ℕ). length is) (lookup_others c)
          ∙ (places_long 0 (length c.outs) ∙ e.count))) k,
      (
        places_append c.outs (test_places c.tests) (tree_width c.below) e.outs
            (tests_places c.tests (tree_width c.below) e.tests),
        e.below,
      ),
    )
  where
    tests_places : (tests : List (ℕ × Scalar)) (n : ℕ) → TestsIn tests n →
        PlacesIn (test_places tests) n
    tests_places [] n h = tt
    tests_places (k ∷ tests) n h = (h.0, tests_places tests n h.1)

columns_of_region : (when : Scalar) (kind : Kind) (inner : PlanTree) (S : List ℕ → ℕ) →
    IsEven inner S → is_region inner ≡ true → of_region kind ≡ true →
    (n : ℕ) → RemovedEven kind n S (as_columns (region when kind inner n))
columns_of_region when kind inner S h p q n =
    let c = region_columns inner n in let m = width c.nodes n in
    let names = own_row (places 0 n) m in
    let last : Nodes = extend_by
    (where_all (renamed_scalar when names) (region_cells (renamed_kind kind names) c.places m))
    no_node in (
      join_even c.nodes last S (region_even inner S h p n) tt,
      region_places when kind inner n q,
      places_long m (kind_width kind),
    )

apply_even : (when : Scalar) (kind : Kind) (inner : PlanTree) (S : List ℕ → ℕ) →
    KindEven kind (tree_width inner) → IsEven inner S → (n : ℕ) →
    RemovedEven kind n S (removed_apply when kind inner n)
apply_even when kind inner S k h n =
    removed_by (RemovedEven kind n S) when kind inner n (λ p. (once_even when kind inner k, h))
    (λ p. lookup_even kind inner S k h p n)
    (λ p q. columns_of_region when kind inner S h p q n) (λ x y z. (k, h))

pub removed_even : (when : Scalar) (kind : Kind) (way : Way) (inner : PlanTree) (S : List ℕ → ℕ) →
    KindEven kind (found_width way (tree_width inner)) →
    IsEven inner S → (n : ℕ) → RemovedEven kind n S (removed_node when kind way inner n)
removed_even when kind anew inner S k h n = apply_even when kind inner S k h n
removed_even when kind once inner S k h n = (k, h)
removed_even when kind (lookup keys) inner S k h n = (k, h)

-- Whole plans.
pub put_width : (when : Scalar) (kind : Kind) (input : PlanTree) (S : List ℕ → ℕ) (d : Removed) →
    RemovedEven kind (tree_width input) S d →
    tree_width (put when kind input d) ≡ tree_width input + kind_width kind
put_width when kind input S (as_node way inner) h = refl
put_width when kind input S (as_columns c) h =
    let n = tree_width input in length-append (places 0 n) c.places
    ∙ both (λ (a b : ℕ). a + b) _ _ _ _ (places_long 0 n) h.2

put_even : (when : Scalar) (kind : Kind) (input : PlanTree) (S : List ℕ → ℕ) (d : Removed) →
    RemovedEven kind (tree_width input) S d → IsEven input S →
    IsEven (put when kind input d) S
put_even when kind input S (as_node way inner) h k = (h.0, h.1, k)
put_even when kind input S (as_columns c) h k =
    let n = tree_width input in (
      subst (PlacesIn (places 0 n ++ c.places)) (sym (on_each_width c.nodes input))
          (places_append (places 0 n) c.places (width c.nodes n)
          (places_below 0 n (width c.nodes n) (let l = width_more c.nodes n in omega (arith, l)))
          h.1),
      on_each_even c.nodes input S h.0 k,
    )

put_by_even : (when : Scalar) (kind : Kind) (outs : List ℕ) (m : ℕ) (S : List ℕ →
    ℕ) (d : Removed) (rest : List ℕ → ℕ → Columns) →
    RemovedEven kind m S d → ((is : List ℕ) (j : ℕ) → NodesEven (rest is j).nodes S) →
    NodesEven (put_by when kind outs m d rest).nodes S
put_by_even when kind outs m S (as_node way inner) rest h k =
    (h.0, h.1, k (outs ++ places m (kind_width kind)) (m + kind_width kind))
put_by_even when kind outs m S (as_columns c) rest h k =
    join_even c.nodes (rest (outs ++ c.places) (width c.nodes m)).nodes S h.0
    (k (outs ++ c.places) (width c.nodes m))

kind_of_removed : (kind : Kind) (way : Way) (inner : PlanTree) (S : List ℕ → ℕ) → KeptEven inner S →
    KindEven kind (found_width way (tree_width inner)) →
    KindEven kind (found_width way (tree_width (remove inner)))
kind_of_removed kind way inner S h k =
    subst (λ (n : ℕ). KindEven kind (found_width way n)) (sym h.wide) k

apply_same : (when : Scalar) (kind : Kind) (way : Way) (inner input : PlanTree) (S : List ℕ → ℕ) →
    KeptEven inner S → KeptEven input S →
    KindEven kind (found_width way (tree_width inner)) →
    KeptEven (apply when kind way inner input) S
apply_same when kind way inner input S hi hp k =
    let n = tree_width (remove input) in let d = removed_node when kind way (remove inner) n in
    let e = removed_even when kind way (remove inner) S (kind_of_removed kind way inner S hi k)
    hi.even n in record {
      even = put_even when kind (remove input) S d e hp.even;
      wide = put_width when kind (remove input) S d e ∙ ap (λ (j : ℕ). j + kind_width kind) hp.wide;
    }

mutual
  pub remove_even : (t : PlanTree) (S : List ℕ → ℕ) → IsEven t S → KeptEven t S
  remove_even unit_row S h = record { even = tt; wide = refl }
  remove_even (scan name n) S h = record { even = h; wide = refl }
  remove_even (values lists) S h = record { even = h; wide = refl }
  remove_even (extend ss input) S h =
      let k = remove_even input S h in
      record { even = k.even; wide = ap (λ (n : ℕ). n + scalar_count ss) k.wide }
  remove_even (apply when kind way inner input) S h =
      apply_same when kind way inner input S (remove_even inner S h.1) (remove_even input S h.2) h.0
  remove_even (filter s input) S h = let k = remove_even input S h in
      record { even = k.even; wide = k.wide }
  remove_even (keep is input) S h =
      let k = remove_even input S h.1 in
      record { even = (subst (PlacesIn is) (sym k.wide) h.0, k.even); wide = refl }
  remove_even (cross a b) S h =
      let p = remove_even a S h.0 in let q = remove_even b S h.1 in
      record { even = (p.even, q.even); wide = both (λ (n m : ℕ). n + m) _ _ _ _ p.wide q.wide }
  remove_even (left_outer nodes s n a b) S h =
      let p = remove_even a S h.2 in let q = remove_even b S h.3 in
      let m = tree_width (remove a) + n in record {
        even = (run_even nodes S h.0 (places 0 m) m, q.wide ∙ h.1, p.even, q.even);
        wide = ap (λ (j : ℕ). j + n) p.wide;
      }
  remove_even (settle input) S h = let k = remove_even input S h in
      record { even = k.even; wide = k.wide }
  remove_even (group keys ags input) S h = let k = remove_even input S h in
      record { even = k.even; wide = refl }
  remove_even (sort keys input) S h = let k = remove_even input S h in
      record { even = k.even; wide = k.wide }

  run_even : (nodes : Nodes) (S : List ℕ → ℕ) → NodesEven nodes S → (outs : List ℕ) (m : ℕ) →
      NodesEven (remove_nodes nodes outs m).nodes S
  run_even no_node S h outs m = tt
  run_even (extend_by ss rest) S h outs m =
      run_even rest S h (outs ++ places m (scalar_count ss)) (m + scalar_count ss)
  run_even (apply_by when kind way inner rest) S h outs m =
      let names = own_row outs m in let k = remove_even inner S h.1 in
      put_by_even (renamed_scalar when names) (renamed_kind kind names) outs m S
      (removed_node (renamed_scalar when names) (renamed_kind kind names) (renamed_way way names)
      (renamed_tree (remove inner) names) m) (remove_nodes rest)
      (removed_even (renamed_scalar when names) (renamed_kind kind names) (renamed_way way names)
      (renamed_tree (remove inner) names) S
      (node_even kind way names (tree_width (remove inner))
      (tree_width (renamed_tree (remove inner) names)) (width_renamed (remove inner) names)
      (kind_of_removed kind way inner S k h.0)) (renamed_even (remove inner) names S k.even) m)
      (λ is j. run_even rest S h.2 is j)

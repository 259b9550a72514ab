-- What removal makes of a well-formed plan is well formed, for the same tables, arguments and outer
-- rows.
use Rattle.std.proofs.Common.{◌≡◌, ℕ, zero, suc, ◌+◌, ◌≤◌, Bool, true, false, cond, ◌&&◌, ◌||◌}
use Rattle.std.proofs.Common.{nat_eq, List, [], ◌∷◌, ◌++◌, length, refl, ap, sym, ◌∙◌, subst, arith}
use Rattle.std.proofs.Common.{length-append}
use Rattle.sql_values.specs.declared.operators.Comparison.TheVariants.{Equals}
use Rattle.sql_values.specs.declared.value.Value.TheVariants.{Int, Null, Str, Bool as Truth}
use Rattle.rel_algebra.specs.Emit.{width, if_values}
use Rattle.rel_algebra.specs.Even.{IsEven, KindEven, ListsEven, NodesEven, PlacesIn}
use Rattle.rel_algebra.specs.Joins.{places}
use Rattle.rel_algebra.specs.Plan.{Kind, Nodes, PlanTree, Scalar, Scalars, Way, aggregate, anew}
use Rattle.rel_algebra.specs.Plan.{apply, apply_by, argument, column, constant, cross, exists}
use Rattle.rel_algebra.specs.Plan.{extend, extend_by, filter, found_width, group, keep, kind_width}
use Rattle.rel_algebra.specs.Plan.{left_outer, lists_width, lookup, member, more, no_node, none}
use Rattle.rel_algebra.specs.Plan.{on_each, once, other_places, scalar_count, scan, settle, single}
use Rattle.rel_algebra.specs.Plan.{sort, strict, tree_width, unit_row, values, word, into}
use Rattle.rel_algebra.specs.Regions.{Columns, into_scalars, region, region_cells, region_columns}
use Rattle.rel_algebra.specs.Regions.{where_all, where_true}
use Rattle.rel_algebra.specs.Remove.{Removed, as_columns, as_node, once_way, put, put_by, remove}
use Rattle.rel_algebra.specs.Remove.{remove_nodes, removed_node}
use Rattle.rel_algebra.specs.Removal.{chained, is_key, is_region, less, of_region, stays, stays_all}
use Rattle.rel_algebra.specs.Removal.{tree_within, kind_stays, way_stays}
use Rattle.rel_algebra.specs.Renaming.{Renaming, inside, merged_row, own_row, place_in}
use Rattle.rel_algebra.specs.Renaming.{renamed_keys, renamed_kind, renamed_lists, renamed_nodes}
use Rattle.rel_algebra.specs.Renaming.{renamed_scalar, renamed_scalars, renamed_tree, renamed_way}
use Rattle.rel_algebra.specs.Tree.{Comparing}
use Rattle.rel_algebra.specs.WellFormed.{aggregates_fit, columns_fit, has_column, is_true_constant}
use Rattle.rel_algebra.specs.WellFormed.{keys_fit, kind_fits, lists_fit, lookup_fits, nodes_fit}
use Rattle.rel_algebra.specs.WellFormed.{scalar_fits, scalars_fit, tree_fits, way_fits}
use Rattle.rel_algebra.specs.Widening.{Wide, keys_from, lookup_keys, lookup_plan, test_places}
use Rattle.rel_algebra.specs.Widening.{widened, with_key, with_test}
use Rattle.rel_algebra.proofs.EvenRemoved.{removed_by, wide_even}
use Rattle.rel_algebra.proofs.FittingNodes.{if_values_fits, join_fits, less_lt, lt_less}
use Rattle.rel_algebra.proofs.FittingNodes.{on_each_fits}
use Rattle.rel_algebra.proofs.Levels.{none_kept, within_renamed}
use Rattle.rel_algebra.proofs.Places.{place_below, places_append, places_below, places_wide}
use Rattle.rel_algebra.proofs.Regions.{placed, region_places}
use Rattle.rel_algebra.proofs.Renamed.{count_renamed, kind_width_renamed, others_renamed}
use Rattle.rel_algebra.proofs.Renamed.{width_renamed}
use Rattle.rel_algebra.proofs.Rules.{TestsIn}
use Rattle.rel_algebra.proofs.Staying.{filter_by, remove_width, remove_within, wide_closed}
use Rattle.rel_algebra.proofs.Truths.{and_true, both, equal_numbers, left_true, never, right_true}
use Rattle.rel_algebra.proofs.Widening.{lookup_others, lookup_width}
use Rattle.rel_algebra.proofs.Widths.{on_each_width, places_long, width_join, width_more}

-- Five tests of a node.
split : (a b c d e : Bool) → ((a && (b && c)) && (d && e)) ≡ true → (a ≡ true) × (b ≡ true)
    × (c ≡ true) × (d ≡ true) × (e ≡ true)
split a b c d e h =
    let x : (a && (b && c)) ≡ true = left_true (a && (b && c)) (d && e) h in
    let y : (d && e) ≡ true = right_true (a && (b && c)) (d && e) h in
    let z : (b && c) ≡ true = right_true a (b && c) x in
    (left_true a (b && c) x, left_true b c z, right_true b c z, left_true d e y, right_true d e y)

all_five : (a b c d e : Bool) → a ≡ true → b ≡ true → c ≡ true → d ≡ true → e ≡ true →
    ((a && (b && c)) && (d && e)) ≡ true
all_five a b c d e p q r s t =
    and_true (a && (b && c)) (d && e) (and_true a (b && c) p (and_true b c q r)) (and_true d e s t)

-- Well-formed plans are even.
columns_in : (is : List ℕ) (n : ℕ) → columns_fit is n ≡ true → PlacesIn is n
columns_in [] n h = tt
columns_in (i ∷ is) n h = (
  less_lt i n (left_true (less i n) (columns_fit is n) h),
  columns_in is n (right_true (less i n) (columns_fit is n) h),
)

columns_of : (is : List ℕ) (n : ℕ) → PlacesIn is n → columns_fit is n ≡ true
columns_of [] n h = refl
columns_of (i ∷ is) n h =
    and_true (less i n) (columns_fit is n) (lt_less i n h.0) (columns_of is n h.1)

lists_in : (lists : List Scalars) (k : ℕ) (ws : List ℕ) (ps : ℕ) → lists_fit lists k ws ps ≡ true →
    ListsEven lists k
lists_in [] k ws ps h = tt
lists_in (ss ∷ lists) k ws ps h =
    let a = nat_eq (scalar_count ss) k in let b = scalars_fit ss ws ps in
    let c = lists_fit lists k ws ps in (
      equal_numbers (scalar_count ss) k (left_true a b (left_true (a && b) c h)),
      lists_in lists k ws ps (right_true (a && b) c h),
    )

kind_in : (kind : Kind) (n : ℕ) (ws : List ℕ) (ps : ℕ) → kind_fits kind n ws ps ≡ true →
    KindEven kind n
kind_in single n ws ps h = equal_numbers n 1 h
kind_in exists n ws ps h = tt
kind_in (member s) n ws ps h = equal_numbers n 1 (right_true (scalar_fits s ws ps) (nat_eq n 1) h)
kind_in (aggregate ags) n ws ps h = tt
kind_in (into k) n ws ps h = tt

mutual
  pub fits_even : (t : PlanTree) (S : List ℕ → ℕ) (ws : List ℕ) (ps : ℕ) →
      tree_fits t S ws ps ≡ true → IsEven t S
  fits_even unit_row S ws ps h = tt
  fits_even (scan name n) S ws ps h = equal_numbers n (S name) h
  fits_even (values lists) S ws ps h = lists_in lists (lists_width lists) (0 ∷ ws) ps h
  fits_even (extend ss input) S ws ps h =
      fits_even input S ws ps (right_true (scalars_fit ss (tree_width input ∷ ws) ps)
      (tree_fits input S ws ps) h)
  fits_even (apply when kind way inner input) S ws ps h =
      let us = tree_width input ∷ ws in let n = found_width way (tree_width inner) in
      let k = split (scalar_fits when us ps) (way_fits way when inner us ps)
      (kind_fits kind n us ps) (tree_fits inner S us ps) (tree_fits input S ws ps) h in
      (kind_in kind n us ps k.2, fits_even inner S us ps k.3, fits_even input S ws ps k.4)
  fits_even (filter s input) S ws ps h =
      fits_even input S ws ps (right_true (scalar_fits s (tree_width input ∷ ws) ps)
      (tree_fits input S ws ps) h)
  fits_even (keep is input) S ws ps h =
      let a = columns_fit is (tree_width input) in let b = tree_fits input S ws ps in (
        columns_in is (tree_width input) (left_true a b h),
        fits_even input S ws ps (right_true a b h),
      )
  fits_even (cross a b) S ws ps h = (
    fits_even a S ws ps (left_true (tree_fits a S ws ps) (tree_fits b S ws ps) h),
    fits_even b S ws ps (right_true (tree_fits a S ws ps) (tree_fits b S ws ps) h),
  )
  fits_even (left_outer nodes s n a b) S ws ps h =
      let m = tree_width a + n in let x = nodes_fit nodes S m ws ps in
      let y = scalar_fits s (width nodes m ∷ ws) ps in
      let z = nat_eq (tree_width b) n in let u = tree_fits a S ws ps in
      let v = tree_fits b S ws ps in
      let p : (x && y) ≡ true = left_true (x && y) (z && (u && v)) h in
      let q : (z && (u && v)) ≡ true = right_true (x && y) (z && (u && v)) h in
      let r : (u && v) ≡ true = right_true z (u && v) q in (
        run_in nodes S m ws ps (left_true x y p),
        equal_numbers (tree_width b) n (left_true z (u && v) q),
        fits_even a S ws ps (left_true u v r),
        fits_even b S ws ps (right_true u v r),
      )
  fits_even (settle input) S ws ps h = fits_even input S ws ps h
  fits_even (group keys ags input) S ws ps h =
      fits_even input S ws ps (right_true (columns_fit keys (tree_width input)
      && aggregates_fit ags (tree_width input)) (tree_fits input S ws ps) h)
  fits_even (sort keys input) S ws ps h =
      fits_even input S ws ps (right_true (keys_fit keys (tree_width input))
      (tree_fits input S ws ps) h)

  run_in : (nodes : Nodes) (S : List ℕ → ℕ) (m : ℕ) (ws : List ℕ) (ps : ℕ) →
      nodes_fit nodes S m ws ps ≡ true → NodesEven nodes S
  run_in no_node S m ws ps h = tt
  run_in (extend_by ss rest) S m ws ps h =
      run_in rest S (m + scalar_count ss) ws ps
      (right_true (scalars_fit ss (m ∷ ws) ps) (nodes_fit rest S (m + scalar_count ss) ws ps) h)
  run_in (apply_by when kind way inner rest) S m ws ps h =
      let us = m ∷ ws in let n = found_width way (tree_width inner) in
      let k = split (scalar_fits when us ps) (way_fits way when inner us ps)
      (kind_fits kind n us ps) (tree_fits inner S us ps)
      (nodes_fit rest S (m + kind_width kind) ws ps) h in (
        kind_in kind n us ps k.2,
        fits_even inner S us ps k.3,
        run_in rest S (m + kind_width kind) ws ps k.4,
      )

-- Renamed plans.
abbrev pub HasKept : Renaming → List ℕ → List ℕ → Type 0
HasKept names ws us = (level i : ℕ) → has_column ws level i ≡ true →
    has_column us (names level i).0 (names level i).1 ≡ true

inside_has : (names : Renaming) (ws us : List ℕ) (n m : ℕ) → m ≡ n → HasKept names ws us →
    HasKept (inside names) (n ∷ ws) (m ∷ us)
inside_has names ws us n m e h zero i p = subst (λ (k : ℕ). less i k ≡ true) (sym e) p
inside_has names ws us n m e h (suc level) i p = h level i p

mutual
  scalar_renamed : (s : Scalar) (names : Renaming) (ws us : List ℕ) (ps : ℕ) → HasKept names ws us →
      scalar_fits s ws ps ≡ true →
      scalar_fits (renamed_scalar s names) us ps ≡ true
  scalar_renamed (constant v) names ws us ps k h = refl
  scalar_renamed (column level i) names ws us ps k h = k level i h
  scalar_renamed (argument i) names ws us ps k h = h
  scalar_renamed (word w ss) names ws us ps k h = scalars_renamed ss names ws us ps k h

  scalars_renamed : (ss : Scalars) (names : Renaming) (ws us : List ℕ) (ps : ℕ) →
      HasKept names ws us → scalars_fit ss ws ps ≡ true →
      scalars_fit (renamed_scalars ss names) us ps ≡ true
  scalars_renamed none names ws us ps k h = refl
  scalars_renamed (more s ss) names ws us ps k h =
      and_true (scalar_fits (renamed_scalar s names) us ps)
      (scalars_fit (renamed_scalars ss names) us ps)
      (scalar_renamed s names ws us ps k (left_true (scalar_fits s ws ps) (scalars_fit ss ws ps) h))
      (scalars_renamed ss names ws us ps k
      (right_true (scalar_fits s ws ps) (scalars_fit ss ws ps) h))

first_count : (lists : List Scalars) (names : Renaming) → lists_width (renamed_lists lists names)
    ≡ lists_width lists
first_count [] names = refl
first_count (ss ∷ lists) names = count_renamed ss names

lists_renamed : (lists : List Scalars) (names : Renaming) (k j : ℕ) (ws us : List ℕ) (ps : ℕ) →
    j ≡ k → HasKept names ws us →
    lists_fit lists k ws ps ≡ true → lists_fit (renamed_lists lists names) j us ps ≡ true
lists_renamed [] names k j ws us ps e f h = refl
lists_renamed (ss ∷ lists) names k j ws us ps e f h =
    let a = nat_eq (scalar_count ss) k in let b = scalars_fit ss ws ps in
    let c = lists_fit lists k ws ps in
    let ab : (a && b) ≡ true = left_true (a && b) c h in
    and_true (nat_eq (scalar_count (renamed_scalars ss names)) j
    && scalars_fit (renamed_scalars ss names) us ps) (lists_fit (renamed_lists lists names) j us ps)
    (and_true (nat_eq (scalar_count (renamed_scalars ss names)) j)
    (scalars_fit (renamed_scalars ss names) us ps)
    (both (λ (x y : ℕ). nat_eq x y) _ _ _ _ (count_renamed ss names) e ∙ left_true a b ab)
    (scalars_renamed ss names ws us ps f (right_true a b ab)))
    (lists_renamed lists names k j ws us ps e f (right_true (a && b) c h))

kind_renamed : (kind : Kind) (n m : ℕ) (names : Renaming) (ws us : List ℕ) (ps : ℕ) → m ≡ n →
    HasKept names ws us → kind_fits kind n ws ps ≡ true →
    kind_fits (renamed_kind kind names) m us ps ≡ true
kind_renamed single n m names ws us ps e k h = ap (λ (j : ℕ). nat_eq j 1) e ∙ h
kind_renamed exists n m names ws us ps e k h = refl
kind_renamed (member s) n m names ws us ps e k h =
    and_true (scalar_fits (renamed_scalar s names) us ps) (nat_eq m 1)
    (scalar_renamed s names ws us ps k (left_true (scalar_fits s ws ps) (nat_eq n 1) h))
    (ap (λ (j : ℕ). nat_eq j 1) e ∙ right_true (scalar_fits s ws ps) (nat_eq n 1) h)
kind_renamed (aggregate ags) n m names ws us ps e k h =
    subst (λ (j : ℕ). aggregates_fit ags j ≡ true) (sym e) h
kind_renamed (into c) n m names ws us ps e k h = subst (λ (j : ℕ). nat_eq j c ≡ true) (sym e) h

lookup_renamed : (keys : List (ℕ × Scalar)) (n m : ℕ) (names : Renaming) (ws us : List ℕ) (ps : ℕ) →
    m ≡ n → HasKept names ws us →
    lookup_fits keys n ws ps ≡ true → lookup_fits (renamed_keys keys names) m us ps ≡ true
lookup_renamed [] n m names ws us ps e k h = refl
lookup_renamed (x ∷ keys) n m names ws us ps e k h =
    let a = less x.0 n in let b = scalar_fits x.1 ws ps in let c = lookup_fits keys n ws ps in
    let ab : (a && b) ≡ true = left_true (a && b) c h in
    and_true (less x.0 m && scalar_fits (renamed_scalar x.1 names) us ps)
    (lookup_fits (renamed_keys keys names) m us ps)
    (and_true (less x.0 m) (scalar_fits (renamed_scalar x.1 names) us ps)
    (subst (λ (j : ℕ). less x.0 j ≡ true) (sym e) (left_true a b ab))
    (scalar_renamed x.1 names ws us ps k (right_true a b ab)))
    (lookup_renamed keys n m names ws us ps e k (right_true (a && b) c h))

true_renamed : (s : Scalar) (names : Renaming) → is_true_constant (renamed_scalar s names)
    ≡ is_true_constant s
true_renamed (constant (Truth true)) names = refl
true_renamed (constant (Truth false)) names = refl
true_renamed (constant Null) names = refl
true_renamed (constant (Int z)) names = refl
true_renamed (constant (Str t)) names = refl
true_renamed (column level i) names = refl
true_renamed (argument i) names = refl
true_renamed (word w ss) names = refl

way_renamed : (way : Way) (when : Scalar) (inner : PlanTree) (names : Renaming) (ws us : List ℕ)
    (ps : ℕ) → HasKept names ws us →
    way_fits way when inner ws ps ≡ true →
    way_fits (renamed_way way names) (renamed_scalar when names) (renamed_tree inner names) us ps
    ≡ true
way_renamed anew when inner names ws us ps k h = refl
way_renamed once when inner names ws us ps k h =
    (λ i. true_renamed when names i && within_renamed inner names 0 0 (none_kept names) i) ∙ h
way_renamed (lookup keys) when inner names ws us ps k h =
    let a = lookup_fits keys (tree_width inner) ws ps in
    and_true (lookup_fits (renamed_keys keys names) (tree_width (renamed_tree inner names)) us ps)
    (tree_within (renamed_tree inner names) 0)
    (lookup_renamed keys (tree_width inner) (tree_width (renamed_tree inner names)) names ws us ps
    (width_renamed inner names) k
    (left_true a (tree_within inner 0) h))
    (within_renamed inner names 0 0 (none_kept names) ∙ right_true a (tree_within inner 0) h)

found_renamed : (way : Way) (names : Renaming) (n m : ℕ) → m ≡ n →
    found_width (renamed_way way names) m ≡ found_width way n
found_renamed anew names n m e = e
found_renamed once names n m e = e
found_renamed (lookup keys) names n m e =
    ap (λ (is : List ℕ). length is) (ap (other_places (renamed_keys keys names) 0) e
    ∙ others_renamed keys names 0 n)

-- a node whose scalars are renamed
abbrev pub NodeFits : Scalar → Kind → Way → PlanTree → (List ℕ → ℕ) → List ℕ → ℕ → Type 0
NodeFits when kind way inner S ws ps =
    (scalar_fits when ws ps ≡ true) × (way_fits way when inner ws ps ≡ true)
    × (kind_fits kind (found_width way (tree_width inner)) ws ps ≡ true)
    × (tree_fits inner S ws ps ≡ true)

node_renamed : (when : Scalar) (kind : Kind) (way : Way) (inner : PlanTree) (S : List ℕ →
    ℕ) (names : Renaming) (ws us : List ℕ) (ps : ℕ) →
    HasKept names ws us → NodeFits when kind way inner S ws ps →
    tree_fits (renamed_tree inner names) S us ps ≡ true →
    NodeFits (renamed_scalar when names) (renamed_kind kind names) (renamed_way way names)
    (renamed_tree inner names) S us ps
node_renamed when kind way inner S names ws us ps k h f = (
  scalar_renamed when names ws us ps k h.0,
  way_renamed way when inner names ws us ps k h.1,
  kind_renamed kind (found_width way (tree_width inner))
      (found_width (renamed_way way names) (tree_width (renamed_tree inner names))) names ws us ps
      (found_renamed way names (tree_width inner) (tree_width (renamed_tree inner names))
      (width_renamed inner names)) k h.2,
  f,
)

with_rest : (when : Scalar) (kind : Kind) (way : Way) (inner : PlanTree) (S : List ℕ →
    ℕ) (ws : List ℕ) (ps : ℕ) (b : Bool) →
    NodeFits when kind way inner S ws ps → b ≡ true →
    ((scalar_fits when ws ps && (way_fits way when inner ws ps
    && kind_fits kind (found_width way (tree_width inner)) ws ps))
    && (tree_fits inner S ws ps && b)) ≡ true
with_rest when kind way inner S ws ps b h p =
    all_five (scalar_fits when ws ps) (way_fits way when inner ws ps)
    (kind_fits kind (found_width way (tree_width inner)) ws ps) (tree_fits inner S ws ps) b
    h.0 h.1 h.2 h.3 p

without_rest : (when : Scalar) (kind : Kind) (way : Way) (inner : PlanTree) (S : List ℕ →
    ℕ) (ws : List ℕ) (ps : ℕ) (b : Bool) →
    ((scalar_fits when ws ps && (way_fits way when inner ws ps
    && kind_fits kind (found_width way (tree_width inner)) ws ps))
    && (tree_fits inner S ws ps && b)) ≡ true →
    NodeFits when kind way inner S ws ps × (b ≡ true)
without_rest when kind way inner S ws ps b h =
    let k = split (scalar_fits when ws ps) (way_fits way when inner ws ps)
    (kind_fits kind (found_width way (tree_width inner)) ws ps) (tree_fits inner S ws ps) b h in
    ((k.0, k.1, k.2, k.3), k.4)

run_width : (nodes : Nodes) (names : Renaming) (m : ℕ) → width (renamed_nodes nodes names) m
    ≡ width nodes m
run_width no_node names m = refl
run_width (extend_by ss rest) names m = ap (λ (k : ℕ). width (renamed_nodes rest names) (m + k))
    (count_renamed ss names) ∙ run_width rest names (m + scalar_count ss)
run_width (apply_by when kind way inner rest) names m =
    ap (λ (k : ℕ). width (renamed_nodes rest names) (m + k)) (kind_width_renamed kind names)
    ∙ run_width rest names (m + kind_width kind)

mutual
  pub fits_renamed : (t : PlanTree) (S : List ℕ → ℕ) (names : Renaming) (ws us : List ℕ) (ps : ℕ) →
      HasKept names ws us → tree_fits t S ws ps ≡ true →
      tree_fits (renamed_tree t names) S us ps ≡ true
  fits_renamed unit_row S names ws us ps k h = refl
  fits_renamed (scan name n) S names ws us ps k h = h
  fits_renamed (values lists) S names ws us ps k h =
      lists_renamed lists (inside names) (lists_width lists)
      (lists_width (renamed_lists lists (inside names))) (0 ∷ ws) (0 ∷ us) ps
      (first_count lists (inside names)) (inside_has names ws us 0 0 refl k) h
  fits_renamed (extend ss input) S names ws us ps k h =
      let n = tree_width input in let m = tree_width (renamed_tree input names) in
      let a = scalars_fit ss (n ∷ ws) ps in let b = tree_fits input S ws ps in
      and_true (scalars_fit (renamed_scalars ss (inside names)) (m ∷ us) ps)
      (tree_fits (renamed_tree input names) S us ps)
      (scalars_renamed ss (inside names) (n ∷ ws) (m ∷ us) ps
      (inside_has names ws us n m (width_renamed input names) k) (left_true a b h))
      (fits_renamed input S names ws us ps k (right_true a b h))
  fits_renamed (apply when kind way inner input) S names ws us ps k h =
      let n = tree_width input in let m = tree_width (renamed_tree input names) in
      let j = inside_has names ws us n m (width_renamed input names) k in
      let p = without_rest when kind way inner S (n ∷ ws) ps (tree_fits input S ws ps) h in
      let in' = inside names in
      with_rest (renamed_scalar when in') (renamed_kind kind in') (renamed_way way in')
      (renamed_tree inner in') S (m ∷ us) ps (tree_fits (renamed_tree input names) S us ps)
      (node_renamed when kind way inner S in' (n ∷ ws) (m ∷ us) ps j p.0
      (fits_renamed inner S in' (n ∷ ws) (m ∷ us) ps j p.0.3))
      (fits_renamed input S names ws us ps k p.1)
  fits_renamed (filter s input) S names ws us ps k h =
      let n = tree_width input in let m = tree_width (renamed_tree input names) in
      let a = scalar_fits s (n ∷ ws) ps in let b = tree_fits input S ws ps in
      and_true (scalar_fits (renamed_scalar s (inside names)) (m ∷ us) ps)
      (tree_fits (renamed_tree input names) S us ps)
      (scalar_renamed s (inside names) (n ∷ ws) (m ∷ us) ps
      (inside_has names ws us n m (width_renamed input names) k) (left_true a b h))
      (fits_renamed input S names ws us ps k (right_true a b h))
  fits_renamed (keep is input) S names ws us ps k h =
      let a = columns_fit is (tree_width input) in let b = tree_fits input S ws ps in
      and_true (columns_fit is (tree_width (renamed_tree input names)))
      (tree_fits (renamed_tree input names) S us ps)
      (ap (columns_fit is) (width_renamed input names) ∙ left_true a b h)
      (fits_renamed input S names ws us ps k (right_true a b h))
  fits_renamed (cross a b) S names ws us ps k h =
      let x = tree_fits a S ws ps in let y = tree_fits b S ws ps in
      and_true (tree_fits (renamed_tree a names) S us ps) (tree_fits (renamed_tree b names) S us ps)
      (fits_renamed a S names ws us ps k (left_true x y h))
      (fits_renamed b S names ws us ps k (right_true x y h))
  fits_renamed (left_outer nodes s n a b) S names ws us ps k h =
      let m = tree_width a + n in let j = tree_width (renamed_tree a names) + n in
      let e : j ≡ m = ap (λ (i : ℕ). i + n) (width_renamed a names) in
      let x = nodes_fit nodes S m ws ps in let y = scalar_fits s (width nodes m ∷ ws) ps in
      let z = nat_eq (tree_width b) n in let u = tree_fits a S ws ps in
      let v = tree_fits b S ws ps in
      let p : (x && y) ≡ true = left_true (x && y) (z && (u && v)) h in
      let q : (z && (u && v)) ≡ true = right_true (x && y) (z && (u && v)) h in
      let r : (u && v) ≡ true = right_true z (u && v) q in
      let nodes' = renamed_nodes nodes (inside names) in
      let we : width nodes' j ≡ width nodes m = ap (width nodes') e
      ∙ run_width nodes (inside names) m in
      and_true (nodes_fit nodes' S j us ps && scalar_fits (renamed_scalar s (inside names))
      (width nodes' j ∷ us) ps)
      (nat_eq (tree_width (renamed_tree b names)) n
      && (tree_fits (renamed_tree a names) S us ps && tree_fits (renamed_tree b names) S us ps))
      (and_true (nodes_fit nodes' S j us ps)
      (scalar_fits (renamed_scalar s (inside names)) (width nodes' j ∷ us) ps)
      (run_renamed nodes S names m j ws us ps e k (left_true x y p))
      (scalar_renamed s (inside names) (width nodes m ∷ ws) (width nodes' j ∷ us) ps
      (inside_has names ws us (width nodes m) (width nodes' j) we k) (right_true x y p)))
      (and_true (nat_eq (tree_width (renamed_tree b names)) n)
      (tree_fits (renamed_tree a names) S us ps && tree_fits (renamed_tree b names) S us ps)
      (ap (λ (i : ℕ). nat_eq i n) (width_renamed b names) ∙ left_true z (u && v) q)
      (and_true (tree_fits (renamed_tree a names) S us ps)
      (tree_fits (renamed_tree b names) S us ps)
      (fits_renamed a S names ws us ps k (left_true u v r))
      (fits_renamed b S names ws us ps k (right_true u v r))))
  fits_renamed (settle input) S names ws us ps k h = fits_renamed input S names ws us ps k h
  fits_renamed (group keys ags input) S names ws us ps k h =
      let n = tree_width input in let a = columns_fit keys n && aggregates_fit ags n in
      let b = tree_fits input S ws ps in
      and_true (columns_fit keys (tree_width (renamed_tree input names))
      && aggregates_fit ags (tree_width (renamed_tree input names)))
      (tree_fits (renamed_tree input names) S us ps)
      (ap (λ (i : ℕ). columns_fit keys i && aggregates_fit ags i) (width_renamed input names)
      ∙ left_true a b h)
      (fits_renamed input S names ws us ps k (right_true a b h))
  fits_renamed (sort keys input) S names ws us ps k h =
      let a = keys_fit keys (tree_width input) in let b = tree_fits input S ws ps in
      and_true (keys_fit keys (tree_width (renamed_tree input names)))
      (tree_fits (renamed_tree input names) S us ps)
      (ap (keys_fit keys) (width_renamed input names) ∙ left_true a b h)
      (fits_renamed input S names ws us ps k (right_true a b h))

  run_renamed : (nodes : Nodes) (S : List ℕ → ℕ) (names : Renaming) (m j : ℕ) (ws us : List ℕ)
      (ps : ℕ) → j ≡ m → HasKept names ws us →
      nodes_fit nodes S m ws ps ≡ true → nodes_fit (renamed_nodes nodes (inside names)) S j us ps
      ≡ true
  run_renamed no_node S names m j ws us ps e k h = refl
  run_renamed (extend_by ss rest) S names m j ws us ps e k h =
      let ss' = renamed_scalars ss (inside names) in let a = scalars_fit ss (m ∷ ws) ps in
      let b = nodes_fit rest S (m + scalar_count ss) ws ps in
      and_true (scalars_fit ss' (j ∷ us) ps)
      (nodes_fit (renamed_nodes rest (inside names)) S (j + scalar_count ss') us ps)
      (scalars_renamed ss (inside names) (m ∷ ws) (j ∷ us) ps (inside_has names ws us m j e k)
      (left_true a b h))
      (run_renamed rest S names (m + scalar_count ss) (j + scalar_count ss') ws us ps
      (both (λ (x y : ℕ). x + y) _ _ _ _ e (count_renamed ss (inside names))) k
      (right_true a b h))
  run_renamed (apply_by when kind way inner rest) S names m j ws us ps e k h =
      let in' = inside names in let f = inside_has names ws us m j e k in
      let p = without_rest when kind way inner S (m ∷ ws) ps
      (nodes_fit rest S (m + kind_width kind) ws ps) h in
      with_rest (renamed_scalar when in') (renamed_kind kind in') (renamed_way way in')
      (renamed_tree inner in') S (j ∷ us) ps
      (nodes_fit (renamed_nodes rest in') S (j + kind_width (renamed_kind kind in')) us ps)
      (node_renamed when kind way inner S in' (m ∷ ws) (j ∷ us) ps f p.0
      (fits_renamed inner S in' (m ∷ ws) (j ∷ us) ps f p.0.3))
      (run_renamed rest S names (m + kind_width kind) (j + kind_width (renamed_kind kind in')) ws us
      ps
      (both (λ (x y : ℕ). x + y) _ _ _ _ e (kind_width_renamed kind in')) k p.1)

-- Where columns stand.
own_has : (outs : List ℕ) (n k : ℕ) (us : List ℕ) → PlacesIn outs n → length outs ≡ k →
    HasKept (own_row outs n) (k ∷ us) (n ∷ us)
own_has outs n k us h e zero i p = let l = less_lt i k p in
    lt_less (place_in outs n i) n (place_below outs n i h (omega (arith, l, e)))
own_has outs n k us h e (suc level) i p = p

merged_has : (n : ℕ) (outs : List ℕ) (m k : ℕ) (ws : List ℕ) → PlacesIn outs m → length outs ≡ k →
    n ≤ m →
    HasKept (merged_row n outs m) (k ∷ n ∷ ws) (m ∷ ws)
merged_has n outs m k ws h e l zero i p = let q = less_lt i k p in
    lt_less (place_in outs m i) m (place_below outs m i h (omega (arith, q, e)))
merged_has n outs m k ws h e l (suc zero) i p =
    let q = less_lt i n p in let a = places_long 0 n in
    lt_less (place_in (places 0 n) m i) m
    (place_below (places 0 n) m i (places_below 0 n m (omega (arith, l))) (omega (arith, q, a)))
merged_has n outs m k ws h e l (suc (suc level)) i p = p

-- Wide plans.
abbrev pub ScalarsFit : List (ℕ × Scalar) → List ℕ → ℕ → Type 0
ScalarsFit [] us ps = Unit {0}
ScalarsFit (k ∷ tests) us ps = (scalar_fits k.1 us ps ≡ true) × ScalarsFit tests us ps

tests_more : (tests : List (ℕ × Scalar)) (k : ℕ × Scalar) (us : List ℕ) (ps : ℕ) →
    ScalarsFit tests us ps → scalar_fits k.1 us ps ≡ true →
    ScalarsFit (tests ++ k ∷ []) us ps
tests_more [] k us ps h p = (p, tt)
tests_more (x ∷ tests) k us ps h p = (h.0, tests_more tests k us ps h.1 p)

abbrev pub WideFits : (List ℕ → ℕ) → List ℕ → ℕ → Wide → Type 0
WideFits S us ps c = (tree_fits c.below S us ps ≡ true) × ScalarsFit c.tests us ps

test_fits : (tests : List (ℕ × Scalar)) (s : Scalar) (c : Wide) (S : List ℕ →
    ℕ) (us : List ℕ) (ps : ℕ) → WideFits S us ps c →
    scalar_fits s (tree_width c.below ∷ us) ps ≡ true → WideFits S us ps (with_test tests s c)
test_fits [] s c S us ps h p =
    (and_true (scalar_fits s (tree_width c.below ∷ us) ps) (tree_fits c.below S us ps) p h.0, h.1)
test_fits (k ∷ tests) s c S us ps h p = (
  and_true (scalar_fits s (tree_width c.below ∷ us) ps && true) (tree_fits c.below S us ps)
      (and_true (scalar_fits s (tree_width c.below ∷ us) ps) true p refl) h.0,
  tests_more c.tests (tree_width c.below, constant (Truth true)) us ps h.1 refl,
)

key_fits : (s : Scalar) (c : Wide) (k : ℕ) (S : List ℕ → ℕ) (us : List ℕ) (ps : ℕ) →
    WideFits S us ps c → scalar_fits s (k ∷ us) ps ≡ true →
    WideFits S us ps (with_key s c)
key_fits (word (strict (Comparing Equals)) (more (column zero i) (more (column (suc d) j) none))) c
    k S us ps h p = (
      h.0,
      tests_more c.tests (place_in c.outs (tree_width c.below) i, column d j) us ps h.1
          (left_true (has_column us d j) true
          (right_true (less i k) (has_column us d j && true) p)),
    )
key_fits _ c k S us ps h p = h

wide_fits : (t : PlanTree) (S : List ℕ → ℕ) (us : List ℕ) (ps : ℕ) → chained t ≡ true →
    tree_fits t S us ps ≡ true → WideFits S us ps (widened t)
wide_fits (extend ss t) S us ps p h =
    let c = widened t in let m = tree_width c.below in let k = tree_width t in
    let a = scalars_fit ss (k ∷ us) ps in let b = tree_fits t S us ps in
    let hb : b ≡ true = right_true a b h in
    let e = wide_even t S (fits_even t S us ps hb) (right_true (stays_all ss 1) (chained t) p) in
    let f = wide_fits t S us ps (right_true (stays_all ss 1) (chained t) p) hb in (
      and_true (scalars_fit (renamed_scalars ss (own_row c.outs m)) (m ∷ us) ps)
          (tree_fits c.below S us ps)
          (scalars_renamed ss (own_row c.outs m) (k ∷ us) (m ∷ us) ps
          (own_has c.outs m k us e.outs e.count) (left_true a b h)) f.0,
      f.1,
    )
wide_fits (apply when kind way inner t) S us ps p h =
    let c = widened t in let m = tree_width c.below in let k = tree_width t in
    let names = own_row c.outs m in
    let q = without_rest when kind way inner S (k ∷ us) ps (tree_fits t S us ps) h in
    let r : chained t ≡ true = right_true ((stays when 1 && (way_stays way 1 && kind_stays kind 1))
    && tree_within inner 1) (chained t) p in
    let e = wide_even t S (fits_even t S us ps q.1) r in let f = wide_fits t S us ps r q.1 in
    let has = own_has c.outs m k us e.outs e.count in (
      with_rest (renamed_scalar when names) (renamed_kind kind names) (renamed_way way names)
          (renamed_tree inner names) S (m ∷ us) ps (tree_fits c.below S us ps)
          (node_renamed when kind way inner S names (k ∷ us) (m ∷ us) ps has q.0
          (fits_renamed inner S names (k ∷ us) (m ∷ us) ps has q.0.3)) f.0,
      f.1,
    )
wide_fits (filter s t) S us ps p h =
    let c = widened t in let m = tree_width c.below in let k = tree_width t in
    let a = scalar_fits s (k ∷ us) ps in let b = tree_fits t S us ps in
    let hb : b ≡ true = right_true a b h in let x = stays s 1 || is_key k s in
    let r : chained t ≡ true = right_true x (chained t) p in
    let e = wide_even t S (fits_even t S us ps hb) r in let f = wide_fits t S us ps r hb in
    filter_by (WideFits S us ps) s c k (left_true x (chained t) p)
    (λ q. test_fits c.tests (renamed_scalar s (own_row c.outs m)) c S us ps f
    (scalar_renamed s (own_row c.outs m) (k ∷ us) (m ∷ us) ps (own_has c.outs m k us e.outs e.count)
    (left_true a b h)))
    (λ q. key_fits s c k S us ps f (left_true a b h))
wide_fits (keep is t) S us ps p h =
    wide_fits t S us ps p (right_true (columns_fit is (tree_width t)) (tree_fits t S us ps) h)
wide_fits unit_row S us ps p h = (h, tt)
wide_fits (scan name n) S us ps p h = (h, tt)
wide_fits (values lists) S us ps p h = (h, tt)
wide_fits (cross a b) S us ps p h = (h, tt)
wide_fits (left_outer nodes s n a b) S us ps p h = (h, tt)
wide_fits (settle t) S us ps p h = (h, tt)
wide_fits (group keys ags t) S us ps p h = (h, tt)
wide_fits (sort keys t) S us ps p h = (h, tt)

from_fits : (tests : List (ℕ × Scalar)) (from n : ℕ) (us : List ℕ) (ps : ℕ) →
    from + length tests ≤ n → ScalarsFit tests us ps →
    lookup_fits (keys_from from tests) n us ps ≡ true
from_fits [] from n us ps l h = refl
from_fits (k ∷ tests) from n us ps l h =
    and_true (less from n && scalar_fits k.1 us ps)
    (lookup_fits (keys_from (suc from) tests) n us ps)
    (and_true (less from n) (scalar_fits k.1 us ps) (lt_less from n (omega (arith, l))) h.0)
    (from_fits tests (suc from) n us ps (omega (arith, l)) h.1)

tests_places : (tests : List (ℕ × Scalar)) (n : ℕ) → TestsIn tests n →
    PlacesIn (test_places tests) n
tests_places [] n h = tt
tests_places (k ∷ tests) n h = (h.0, tests_places tests n h.1)

lookup_node : (when : Scalar) (kind : Kind) (inner : PlanTree) (S : List ℕ →
    ℕ) (us : List ℕ) (ps : ℕ) → chained inner ≡ true →
    NodeFits when kind anew inner S us ps →
    NodeFits when kind (lookup (lookup_keys (widened inner))) (lookup_plan (widened inner)) S us ps
lookup_node when kind inner S us ps p h =
    let c = widened inner in let e = wide_even inner S (fits_even inner S us ps h.3) p in
    let f = wide_fits inner S us ps p h.3 in
    let w = lookup_width c in (
      h.0,
      and_true (lookup_fits (lookup_keys c) (tree_width (lookup_plan c)) us ps)
          (tree_within c.below 0)
          (from_fits c.tests (length c.outs) (tree_width (lookup_plan c)) us ps
          (omega (arith, w)) f.1) (wide_closed inner p),
      subst (λ (n : ℕ). kind_fits kind n us ps ≡ true)
          (sym (ap (λ (is : List ℕ). length is) (lookup_others c)
          ∙ (places_long 0 (length c.outs) ∙ e.count))) h.2,
      and_true (columns_fit (c.outs ++ test_places c.tests) (tree_width c.below))
          (tree_fits c.below S us ps)
          (columns_of (c.outs ++ test_places c.tests) (tree_width c.below)
          (places_append c.outs (test_places c.tests) (tree_width c.below) e.outs
          (tests_places c.tests (tree_width c.below) e.tests))) f.0,
    )

others_nothing : (i n : ℕ) → other_places [] i n ≡ places i n
others_nothing i zero = refl
others_nothing i (suc n) = ap (λ (is : List ℕ). i ∷ is) (others_nothing (suc i) n)

once_node : (when : Scalar) (kind : Kind) (inner : PlanTree) (S : List ℕ →
    ℕ) (us : List ℕ) (ps : ℕ) → tree_within inner 0 ≡ true →
    NodeFits when kind anew inner S us ps → NodeFits when kind (once_way when) inner S us ps
once_node when kind inner S us ps p h = by (is_true_constant when) refl
  where
    by : (b : Bool) → is_true_constant when ≡ b →
        NodeFits when kind (cond b once (lookup [])) inner S us ps
    by true e = (h.0, and_true (is_true_constant when) (tree_within inner 0) e p, h.2, h.3)
    by false e = (
      h.0,
      p,
      subst (λ (n : ℕ). kind_fits kind n us ps ≡ true)
          (sym (ap (λ (is : List ℕ). length is) (others_nothing 0 (tree_width inner))
          ∙ places_long 0 (tree_width inner))) h.2,
      h.3,
    )

-- Regions.
region_fits : (t : PlanTree) (S : List ℕ → ℕ) (n : ℕ) (ws : List ℕ) (ps : ℕ) → is_region t ≡ true →
    tree_fits t S (n ∷ ws) ps ≡ true →
    nodes_fit (region_columns t n).nodes S n ws ps ≡ true
region_fits unit_row S n ws ps p h = refl
region_fits (extend ss t) S n ws ps p h =
    let c = region_columns t n in let m = width c.nodes n in let k = tree_width t in
    let names = merged_row n c.places m in
    let a = scalars_fit ss (k ∷ n ∷ ws) ps in let b = tree_fits t S (n ∷ ws) ps in
    let hb : b ≡ true = right_true a b h in
    let e = placed t S (fits_even t S (n ∷ ws) ps hb) p n in
    join_fits c.nodes (extend_by (renamed_scalars ss names) no_node) S n ws ps
    (region_fits t S n ws ps p hb)
    (and_true (scalars_fit (renamed_scalars ss names) (m ∷ ws) ps) true
    (scalars_renamed ss names (k ∷ n ∷ ws) (m ∷ ws) ps
    (merged_has n c.places m k ws e.inside e.count (width_more c.nodes n)) (left_true a b h)) refl)
region_fits (apply when kind way inner t) S n ws ps p h =
    let c = region_columns t n in let m = width c.nodes n in let k = tree_width t in
    let names = merged_row n c.places m in
    let q = without_rest when kind way inner S (k ∷ n ∷ ws) ps (tree_fits t S (n ∷ ws) ps) h in
    let e = placed t S (fits_even t S (n ∷ ws) ps q.1) p n in
    let has = merged_has n c.places m k ws e.inside e.count (width_more c.nodes n) in
    join_fits c.nodes (apply_by (renamed_scalar when names) (renamed_kind kind names)
    (renamed_way way names) (renamed_tree inner names) no_node) S n ws ps
    (region_fits t S n ws ps p q.1)
    (with_rest (renamed_scalar when names) (renamed_kind kind names) (renamed_way way names)
    (renamed_tree inner names) S (m ∷ ws) ps true
    (node_renamed when kind way inner S names (k ∷ n ∷ ws) (m ∷ ws) ps has q.0
    (fits_renamed inner S names (k ∷ n ∷ ws) (m ∷ ws) ps has q.0.3)) refl)
region_fits (keep is t) S n ws ps p h =
    region_fits t S n ws ps p
    (right_true (columns_fit is (tree_width t)) (tree_fits t S (n ∷ ws) ps) h)
region_fits (scan name j) S n ws ps p h = never p
region_fits (values lists) S n ws ps p h = never p
region_fits (filter s t) S n ws ps p h = never p
region_fits (cross a b) S n ws ps p h = never p
region_fits (left_outer nodes s j a b) S n ws ps p h = never p
region_fits (settle t) S n ws ps p h = never p
region_fits (group keys ags t) S n ws ps p h = never p
region_fits (sort keys t) S n ws ps p h = never p

case_fits : (when s : Scalar) (us : List ℕ) (ps : ℕ) → scalar_fits when us ps ≡ true →
    scalar_fits s us ps ≡ true →
    (scalar_fits when us ps && (scalar_fits s us ps && true)) ≡ true
case_fits when s us ps h k = and_true (scalar_fits when us ps) (scalar_fits s us ps && true) h
    (and_true (scalar_fits s us ps) true k refl)

where_fits : (when s : Scalar) (us : List ℕ) (ps : ℕ) → scalar_fits when us ps ≡ true →
    scalar_fits s us ps ≡ true →
    scalar_fits (where_true when s) us ps ≡ true
where_fits (constant (Truth true)) s us ps h k = k
where_fits (constant (Truth false)) s us ps h k = case_fits (constant (Truth false)) s us ps h k
where_fits (constant Null) s us ps h k = case_fits (constant Null) s us ps h k
where_fits (constant (Int z)) s us ps h k = case_fits (constant (Int z)) s us ps h k
where_fits (constant (Str t)) s us ps h k = case_fits (constant (Str t)) s us ps h k
where_fits (column level i) s us ps h k = case_fits (column level i) s us ps h k
where_fits (argument i) s us ps h k = case_fits (argument i) s us ps h k
where_fits (word w ss) s us ps h k = case_fits (word w ss) s us ps h k

first_fits : (outs : List ℕ) (k m : ℕ) → nat_eq k 1 ≡ true → length outs ≡ k → PlacesIn outs m →
    less (place_in outs m 0) m ≡ true
first_fits outs k m h e p = let q = equal_numbers k 1 h in
    lt_less (place_in outs m 0) m (place_below outs m 0 p (omega (arith, e, q)))

into_fits : (outs : List ℕ) (m i k : ℕ) (ws : List ℕ) (ps : ℕ) → i + k ≤ length outs →
    PlacesIn outs m →
    scalars_fit (into_scalars outs m i k) (m ∷ ws) ps ≡ true
into_fits outs m i zero ws ps l p = refl
into_fits outs m i (suc k) ws ps l p =
    and_true (scalar_fits (if_values outs (column 0 (place_in outs m i))) (m ∷ ws) ps)
    (scalars_fit (into_scalars outs m (suc i) k) (m ∷ ws) ps)
    (if_values_fits outs (column 0 (place_in outs m i)) m ws ps (columns_of outs m p)
    (lt_less (place_in outs m i) m (place_below outs m i p (omega (arith, l)))))
    (into_fits outs m (suc i) k ws ps (omega (arith, l)) p)

cells_fit : (kind : Kind) (outs : List ℕ) (k n m : ℕ) (ws : List ℕ) (ps : ℕ) →
    HasKept (own_row (places 0 n) m) (n ∷ ws) (m ∷ ws) → length outs ≡ k →
    PlacesIn outs m → kind_fits kind k (n ∷ ws) ps ≡ true →
    scalars_fit (region_cells (renamed_kind kind (own_row (places 0 n) m)) outs m) (m ∷ ws) ps
    ≡ true
cells_fit single outs k n m ws ps has e p h =
    and_true (less (place_in outs m 0) m) true (first_fits outs k m h e p) refl
cells_fit exists outs k n m ws ps has e p h =
    and_true (scalar_fits (if_values outs (constant (Truth true))) (m ∷ ws) ps) true
    (if_values_fits outs (constant (Truth true)) m ws ps (columns_of outs m p) refl) refl
cells_fit (member s) outs k n m ws ps has e p h =
    let s' = renamed_scalar s (own_row (places 0 n) m) in
    and_true (scalar_fits s' (m ∷ ws) ps && (less (place_in outs m 0) m && true)) true
    (and_true (scalar_fits s' (m ∷ ws) ps) (less (place_in outs m 0) m && true)
    (scalar_renamed s (own_row (places 0 n) m) (n ∷ ws) (m ∷ ws) ps has
    (left_true (scalar_fits s (n ∷ ws) ps) (nat_eq k 1) h))
    (and_true (less (place_in outs m 0) m) true
    (first_fits outs k m (right_true (scalar_fits s (n ∷ ws) ps) (nat_eq k 1) h) e p) refl)) refl
cells_fit (aggregate ags) outs k n m ws ps has e p h = refl
cells_fit (into c) outs k n m ws ps has e p h = let q = equal_numbers k c h in
    into_fits outs m 0 c ws ps (omega (arith, e, q)) p

where_all_fit : (when : Scalar) (ss : Scalars) (us : List ℕ) (ps : ℕ) →
    scalar_fits when us ps ≡ true → scalars_fit ss us ps ≡ true →
    scalars_fit (where_all when ss) us ps ≡ true
where_all_fit when none us ps h k = refl
where_all_fit when (more s ss) us ps h k =
    let a = scalar_fits s us ps in let b = scalars_fit ss us ps in
    and_true (scalar_fits (where_true when s) us ps) (scalars_fit (where_all when ss) us ps)
    (where_fits when s us ps h (left_true a b k))
    (where_all_fit when ss us ps h (right_true a b k))

-- What an Apply becomes, over a row of n columns.
abbrev pub RemovedFit : Scalar → Kind → (List ℕ → ℕ) → ℕ → List ℕ → ℕ → Removed → Type 0
RemovedFit when kind S n ws ps (as_node way inner) = NodeFits when kind way inner S (n ∷ ws) ps
RemovedFit when kind S n ws ps (as_columns c) =
    (nodes_fit c.nodes S n ws ps ≡ true) × PlacesIn c.places (width c.nodes n)
    × (length c.places ≡ kind_width kind)

region_node : (when : Scalar) (kind : Kind) (inner : PlanTree) (S : List ℕ →
    ℕ) (n : ℕ) (ws : List ℕ) (ps : ℕ) → is_region inner ≡ true →
    of_region kind ≡ true → NodeFits when kind anew inner S (n ∷ ws) ps →
    RemovedFit when kind S n ws ps (as_columns (region when kind inner n))
region_node when kind inner S n ws ps p q h =
    let c = region_columns inner n in let m = width c.nodes n in
    let names = own_row (places 0 n) m in
    let e = placed inner S (fits_even inner S (n ∷ ws) ps h.3) p n in
    let has = own_has (places 0 n) m n ws (let l = width_more c.nodes n in
    places_below 0 n m (omega (arith, l))) (places_long 0 n) in
    let ss = region_cells (renamed_kind kind names) c.places m in
    let last = where_all (renamed_scalar when names) ss in (
      join_fits c.nodes (extend_by last no_node) S n ws ps (region_fits inner S n ws ps p h.3)
          (and_true (scalars_fit last (m ∷ ws) ps) true
          (where_all_fit (renamed_scalar when names) ss (m ∷ ws) ps
          (scalar_renamed when names (n ∷ ws) (m ∷ ws) ps has h.0)
          (cells_fit kind c.places (tree_width inner) n m ws ps has e.count e.inside h.2)) refl),
      region_places when kind inner n q,
      places_long m (kind_width kind),
    )

node_fits : (when : Scalar) (kind : Kind) (way : Way) (inner : PlanTree) (S : List ℕ →
    ℕ) (n : ℕ) (ws : List ℕ) (ps : ℕ) →
    NodeFits when kind way inner S (n ∷ ws) ps →
    RemovedFit when kind S n ws ps (removed_node when kind way inner n)
node_fits when kind anew inner S n ws ps h =
    removed_by (RemovedFit when kind S n ws ps) when kind inner n
    (λ p. once_node when kind inner S (n ∷ ws) ps p h)
    (λ p. lookup_node when kind inner S (n ∷ ws) ps p h)
    (λ p q. region_node when kind inner S n ws ps p q h) (λ x y z. h)
node_fits when kind once inner S n ws ps h = h
node_fits when kind (lookup keys) inner S n ws ps h = h

put_fits : (when : Scalar) (kind : Kind) (input : PlanTree) (d : Removed) (S : List ℕ →
    ℕ) (ws : List ℕ) (ps : ℕ) →
    RemovedFit when kind S (tree_width input) ws ps d → tree_fits input S ws ps ≡ true →
    tree_fits (put when kind input d) S ws ps ≡ true
put_fits when kind input (as_node way inner) S ws ps h k =
    with_rest when kind way inner S (tree_width input ∷ ws) ps (tree_fits input S ws ps) h k
put_fits when kind input (as_columns c) S ws ps h k =
    let n = tree_width input in let ps' = places 0 n ++ c.places in
    and_true (columns_fit ps' (tree_width (on_each c.nodes input)))
    (tree_fits (on_each c.nodes input) S ws ps)
    (columns_of ps' (tree_width (on_each c.nodes input))
    (subst (PlacesIn ps') (sym (on_each_width c.nodes input))
    (places_append (places 0 n) c.places (width c.nodes n)
    (places_below 0 n (width c.nodes n) (let l = width_more c.nodes n in omega (arith, l))) h.1)))
    (on_each_fits c.nodes input S ws ps h.0 k)

-- a run, on a row of m columns in which the k of the old row stand at some places
record RunFits (c : Columns) (nodes : Nodes) (S : List ℕ →
    ℕ) (k m : ℕ) (ws : List ℕ) (ps : ℕ) : Type 0 where
  fits : nodes_fit c.nodes S m ws ps ≡ true
  inside : PlacesIn c.places (width c.nodes m)
  count : length c.places ≡ width nodes k

put_by_fits : (when : Scalar) (kind : Kind) (old : Scalar) (old_kind : Kind) (way : Way)
    (inner : PlanTree) (outs : List ℕ) (k m : ℕ) (d : Removed)
    (rest : List ℕ → ℕ → Columns) (nodes : Nodes) (S : List ℕ → ℕ) (ws : List ℕ) (ps : ℕ) →
    RemovedFit when kind S m ws ps d → PlacesIn outs m →
    length outs ≡ k → kind_width kind ≡ kind_width old_kind →
    ((is : List ℕ) (j : ℕ) → PlacesIn is j → length is ≡ k + kind_width old_kind →
    RunFits (rest is j) nodes S (k + kind_width old_kind) j ws ps) →
    RunFits (put_by when kind outs m d rest) (apply_by old old_kind way inner nodes) S k m ws ps
put_by_fits when kind old old_kind way inner outs k m (as_node new plan) rest nodes S ws ps h p e w
    f =
    let j = m + kind_width kind in let is = outs ++ places m (kind_width kind) in
    let r = f is j (places_append outs (places m (kind_width kind)) j
    (places_wide outs m j (omega arith) p) (places_below m (kind_width kind) j (omega arith)))
    (length-append outs (places m (kind_width kind))
    ∙ both (λ (a b : ℕ). a + b) _ _ _ _ e (places_long m (kind_width kind) ∙ w)) in record {
      fits = with_rest when kind new plan S (m ∷ ws) ps (nodes_fit (rest is j).nodes S j ws ps) h
          r.fits;
      inside = r.inside;
      count = r.count;
    }
put_by_fits when kind old old_kind way inner outs k m (as_columns c) rest nodes S ws ps h p e w f =
    let j = width c.nodes m in let is = outs ++ c.places in
    let r = f is j (places_append outs c.places j (places_wide outs m j (width_more c.nodes m) p)
    h.1)
    (length-append outs c.places ∙ both (λ (a b : ℕ). a + b) _ _ _ _ e (h.2 ∙ w)) in record {
      fits = join_fits c.nodes (rest is j).nodes S m ws ps h.0 r.fits;
      inside = subst (PlacesIn (rest is j).places) (sym (width_join c.nodes (rest is j).nodes m))
          r.inside;
      count = r.count;
    }

found_same : (kind : Kind) (way : Way) (inner : PlanTree) (us : List ℕ) (ps : ℕ) →
    kind_fits kind (found_width way (tree_width inner)) us ps ≡ true →
    kind_fits kind (found_width way (tree_width (remove inner))) us ps ≡ true
found_same kind way inner us ps h =
    subst (λ (n : ℕ). kind_fits kind (found_width way n) us ps ≡ true) (sym (remove_width inner)) h

way_same : (way : Way) (when : Scalar) (inner : PlanTree) (us : List ℕ) (ps : ℕ) →
    way_fits way when inner us ps ≡ true →
    way_fits way when (remove inner) us ps ≡ true
way_same anew when inner us ps h = refl
way_same once when inner us ps h =
    and_true (is_true_constant when) (tree_within (remove inner) 0)
    (left_true (is_true_constant when) (tree_within inner 0) h)
    (remove_within inner 0 (right_true (is_true_constant when) (tree_within inner 0) h))
way_same (lookup keys) when inner us ps h =
    let a = lookup_fits keys (tree_width inner) us ps in
    and_true (lookup_fits keys (tree_width (remove inner)) us ps) (tree_within (remove inner) 0)
    (subst (λ (n : ℕ). lookup_fits keys n us ps ≡ true) (sym (remove_width inner))
    (left_true a (tree_within inner 0) h))
    (remove_within inner 0 (right_true a (tree_within inner 0) h))

mutual
  pub remove_fits : (t : PlanTree) (S : List ℕ → ℕ) (ws : List ℕ) (ps : ℕ) →
      tree_fits t S ws ps ≡ true → tree_fits (remove t) S ws ps ≡ true
  remove_fits unit_row S ws ps h = refl
  remove_fits (scan name n) S ws ps h = h
  remove_fits (values lists) S ws ps h = h
  remove_fits (extend ss input) S ws ps h =
      let a = scalars_fit ss (tree_width input ∷ ws) ps in let b = tree_fits input S ws ps in
      and_true (scalars_fit ss (tree_width (remove input) ∷ ws) ps)
      (tree_fits (remove input) S ws ps)
      (ap (λ (n : ℕ). scalars_fit ss (n ∷ ws) ps) (remove_width input) ∙ left_true a b h)
      (remove_fits input S ws ps (right_true a b h))
  remove_fits (apply when kind way inner input) S ws ps h =
      let n = tree_width input in let m = tree_width (remove input) in
      let p = without_rest when kind way inner S (n ∷ ws) ps (tree_fits input S ws ps) h in
      let f : NodeFits when kind way (remove inner) S (n ∷ ws) ps = (
        p.0.0,
        way_same way when inner (n ∷ ws) ps p.0.1,
        found_same kind way inner (n ∷ ws) ps p.0.2,
        remove_fits inner S (n ∷ ws) ps p.0.3,
      ) in
      put_fits when kind (remove input) (removed_node when kind way (remove inner) m) S ws ps
      (node_fits when kind way (remove inner) S m ws ps
      (subst (λ (j : ℕ). NodeFits when kind way (remove inner) S (j ∷ ws) ps)
      (sym (remove_width input)) f))
      (remove_fits input S ws ps p.1)
  remove_fits (filter s input) S ws ps h =
      let a = scalar_fits s (tree_width input ∷ ws) ps in let b = tree_fits input S ws ps in
      and_true (scalar_fits s (tree_width (remove input) ∷ ws) ps)
      (tree_fits (remove input) S ws ps)
      (ap (λ (n : ℕ). scalar_fits s (n ∷ ws) ps) (remove_width input) ∙ left_true a b h)
      (remove_fits input S ws ps (right_true a b h))
  remove_fits (keep is input) S ws ps h =
      let a = columns_fit is (tree_width input) in let b = tree_fits input S ws ps in
      and_true (columns_fit is (tree_width (remove input))) (tree_fits (remove input) S ws ps)
      (ap (columns_fit is) (remove_width input) ∙ left_true a b h)
      (remove_fits input S ws ps (right_true a b h))
  remove_fits (cross a b) S ws ps h =
      let x = tree_fits a S ws ps in let y = tree_fits b S ws ps in
      and_true (tree_fits (remove a) S ws ps) (tree_fits (remove b) S ws ps)
      (remove_fits a S ws ps (left_true x y h)) (remove_fits b S ws ps (right_true x y h))
  remove_fits (left_outer nodes s n a b) S ws ps h =
      let k = tree_width a + n in let m = tree_width (remove a) + n in
      let e : k ≡ m = sym (ap (λ (i : ℕ). i + n) (remove_width a)) in
      let x = nodes_fit nodes S k ws ps in let y = scalar_fits s (width nodes k ∷ ws) ps in
      let z = nat_eq (tree_width b) n in let u = tree_fits a S ws ps in
      let v = tree_fits b S ws ps in
      let p : (x && y) ≡ true = left_true (x && y) (z && (u && v)) h in
      let q : (z && (u && v)) ≡ true = right_true (x && y) (z && (u && v)) h in
      let r : (u && v) ≡ true = right_true z (u && v) q in
      let c = remove_nodes nodes (places 0 m) m in
      let f = run_fits nodes S k ws ps (left_true x y p) (places 0 m) m
      (places_below 0 m m (omega arith)) (places_long 0 m ∙ sym e) in
      let M = width c.nodes m in let s' = renamed_scalar s (own_row c.places M) in
      and_true (nodes_fit c.nodes S m ws ps && scalar_fits s' (M ∷ ws) ps)
      (nat_eq (tree_width (remove b)) n
      && (tree_fits (remove a) S ws ps && tree_fits (remove b) S ws ps))
      (and_true (nodes_fit c.nodes S m ws ps) (scalar_fits s' (M ∷ ws) ps) f.fits
      (scalar_renamed s (own_row c.places M) (width nodes k ∷ ws) (M ∷ ws) ps
      (own_has c.places M (width nodes k) ws f.inside f.count) (right_true x y p)))
      (and_true (nat_eq (tree_width (remove b)) n) (tree_fits (remove a) S ws ps
      && tree_fits (remove b) S ws ps)
      (ap (λ (i : ℕ). nat_eq i n) (remove_width b) ∙ left_true z (u && v) q)
      (and_true (tree_fits (remove a) S ws ps) (tree_fits (remove b) S ws ps)
      (remove_fits a S ws ps (left_true u v r)) (remove_fits b S ws ps (right_true u v r))))
  remove_fits (settle input) S ws ps h = remove_fits input S ws ps h
  remove_fits (group keys ags input) S ws ps h =
      let a = columns_fit keys (tree_width input) && aggregates_fit ags (tree_width input) in
      let b = tree_fits input S ws ps in
      and_true (columns_fit keys (tree_width (remove input))
      && aggregates_fit ags (tree_width (remove input))) (tree_fits (remove input) S ws ps)
      (ap (λ (i : ℕ). columns_fit keys i && aggregates_fit ags i) (remove_width input)
      ∙ left_true a b h) (remove_fits input S ws ps (right_true a b h))
  remove_fits (sort keys input) S ws ps h =
      let a = keys_fit keys (tree_width input) in let b = tree_fits input S ws ps in
      and_true (keys_fit keys (tree_width (remove input))) (tree_fits (remove input) S ws ps)
      (ap (keys_fit keys) (remove_width input) ∙ left_true a b h)
      (remove_fits input S ws ps (right_true a b h))

  run_fits : (nodes : Nodes) (S : List ℕ → ℕ) (k : ℕ) (ws : List ℕ) (ps : ℕ) →
      nodes_fit nodes S k ws ps ≡ true → (outs : List ℕ) (m : ℕ) →
      PlacesIn outs m → length outs ≡ k → RunFits (remove_nodes nodes outs m) nodes S k m ws ps
  run_fits no_node S k ws ps h outs m p e = record { fits = refl; inside = p; count = e }
  run_fits (extend_by ss rest) S k ws ps h outs m p e =
      let names = own_row outs m in let ss' = renamed_scalars ss names in let j = scalar_count ss in
      let is = outs ++ places m j in
      let a = scalars_fit ss (k ∷ ws) ps in let b = nodes_fit rest S (k + j) ws ps in
      let c = remove_nodes rest is (m + j) in
      let r = run_fits rest S (k + j) ws ps (right_true a b h) is (m + j)
      (places_append outs (places m j) (m + j) (places_wide outs m (m + j) (omega arith) p)
      (places_below m j (m + j) (omega arith)))
      (length-append outs (places m j) ∙ both (λ (x y : ℕ). x + y) _ _ _ _ e (places_long m j)) in
      let w : m + scalar_count ss' ≡ m + j = ap (λ (i : ℕ). m + i) (count_renamed ss names) in
      record {
        fits = and_true (scalars_fit ss' (m ∷ ws) ps)
            (nodes_fit c.nodes S (m + scalar_count ss') ws ps)
            (scalars_renamed ss names (k ∷ ws) (m ∷ ws) ps (own_has outs m k ws p e)
            (left_true a b h))
            (ap (λ (i : ℕ). nodes_fit c.nodes S i ws ps) w ∙ r.fits);
        inside = subst (λ (i : ℕ). PlacesIn c.places (width c.nodes i)) (sym w) r.inside;
        count = r.count;
      }
  run_fits (apply_by when kind way inner rest) S k ws ps h outs m p e =
      let names = own_row outs m in let when' = renamed_scalar when names in
      let kind' = renamed_kind kind names in let way' = renamed_way way names in
      let plan = renamed_tree (remove inner) names in
      let q = without_rest when kind way inner S (k ∷ ws) ps
      (nodes_fit rest S (k + kind_width kind) ws ps) h in
      let f : NodeFits when kind way (remove inner) S (k ∷ ws) ps = (
        q.0.0,
        way_same way when inner (k ∷ ws) ps q.0.1,
        found_same kind way inner (k ∷ ws) ps q.0.2,
        remove_fits inner S (k ∷ ws) ps q.0.3,
      ) in
      let has = own_has outs m k ws p e in
      put_by_fits when' kind' when kind way inner outs k m (removed_node when' kind' way' plan m)
      (remove_nodes rest) rest S ws ps
      (node_fits when' kind' way' plan S m ws ps
      (node_renamed when kind way (remove inner) S names (k ∷ ws) (m ∷ ws) ps has f
      (fits_renamed (remove inner) S names (k ∷ ws) (m ∷ ws) ps has f.3)))
      p e (kind_width_renamed kind names)
      (λ is j x y. run_fits rest S (k + kind_width kind) ws ps q.1 is j x y)

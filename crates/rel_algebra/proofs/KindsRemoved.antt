-- What removal makes of a plan whose operands have their kinds has them too, and columns of the
-- same kinds.
use Rattle.std.proofs.Common.{◌≡◌, ℕ, zero, suc, ◌+◌, ◌<◌, Bool, true, false, ◌&&◌, ◌||◌, List, []}
use Rattle.std.proofs.Common.{◌∷◌, ◌++◌, length, refl, ap, sym, ◌∙◌, subst, arith, append_assoc}
use Rattle.std.proofs.Common.{length-append}
use Rattle.sql_values.specs.declared.operators.Comparison.TheVariants.{Equals}
use Rattle.sql_values.specs.declared.value.Value.TheVariants.{Int, Null, Str, Bool as Truth}
use Rattle.rel_algebra.specs.Emit.{width, if_values}
use Rattle.rel_algebra.specs.Even.{IsEven, KindEven, ListsEven, NodesEven, PlacesIn}
use Rattle.rel_algebra.specs.Joins.{places}
use Rattle.rel_algebra.specs.Kinds.{BooleanKind, DataKind, Kinds, NullKind, agree, agree_all}
use Rattle.rel_algebra.specs.Kinds.{aggregate_kinds, aggregates_good, apply_kinds, found_kinds}
use Rattle.rel_algebra.specs.Kinds.{is_test, join_kinds, keys_good, kind_at, kind_good, kinds_at}
use Rattle.rel_algebra.specs.Kinds.{kinds_row, lists_good, lists_kinds, nodes_good, nodes_kinds}
use Rattle.rel_algebra.specs.Kinds.{scalar_good, scalar_kind, scalars_good, scalars_kinds}
use Rattle.rel_algebra.specs.Kinds.{tree_good, tree_kinds, way_good, word_good, word_kind}
use Rattle.rel_algebra.specs.Plan.{Kind, Nodes, PlanTree, Scalar, Scalars, Way, aggregate, anew}
use Rattle.rel_algebra.specs.Plan.{apply, apply_by, argument, case_word, column, constant, cross}
use Rattle.rel_algebra.specs.Plan.{exists, extend, extend_by, filter, found_width, group, keep}
use Rattle.rel_algebra.specs.Plan.{kind_width, left_outer, lists_width, lookup, member, more}
use Rattle.rel_algebra.specs.Plan.{no_node, none, once, other_places, scalar_count, scan, settle}
use Rattle.rel_algebra.specs.Plan.{single, sort, strict, tree_width, unit_row, values, word, into}
use Rattle.rel_algebra.specs.Regions.{Columns, into_scalars, region, region_cells, region_columns}
use Rattle.rel_algebra.specs.Regions.{where_all, where_true}
use Rattle.rel_algebra.specs.Remove.{Removed, as_columns, as_node, once_way, put, put_by, remove}
use Rattle.rel_algebra.specs.Remove.{remove_nodes, removed_node}
use Rattle.rel_algebra.specs.Removal.{chained, is_key, is_region, kind_stays, of_region, stays}
use Rattle.rel_algebra.specs.Removal.{stays_all, tree_within, way_stays}
use Rattle.rel_algebra.specs.Renaming.{Renaming, inside, merged_row, own_row, place_in, places_in}
use Rattle.rel_algebra.specs.Renaming.{renamed_keys, renamed_kind, renamed_lists, renamed_nodes}
use Rattle.rel_algebra.specs.Renaming.{renamed_scalar, renamed_scalars, renamed_tree, renamed_way}
use Rattle.rel_algebra.specs.Tree.{Comparing, AnyOf}
use Rattle.rel_algebra.specs.Widening.{Wide, at_base, keys_from, lookup_keys, lookup_plan}
use Rattle.rel_algebra.specs.Widening.{test_places, widened, with_key, with_test}
use Rattle.rel_algebra.proofs.EvenRemoved.{RemovedEven, node_even, once_by, remove_even, removed_by}
use Rattle.rel_algebra.proofs.EvenRemoved.{removed_even, renamed_even, wide_even}
use Rattle.rel_algebra.proofs.KindNodes.{PlanIs, aggregates_long, after_grow, after_join}
use Rattle.rel_algebra.proofs.KindNodes.{after_long, apply_long, good_join, kinds_long, kinds_wider}
use Rattle.rel_algebra.proofs.KindNodes.{on_each_is}
use Rattle.rel_algebra.proofs.KindRows.{KindsGrow, first_kinds_columns, kinds_grow_at}
use Rattle.rel_algebra.proofs.KindRows.{kinds_grow_by, kinds_grow_same, kinds_grown_columns}
use Rattle.rel_algebra.proofs.KindRows.{kinds_only_at}
use Rattle.rel_algebra.proofs.KindWords.{Has, agree_null, if_values_has, join_null, HaveAll}
use Rattle.rel_algebra.proofs.Regions.{placed}
use Rattle.rel_algebra.proofs.Renamed.{count_renamed, kind_width_renamed, others_renamed}
use Rattle.rel_algebra.proofs.Renamed.{width_renamed}
use Rattle.rel_algebra.proofs.Rules.{TestsIn}
use Rattle.rel_algebra.proofs.Staying.{filter_by}
use Rattle.rel_algebra.proofs.Truths.{and_true, both, left_true, never, right_true}
use Rattle.rel_algebra.proofs.Widening.{lookup_others}
use Rattle.rel_algebra.proofs.Places.{places_append, places_below, places_wide}
use Rattle.rel_algebra.proofs.Widths.{width_more}

-- Renamed plans.
abbrev pub Told : Renaming → List Kinds → List Kinds → Type 0
Told names us ks = (level i : ℕ) → kind_at (kinds_row us (names level i).0) (names level i).1
    ≡ kind_at (kinds_row ks level) i

inside_told : (names : Renaming) (us ks : List Kinds) (r r' : Kinds) → r' ≡ r → Told names us ks →
    Told (inside names) (r' ∷ us) (r ∷ ks)
inside_told names us ks r r' e h zero i = ap (λ (x : Kinds). kind_at x i) e
inside_told names us ks r r' e h (suc level) i = h level i

mutual
  kind_renamed : (s : Scalar) (names : Renaming) (us ks : List Kinds) (ps : Kinds) →
      Told names us ks →
      scalar_kind (renamed_scalar s names) us ps ≡ scalar_kind s ks ps
  kind_renamed (constant v) names us ks ps h = refl
  kind_renamed (column level i) names us ks ps h = h level i
  kind_renamed (argument i) names us ks ps h = refl
  kind_renamed (word w ss) names us ks ps h = ap (word_kind w) (kinds_renamed ss names us ks ps h)

  kinds_renamed : (ss : Scalars) (names : Renaming) (us ks : List Kinds) (ps : Kinds) →
      Told names us ks →
      scalars_kinds (renamed_scalars ss names) us ps ≡ scalars_kinds ss ks ps
  kinds_renamed none names us ks ps h = refl
  kinds_renamed (more s ss) names us ks ps h =
      λ i. kind_renamed s names us ks ps h i ∷ kinds_renamed ss names us ks ps h i

mutual
  good_renamed : (s : Scalar) (names : Renaming) (us ks : List Kinds) (ps : Kinds) →
      Told names us ks →
      scalar_good (renamed_scalar s names) us ps ≡ scalar_good s ks ps
  good_renamed (constant v) names us ks ps h = refl
  good_renamed (column level i) names us ks ps h = refl
  good_renamed (argument i) names us ks ps h = refl
  good_renamed (word w ss) names us ks ps h =
      λ i. goods_renamed ss names us ks ps h i && word_good w (kinds_renamed ss names us ks ps h i)

  goods_renamed : (ss : Scalars) (names : Renaming) (us ks : List Kinds) (ps : Kinds) →
      Told names us ks →
      scalars_good (renamed_scalars ss names) us ps ≡ scalars_good ss ks ps
  goods_renamed none names us ks ps h = refl
  goods_renamed (more s ss) names us ks ps h =
      λ i. good_renamed s names us ks ps h i && goods_renamed ss names us ks ps h i

test_renamed : (s : Scalar) (names : Renaming) (us ks : List Kinds) (ps : Kinds) →
    Told names us ks →
    is_test (renamed_scalar s names) us ps ≡ is_test s ks ps
test_renamed s names us ks ps h =
    λ i. good_renamed s names us ks ps h i && agree (kind_renamed s names us ks ps h i) BooleanKind

lists_kinds_renamed : (lists : List Scalars) (names : Renaming) (us ks : List Kinds) (ps : Kinds) →
    Told names us ks →
    lists_kinds (renamed_lists lists names) us ps ≡ lists_kinds lists ks ps
lists_kinds_renamed [] names us ks ps h = refl
lists_kinds_renamed (ss ∷ []) names us ks ps h = kinds_renamed ss names us ks ps h
lists_kinds_renamed (ss ∷ other ∷ lists) names us ks ps h =
    λ i. join_kinds (kinds_renamed ss names us ks ps h i)
    (lists_kinds_renamed (other ∷ lists) names us ks ps h i)

lists_good_renamed : (lists : List Scalars) (names : Renaming) (us ks : List Kinds) (ps : Kinds) →
    Told names us ks →
    lists_good (renamed_lists lists names) us ps ≡ lists_good lists ks ps
lists_good_renamed [] names us ks ps h = refl
lists_good_renamed (ss ∷ []) names us ks ps h = goods_renamed ss names us ks ps h
lists_good_renamed (ss ∷ other ∷ lists) names us ks ps h =
    λ i. goods_renamed ss names us ks ps h i
    && (agree_all (kinds_renamed ss names us ks ps h i)
    (lists_kinds_renamed (other ∷ lists) names us ks ps h i)
    && lists_good_renamed (other ∷ lists) names us ks ps h i)

apply_kinds_renamed : (kind : Kind) (names : Renaming) (r : Kinds) →
    apply_kinds (renamed_kind kind names) r ≡ apply_kinds kind r
apply_kinds_renamed single names r = refl
apply_kinds_renamed exists names r = refl
apply_kinds_renamed (member s) names r = refl
apply_kinds_renamed (aggregate ags) names r = refl
apply_kinds_renamed (into k) names r = refl

found_renamed : (way : Way) (names : Renaming) (r : Kinds) → found_kinds (renamed_way way names) r
    ≡ found_kinds way r
found_renamed anew names r = refl
found_renamed once names r = refl
found_renamed (lookup keys) names r = ap (kinds_at r) (others_renamed keys names 0 (length r))

keys_renamed : (keys : List (ℕ × Scalar)) (names : Renaming) (r : Kinds) (us ks : List Kinds)
    (ps : Kinds) → Told names us ks →
    keys_good (renamed_keys keys names) r us ps ≡ keys_good keys r ks ps
keys_renamed [] names r us ks ps h = refl
keys_renamed (k ∷ keys) names r us ks ps h =
    λ i. (good_renamed k.1 names us ks ps h i
    && agree (kind_at r k.0) (kind_renamed k.1 names us ks ps h i))
    && keys_renamed keys names r us ks ps h i

way_renamed : (way : Way) (names : Renaming) (r : Kinds) (us ks : List Kinds) (ps : Kinds) →
    Told names us ks →
    way_good (renamed_way way names) r us ps ≡ way_good way r ks ps
way_renamed anew names r us ks ps h = refl
way_renamed once names r us ks ps h = refl
way_renamed (lookup keys) names r us ks ps h = keys_renamed keys names r us ks ps h

kind_good_renamed : (kind : Kind) (names : Renaming) (r : Kinds) (us ks : List Kinds) (ps : Kinds) →
    Told names us ks →
    kind_good (renamed_kind kind names) r us ps ≡ kind_good kind r ks ps
kind_good_renamed single names r us ks ps h = refl
kind_good_renamed exists names r us ks ps h = refl
kind_good_renamed (member s) names r us ks ps h = λ i. good_renamed s names us ks ps h i
    && agree (kind_renamed s names us ks ps h i) (kind_at r 0)
kind_good_renamed (aggregate ags) names r us ks ps h = refl
kind_good_renamed (into k) names r us ks ps h = refl

-- the tests of a node
abbrev pub node_good : Scalar → Kind → Way → Kinds → List Kinds → Kinds → Bool
node_good when kind way r ks ps =
    is_test when ks ps && (way_good way r ks ps && kind_good kind (found_kinds way r) ks ps)

node_renamed : (when : Scalar) (kind : Kind) (way : Way) (names : Renaming) (r r' : Kinds)
    (us ks : List Kinds) (ps : Kinds) → r' ≡ r → Told names us ks →
    node_good (renamed_scalar when names) (renamed_kind kind names) (renamed_way way names) r' us ps
    ≡ node_good when kind way r ks ps
node_renamed when kind way names r r' us ks ps e h =
    ap (λ (x : Kinds). node_good (renamed_scalar when names) (renamed_kind kind names)
    (renamed_way way names) x us ps) e
    ∙ (ap (λ (x : Kinds). is_test (renamed_scalar when names) us ps
    && (way_good (renamed_way way names) r us ps && kind_good (renamed_kind kind names) x us ps))
    (found_renamed way names r)
    ∙ λ i. test_renamed when names us ks ps h i
    && (way_renamed way names r us ks ps h i
    && kind_good_renamed kind names (found_kinds way r) us ks ps h i))

added_renamed : (kind : Kind) (way : Way) (names : Renaming) (r r' : Kinds) → r' ≡ r →
    apply_kinds (renamed_kind kind names) (found_kinds (renamed_way way names) r')
    ≡ apply_kinds kind (found_kinds way r)
added_renamed kind way names r r' e =
    ap (apply_kinds (renamed_kind kind names)) (ap (found_kinds (renamed_way way names)) e
    ∙ found_renamed way names r)
    ∙ apply_kinds_renamed kind names (found_kinds way r)

mutual
  pub tree_kinds_renamed : (t : PlanTree) (names : Renaming) (T : List ℕ →
      Kinds) (us ks : List Kinds) (ps : Kinds) → Told names us ks →
      tree_kinds (renamed_tree t names) T us ps ≡ tree_kinds t T ks ps
  tree_kinds_renamed unit_row names T us ks ps h = refl
  tree_kinds_renamed (scan name n) names T us ks ps h = refl
  tree_kinds_renamed (values lists) names T us ks ps h = lists_kinds_renamed lists (inside names)
      ([] ∷ us) ([] ∷ ks) ps (inside_told names us ks [] [] refl h)
  tree_kinds_renamed (extend ss input) names T us ks ps h =
      let e = tree_kinds_renamed input names T us ks ps h in
      both (λ (x y : Kinds). x ++ y) _ _ _ _ e
      (kinds_renamed ss (inside names) _ _ ps
      (inside_told names us ks (tree_kinds input T ks ps) _ e h))
  tree_kinds_renamed (apply when kind way inner input) names T us ks ps h =
      let e = tree_kinds_renamed input names T us ks ps h in
      let j = inside_told names us ks (tree_kinds input T ks ps) _ e h in
      both (λ (x y : Kinds). x ++ y) _ _ _ _ e
      (added_renamed kind way (inside names) _ _
      (tree_kinds_renamed inner (inside names) T _ _ ps j))
  tree_kinds_renamed (filter s input) names T us ks ps h =
      tree_kinds_renamed input names T us ks ps h
  tree_kinds_renamed (keep is input) names T us ks ps h =
      ap (λ (x : Kinds). kinds_at x is) (tree_kinds_renamed input names T us ks ps h)
  tree_kinds_renamed (cross a b) names T us ks ps h =
      λ i. tree_kinds_renamed a names T us ks ps h i ++ tree_kinds_renamed b names T us ks ps h i
  tree_kinds_renamed (left_outer nodes s n a b) names T us ks ps h =
      λ i. tree_kinds_renamed a names T us ks ps h i ++ tree_kinds_renamed b names T us ks ps h i
  tree_kinds_renamed (settle input) names T us ks ps h = tree_kinds_renamed input names T us ks ps h
  tree_kinds_renamed (group keys ags input) names T us ks ps h =
      ap (λ (x : Kinds). kinds_at x keys ++ aggregate_kinds ags x)
      (tree_kinds_renamed input names T us ks ps h)
  tree_kinds_renamed (sort keys input) names T us ks ps h =
      tree_kinds_renamed input names T us ks ps h

run_kinds_renamed : (nodes : Nodes) (names : Renaming) (T : List ℕ →
    Kinds) (r r' : Kinds) (us ks : List Kinds) (ps : Kinds) → r' ≡ r → Told names us ks →
    nodes_kinds (renamed_nodes nodes (inside names)) T r' us ps ≡ nodes_kinds nodes T r ks ps
run_kinds_renamed no_node names T r r' us ks ps e h = e
run_kinds_renamed (extend_by ss rest) names T r r' us ks ps e h =
    run_kinds_renamed rest names T (r ++ scalars_kinds ss (r ∷ ks) ps) _ us ks ps
    (both (λ (x y : Kinds). x ++ y) _ _ _ _ e (kinds_renamed ss (inside names) (r' ∷ us) (r ∷ ks) ps
    (inside_told names us ks r r' e h))) h
run_kinds_renamed (apply_by when kind way inner rest) names T r r' us ks ps e h =
    run_kinds_renamed rest names T
    (r ++ apply_kinds kind (found_kinds way (tree_kinds inner T (r ∷ ks) ps))) _ us ks ps
    (both (λ (x y : Kinds). x ++ y) _ _ _ _ e (added_renamed kind way (inside names) _ _
    (tree_kinds_renamed inner (inside names) T (r' ∷ us) (r ∷ ks) ps
    (inside_told names us ks r r' e h)))) h

mutual
  pub tree_good_renamed : (t : PlanTree) (names : Renaming) (T : List ℕ →
      Kinds) (us ks : List Kinds) (ps : Kinds) → Told names us ks →
      tree_good (renamed_tree t names) T us ps ≡ tree_good t T ks ps
  tree_good_renamed unit_row names T us ks ps h = refl
  tree_good_renamed (scan name n) names T us ks ps h = refl
  tree_good_renamed (values lists) names T us ks ps h = lists_good_renamed lists (inside names)
      ([] ∷ us) ([] ∷ ks) ps (inside_told names us ks [] [] refl h)
  tree_good_renamed (extend ss input) names T us ks ps h =
      let j = inside_told names us ks (tree_kinds input T ks ps) _
      (tree_kinds_renamed input names T us ks ps h) h in
      both (λ (x y : Bool). x && y) _ _ _ _ (goods_renamed ss (inside names) _ _ ps j)
      (tree_good_renamed input names T us ks ps h)
  tree_good_renamed (apply when kind way inner input) names T us ks ps h =
      let j = inside_told names us ks (tree_kinds input T ks ps) _
      (tree_kinds_renamed input names T us ks ps h) h in
      let a = node_renamed when kind way (inside names) _ _ _ _ ps
      (tree_kinds_renamed inner (inside names) T _ _ ps j) j in
      let b = tree_good_renamed inner (inside names) T _ _ ps j in
      let c = tree_good_renamed input names T us ks ps h in λ i. a i && (b i && c i)
  tree_good_renamed (filter s input) names T us ks ps h =
      let j = inside_told names us ks (tree_kinds input T ks ps) _
      (tree_kinds_renamed input names T us ks ps h) h in
      both (λ (x y : Bool). x && y) _ _ _ _ (test_renamed s (inside names) _ _ ps j)
      (tree_good_renamed input names T us ks ps h)
  tree_good_renamed (keep is input) names T us ks ps h = tree_good_renamed input names T us ks ps h
  tree_good_renamed (cross a b) names T us ks ps h =
      λ i. tree_good_renamed a names T us ks ps h i && tree_good_renamed b names T us ks ps h i
  tree_good_renamed (left_outer nodes s n a b) names T us ks ps h =
      let e : tree_kinds (renamed_tree a names) T us ps ++ tree_kinds (renamed_tree b names) T us ps
      ≡ tree_kinds a T ks ps ++ tree_kinds b T ks ps =
      λ i. tree_kinds_renamed a names T us ks ps h i ++ tree_kinds_renamed b names T us ks ps h i in
      let f = run_kinds_renamed nodes names T _ _ us ks ps e h in
      let x = run_good_renamed nodes names T _ _ us ks ps e h in
      let y = test_renamed s (inside names) _ _ ps (inside_told names us ks _ _ f h) in
      λ i. (x i && y i) && (tree_good_renamed a names T us ks ps h i
      && tree_good_renamed b names T us ks ps h i)
  tree_good_renamed (settle input) names T us ks ps h = tree_good_renamed input names T us ks ps h
  tree_good_renamed (group keys ags input) names T us ks ps h =
      λ i. aggregates_good ags (tree_kinds_renamed input names T us ks ps h i)
      && tree_good_renamed input names T us ks ps h i
  tree_good_renamed (sort keys input) names T us ks ps h =
      tree_good_renamed input names T us ks ps h

  run_good_renamed : (nodes : Nodes) (names : Renaming) (T : List ℕ →
      Kinds) (r r' : Kinds) (us ks : List Kinds) (ps : Kinds) → r' ≡ r → Told names us ks →
      nodes_good (renamed_nodes nodes (inside names)) T r' us ps ≡ nodes_good nodes T r ks ps
  run_good_renamed no_node names T r r' us ks ps e h = refl
  run_good_renamed (extend_by ss rest) names T r r' us ks ps e h =
      let j = inside_told names us ks r r' e h in
      both (λ (x y : Bool). x && y) _ _ _ _
      (goods_renamed ss (inside names) (r' ∷ us) (r ∷ ks) ps j)
      (run_good_renamed rest names T _ _ us ks ps
      (both (λ (x y : Kinds). x ++ y) _ _ _ _ e
      (kinds_renamed ss (inside names) (r' ∷ us) (r ∷ ks) ps j)) h)
  run_good_renamed (apply_by when kind way inner rest) names T r r' us ks ps e h =
      let j = inside_told names us ks r r' e h in
      let k = tree_kinds_renamed inner (inside names) T (r' ∷ us) (r ∷ ks) ps j in
      let a = node_renamed when kind way (inside names) _ _ (r' ∷ us) (r ∷ ks) ps k j in
      let b = tree_good_renamed inner (inside names) T (r' ∷ us) (r ∷ ks) ps j in
      let c = run_good_renamed rest names T _ _ us ks ps
      (both (λ (x y : Kinds). x ++ y) _ _ _ _ e (added_renamed kind way (inside names) _ _ k)) h in
      λ i. a i && (b i && c i)

-- How many columns.
abbrev pub KindsEven : (List ℕ → Kinds) → (List ℕ → ℕ) → Type 0
KindsEven T S = (name : List ℕ) → length (T name) ≡ S name

join_long : (a b : Kinds) → length a ≡ length b → length (join_kinds a b) ≡ length a
join_long [] b h = refl
join_long (x ∷ a) [] h = absurd (omega arith)
join_long (x ∷ a) (y ∷ b) h = ap suc (join_long a b (omega arith))

lists_long : (ss : Scalars) (lists : List Scalars) (k : ℕ) (ks : List Kinds) (ps : Kinds) →
    ListsEven (ss ∷ lists) k → length (lists_kinds (ss ∷ lists) ks ps) ≡ k
lists_long ss [] k ks ps h = kinds_long ss ks ps ∙ h.0
lists_long ss (other ∷ lists) k ks ps h =
    let a = kinds_long ss ks ps ∙ h.0 in
    join_long (scalars_kinds ss ks ps) (lists_kinds (other ∷ lists) ks ps) (a
    ∙ sym (lists_long other lists k ks ps h.1)) ∙ a

all_lists_long : (lists : List Scalars) (ks : List Kinds) (ps : Kinds) →
    ListsEven lists (lists_width lists) → length (lists_kinds lists ks ps) ≡ lists_width lists
all_lists_long [] ks ps h = refl
all_lists_long (ss ∷ lists) ks ps h = lists_long ss lists (scalar_count ss) ks ps h

pub kinds_at_long : (r : Kinds) (is : List ℕ) → length (kinds_at r is) ≡ length is
kinds_at_long r [] = refl
kinds_at_long r (i ∷ is) = ap suc (kinds_at_long r is)

pub kinds_wide : (t : PlanTree) (S : List ℕ → ℕ) (T : List ℕ → Kinds) → KindsEven T S → IsEven t S →
    (ks : List Kinds) (ps : Kinds) →
    length (tree_kinds t T ks ps) ≡ tree_width t
kinds_wide unit_row S T e h ks ps = refl
kinds_wide (scan name n) S T e h ks ps = e name ∙ sym h
kinds_wide (values lists) S T e h ks ps = all_lists_long lists ([] ∷ ks) ps h
kinds_wide (extend ss t) S T e h ks ps =
    kinds_wider (tree_kinds t T ks ps) (scalars_kinds ss (tree_kinds t T ks ps ∷ ks) ps)
    (tree_width t) (scalar_count ss) (kinds_wide t S T e h ks ps)
    (kinds_long ss (tree_kinds t T ks ps ∷ ks) ps)
kinds_wide (apply when kind way inner t) S T e h ks ps =
    kinds_wider (tree_kinds t T ks ps) _ (tree_width t) (kind_width kind)
    (kinds_wide t S T e h.2 ks ps)
    (apply_long kind (found_kinds way (tree_kinds inner T (tree_kinds t T ks ps ∷ ks) ps)))
kinds_wide (filter s t) S T e h ks ps = kinds_wide t S T e h ks ps
kinds_wide (keep is t) S T e h ks ps = kinds_at_long (tree_kinds t T ks ps) is
kinds_wide (cross a b) S T e h ks ps =
    kinds_wider (tree_kinds a T ks ps) (tree_kinds b T ks ps) (tree_width a) (tree_width b)
    (kinds_wide a S T e h.0 ks ps) (kinds_wide b S T e h.1 ks ps)
kinds_wide (left_outer nodes s n a b) S T e h ks ps =
    kinds_wider (tree_kinds a T ks ps) (tree_kinds b T ks ps) (tree_width a) n
    (kinds_wide a S T e h.2 ks ps) (kinds_wide b S T e h.3 ks ps ∙ h.1)
kinds_wide (settle t) S T e h ks ps = kinds_wide t S T e h ks ps
kinds_wide (group keys ags t) S T e h ks ps =
    kinds_wider (kinds_at (tree_kinds t T ks ps) keys) (aggregate_kinds ags (tree_kinds t T ks ps))
    (length keys) (length ags)
    (kinds_at_long (tree_kinds t T ks ps) keys) (aggregates_long ags (tree_kinds t T ks ps))
kinds_wide (sort keys t) S T e h ks ps = kinds_wide t S T e h ks ps

-- Places.
past_end : (z : Kinds) (i : ℕ) → kind_at z (length z + i) ≡ NullKind
past_end [] i = refl
past_end (c ∷ z) i = ap (kind_at (c ∷ z)) (let e : suc (length z) + i
    ≡ suc (length z + i) = omega arith in e) ∙ past_end z i

place_kind : (outs : List ℕ) (n i : ℕ) (z : Kinds) → length z ≡ n → kind_at z (place_in outs n i)
    ≡ kind_at (kinds_at z outs) i
place_kind [] n i z e = ap (λ (m : ℕ). kind_at z (m + i)) (sym e) ∙ past_end z i
place_kind (j ∷ outs) n zero z e = refl
place_kind (j ∷ outs) n (suc i) z e = place_kind outs n i z e

own_told : (outs : List ℕ) (n : ℕ) (z r : Kinds) (ks : List Kinds) → length z ≡ n →
    kinds_at z outs ≡ r → Told (own_row outs n) (z ∷ ks) (r ∷ ks)
own_told outs n z r ks e h zero i = place_kind outs n i z e ∙ ap (λ (x : Kinds). kind_at x i) h
own_told outs n z r ks e h (suc level) i = refl

merged_told : (n : ℕ) (outs : List ℕ) (m : ℕ) (z q r : Kinds) (ks : List Kinds) → length z ≡ m →
    length r ≡ n → KindsGrow r z → kinds_at z outs ≡ q →
    Told (merged_row n outs m) (z ∷ ks) (q ∷ r ∷ ks)
merged_told n outs m z q r ks e d g h zero i =
    place_kind outs m i z e ∙ ap (λ (x : Kinds). kind_at x i) h
merged_told n outs m z q r ks e d g h (suc zero) i =
    place_kind (places 0 n) m i z e
    ∙ ap (λ (x : Kinds). kind_at x i) (first_kinds_columns r z n d g)
merged_told n outs m z q r ks e d g h (suc (suc level)) i = refl

places_kinds : (outs : List ℕ) (n : ℕ) (is : List ℕ) (z : Kinds) → length z ≡ n →
    kinds_at z (places_in outs n is) ≡ kinds_at (kinds_at z outs) is
places_kinds outs n [] z e = refl
places_kinds outs n (i ∷ is) z e = λ t. place_kind outs n i z e t ∷ places_kinds outs n is z e t

kinds_append : (z : Kinds) (a b : List ℕ) → kinds_at z (a ++ b) ≡ kinds_at z a ++ kinds_at z b
kinds_append z [] b = refl
kinds_append z (i ∷ a) b = ap (λ (cs : Kinds). kind_at z i ∷ cs) (kinds_append z a b)

front_kinds : (z y : Kinds) (outs : List ℕ) (n : ℕ) → length z ≡ n → PlacesIn outs n →
    KindsGrow z y → kinds_at y outs ≡ kinds_at z outs
front_kinds z y [] n e h g = refl
front_kinds z y (i ∷ outs) n e h g =
    λ t. kinds_grow_at z y i g (subst (λ (m : ℕ). i < m) (sym e) h.0) t
    ∷ front_kinds z y outs n e h.1 g t

grown_kinds : (z x : Kinds) (outs : List ℕ) (n k : ℕ) → length z ≡ n → length x ≡ k →
    PlacesIn outs n →
    kinds_at (z ++ x) (outs ++ places n k) ≡ kinds_at z outs ++ x
grown_kinds z x outs n k e d h =
    kinds_append (z ++ x) outs (places n k)
    ∙ both (λ (a b : Kinds). a ++ b) _ _ _ _ (front_kinds z (z ++ x) outs n e h (kinds_grow_by z x))
    (kinds_grown_columns z x (z ++ x) n k e d (kinds_grow_same (z ++ x)))

own_kinds : (z : Kinds) (n : ℕ) → length z ≡ n → kinds_at z (places 0 n) ≡ z
own_kinds z n e = first_kinds_columns z z n e (kinds_grow_same z)

-- Wide plans.
abbrev pub KeysHold : List (ℕ × Scalar) → Kinds → List Kinds → Kinds → Type 0
KeysHold [] r ks ps = Unit {0}
KeysHold (k ∷ tests) r ks ps =
    ((scalar_good k.1 ks ps ≡ true) × (agree (kind_at r k.0) (scalar_kind k.1 ks ps) ≡ true))
    × KeysHold tests r ks ps

keys_grow : (tests : List (ℕ × Scalar)) (r y : Kinds) (n : ℕ) (ks : List Kinds) (ps : Kinds) →
    length r ≡ n → TestsIn tests n → KindsGrow r y →
    KeysHold tests r ks ps → KeysHold tests y ks ps
keys_grow [] r y n ks ps e l g h = tt
keys_grow (k ∷ tests) r y n ks ps e l g h = (
  (
    h.0.0,
    ap (λ (x : DataKind). agree x (scalar_kind k.1 ks ps))
        (kinds_grow_at r y k.0 g (subst (λ (m : ℕ). k.0 < m) (sym e) l.0)) ∙ h.0.1,
  ),
  keys_grow tests r y n ks ps e l.1 g h.1,
)

keys_more : (tests : List (ℕ × Scalar)) (k : ℕ × Scalar) (r : Kinds) (ks : List Kinds)
    (ps : Kinds) → KeysHold tests r ks ps →
    scalar_good k.1 ks ps ≡ true → agree (kind_at r k.0) (scalar_kind k.1 ks ps) ≡ true →
    KeysHold (tests ++ k ∷ []) r ks ps
keys_more [] k r ks ps h a b = ((a, b), tt)
keys_more (x ∷ tests) k r ks ps h a b = (h.0, keys_more tests k r ks ps h.1 a b)

record WideGood (c : Wide) (t : PlanTree) (T : List ℕ →
    Kinds) (ks : List Kinds) (ps : Kinds) : Type 0 where
  good : tree_good c.below T ks ps ≡ true
  kinds : kinds_at (tree_kinds c.below T ks ps) c.outs ≡ tree_kinds t T ks ps
  tests : KeysHold c.tests (tree_kinds c.below T ks ps) ks ps

base_good : (t : PlanTree) (S : List ℕ → ℕ) (T : List ℕ → Kinds) → KindsEven T S → IsEven t S →
    (ks : List Kinds) (ps : Kinds) →
    tree_good t T ks ps ≡ true → WideGood (at_base t) t T ks ps
base_good t S T e h ks ps g =
    record {
      good = g;
      kinds = own_kinds (tree_kinds t T ks ps) (tree_width t)
          (kinds_wide t S T e h ks ps);
      tests = tt;
    }

test_good : (tests : List (ℕ × Scalar)) (s : Scalar) (c : Wide) (t : PlanTree) (T : List ℕ →
    Kinds) (ks : List Kinds) (ps : Kinds) →
    length (tree_kinds c.below T ks ps) ≡ tree_width c.below →
    PlacesIn c.outs (tree_width c.below) → TestsIn c.tests (tree_width c.below) →
    is_test s (tree_kinds c.below T ks ps ∷ ks) ps ≡ true → WideGood c t T ks ps →
    WideGood (with_test tests s c) t T ks ps
test_good [] s c t T ks ps e o l p h = record {
  good = and_true (is_test s (tree_kinds c.below T ks ps ∷ ks) ps) (tree_good c.below T ks ps) p
      h.good;
  kinds = h.kinds;
  tests = h.tests;
}
test_good (x ∷ tests) s c t T ks ps e o l p h =
    let B = tree_kinds c.below T ks ps in let n = tree_width c.below in
    let a = scalar_good s (B ∷ ks) ps in let k = scalar_kind s (B ∷ ks) ps in
    let y = B ++ k ∷ [] in let g = kinds_grow_by B (k ∷ []) in record {
      good = and_true (a && true) (tree_good c.below T ks ps)
          (and_true a true (left_true a (agree k BooleanKind) p) refl) h.good;
      kinds = front_kinds B y c.outs n e o g ∙ h.kinds;
      tests = keys_more c.tests (n, constant (Truth true)) y ks ps
          (keys_grow c.tests B y n ks ps e l g h.tests) refl
          (ap (λ (x : DataKind). agree x BooleanKind) (ap (kind_at y) (sym e)
          ∙ kinds_only_at B [] k) ∙ right_true a (agree k BooleanKind) p);
    }

key_good : (s : Scalar) (c : Wide) (t : PlanTree) (T : List ℕ →
    Kinds) (ks : List Kinds) (ps : Kinds) →
    length (tree_kinds c.below T ks ps) ≡ tree_width c.below →
    is_test s (tree_kinds t T ks ps ∷ ks) ps ≡ true → WideGood c t T ks ps →
    WideGood (with_key s c) t T ks ps
key_good (word (strict (Comparing Equals)) (more (column zero i) (more (column (suc d) j) none))) c
    t T ks ps e p h =
    let B = tree_kinds c.below T ks ps in let a = kind_at (tree_kinds t T ks ps) i in
    let b = kind_at (kinds_row ks d) j in record {
      good = h.good;
      kinds = h.kinds;
      tests = keys_more c.tests (place_in c.outs (tree_width c.below) i, column d j) B ks ps h.tests
          refl
          (ap (λ (x : DataKind). agree x b) (place_kind c.outs (tree_width c.below) i B e
          ∙ ap (λ (x : Kinds). kind_at x i) h.kinds)
          ∙ left_true (agree a b) true p);
    }
key_good _ c t T ks ps e p h = h

wide_good : (t : PlanTree) (S : List ℕ → ℕ) (T : List ℕ → Kinds) → KindsEven T S → IsEven t S →
    chained t ≡ true → (ks : List Kinds) (ps : Kinds) →
    tree_good t T ks ps ≡ true → WideGood (widened t) t T ks ps
wide_good (extend ss t) S T e h p ks ps g =
    let c = widened t in let n = tree_width c.below in let names = own_row c.outs n in
    let B = tree_kinds c.below T ks ps in let R = tree_kinds t T ks ps in
    let q : chained t ≡ true = right_true (stays_all ss 1) (chained t) p in
    let a = scalars_good ss (R ∷ ks) ps in
    let w = wide_even t S h q in
    let i = wide_good t S T e h q ks ps (right_true a (tree_good t T ks ps) g) in
    let l = kinds_wide c.below S T e w.below ks ps in
    let told = own_told c.outs n B R ks l i.kinds in
    let x = scalars_kinds (renamed_scalars ss names) (B ∷ ks) ps in record {
      good = and_true (scalars_good (renamed_scalars ss names) (B ∷ ks) ps)
          (tree_good c.below T ks ps)
          (goods_renamed ss names (B ∷ ks) (R ∷ ks) ps told ∙ left_true a (tree_good t T ks ps) g)
          i.good;
      kinds = grown_kinds B x c.outs n (scalar_count ss) l
          (kinds_long (renamed_scalars ss names) (B ∷ ks) ps ∙ count_renamed ss names) w.outs
          ∙ both (λ (u v : Kinds). u ++ v) _ _ _ _ i.kinds
          (kinds_renamed ss names (B ∷ ks) (R ∷ ks) ps told);
      tests = keys_grow c.tests B (B ++ x) n ks ps l w.tests (kinds_grow_by B x) i.tests;
    }
wide_good (apply when kind way inner t) S T e h p ks ps g =
    let c = widened t in let n = tree_width c.below in let names = own_row c.outs n in
    let B = tree_kinds c.below T ks ps in let R = tree_kinds t T ks ps in
    let q : chained t ≡ true = right_true ((stays when 1 && (way_stays way 1 && kind_stays kind 1))
    && tree_within inner 1) (chained t) p in
    let a = node_good when kind way (tree_kinds inner T (R ∷ ks) ps) (R ∷ ks) ps in
    let b = tree_good inner T (R ∷ ks) ps in let d = tree_good t T ks ps in
    let bd : (b && d) ≡ true = right_true a (b && d) g in
    let w = wide_even t S h.2 q in let i = wide_good t S T e h.2 q ks ps (right_true b d bd) in
    let l = kinds_wide c.below S T e w.below ks ps in
    let told = own_told c.outs n B R ks l i.kinds in let inner' = renamed_tree inner names in
    let k = tree_kinds_renamed inner names T (B ∷ ks) (R ∷ ks) ps told in
    let r' = tree_kinds inner' T (B ∷ ks) ps in
    let x = apply_kinds (renamed_kind kind names) (found_kinds (renamed_way way names) r') in
    record {
      good = and_true (node_good (renamed_scalar when names) (renamed_kind kind names)
          (renamed_way way names) r' (B ∷ ks) ps)
          (tree_good inner' T (B ∷ ks) ps && tree_good c.below T ks ps)
          (node_renamed when kind way names (tree_kinds inner T (R ∷ ks) ps) r' (B ∷ ks)
          (R ∷ ks) ps k told ∙ left_true a (b && d) g)
          (and_true (tree_good inner' T (B ∷ ks) ps) (tree_good c.below T ks ps)
          (tree_good_renamed inner names T (B ∷ ks) (R ∷ ks) ps told ∙ left_true b d bd) i.good);
      kinds = grown_kinds B x c.outs n (kind_width kind) l
          (apply_long (renamed_kind kind names) (found_kinds (renamed_way way names) r')
          ∙ kind_width_renamed kind names) w.outs
          ∙ both (λ (u v : Kinds). u ++ v) _ _ _ _ i.kinds
          (added_renamed kind way names (tree_kinds inner T (R ∷ ks) ps) r' k);
      tests = keys_grow c.tests B (B ++ x) n ks ps l w.tests (kinds_grow_by B x) i.tests;
    }
wide_good (filter s t) S T e h p ks ps g =
    let c = widened t in let n = tree_width c.below in let names = own_row c.outs n in
    let B = tree_kinds c.below T ks ps in let R = tree_kinds t T ks ps in
    let y = stays s 1 || is_key (tree_width t) s in
    let q : chained t ≡ true = right_true y (chained t) p in let a = is_test s (R ∷ ks) ps in
    let w = wide_even t S h q in
    let i = wide_good t S T e h q ks ps (right_true a (tree_good t T ks ps) g) in
    let l = kinds_wide c.below S T e w.below ks ps in
    let ha : a ≡ true = left_true a (tree_good t T ks ps) g in
    let r = filter_by (λ (d : Wide). WideGood d t T ks ps) s c (tree_width t)
    (left_true y (chained t) p)
    (λ z. test_good c.tests (renamed_scalar s names) c t T ks ps l w.outs w.tests
    (test_renamed s names (B ∷ ks) (R ∷ ks) ps (own_told c.outs n B R ks l i.kinds) ∙ ha) i)
    (λ z. key_good s c t T ks ps l ha i) in
    record { good = r.good; kinds = r.kinds; tests = r.tests }
wide_good (keep is t) S T e h p ks ps g =
    let c = widened t in let w = wide_even t S h.1 p in let i = wide_good t S T e h.1 p ks ps g in
    record {
      good = i.good;
      kinds = places_kinds c.outs (tree_width c.below) is (tree_kinds c.below T ks ps)
          (kinds_wide c.below S T e w.below ks ps)
          ∙ ap (λ (x : Kinds). kinds_at x is) i.kinds;
      tests = i.tests;
    }
wide_good unit_row S T e h p ks ps g = base_good unit_row S T e h ks ps g
wide_good (scan name n) S T e h p ks ps g = base_good (scan name n) S T e h ks ps g
wide_good (values lists) S T e h p ks ps g = base_good (values lists) S T e h ks ps g
wide_good (cross a b) S T e h p ks ps g = base_good (cross a b) S T e h ks ps g
wide_good (left_outer nodes s n a b) S T e h p ks ps g =
    base_good (left_outer nodes s n a b) S T e h ks ps g
wide_good (settle t) S T e h p ks ps g = base_good (settle t) S T e h ks ps g
wide_good (group keys ags t) S T e h p ks ps g = base_good (group keys ags t) S T e h ks ps g
wide_good (sort keys t) S T e h p ks ps g = base_good (sort keys t) S T e h ks ps g

keys_stand : (outs : List ℕ) (n : ℕ) (tests : List (ℕ × Scalar)) (B : Kinds) (ks : List Kinds)
    (ps : Kinds) → length outs ≡ n → KeysHold tests B ks ps →
    keys_good (keys_from n tests) (kinds_at B (outs ++ test_places tests)) ks ps ≡ true
keys_stand outs n [] B ks ps e h = refl
keys_stand outs n (k ∷ tests) B ks ps e h =
    let P = kinds_at B (outs ++ k.0 ∷ test_places tests) in let z = scalar_kind k.1 ks ps in
    let here : kind_at P n ≡ kind_at B k.0 = ap (λ (x : Kinds). kind_at x n)
    (kinds_append B outs (k.0 ∷ test_places tests))
    ∙ (ap (kind_at (kinds_at B outs ++ kind_at B k.0 ∷ kinds_at B (test_places tests))) (sym e
    ∙ sym (kinds_at_long B outs))
    ∙ kinds_only_at (kinds_at B outs) (kinds_at B (test_places tests)) (kind_at B k.0)) in
    and_true (scalar_good k.1 ks ps && agree (kind_at P n) z)
    (keys_good (keys_from (suc n) tests) P ks ps)
    (and_true (scalar_good k.1 ks ps) (agree (kind_at P n) z) h.0.0
    (ap (λ (x : DataKind). agree x z) here ∙ h.0.1))
    (subst (λ (is : List ℕ). keys_good (keys_from (suc n) tests) (kinds_at B is) ks ps ≡ true)
    (append_assoc outs (k.0 ∷ []) (test_places tests))
    (keys_stand (outs ++ k.0 ∷ []) (suc n) tests B ks ps (length-append outs (k.0 ∷ [])
    ∙ (let d : length outs + 1 ≡ suc n = omega (arith, e) in d)) h.1))

-- What an Apply becomes, over a row of kinds R.
abbrev pub RemovedGood : Scalar → Kind → (List ℕ → Kinds) → Kinds → List Kinds → Kinds → Kinds →
    Removed → Type 0
RemovedGood when kind T R ks ps old (as_node way inner) =
    (node_good when kind way (tree_kinds inner T (R ∷ ks) ps) (R ∷ ks) ps ≡ true)
    × (tree_good inner T (R ∷ ks) ps ≡ true)
    × (apply_kinds kind (found_kinds way (tree_kinds inner T (R ∷ ks) ps)) ≡ old)
RemovedGood when kind T R ks ps old (as_columns c) =
    (nodes_good c.nodes T R ks ps ≡ true)
    × (kinds_at (nodes_kinds c.nodes T R ks ps) c.places ≡ old)

-- a way whose found kinds are all
same_found : (when : Scalar) (kind : Kind) (way : Way) (inner : PlanTree) (T : List ℕ →
    Kinds) (R : Kinds) (ks : List Kinds) (ps : Kinds) (new : PlanTree) →
    way_good way (tree_kinds new T (R ∷ ks) ps) (R ∷ ks) ps ≡ true →
    found_kinds way (tree_kinds new T (R ∷ ks) ps) ≡ tree_kinds inner T (R ∷ ks) ps →
    tree_good new T (R ∷ ks) ps ≡ true →
    node_good when kind anew (tree_kinds inner T (R ∷ ks) ps) (R ∷ ks) ps ≡ true →
    RemovedGood when kind T R ks ps (apply_kinds kind (tree_kinds inner T (R ∷ ks) ps))
    (as_node way new)
same_found when kind way inner T R ks ps new w f g h =
    let r = tree_kinds inner T (R ∷ ks) ps in let us = R ∷ ks in
    let q = found_kinds way (tree_kinds new T us ps) in (
      and_true (is_test when us ps) (way_good way (tree_kinds new T us ps) us ps
          && kind_good kind q us ps)
          (left_true (is_test when us ps) (kind_good kind r us ps) h)
          (and_true (way_good way (tree_kinds new T us ps) us ps) (kind_good kind q us ps) w
          (ap (λ (x : Kinds). kind_good kind x us ps) f
          ∙ right_true (is_test when us ps) (kind_good kind r us ps) h)),
      g,
      ap (apply_kinds kind) f,
    )

others_nothing : (i n : ℕ) → other_places [] i n ≡ places i n
others_nothing i zero = refl
others_nothing i (suc n) = ap (λ (is : List ℕ). i ∷ is) (others_nothing (suc i) n)

once_good : (when : Scalar) (kind : Kind) (inner : PlanTree) (T : List ℕ →
    Kinds) (R : Kinds) (ks : List Kinds) (ps : Kinds) →
    tree_good inner T (R ∷ ks) ps ≡ true →
    node_good when kind anew (tree_kinds inner T (R ∷ ks) ps) (R ∷ ks) ps ≡ true →
    RemovedGood when kind T R ks ps (apply_kinds kind (tree_kinds inner T (R ∷ ks) ps))
    (as_node (once_way when) inner)
once_good when kind inner T R ks ps g h =
    let r = tree_kinds inner T (R ∷ ks) ps in
    once_by (λ (way : Way). RemovedGood when kind T R ks ps (apply_kinds kind r)
    (as_node way inner)) when
    (same_found when kind once inner T R ks ps inner refl refl g h)
    (same_found when kind (lookup []) inner T R ks ps inner refl
    (ap (kinds_at r) (others_nothing 0 (length r)) ∙ own_kinds r (length r) refl) g h)

lookup_good : (when : Scalar) (kind : Kind) (inner : PlanTree) (S : List ℕ → ℕ) (T : List ℕ →
    Kinds) → KindsEven T S → IsEven inner S → chained inner ≡ true →
    (R : Kinds) (ks : List Kinds) (ps : Kinds) → tree_good inner T (R ∷ ks) ps ≡ true →
    node_good when kind anew (tree_kinds inner T (R ∷ ks) ps) (R ∷ ks) ps ≡ true →
    RemovedGood when kind T R ks ps (apply_kinds kind (tree_kinds inner T (R ∷ ks) ps))
    (as_node (lookup (lookup_keys (widened inner))) (lookup_plan (widened inner)))
lookup_good when kind inner S T e h p R ks ps g n =
    let c = widened inner in let us = R ∷ ks in let B = tree_kinds c.below T us ps in
    let w = wide_good inner S T e h p us ps g in
    let L = c.outs ++ test_places c.tests in let W = length c.outs in
    same_found when kind (lookup (lookup_keys c)) inner T R ks ps (lookup_plan c)
    (keys_stand c.outs W c.tests B us ps refl w.tests)
    (ap (λ (k : ℕ). kinds_at (kinds_at B L) (other_places (lookup_keys c) 0 k)) (kinds_at_long B L)
    ∙ (ap (kinds_at (kinds_at B L)) (lookup_others c)
    ∙ (ap (λ (x : Kinds). kinds_at x (places 0 W)) (kinds_append B c.outs (test_places c.tests))
    ∙ (first_kinds_columns (kinds_at B c.outs) (kinds_at B c.outs
    ++ kinds_at B (test_places c.tests)) W (kinds_at_long B c.outs)
    (kinds_grow_by (kinds_at B c.outs) (kinds_at B (test_places c.tests))) ∙ w.kinds)))) w.good n

-- Regions.
record RegionGood (t : PlanTree) (T : List ℕ → Kinds) (n : ℕ) (R : Kinds) (ks : List Kinds)
    (ps : Kinds) : Type 0 where
  good : nodes_good (region_columns t n).nodes T R ks ps ≡ true
  kinds : kinds_at (nodes_kinds (region_columns t n).nodes T R ks ps) (region_columns t n).places
      ≡ tree_kinds t T (R ∷ ks) ps

region_good : (t : PlanTree) (S : List ℕ → ℕ) (T : List ℕ → Kinds) → IsEven t S →
    is_region t ≡ true → (n : ℕ) (R : Kinds) (ks : List Kinds) (ps : Kinds) →
    length R ≡ n → tree_good t T (R ∷ ks) ps ≡ true → RegionGood t T n R ks ps
region_good unit_row S T h p n R ks ps l g = record { good = refl; kinds = refl }
region_good (extend ss t) S T h p n R ks ps l g =
    let c = region_columns t n in let m = width c.nodes n in let names = merged_row n c.places m in
    let Z = nodes_kinds c.nodes T R ks ps in
    let q = tree_kinds t T (R ∷ ks) ps in let a = scalars_good ss (q ∷ R ∷ ks) ps in
    let b = tree_good t T (R ∷ ks) ps in
    let i = region_good t S T h p n R ks ps l (right_true a b g) in
    let lz = after_long c.nodes T R ks ps n l in
    let told = merged_told n c.places m Z q R ks lz l (after_grow c.nodes T R ks ps) i.kinds in
    let x = scalars_kinds (renamed_scalars ss names) (Z ∷ ks) ps in
    let node : Nodes = extend_by (renamed_scalars ss names) no_node in record {
      good = good_join c.nodes node T R ks ps i.good
          (and_true (scalars_good (renamed_scalars ss names) (Z ∷ ks) ps) true
          (goods_renamed ss names (Z ∷ ks) (q ∷ R ∷ ks) ps told ∙ left_true a b g) refl);
      kinds = ap (λ (y : Kinds). kinds_at y (c.places ++ places m (scalar_count ss)))
          (after_join c.nodes node T R ks ps)
          ∙ (grown_kinds Z x c.places m (scalar_count ss) lz
          (kinds_long (renamed_scalars ss names) (Z ∷ ks) ps ∙ count_renamed ss names)
          (placed t S h p n).inside
          ∙ both (λ (u v : Kinds). u ++ v) _ _ _ _ i.kinds
          (kinds_renamed ss names (Z ∷ ks) (q ∷ R ∷ ks) ps told));
    }
region_good (apply when kind way inner t) S T h p n R ks ps l g =
    let c = region_columns t n in let m = width c.nodes n in let names = merged_row n c.places m in
    let Z = nodes_kinds c.nodes T R ks ps in
    let q = tree_kinds t T (R ∷ ks) ps in let us = q ∷ R ∷ ks in
    let a = node_good when kind way (tree_kinds inner T us ps) us ps in
    let b = tree_good inner T us ps in let d = tree_good t T (R ∷ ks) ps in
    let bd : (b && d) ≡ true = right_true a (b && d) g in
    let i = region_good t S T h.2 p n R ks ps l (right_true b d bd) in
    let lz = after_long c.nodes T R ks ps n l in
    let told = merged_told n c.places m Z q R ks lz l (after_grow c.nodes T R ks ps) i.kinds in
    let inner' = renamed_tree inner names in
    let r' = tree_kinds inner' T (Z ∷ ks) ps in
    let k = tree_kinds_renamed inner names T (Z ∷ ks) us ps told in
    let x = apply_kinds (renamed_kind kind names) (found_kinds (renamed_way way names) r') in
    let node = apply_by (renamed_scalar when names) (renamed_kind kind names)
    (renamed_way way names) inner' no_node in record {
      good = good_join c.nodes node T R ks ps i.good
          (and_true (node_good (renamed_scalar when names) (renamed_kind kind names)
          (renamed_way way names) r' (Z ∷ ks) ps) (tree_good inner' T (Z ∷ ks) ps && true)
          (node_renamed when kind way names (tree_kinds inner T us ps) r' (Z ∷ ks) us ps k told
          ∙ left_true a (b && d) g)
          (and_true (tree_good inner' T (Z ∷ ks) ps) true
          (tree_good_renamed inner names T (Z ∷ ks) us ps told ∙ left_true b d bd) refl));
      kinds = ap (λ (y : Kinds). kinds_at y (c.places ++ places m (kind_width kind)))
          (after_join c.nodes node T R ks ps)
          ∙ (grown_kinds Z x c.places m (kind_width kind) lz
          (apply_long (renamed_kind kind names) (found_kinds (renamed_way way names) r')
          ∙ kind_width_renamed kind names) (placed t S h.2 p n).inside
          ∙ both (λ (u v : Kinds). u ++ v) _ _ _ _ i.kinds
          (added_renamed kind way names (tree_kinds inner T us ps) r' k));
    }
region_good (keep is t) S T h p n R ks ps l g =
    let c = region_columns t n in let i = region_good t S T h.1 p n R ks ps l g in record {
      good = i.good;
      kinds = places_kinds c.places (width c.nodes n) is (nodes_kinds c.nodes T R ks ps)
          (after_long c.nodes T R ks ps n l)
          ∙ ap (λ (x : Kinds). kinds_at x is) i.kinds;
    }
region_good (scan name j) S T h p n R ks ps l g = never p
region_good (values lists) S T h p n R ks ps l g = never p
region_good (filter s t) S T h p n R ks ps l g = never p
region_good (cross a b) S T h p n R ks ps l g = never p
region_good (left_outer nodes s j a b) S T h p n R ks ps l g = never p
region_good (settle t) S T h p n R ks ps l g = never p
region_good (group keys ags t) S T h p n R ks ps l g = never p
region_good (sort keys t) S T h p n R ks ps l g = never p

case_has : (when s : Scalar) (us : List Kinds) (ps : Kinds) (k : DataKind) →
    is_test when us ps ≡ true → Has s us ps k →
    Has (word case_word (more when (more s none))) us ps k
case_has when s us ps k p h =
    let a = scalar_good when us ps in let b = scalar_kind when us ps in
    let c = scalar_good s us ps in let d = scalar_kind s us ps in (
      join_null d ∙ h.0,
      and_true (a && (c && true)) (agree b BooleanKind && (agree d NullKind && true))
          (and_true a (c && true) (left_true a (agree b BooleanKind) p) (and_true c true h.1 refl))
          (and_true (agree b BooleanKind) (agree d NullKind && true)
          (right_true a (agree b BooleanKind) p)
          (and_true (agree d NullKind) true (agree_null d) refl)),
    )

where_has : (when s : Scalar) (us : List Kinds) (ps : Kinds) (k : DataKind) →
    is_test when us ps ≡ true → Has s us ps k → Has (where_true when s) us ps k
where_has (constant (Truth true)) s us ps k p h = h
where_has (constant (Truth false)) s us ps k p h = case_has (constant (Truth false)) s us ps k p h
where_has (constant Null) s us ps k p h = case_has (constant Null) s us ps k p h
where_has (constant (Int z)) s us ps k p h = case_has (constant (Int z)) s us ps k p h
where_has (constant (Str t)) s us ps k p h = case_has (constant (Str t)) s us ps k p h
where_has (column level i) s us ps k p h = case_has (column level i) s us ps k p h
where_has (argument i) s us ps k p h = case_has (argument i) s us ps k p h
where_has (word w ss) s us ps k p h = case_has (word w ss) s us ps k p h

where_all_have : (when : Scalar) (ss : Scalars) (us : List Kinds) (ps kk : Kinds) →
    is_test when us ps ≡ true → HaveAll ss us ps kk →
    HaveAll (where_all when ss) us ps kk
where_all_have when none us ps kk p h = h
where_all_have when (more s ss) us ps kk p h =
    let a = scalar_good s us ps in let b = scalars_good ss us ps in
    let x = where_has when s us ps (scalar_kind s us ps) p (refl, left_true a b h.1) in
    let y = where_all_have when ss us ps (scalars_kinds ss us ps) p (refl, right_true a b h.1) in (
      both (λ (k : DataKind) (ks : Kinds). k ∷ ks) _ _ _ _ x.0 y.0 ∙ h.0,
      and_true (scalar_good (where_true when s) us ps) (scalars_good (where_all when ss) us ps) x.1
          y.1,
    )

one_has : (s : Scalar) (us : List Kinds) (ps : Kinds) (k : DataKind) → Has s us ps k →
    HaveAll (more s none) us ps (k ∷ [])
one_has s us ps k h = (
  ap (λ (x : DataKind). x ∷ []) h.0,
  and_true (scalar_good s us ps) true h.1 refl,
)

into_have : (outs : List ℕ) (m i n : ℕ) (Z r : Kinds) (ks : List Kinds) (ps : Kinds) →
    length Z ≡ m → kinds_at Z outs ≡ r →
    HaveAll (into_scalars outs m i n) (Z ∷ ks) ps (kinds_at r (places i n))
into_have outs m i zero Z r ks ps l e = (refl, refl)
into_have outs m i (suc n) Z r ks ps l e =
    let s = if_values outs (column 0 (place_in outs m i)) in
    let ss = into_scalars outs m (suc i) n in
    let x = if_values_has outs (column 0 (place_in outs m i)) (Z ∷ ks) ps (kind_at r i)
    (place_kind outs m i Z l ∙ ap (λ (y : Kinds). kind_at y i) e, refl) in
    let y = into_have outs m (suc i) n Z r ks ps l e in (
      both (λ (k : DataKind) (kk : Kinds). k ∷ kk) _ _ _ _ x.0 y.0,
      and_true (scalar_good s (Z ∷ ks) ps) (scalars_good ss (Z ∷ ks) ps) x.1 y.1,
    )

cells_have : (kind : Kind) (outs : List ℕ) (m : ℕ) (names : Renaming) (Z r : Kinds)
    (us ks : List Kinds) (ps : Kinds) → of_region kind ≡ true →
    length Z ≡ m → kinds_at Z outs ≡ r → Told names (Z ∷ ks) us → kind_good kind r us ps ≡ true →
    HaveAll (region_cells (renamed_kind kind names) outs m) (Z ∷ ks) ps (apply_kinds kind r)
cells_have single outs m names Z r us ks ps o l e t g =
    one_has (column 0 (place_in outs m 0)) (Z ∷ ks) ps (kind_at r 0) (
      place_kind outs m 0 Z l
          ∙ ap (λ (x : Kinds). kind_at x 0) e,
      refl,
    )
cells_have exists outs m names Z r us ks ps o l e t g =
    one_has (if_values outs (constant (Truth true))) (Z ∷ ks) ps BooleanKind
    (if_values_has outs (constant (Truth true)) (Z ∷ ks) ps BooleanKind (refl, refl))
cells_have (member s) outs m names Z r us ks ps o l e t g =
    let s' = renamed_scalar s names in let a = scalar_good s' (Z ∷ ks) ps in
    let x = scalar_kind s' (Z ∷ ks) ps in let y = kind_at Z (place_in outs m 0) in
    let b = scalar_good s us ps in let z = agree (scalar_kind s us ps) (kind_at r 0) in
    one_has (word (strict AnyOf) (more s' (more (column 0 (place_in outs m 0)) none)))
    (Z ∷ ks) ps BooleanKind (
      refl,
      and_true (a && true) (agree x y && true)
          (and_true a true (good_renamed s names (Z ∷ ks) us ps t ∙ left_true b z g) refl)
          (and_true (agree x y) true (both agree _ _ _ _ (kind_renamed s names (Z ∷ ks) us ps t)
          (place_kind outs m 0 Z l ∙ ap (λ (u : Kinds). kind_at u 0) e)
          ∙ right_true b z g) refl),
    )
cells_have (aggregate ags) outs m names Z r us ks ps o l e t g = never o
cells_have (into n) outs m names Z r us ks ps o l e t g = into_have outs m 0 n Z r ks ps l e

columns_good : (when : Scalar) (kind : Kind) (inner : PlanTree) (S : List ℕ → ℕ) (T : List ℕ →
    Kinds) → IsEven inner S → is_region inner ≡ true →
    of_region kind ≡ true → (n : ℕ) (R : Kinds) (ks : List Kinds) (ps : Kinds) → length R ≡ n →
    tree_good inner T (R ∷ ks) ps ≡ true →
    node_good when kind anew (tree_kinds inner T (R ∷ ks) ps) (R ∷ ks) ps ≡ true →
    RemovedGood when kind T R ks ps (apply_kinds kind (tree_kinds inner T (R ∷ ks) ps))
    (as_columns (region when kind inner n))
columns_good when kind inner S T h p o n R ks ps l g d =
    let c = region_columns inner n in let m = width c.nodes n in
    let names = own_row (places 0 n) m in let Z = nodes_kinds c.nodes T R ks ps in
    let r = tree_kinds inner T (R ∷ ks) ps in let us = R ∷ ks in
    let i = region_good inner S T h p n R ks ps l g in
    let lz = after_long c.nodes T R ks ps n l in
    let told = own_told (places 0 n) m Z R ks lz
    (first_kinds_columns R Z n l (after_grow c.nodes T R ks ps)) in
    let ss = region_cells (renamed_kind kind names) c.places m in
    let last = where_all (renamed_scalar when names) ss in
    let has = where_all_have (renamed_scalar when names) ss (Z ∷ ks) ps (apply_kinds kind r)
    (test_renamed when names (Z ∷ ks) us ps told
    ∙ left_true (is_test when us ps) (kind_good kind r us ps) d)
    (cells_have kind c.places m names Z r us ks ps o lz i.kinds told
    (right_true (is_test when us ps) (kind_good kind r us ps) d)) in
    let node : Nodes = extend_by last no_node in let kk = scalars_kinds last (Z ∷ ks) ps in
    let j = kind_width kind in (
      good_join c.nodes node T R ks ps i.good
          (and_true (scalars_good last (Z ∷ ks) ps) true has.1 refl),
      ap (λ (y : Kinds). kinds_at y (places m j)) (after_join c.nodes node T R ks ps)
          ∙ (kinds_grown_columns Z kk (Z ++ kk) m j lz (ap (λ (x : Kinds). length x) has.0
          ∙ apply_long kind r) (kinds_grow_same (Z ++ kk)) ∙ has.0),
    )

removed_good : (when : Scalar) (kind : Kind) (way : Way) (inner : PlanTree) (S : List ℕ →
    ℕ) (T : List ℕ → Kinds) → KindsEven T S → IsEven inner S →
    (n : ℕ) (R : Kinds) (ks : List Kinds) (ps : Kinds) → length R ≡ n →
    tree_good inner T (R ∷ ks) ps ≡ true →
    node_good when kind way (tree_kinds inner T (R ∷ ks) ps) (R ∷ ks) ps ≡ true →
    RemovedGood when kind T R ks ps
    (apply_kinds kind (found_kinds way (tree_kinds inner T (R ∷ ks) ps)))
    (removed_node when kind way inner n)
removed_good when kind anew inner S T e h n R ks ps l g d =
    removed_by (RemovedGood when kind T R ks ps (apply_kinds kind (tree_kinds inner T (R ∷ ks) ps)))
    when kind inner n
    (λ p. once_good when kind inner T R ks ps g d)
    (λ p. lookup_good when kind inner S T e h p R ks ps g d)
    (λ p o. columns_good when kind inner S T h p o n R ks ps l g d) (λ x y z. (d, g, refl))
removed_good when kind once inner S T e h n R ks ps l g d = (d, g, refl)
removed_good when kind (lookup keys) inner S T e h n R ks ps l g d = (d, g, refl)

put_good : (when : Scalar) (kind : Kind) (input : PlanTree) (d : Removed) (T : List ℕ →
    Kinds) (R old : Kinds) (ks : List Kinds) (ps : Kinds) →
    length R ≡ tree_width input → PlanIs input T ks ps R → RemovedGood when kind T R ks ps old d →
    PlanIs (put when kind input d) T ks ps (R ++ old)
put_good when kind input (as_node way inner) T R old ks ps l i h = (
  subst (λ (z : Kinds). (node_good when kind way (tree_kinds inner T (z ∷ ks) ps) (z ∷ ks) ps
      && (tree_good inner T (z ∷ ks) ps && tree_good input T ks ps)) ≡ true)
      (sym i.1)
      (and_true (node_good when kind way (tree_kinds inner T (R ∷ ks) ps) (R ∷ ks) ps)
      (tree_good inner T (R ∷ ks) ps && tree_good input T ks ps) h.0
      (and_true (tree_good inner T (R ∷ ks) ps) (tree_good input T ks ps) h.1 i.0)),
  ap (λ (z : Kinds). z ++ apply_kinds kind (found_kinds way (tree_kinds inner T (z ∷ ks) ps))) i.1
      ∙ ap (λ (x : Kinds). R ++ x) h.2,
)
put_good when kind input (as_columns c) T R old ks ps l i h =
    let n = tree_width input in let Z = nodes_kinds c.nodes T R ks ps in
    let j = on_each_is c.nodes input T R ks ps h.0 i in (
      j.0,
      ap (λ (z : Kinds). kinds_at z (places 0 n ++ c.places)) j.1
          ∙ (kinds_append Z (places 0 n) c.places
          ∙ both (λ (u v : Kinds). u ++ v) _ _ _ _
          (first_kinds_columns R Z n l (after_grow c.nodes T R ks ps)) h.1),
    )

-- a run, on a row of kinds Z in which those of the old row stand at some places
abbrev pub RunGood : Columns → (List ℕ → Kinds) → Kinds → Kinds → List Kinds → Kinds → Type 0
RunGood c T Z end ks ps = (nodes_good c.nodes T Z ks ps ≡ true)
    × (kinds_at (nodes_kinds c.nodes T Z ks ps) c.places ≡ end)

put_by_good : (when : Scalar) (kind : Kind) (outs : List ℕ) (m : ℕ) (d : Removed) (rest : List ℕ →
    ℕ → Columns) (S : List ℕ → ℕ) (T : List ℕ → Kinds)
    (Z R old end : Kinds) (ks : List Kinds) (ps : Kinds) → length Z ≡ m → PlacesIn outs m →
    kinds_at Z outs ≡ R → RemovedEven kind m S d →
    RemovedGood when kind T Z ks ps old d →
    ((is : List ℕ) (j : ℕ) (Y : Kinds) → length Y ≡ j → PlacesIn is j → kinds_at Y is ≡ R ++ old →
    RunGood (rest is j) T Y end ks ps) →
    RunGood (put_by when kind outs m d rest) T Z end ks ps
put_by_good when kind outs m (as_node way inner) rest S T Z R old end ks ps l p e v h f =
    let k = kind_width kind in let r = tree_kinds inner T (Z ∷ ks) ps in
    let x = apply_kinds kind (found_kinds way r) in
    let lx = apply_long kind (found_kinds way r) in
    let q = f (outs ++ places m k) (m + k) (Z ++ x) (kinds_wider Z x m k l lx)
    (places_append outs (places m k) (m + k) (places_wide outs m (m + k) (omega arith) p)
    (places_below m k (m + k) (omega arith)))
    (grown_kinds Z x outs m k l lx p ∙ both (λ (a b : Kinds). a ++ b) _ _ _ _ e h.2) in (
      and_true (node_good when kind way r (Z ∷ ks) ps) (tree_good inner T (Z ∷ ks) ps
          && nodes_good (rest (outs ++ places m k) (m + k)).nodes T (Z ++ x) ks ps) h.0
          (and_true (tree_good inner T (Z ∷ ks) ps)
          (nodes_good (rest (outs ++ places m k) (m + k)).nodes T (Z ++ x) ks ps) h.1 q.0),
      q.1,
    )
put_by_good when kind outs m (as_columns c) rest S T Z R old end ks ps l p e v h f =
    let j = width c.nodes m in let Y = nodes_kinds c.nodes T Z ks ps in let is = outs ++ c.places in
    let q = f is j Y (after_long c.nodes T Z ks ps m l)
    (places_append outs c.places j (places_wide outs m j (width_more c.nodes m) p) v.1)
    (kinds_append Y outs c.places
    ∙ both (λ (a b : Kinds). a ++ b) _ _ _ _
    (front_kinds Z Y outs m l p (after_grow c.nodes T Z ks ps) ∙ e) h.1) in (
      good_join c.nodes (rest is j).nodes T Z ks ps h.0 q.0,
      ap (λ (z : Kinds). kinds_at z (rest is j).places)
          (after_join c.nodes (rest is j).nodes T Z ks ps) ∙ q.1,
    )

mutual
  pub remove_kinds : (t : PlanTree) (S : List ℕ → ℕ) (T : List ℕ → Kinds) → KindsEven T S →
      IsEven t S → (ks : List Kinds) (ps : Kinds) →
      tree_good t T ks ps ≡ true → PlanIs (remove t) T ks ps (tree_kinds t T ks ps)
  remove_kinds unit_row S T e h ks ps g = (refl, refl)
  remove_kinds (scan name n) S T e h ks ps g = (refl, refl)
  remove_kinds (values lists) S T e h ks ps g = (g, refl)
  remove_kinds (extend ss t) S T e h ks ps g =
      let R = tree_kinds t T ks ps in let a = scalars_good ss (R ∷ ks) ps in
      let b = tree_good t T ks ps in
      let i = remove_kinds t S T e h ks ps (right_true a b g) in (
        and_true (scalars_good ss (tree_kinds (remove t) T ks ps ∷ ks) ps)
            (tree_good (remove t) T ks ps)
            (ap (λ (z : Kinds). scalars_good ss (z ∷ ks) ps) i.1 ∙ left_true a b g) i.0,
        ap (λ (z : Kinds). z ++ scalars_kinds ss (z ∷ ks) ps) i.1,
      )
  remove_kinds (apply when kind way inner t) S T e h ks ps g =
      let R = tree_kinds t T ks ps in let us = R ∷ ks in let r = tree_kinds inner T us ps in
      let a = node_good when kind way r us ps in let b = tree_good inner T us ps in
      let d = tree_good t T ks ps in
      let bd : (b && d) ≡ true = right_true a (b && d) g in
      let i = remove_kinds inner S T e h.1 us ps (left_true b d bd) in
      let j = remove_kinds t S T e h.2 ks ps (right_true b d bd) in
      let ei = remove_even inner S h.1 in let et = remove_even t S h.2 in
      let n = tree_width (remove t) in
      let l : length R ≡ n = kinds_wide t S T e h.2 ks ps ∙ sym et.wide in
      let ok = removed_good when kind way (remove inner) S T e ei.even n R ks ps l i.0
      (ap (λ (z : Kinds). node_good when kind way z us ps) i.1 ∙ left_true a (b && d) g) in
      let k = put_good when kind (remove t) (removed_node when kind way (remove inner) n) T R _ ks
      ps l j ok in
      (k.0, k.1 ∙ ap (λ (z : Kinds). R ++ apply_kinds kind (found_kinds way z)) i.1)
  remove_kinds (filter s t) S T e h ks ps g =
      let R = tree_kinds t T ks ps in let a = is_test s (R ∷ ks) ps in
      let b = tree_good t T ks ps in
      let i = remove_kinds t S T e h ks ps (right_true a b g) in (
        and_true (is_test s (tree_kinds (remove t) T ks ps ∷ ks) ps) (tree_good (remove t) T ks ps)
            (ap (λ (z : Kinds). is_test s (z ∷ ks) ps) i.1 ∙ left_true a b g) i.0,
        i.1,
      )
  remove_kinds (keep is t) S T e h ks ps g =
      let i = remove_kinds t S T e h.1 ks ps g in (i.0, ap (λ (z : Kinds). kinds_at z is) i.1)
  remove_kinds (cross a b) S T e h ks ps g =
      let i = remove_kinds a S T e h.0 ks ps
      (left_true (tree_good a T ks ps) (tree_good b T ks ps) g) in
      let j = remove_kinds b S T e h.1 ks ps
      (right_true (tree_good a T ks ps) (tree_good b T ks ps) g) in (
        and_true (tree_good (remove a) T ks ps) (tree_good (remove b) T ks ps) i.0 j.0,
        both (λ (x y : Kinds). x ++ y) _ _ _ _ i.1 j.1,
      )
  remove_kinds (left_outer nodes s n a b) S T e h ks ps g =
      let R = tree_kinds a T ks ps ++ tree_kinds b T ks ps in
      let end = nodes_kinds nodes T R ks ps in
      let x = nodes_good nodes T R ks ps in let y = is_test s (end ∷ ks) ps in
      let u = tree_good a T ks ps in let v = tree_good b T ks ps in
      let xy : (x && y) ≡ true = left_true (x && y) (u && v) g in
      let uv : (u && v) ≡ true = right_true (x && y) (u && v) g in
      let i = remove_kinds a S T e h.2 ks ps (left_true u v uv) in
      let j = remove_kinds b S T e h.3 ks ps (right_true u v uv) in
      let ea = remove_even a S h.2 in let m = tree_width (remove a) + n in
      let c = remove_nodes nodes (places 0 m) m in
      let R' = tree_kinds (remove a) T ks ps ++ tree_kinds (remove b) T ks ps in
      let er : R' ≡ R = both (λ (p q : Kinds). p ++ q) _ _ _ _ i.1 j.1 in
      let lr : length R ≡ m = kinds_wider (tree_kinds a T ks ps) (tree_kinds b T ks ps)
      (tree_width (remove a)) n
      (kinds_wide a S T e h.2 ks ps ∙ sym ea.wide) (kinds_wide b S T e h.3 ks ps ∙ h.1) in
      let k = run_kinds nodes S T e h.0 (places 0 m) m R R ks ps lr
      (places_below 0 m m (omega arith)) (own_kinds R m lr) (left_true x y xy) in
      let M = width c.nodes m in let s' = renamed_scalar s (own_row c.places M) in
      let E = nodes_kinds c.nodes T R ks ps in
      let test : is_test s' (E ∷ ks) ps ≡ true =
      test_renamed s (own_row c.places M) (E ∷ ks) (end ∷ ks) ps
      (own_told c.places M E end ks (after_long c.nodes T R ks ps m lr) k.1)
      ∙ right_true x y xy in (
        and_true (nodes_good c.nodes T R' ks ps
            && is_test s' (nodes_kinds c.nodes T R' ks ps ∷ ks) ps) (tree_good (remove a) T ks ps
            && tree_good (remove b) T ks ps)
            (subst (λ (z : Kinds). (nodes_good c.nodes T z ks ps
            && is_test s' (nodes_kinds c.nodes T z ks ps ∷ ks) ps) ≡ true) (sym er)
            (and_true (nodes_good c.nodes T R ks ps) (is_test s' (E ∷ ks) ps) k.0 test))
            (and_true (tree_good (remove a) T ks ps) (tree_good (remove b) T ks ps) i.0 j.0),
        er,
      )
  remove_kinds (settle t) S T e h ks ps g = remove_kinds t S T e h ks ps g
  remove_kinds (group keys ags t) S T e h ks ps g =
      let R = tree_kinds t T ks ps in let a = aggregates_good ags R in
      let b = tree_good t T ks ps in
      let i = remove_kinds t S T e h ks ps (right_true a b g) in (
        and_true (aggregates_good ags (tree_kinds (remove t) T ks ps))
            (tree_good (remove t) T ks ps) (ap (aggregates_good ags) i.1 ∙ left_true a b g) i.0,
        ap (λ (z : Kinds). kinds_at z keys ++ aggregate_kinds ags z) i.1,
      )
  remove_kinds (sort keys t) S T e h ks ps g = remove_kinds t S T e h ks ps g

  run_kinds : (nodes : Nodes) (S : List ℕ → ℕ) (T : List ℕ → Kinds) → KindsEven T S →
      NodesEven nodes S → (outs : List ℕ) (m : ℕ) (Z R : Kinds)
      (ks : List Kinds) (ps : Kinds) → length Z ≡ m → PlacesIn outs m → kinds_at Z outs ≡ R →
      nodes_good nodes T R ks ps ≡ true →
      RunGood (remove_nodes nodes outs m) T Z (nodes_kinds nodes T R ks ps) ks ps
  run_kinds no_node S T e h outs m Z R ks ps l p q g = (refl, q)
  run_kinds (extend_by ss rest) S T e h outs m Z R ks ps l p q g =
      let names = own_row outs m in let ss' = renamed_scalars ss names in
      let told = own_told outs m Z R ks l q in let j = scalar_count ss in
      let x = scalars_kinds ss' (Z ∷ ks) ps in let y = scalars_kinds ss (R ∷ ks) ps in
      let a = scalars_good ss (R ∷ ks) ps in let b = nodes_good rest T (R ++ y) ks ps in
      let lx : length x ≡ j = kinds_long ss' (Z ∷ ks) ps ∙ count_renamed ss names in
      let is = outs ++ places m j in
      let r = run_kinds rest S T e h is (m + j) (Z ++ x) (R ++ y) ks ps (kinds_wider Z x m j l lx)
      (places_append outs (places m j) (m + j) (places_wide outs m (m + j) (omega arith) p)
      (places_below m j (m + j) (omega arith)))
      (grown_kinds Z x outs m j l lx p
      ∙ both (λ (u v : Kinds). u ++ v) _ _ _ _ q (kinds_renamed ss names (Z ∷ ks) (R ∷ ks) ps told))
      (right_true a b g) in (
        and_true (scalars_good ss' (Z ∷ ks) ps) (nodes_good (remove_nodes rest is (m + j)).nodes T
            (Z ++ x) ks ps)
            (goods_renamed ss names (Z ∷ ks) (R ∷ ks) ps told ∙ left_true a b g) r.0,
        r.1,
      )
  run_kinds (apply_by when kind way inner rest) S T e h outs m Z R ks ps l p q g =
      let names = own_row outs m in let when' = renamed_scalar when names in
      let kind' = renamed_kind kind names in let way' = renamed_way way names in
      let told = own_told outs m Z R ks l q in let us = R ∷ ks in
      let r = tree_kinds inner T us ps in let y = apply_kinds kind (found_kinds way r) in
      let a = node_good when kind way r us ps in let b = tree_good inner T us ps in
      let d = nodes_good rest T (R ++ y) ks ps in
      let bd : (b && d) ≡ true = right_true a (b && d) g in
      let i = remove_kinds inner S T e h.1 us ps (left_true b d bd) in
      let ei = remove_even inner S h.1 in let plan = renamed_tree (remove inner) names in
      let even = renamed_even (remove inner) names S ei.even in
      let k : tree_kinds plan T (Z ∷ ks) ps
      ≡ r = tree_kinds_renamed (remove inner) names T (Z ∷ ks) us ps told ∙ i.1 in
      let ok = removed_good when' kind' way' plan S T e even m Z ks ps l
      (tree_good_renamed (remove inner) names T (Z ∷ ks) us ps told ∙ i.0)
      (node_renamed when kind way names r (tree_kinds plan T (Z ∷ ks) ps) (Z ∷ ks) us ps k told
      ∙ left_true a (b && d) g) in
      let old : apply_kinds kind' (found_kinds way' (tree_kinds plan T (Z ∷ ks) ps))
      ≡ y = added_renamed kind way names r (tree_kinds plan T (Z ∷ ks) ps) k in
      let ek = node_even kind way names (tree_width (remove inner)) (tree_width plan)
      (width_renamed (remove inner) names)
      (subst (λ (z : ℕ). KindEven kind (found_width way z)) (sym ei.wide) h.0) in
      put_by_good when' kind' outs m (removed_node when' kind' way' plan m)
      (remove_nodes rest) S T Z R y (nodes_kinds rest T (R ++ y) ks ps) ks ps l p q
      (removed_even when' kind' way' plan S ek even m)
      (subst (λ (z : Kinds). RemovedGood when' kind' T Z ks ps z
      (removed_node when' kind' way' plan m)) old ok)
      (λ is j Y x u v. run_kinds rest S T e h.2 is j Y (R ++ y) ks ps x u v (right_true b d bd))

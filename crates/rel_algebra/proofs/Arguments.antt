-- Removal brings no argument into an inner plan.
use Rattle.std.proofs.Common.{◌≡◌, ℕ, zero, suc, ◌+◌, true, false, ◌&&◌, ◌||◌, List, [], ◌∷◌, ◌++◌}
use Rattle.std.proofs.Common.{length}
use Rattle.sql_values.specs.declared.operators.Comparison.TheVariants.{Equals}
use Rattle.sql_values.specs.declared.value.Value.TheVariants.{Int, Null, Str, Bool as Truth}
use Rattle.rel_algebra.specs.Arguments.{InsideFree, KeysFree, KindFree, ListsFree, NoArgument}
use Rattle.rel_algebra.specs.Arguments.{NoArguments, NodesFree, RunFree, TreeFree, WayFree}
use Rattle.rel_algebra.specs.Emit.{checks, if_values, joined_nodes, width}
use Rattle.rel_algebra.specs.Joins.{places}
use Rattle.rel_algebra.specs.Plan.{Kind, Nodes, PlanTree, Scalar, Scalars, Way, aggregate, anew}
use Rattle.rel_algebra.specs.Plan.{apply, apply_by, argument, column, constant, cross, exists}
use Rattle.rel_algebra.specs.Plan.{extend, extend_by, filter, group, keep, kind_width, left_outer}
use Rattle.rel_algebra.specs.Plan.{lookup, member, more, no_node, none, on_each, once, scalar_count}
use Rattle.rel_algebra.specs.Plan.{scan, settle, single, sort, strict, tree_width, unit_row, values}
use Rattle.rel_algebra.specs.Plan.{word, into}
use Rattle.rel_algebra.specs.Regions.{Columns, into_scalars, region_cells, region_columns}
use Rattle.rel_algebra.specs.Regions.{where_all, where_true}
use Rattle.rel_algebra.specs.Remove.{Removed, as_columns, as_node, put, put_by, remove}
use Rattle.rel_algebra.specs.Remove.{remove_nodes, removed_node}
use Rattle.rel_algebra.specs.Removal.{chained, is_key, kind_stays, stays, stays_all, tree_within}
use Rattle.rel_algebra.specs.Removal.{way_stays}
use Rattle.rel_algebra.specs.Renaming.{Renaming, inside, merged_row, own_row, place_in}
use Rattle.rel_algebra.specs.Renaming.{renamed_keys, renamed_kind, renamed_lists, renamed_nodes}
use Rattle.rel_algebra.specs.Renaming.{renamed_scalar, renamed_scalars, renamed_tree, renamed_way}
use Rattle.rel_algebra.specs.Tree.{Comparing}
use Rattle.rel_algebra.specs.Widening.{Wide, keys_from, widened, with_key, with_test}
use Rattle.rel_algebra.proofs.EvenRemoved.{once_by, removed_by}
use Rattle.rel_algebra.proofs.Staying.{filter_by}
use Rattle.rel_algebra.proofs.Truths.{left_true, right_true}

-- Renamed plans.
mutual
  scalar_free : (s : Scalar) (names : Renaming) → NoArgument s → NoArgument (renamed_scalar s names)
  scalar_free (constant v) names h = tt
  scalar_free (column level i) names h = tt
  scalar_free (argument i) names h = h
  scalar_free (word w ss) names h = scalars_free ss names h

  scalars_free : (ss : Scalars) (names : Renaming) → NoArguments ss →
      NoArguments (renamed_scalars ss names)
  scalars_free none names h = tt
  scalars_free (more s ss) names h = (scalar_free s names h.0, scalars_free ss names h.1)

lists_free : (lists : List Scalars) (names : Renaming) → ListsFree lists →
    ListsFree (renamed_lists lists names)
lists_free [] names h = tt
lists_free (ss ∷ lists) names h = (scalars_free ss names h.0, lists_free lists names h.1)

kind_free : (kind : Kind) (names : Renaming) → KindFree kind → KindFree (renamed_kind kind names)
kind_free single names h = tt
kind_free exists names h = tt
kind_free (member s) names h = scalar_free s names h
kind_free (aggregate ags) names h = tt
kind_free (into k) names h = tt

keys_free : (keys : List (ℕ × Scalar)) (names : Renaming) → KeysFree keys →
    KeysFree (renamed_keys keys names)
keys_free [] names h = tt
keys_free (k ∷ keys) names h = (scalar_free k.1 names h.0, keys_free keys names h.1)

way_free : (way : Way) (names : Renaming) → WayFree way → WayFree (renamed_way way names)
way_free anew names h = tt
way_free once names h = tt
way_free (lookup keys) names h = keys_free keys names h

mutual
  tree_free : (t : PlanTree) (names : Renaming) → TreeFree t → TreeFree (renamed_tree t names)
  tree_free unit_row names h = tt
  tree_free (scan name n) names h = tt
  tree_free (values lists) names h = lists_free lists (inside names) h
  tree_free (extend ss input) names h =
      (scalars_free ss (inside names) h.0, tree_free input names h.1)
  tree_free (apply when kind way inner input) names h = (
    scalar_free when (inside names) h.0,
    kind_free kind (inside names) h.1,
    way_free way (inside names) h.2,
    tree_free inner (inside names) h.3,
    tree_free input names h.4,
  )
  tree_free (filter s input) names h = (scalar_free s (inside names) h.0, tree_free input names h.1)
  tree_free (keep is input) names h = tree_free input names h
  tree_free (cross a b) names h = (tree_free a names h.0, tree_free b names h.1)
  tree_free (left_outer nodes s n a b) names h = (
    nodes_free nodes (inside names) h.0,
    scalar_free s (inside names) h.1,
    tree_free a names h.2,
    tree_free b names h.3,
  )
  tree_free (settle input) names h = tree_free input names h
  tree_free (group keys ags input) names h = tree_free input names h
  tree_free (sort keys input) names h = tree_free input names h

  nodes_free : (nodes : Nodes) (names : Renaming) → NodesFree nodes →
      NodesFree (renamed_nodes nodes names)
  nodes_free no_node names h = tt
  nodes_free (extend_by ss rest) names h = (scalars_free ss names h.0, nodes_free rest names h.1)
  nodes_free (apply_by when kind way inner rest) names h = (
    scalar_free when names h.0,
    kind_free kind names h.1,
    way_free way names h.2,
    tree_free inner names h.3,
    nodes_free rest names h.4,
  )

-- Runs.
join_free : (a b : Nodes) → NodesFree a → NodesFree b → NodesFree (joined_nodes a b)
join_free no_node b h k = k
join_free (extend_by ss a) b h k = (h.0, join_free a b h.1 k)
join_free (apply_by when kind way inner a) b h k = (h.0, h.1, h.2, h.3, join_free a b h.4 k)

join_inside : (a b : Nodes) → RunFree a → RunFree b → RunFree (joined_nodes a b)
join_inside no_node b h k = k
join_inside (extend_by ss a) b h k = join_inside a b h k
join_inside (apply_by when kind way inner a) b h k = (h.0, join_inside a b h.1 k)

on_each_free : (nodes : Nodes) (t : PlanTree) → NodesFree nodes → TreeFree t →
    TreeFree (on_each nodes t)
on_each_free no_node t h k = k
on_each_free (extend_by ss a) t h k = on_each_free a (extend ss t) h.1 (h.0, k)
on_each_free (apply_by when kind way inner a) t h k =
    on_each_free a (apply when kind way inner t) h.4 (h.0, h.1, h.2, h.3, k)

on_each_inside : (nodes : Nodes) (t : PlanTree) → RunFree nodes → InsideFree t →
    InsideFree (on_each nodes t)
on_each_inside no_node t h k = k
on_each_inside (extend_by ss a) t h k = on_each_inside a (extend ss t) h k
on_each_inside (apply_by when kind way inner a) t h k =
    on_each_inside a (apply when kind way inner t) h.1 (h.0, k)

run_of_free : (nodes : Nodes) → NodesFree nodes → RunFree nodes
run_of_free no_node h = tt
run_of_free (extend_by ss a) h = run_of_free a h.1
run_of_free (apply_by when kind way inner a) h = (h.3, run_of_free a h.4)

-- Wide plans.
abbrev pub WideFree : Wide → Type 0
WideFree c = TreeFree c.below × KeysFree c.tests

keys_more : (keys : List (ℕ × Scalar)) (k : ℕ × Scalar) → KeysFree keys → NoArgument k.1 →
    KeysFree (keys ++ k ∷ [])
keys_more [] k h p = (p, tt)
keys_more (x ∷ keys) k h p = (h.0, keys_more keys k h.1 p)

test_free : (tests : List (ℕ × Scalar)) (s : Scalar) (c : Wide) → NoArgument s → WideFree c →
    WideFree (with_test tests s c)
test_free [] s c p h = ((p, h.0), h.1)
test_free (x ∷ tests) s c p h =
    (((p, tt), h.0), keys_more c.tests (tree_width c.below, constant (Truth true)) h.1 tt)

key_free : (s : Scalar) (c : Wide) → WideFree c → WideFree (with_key s c)
key_free (word (strict (Comparing Equals)) (more (column zero i) (more (column (suc d) j) none))) c
    h =
    (h.0, keys_more c.tests (place_in c.outs (tree_width c.below) i, column d j) h.1 tt)
key_free _ c h = h

wide_free : (t : PlanTree) → chained t ≡ true → TreeFree t → WideFree (widened t)
wide_free (extend ss t) p h =
    let c = widened t in let w = wide_free t (right_true (stays_all ss 1) (chained t) p) h.1 in
    ((scalars_free ss (own_row c.outs (tree_width c.below)) h.0, w.0), w.1)
wide_free (apply when kind way inner t) p h =
    let c = widened t in let names = own_row c.outs (tree_width c.below) in
    let w = wide_free t (right_true ((stays when 1 && (way_stays way 1 && kind_stays kind 1))
    && tree_within inner 1) (chained t) p) h.4 in (
      (
        scalar_free when names h.0,
        kind_free kind names h.1,
        way_free way names h.2,
        tree_free inner names h.3,
        w.0,
      ),
      w.1,
    )
wide_free (filter s t) p h =
    let c = widened t in let y = stays s 1 || is_key (tree_width t) s in
    let w = wide_free t (right_true y (chained t) p) h.1 in
    filter_by WideFree s c (tree_width t) (left_true y (chained t) p)
    (λ e. test_free c.tests (renamed_scalar s (own_row c.outs (tree_width c.below))) c
    (scalar_free s (own_row c.outs (tree_width c.below)) h.0) w)
    (λ e. key_free s c w)
wide_free (keep is t) p h = wide_free t p h
wide_free unit_row p h = (h, tt)
wide_free (scan name n) p h = (h, tt)
wide_free (values lists) p h = (h, tt)
wide_free (cross a b) p h = (h, tt)
wide_free (left_outer nodes s n a b) p h = (h, tt)
wide_free (settle t) p h = (h, tt)
wide_free (group keys ags t) p h = (h, tt)
wide_free (sort keys t) p h = (h, tt)

from_free : (tests : List (ℕ × Scalar)) (n : ℕ) → KeysFree tests → KeysFree (keys_from n tests)
from_free [] n h = tt
from_free (k ∷ tests) n h = (h.0, from_free tests (suc n) h.1)

-- Regions.
region_free : (t : PlanTree) (n : ℕ) → TreeFree t → NodesFree (region_columns t n).nodes
region_free (extend ss t) n h =
    let c = region_columns t n in
    join_free c.nodes (extend_by (renamed_scalars ss (merged_row n c.places (width c.nodes n)))
    no_node) (region_free t n h.1)
    (scalars_free ss (merged_row n c.places (width c.nodes n)) h.0, tt)
region_free (apply when kind way inner t) n h =
    let c = region_columns t n in let names = merged_row n c.places (width c.nodes n) in
    join_free c.nodes (apply_by (renamed_scalar when names) (renamed_kind kind names)
    (renamed_way way names) (renamed_tree inner names) no_node)
    (region_free t n h.4) (
      scalar_free when names h.0,
      kind_free kind names h.1,
      way_free way names h.2,
      tree_free inner names h.3,
      tt,
    )
region_free (keep is t) n h = region_free t n h
region_free unit_row n h = tt
region_free (scan name k) n h = tt
region_free (values lists) n h = tt
region_free (filter s t) n h = tt
region_free (cross a b) n h = tt
region_free (left_outer nodes s k a b) n h = tt
region_free (settle t) n h = tt
region_free (group keys ags t) n h = tt
region_free (sort keys t) n h = tt

checks_free : (is : List ℕ) → NoArguments (checks is)
checks_free [] = tt
checks_free (i ∷ is) = (((tt, tt), (tt, tt)), checks_free is)

values_free : (is : List ℕ) (s : Scalar) → NoArgument s → NoArgument (if_values is s)
values_free [] s h = h
values_free (i ∷ is) s h = (checks_free (i ∷ is), (h, tt))

into_free : (outs : List ℕ) (m i k : ℕ) → NoArguments (into_scalars outs m i k)
into_free outs m i zero = tt
into_free outs m i (suc k) =
    (values_free outs (column 0 (place_in outs m i)) tt, into_free outs m (suc i) k)

cells_free : (kind : Kind) (outs : List ℕ) (m : ℕ) → KindFree kind →
    NoArguments (region_cells kind outs m)
cells_free single outs m h = (tt, tt)
cells_free exists outs m h = (values_free outs (constant (Truth true)) tt, tt)
cells_free (member s) outs m h = ((h, (tt, tt)), tt)
cells_free (aggregate ags) outs m h = tt
cells_free (into k) outs m h = into_free outs m 0 k

where_free : (when s : Scalar) → NoArgument when → NoArgument s → NoArgument (where_true when s)
where_free (constant (Truth true)) s h k = k
where_free (constant (Truth false)) s h k = (tt, (k, tt))
where_free (constant Null) s h k = (tt, (k, tt))
where_free (constant (Int z)) s h k = (tt, (k, tt))
where_free (constant (Str t)) s h k = (tt, (k, tt))
where_free (column level i) s h k = (tt, (k, tt))
where_free (argument i) s h k = (h, (k, tt))
where_free (word w ss) s h k = (h, (k, tt))

where_all_free : (when : Scalar) (ss : Scalars) → NoArgument when → NoArguments ss →
    NoArguments (where_all when ss)
where_all_free when none h k = tt
where_all_free when (more s ss) h k = (where_free when s h k.0, where_all_free when ss h k.1)

-- What an Apply becomes.
abbrev pub Free : Removed → Type 0
Free (as_node way inner) = WayFree way × TreeFree inner
Free (as_columns c) = NodesFree c.nodes

abbrev pub Inside : Removed → Type 0
Inside (as_node way inner) = TreeFree inner
Inside (as_columns c) = RunFree c.nodes

node_free : (when : Scalar) (kind : Kind) (way : Way) (inner : PlanTree) (n : ℕ) → NoArgument when →
    KindFree kind → WayFree way → TreeFree inner →
    Free (removed_node when kind way inner n)
node_free when kind anew inner n hw hk hy h =
    removed_by Free when kind inner n (λ p. (once_by WayFree when tt tt, h))
    (λ p. let w = wide_free inner p h in
    (from_free (widened inner).tests (length (widened inner).outs) w.1, w.0))
    (λ p q. let c = region_columns inner n in let m = width c.nodes n in
    let names = own_row (places 0 n) m in
    join_free c.nodes (extend_by _ no_node) (region_free inner n h) (
      where_all_free (renamed_scalar when names) (region_cells (renamed_kind kind names) c.places m)
          (scalar_free when names hw)
          (cells_free (renamed_kind kind names) c.places m (kind_free kind names hk)),
      tt,
    ))
    (λ x y z. (tt, h))
node_free when kind once inner n hw hk hy h = (tt, h)
node_free when kind (lookup keys) inner n hw hk hy h = (hy, h)

node_inside : (when : Scalar) (kind : Kind) (way : Way) (inner : PlanTree) (n : ℕ) →
    TreeFree inner → Inside (removed_node when kind way inner n)
node_inside when kind anew inner n h =
    removed_by Inside when kind inner n (λ p. h) (λ p. (wide_free inner p h).0)
    (λ p q. join_inside (region_columns inner n).nodes (extend_by _ no_node)
    (run_of_free (region_columns inner n).nodes (region_free inner n h)) tt)
    (λ x y z. h)
node_inside when kind once inner n h = h
node_inside when kind (lookup keys) inner n h = h

put_free : (when : Scalar) (kind : Kind) (input : PlanTree) (d : Removed) → NoArgument when →
    KindFree kind → Free d → TreeFree input →
    TreeFree (put when kind input d)
put_free when kind input (as_node way inner) hw hk h k = (hw, hk, h.0, h.1, k)
put_free when kind input (as_columns c) hw hk h k = on_each_free c.nodes input h k

put_inside : (when : Scalar) (kind : Kind) (input : PlanTree) (d : Removed) → Inside d →
    InsideFree input → InsideFree (put when kind input d)
put_inside when kind input (as_node way inner) h k = (h, k)
put_inside when kind input (as_columns c) h k = on_each_inside c.nodes input h k

put_by_free : (when : Scalar) (kind : Kind) (outs : List ℕ) (m : ℕ) (d : Removed) (rest : List ℕ →
    ℕ → Columns) → NoArgument when → KindFree kind →
    Free d → ((is : List ℕ) (j : ℕ) → NodesFree (rest is j).nodes) →
    NodesFree (put_by when kind outs m d rest).nodes
put_by_free when kind outs m (as_node way inner) rest hw hk h k =
    (hw, hk, h.0, h.1, k (outs ++ places m (kind_width kind)) (m + kind_width kind))
put_by_free when kind outs m (as_columns c) rest hw hk h k =
    join_free c.nodes (rest (outs ++ c.places) (width c.nodes m)).nodes h
    (k (outs ++ c.places) (width c.nodes m))

put_by_inside : (when : Scalar) (kind : Kind) (outs : List ℕ) (m : ℕ) (d : Removed) (rest : List ℕ →
    ℕ → Columns) → Inside d →
    ((is : List ℕ) (j : ℕ) → RunFree (rest is j).nodes) →
    RunFree (put_by when kind outs m d rest).nodes
put_by_inside when kind outs m (as_node way inner) rest h k =
    (h, k (outs ++ places m (kind_width kind)) (m + kind_width kind))
put_by_inside when kind outs m (as_columns c) rest h k =
    join_inside c.nodes (rest (outs ++ c.places) (width c.nodes m)).nodes h
    (k (outs ++ c.places) (width c.nodes m))

mutual
  pub remove_free : (t : PlanTree) → TreeFree t → TreeFree (remove t)
  remove_free unit_row h = tt
  remove_free (scan name n) h = tt
  remove_free (values lists) h = h
  remove_free (extend ss input) h = (h.0, remove_free input h.1)
  remove_free (apply when kind way inner input) h =
      put_free when kind (remove input)
      (removed_node when kind way (remove inner) (tree_width (remove input))) h.0 h.1
      (node_free when kind way (remove inner) (tree_width (remove input)) h.0 h.1 h.2
      (remove_free inner h.3)) (remove_free input h.4)
  remove_free (filter s input) h = (h.0, remove_free input h.1)
  remove_free (keep is input) h = remove_free input h
  remove_free (cross a b) h = (remove_free a h.0, remove_free b h.1)
  remove_free (left_outer nodes s n a b) h =
      let m = tree_width (remove a) + n in let c = remove_nodes nodes (places 0 m) m in (
        run_free nodes h.0 (places 0 m) m,
        scalar_free s (own_row c.places (width c.nodes m)) h.1,
        remove_free a h.2,
        remove_free b h.3,
      )
  remove_free (settle input) h = remove_free input h
  remove_free (group keys ags input) h = remove_free input h
  remove_free (sort keys input) h = remove_free input h

  run_free : (nodes : Nodes) → NodesFree nodes → (outs : List ℕ) (m : ℕ) →
      NodesFree (remove_nodes nodes outs m).nodes
  run_free no_node h outs m = tt
  run_free (extend_by ss rest) h outs m = (
    scalars_free ss (own_row outs m) h.0,
    run_free rest h.1 (outs ++ places m (scalar_count ss))
        (m + scalar_count ss),
  )
  run_free (apply_by when kind way inner rest) h outs m =
      let names = own_row outs m in let when' = renamed_scalar when names in
      let kind' = renamed_kind kind names in let way' = renamed_way way names in
      let plan = renamed_tree (remove inner) names in
      put_by_free when' kind' outs m (removed_node when' kind' way' plan m) (remove_nodes rest)
      (scalar_free when names h.0) (kind_free kind names h.1)
      (node_free when' kind' way' plan m (scalar_free when names h.0) (kind_free kind names h.1)
      (way_free way names h.2)
      (tree_free (remove inner) names (remove_free inner h.3)))
      (λ is j. run_free rest h.4 is j)

mutual
  pub remove_inside : (t : PlanTree) → InsideFree t → InsideFree (remove t)
  remove_inside unit_row h = tt
  remove_inside (scan name n) h = tt
  remove_inside (values lists) h = tt
  remove_inside (extend ss input) h = remove_inside input h
  remove_inside (apply when kind way inner input) h =
      put_inside when kind (remove input)
      (removed_node when kind way (remove inner) (tree_width (remove input)))
      (node_inside when kind way (remove inner) (tree_width (remove input)) (remove_free inner h.0))
      (remove_inside input h.1)
  remove_inside (filter s input) h = remove_inside input h
  remove_inside (keep is input) h = remove_inside input h
  remove_inside (cross a b) h = (remove_inside a h.0, remove_inside b h.1)
  remove_inside (left_outer nodes s n a b) h =
      let m = tree_width (remove a) + n in
      (run_inside nodes h.0 (places 0 m) m, remove_inside a h.1, remove_inside b h.2)
  remove_inside (settle input) h = remove_inside input h
  remove_inside (group keys ags input) h = remove_inside input h
  remove_inside (sort keys input) h = remove_inside input h

  run_inside : (nodes : Nodes) → RunFree nodes → (outs : List ℕ) (m : ℕ) →
      RunFree (remove_nodes nodes outs m).nodes
  run_inside no_node h outs m = tt
  run_inside (extend_by ss rest) h outs m =
      run_inside rest h (outs ++ places m (scalar_count ss)) (m + scalar_count ss)
  run_inside (apply_by when kind way inner rest) h outs m =
      let names = own_row outs m in let when' = renamed_scalar when names in
      let kind' = renamed_kind kind names in let way' = renamed_way way names in
      let plan = renamed_tree (remove inner) names in
      put_by_inside when' kind' outs m (removed_node when' kind' way' plan m) (remove_nodes rest)
      (node_inside when' kind' way' plan m (tree_free (remove inner) names (remove_free inner h.0)))
      (λ is j. run_inside rest h.1 is j)

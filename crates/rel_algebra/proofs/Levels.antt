-- A renaming that keeps which levels are within keeps what a plan uses, and which Applies can go.
use Rattle.std.proofs.Common.{◌≡◌, ℕ, zero, suc, ◌+◌, ◌≤◌, Bool, true, ◌&&◌, ◌||◌, List, [], ◌∷◌}
use Rattle.std.proofs.Common.{refl, ap, ◌∙◌, arith}
use Rattle.sql_values.specs.declared.operators.Comparison.TheVariants.{Equals}
use Rattle.rel_algebra.specs.Applies.{applies, applies_in, way_count}
use Rattle.rel_algebra.specs.Emit.{joined_nodes}
use Rattle.rel_algebra.specs.Plan.{Kind, Nodes, PlanTree, Scalar, Scalars, Way, aggregate, anew}
use Rattle.rel_algebra.specs.Plan.{apply, apply_by, argument, column, constant, cross, exists}
use Rattle.rel_algebra.specs.Plan.{extend, extend_by, filter, group, keep, left_outer, lookup}
use Rattle.rel_algebra.specs.Plan.{member, more, no_node, none, on_each, once, scan, settle, single}
use Rattle.rel_algebra.specs.Plan.{sort, strict, tree_width, unit_row, values, word, into}
use Rattle.rel_algebra.specs.Removal.{chained, is_key, is_region, keys_stay, kind_stays, less}
use Rattle.rel_algebra.specs.Removal.{lists_stay, nodes_within, of_region, stays, stays_all}
use Rattle.rel_algebra.specs.Removal.{tree_within, way_stays}
use Rattle.rel_algebra.specs.Renaming.{Renaming, inside, merged_row, own_row, renamed_keys}
use Rattle.rel_algebra.specs.Renaming.{renamed_kind, renamed_lists, renamed_nodes, renamed_scalar}
use Rattle.rel_algebra.specs.Renaming.{renamed_scalars, renamed_tree, renamed_way}
use Rattle.rel_algebra.specs.Staying.{NoneGoes, NoneGoesIn, can_go}
use Rattle.rel_algebra.specs.Tree.{Comparing}
use Rattle.rel_algebra.proofs.Renamed.{width_renamed}
use Rattle.rel_algebra.proofs.Truths.{and_true, left_true, never, right_true}

abbrev pub LevelsKept : Renaming → ℕ → ℕ → Type 0
LevelsKept names n m = (level i : ℕ) → less (names level i).0 m ≡ less level n

inside_kept : (names : Renaming) (n m : ℕ) → LevelsKept names n m →
    LevelsKept (inside names) (suc n) (suc m)
inside_kept names n m h zero i = refl
inside_kept names n m h (suc level) i = h level i

pub own_kept : (outs : List ℕ) (k n : ℕ) → LevelsKept (own_row outs k) n n
own_kept outs k n zero i = refl
own_kept outs k n (suc level) i = refl

pub merged_kept : (k : ℕ) (outs : List ℕ) (m n : ℕ) →
    LevelsKept (merged_row k outs m) (suc (suc n)) (suc n)
merged_kept k outs m n zero i = refl
merged_kept k outs m n (suc zero) i = refl
merged_kept k outs m n (suc (suc level)) i = refl

pub none_kept : (names : Renaming) → LevelsKept names 0 0
none_kept names level i = refl

one_kept : (names : Renaming) → LevelsKept (inside names) 1 1
one_kept names = inside_kept names 0 0 (none_kept names)

mutual
  pub stays_renamed : (s : Scalar) (names : Renaming) (n m : ℕ) → LevelsKept names n m →
      stays (renamed_scalar s names) m ≡ stays s n
  stays_renamed (constant v) names n m h = refl
  stays_renamed (column level i) names n m h = h level i
  stays_renamed (argument i) names n m h = refl
  stays_renamed (word w ss) names n m h = all_stay_renamed ss names n m h

  pub all_stay_renamed : (ss : Scalars) (names : Renaming) (n m : ℕ) → LevelsKept names n m →
      stays_all (renamed_scalars ss names) m ≡ stays_all ss n
  all_stay_renamed none names n m h = refl
  all_stay_renamed (more s ss) names n m h =
      λ i. stays_renamed s names n m h i && all_stay_renamed ss names n m h i

lists_stay_renamed : (lists : List Scalars) (names : Renaming) (n m : ℕ) → LevelsKept names n m →
    lists_stay (renamed_lists lists names) m ≡ lists_stay lists n
lists_stay_renamed [] names n m h = refl
lists_stay_renamed (ss ∷ lists) names n m h =
    λ i. all_stay_renamed ss names n m h i && lists_stay_renamed lists names n m h i

pub kind_stays_renamed : (kind : Kind) (names : Renaming) (n m : ℕ) → LevelsKept names n m →
    kind_stays (renamed_kind kind names) m ≡ kind_stays kind n
kind_stays_renamed single names n m h = refl
kind_stays_renamed exists names n m h = refl
kind_stays_renamed (member s) names n m h = stays_renamed s names n m h
kind_stays_renamed (aggregate ags) names n m h = refl
kind_stays_renamed (into k) names n m h = refl

keys_stay_renamed : (keys : List (ℕ × Scalar)) (names : Renaming) (n m : ℕ) → LevelsKept names n m →
    keys_stay (renamed_keys keys names) m ≡ keys_stay keys n
keys_stay_renamed [] names n m h = refl
keys_stay_renamed (k ∷ keys) names n m h =
    λ i. stays_renamed k.1 names n m h i && keys_stay_renamed keys names n m h i

pub way_stays_renamed : (way : Way) (names : Renaming) (n m : ℕ) → LevelsKept names n m →
    way_stays (renamed_way way names) m ≡ way_stays way n
way_stays_renamed anew names n m h = refl
way_stays_renamed once names n m h = refl
way_stays_renamed (lookup keys) names n m h = keys_stay_renamed keys names n m h

mutual
  pub within_renamed : (t : PlanTree) (names : Renaming) (n m : ℕ) → LevelsKept names n m →
      tree_within (renamed_tree t names) m ≡ tree_within t n
  within_renamed unit_row names n m h = refl
  within_renamed (scan name k) names n m h = refl
  within_renamed (values lists) names n m h =
      lists_stay_renamed lists (inside names) (suc n) (suc m) (inside_kept names n m h)
  within_renamed (extend ss input) names n m h =
      λ i. all_stay_renamed ss (inside names) (suc n) (suc m) (inside_kept names n m h) i
      && within_renamed input names n m h i
  within_renamed (apply when kind way inner input) names n m h =
      let k = inside_kept names n m h in
      λ i. (stays_renamed when (inside names) (suc n) (suc m) k i
      && (way_stays_renamed way (inside names) (suc n) (suc m) k i
      && kind_stays_renamed kind (inside names) (suc n) (suc m) k i))
      && (within_renamed inner (inside names) (suc n) (suc m) k i
      && within_renamed input names n m h i)
  within_renamed (filter s input) names n m h =
      λ i. stays_renamed s (inside names) (suc n) (suc m) (inside_kept names n m h) i
      && within_renamed input names n m h i
  within_renamed (keep is input) names n m h = within_renamed input names n m h
  within_renamed (cross a b) names n m h =
      λ i. within_renamed a names n m h i && within_renamed b names n m h i
  within_renamed (left_outer nodes s k a b) names n m h =
      λ i. (nodes_within_renamed nodes names n m h i
      && stays_renamed s (inside names) (suc n) (suc m) (inside_kept names n m h) i)
      && (within_renamed a names n m h i && within_renamed b names n m h i)
  within_renamed (settle input) names n m h = within_renamed input names n m h
  within_renamed (group keys ags input) names n m h = within_renamed input names n m h
  within_renamed (sort keys input) names n m h = within_renamed input names n m h

  nodes_within_renamed : (nodes : Nodes) (names : Renaming) (n m : ℕ) → LevelsKept names n m →
      nodes_within (renamed_nodes nodes (inside names)) m ≡ nodes_within nodes n
  nodes_within_renamed no_node names n m h = refl
  nodes_within_renamed (extend_by ss rest) names n m h =
      λ i. all_stay_renamed ss (inside names) (suc n) (suc m) (inside_kept names n m h) i
      && nodes_within_renamed rest names n m h i
  nodes_within_renamed (apply_by when kind way inner rest) names n m h =
      let k = inside_kept names n m h in
      λ i. (stays_renamed when (inside names) (suc n) (suc m) k i
      && (way_stays_renamed way (inside names) (suc n) (suc m) k i
      && kind_stays_renamed kind (inside names) (suc n) (suc m) k i))
      && (within_renamed inner (inside names) (suc n) (suc m) k i
      && nodes_within_renamed rest names n m h i)

-- Chains and regions.
key_renamed : (n : ℕ) (s : Scalar) (names : Renaming) → is_key n (renamed_scalar s (inside names))
    ≡ is_key n s
key_renamed n (word (strict (Comparing Equals))
    (more (column zero i) (more (column (suc d) j) none))) names = refl
key_renamed n _ names = refl

pub chained_renamed : (t : PlanTree) (names : Renaming) → chained (renamed_tree t names) ≡ chained t
chained_renamed unit_row names = refl
chained_renamed (scan name k) names = refl
chained_renamed (values lists) names = within_renamed (values lists) names 0 0 (none_kept names)
chained_renamed (extend ss t) names = λ i. all_stay_renamed ss (inside names) 1 1 (one_kept names) i
    && chained_renamed t names i
chained_renamed (apply when kind way inner t) names =
    let k = one_kept names in
    λ i. ((stays_renamed when (inside names) 1 1 k i
    && (way_stays_renamed way (inside names) 1 1 k i
    && kind_stays_renamed kind (inside names) 1 1 k i))
    && within_renamed inner (inside names) 1 1 k i) && chained_renamed t names i
chained_renamed (filter s t) names =
    λ i. (stays_renamed s (inside names) 1 1 (one_kept names) i || test i)
    && chained_renamed t names i
  where
    test : is_key (tree_width (renamed_tree t names)) (renamed_scalar s (inside names))
        ≡ is_key (tree_width t) s
    test = ap (λ (n : ℕ). is_key n (renamed_scalar s (inside names))) (width_renamed t names)
        ∙ key_renamed (tree_width t) s names
chained_renamed (keep is t) names = chained_renamed t names
chained_renamed (cross a b) names = within_renamed (cross a b) names 0 0 (none_kept names)
chained_renamed (left_outer nodes s k a b) names =
    within_renamed (left_outer nodes s k a b) names 0 0 (none_kept names)
chained_renamed (settle t) names = within_renamed t names 0 0 (none_kept names)
chained_renamed (group keys ags t) names = within_renamed t names 0 0 (none_kept names)
chained_renamed (sort keys t) names = within_renamed t names 0 0 (none_kept names)

region_renamed : (t : PlanTree) (names : Renaming) → is_region (renamed_tree t names) ≡ is_region t
region_renamed unit_row names = refl
region_renamed (scan name k) names = refl
region_renamed (values lists) names = refl
region_renamed (extend ss t) names = region_renamed t names
region_renamed (apply when kind way inner t) names = region_renamed t names
region_renamed (filter s t) names = refl
region_renamed (keep is t) names = region_renamed t names
region_renamed (cross a b) names = refl
region_renamed (left_outer nodes s k a b) names = refl
region_renamed (settle t) names = refl
region_renamed (group keys ags t) names = refl
region_renamed (sort keys t) names = refl

of_region_renamed : (kind : Kind) (names : Renaming) → of_region (renamed_kind kind names)
    ≡ of_region kind
of_region_renamed single names = refl
of_region_renamed exists names = refl
of_region_renamed (member s) names = refl
of_region_renamed (aggregate ags) names = refl
of_region_renamed (into k) names = refl

pub can_go_renamed : (kind : Kind) (way : Way) (inner : PlanTree) (names other : Renaming) →
    can_go (renamed_kind kind other) (renamed_way way other) (renamed_tree inner names)
    ≡ can_go kind way inner
can_go_renamed kind anew inner names other =
    λ i. within_renamed inner names 0 0 (none_kept names) i
    || (chained_renamed inner names i
    || (region_renamed inner names i && of_region_renamed kind other i))
can_go_renamed kind once inner names other = refl
can_go_renamed kind (lookup keys) inner names other = refl

pub way_count_renamed : (way : Way) (names : Renaming) → way_count (renamed_way way names)
    ≡ way_count way
way_count_renamed anew names = refl
way_count_renamed once names = refl
way_count_renamed (lookup keys) names = refl

mutual
  pub none_goes_renamed : (t : PlanTree) (names : Renaming) → NoneGoes t →
      NoneGoes (renamed_tree t names)
  none_goes_renamed unit_row names h = tt
  none_goes_renamed (scan name k) names h = tt
  none_goes_renamed (values lists) names h = tt
  none_goes_renamed (extend ss input) names h = none_goes_renamed input names h
  none_goes_renamed (apply when kind way inner input) names h = (
    can_go_renamed kind way inner (inside names) (inside names)
        ∙ h.0,
    none_goes_renamed inner (inside names) h.1,
    none_goes_renamed input names h.2,
  )
  none_goes_renamed (filter s input) names h = none_goes_renamed input names h
  none_goes_renamed (keep is input) names h = none_goes_renamed input names h
  none_goes_renamed (cross a b) names h =
      (none_goes_renamed a names h.0, none_goes_renamed b names h.1)
  none_goes_renamed (left_outer nodes s k a b) names h = (
    nodes_go_renamed nodes (inside names) h.0,
    none_goes_renamed a names h.1,
    none_goes_renamed b names h.2,
  )
  none_goes_renamed (settle input) names h = none_goes_renamed input names h
  none_goes_renamed (group keys ags input) names h = none_goes_renamed input names h
  none_goes_renamed (sort keys input) names h = none_goes_renamed input names h

  nodes_go_renamed : (nodes : Nodes) (names : Renaming) → NoneGoesIn nodes →
      NoneGoesIn (renamed_nodes nodes names)
  nodes_go_renamed no_node names h = tt
  nodes_go_renamed (extend_by ss rest) names h = nodes_go_renamed rest names h
  nodes_go_renamed (apply_by when kind way inner rest) names h = (
    can_go_renamed kind way inner names names ∙ h.0,
    none_goes_renamed inner names h.1,
    nodes_go_renamed rest names h.2,
  )

mutual
  pub applies_renamed : (t : PlanTree) (names : Renaming) → applies (renamed_tree t names)
      ≡ applies t
  applies_renamed unit_row names = refl
  applies_renamed (scan name k) names = refl
  applies_renamed (values lists) names = refl
  applies_renamed (extend ss input) names = applies_renamed input names
  applies_renamed (apply when kind way inner input) names =
      λ i. way_count_renamed way (inside names) i
      + (applies_renamed inner (inside names) i + applies_renamed input names i)
  applies_renamed (filter s input) names = applies_renamed input names
  applies_renamed (keep is input) names = applies_renamed input names
  applies_renamed (cross a b) names = λ i. applies_renamed a names i + applies_renamed b names i
  applies_renamed (left_outer nodes s k a b) names =
      λ i. nodes_applies nodes (inside names) i
      + (applies_renamed a names i + applies_renamed b names i)
  applies_renamed (settle input) names = applies_renamed input names
  applies_renamed (group keys ags input) names = applies_renamed input names
  applies_renamed (sort keys input) names = applies_renamed input names

  nodes_applies : (nodes : Nodes) (names : Renaming) → applies_in (renamed_nodes nodes names)
      ≡ applies_in nodes
  nodes_applies no_node names = refl
  nodes_applies (extend_by ss rest) names = nodes_applies rest names
  nodes_applies (apply_by when kind way inner rest) names =
      λ i. way_count_renamed way names i
      + (applies_renamed inner names i + nodes_applies rest names i)

-- Within more rows.
less_more : (i n m : ℕ) → n ≤ m → less i n ≡ true → less i m ≡ true
less_more i zero m l h = never h
less_more zero (suc n) zero l h = absurd (omega arith)
less_more zero (suc n) (suc m) l h = refl
less_more (suc i) (suc n) zero l h = absurd (omega arith)
less_more (suc i) (suc n) (suc m) l h = less_more i n m (omega arith) h

and_more : (a b c d : Bool) → (a ≡ true → c ≡ true) → (b ≡ true → d ≡ true) → (a && b) ≡ true →
    (c && d) ≡ true
and_more a b c d f g h = and_true c d (f (left_true a b h)) (g (right_true a b h))

mutual
  stays_more : (s : Scalar) (n m : ℕ) → n ≤ m → stays s n ≡ true → stays s m ≡ true
  stays_more (constant v) n m l h = refl
  stays_more (column level i) n m l h = less_more level n m l h
  stays_more (argument i) n m l h = refl
  stays_more (word w ss) n m l h = all_stay_more ss n m l h

  all_stay_more : (ss : Scalars) (n m : ℕ) → n ≤ m → stays_all ss n ≡ true → stays_all ss m ≡ true
  all_stay_more none n m l h = refl
  all_stay_more (more s ss) n m l h =
      and_more (stays s n) (stays_all ss n) (stays s m) (stays_all ss m) (stays_more s n m l)
      (all_stay_more ss n m l) h

lists_more : (lists : List Scalars) (n m : ℕ) → n ≤ m → lists_stay lists n ≡ true →
    lists_stay lists m ≡ true
lists_more [] n m l h = refl
lists_more (ss ∷ lists) n m l h =
    and_more (stays_all ss n) (lists_stay lists n) (stays_all ss m) (lists_stay lists m)
    (all_stay_more ss n m l) (lists_more lists n m l) h

kind_more : (kind : Kind) (n m : ℕ) → n ≤ m → kind_stays kind n ≡ true → kind_stays kind m ≡ true
kind_more single n m l h = refl
kind_more exists n m l h = refl
kind_more (member s) n m l h = stays_more s n m l h
kind_more (aggregate ags) n m l h = refl
kind_more (into k) n m l h = refl

keys_more : (keys : List (ℕ × Scalar)) (n m : ℕ) → n ≤ m → keys_stay keys n ≡ true →
    keys_stay keys m ≡ true
keys_more [] n m l h = refl
keys_more (k ∷ keys) n m l h =
    and_more (stays k.1 n) (keys_stay keys n) (stays k.1 m) (keys_stay keys m)
    (stays_more k.1 n m l) (keys_more keys n m l) h

way_more : (way : Way) (n m : ℕ) → n ≤ m → way_stays way n ≡ true → way_stays way m ≡ true
way_more anew n m l h = refl
way_more once n m l h = refl
way_more (lookup keys) n m l h = keys_more keys n m l h

node_more : (when : Scalar) (kind : Kind) (way : Way) (n m : ℕ) → n ≤ m →
    (stays when n && (way_stays way n && kind_stays kind n)) ≡ true →
    (stays when m && (way_stays way m && kind_stays kind m)) ≡ true
node_more when kind way n m l h =
    and_more (stays when n) (way_stays way n && kind_stays kind n) (stays when m) (way_stays way m
    && kind_stays kind m) (stays_more when n m l)
    (and_more (way_stays way n) (kind_stays kind n) (way_stays way m) (kind_stays kind m)
    (way_more way n m l) (kind_more kind n m l)) h

mutual
  pub within_more : (t : PlanTree) (n m : ℕ) → n ≤ m → tree_within t n ≡ true →
      tree_within t m ≡ true
  within_more unit_row n m l h = refl
  within_more (scan name k) n m l h = refl
  within_more (values lists) n m l h = lists_more lists (suc n) (suc m) (omega arith) h
  within_more (extend ss input) n m l h =
      and_more (stays_all ss (suc n)) (tree_within input n) (stays_all ss (suc m))
      (tree_within input m) (all_stay_more ss (suc n) (suc m) (omega arith))
      (within_more input n m l) h
  within_more (apply when kind way inner input) n m l h =
      let a = stays when (suc n) && (way_stays way (suc n) && kind_stays kind (suc n)) in
      let b = stays when (suc m) && (way_stays way (suc m) && kind_stays kind (suc m)) in
      and_more a (tree_within inner (suc n) && tree_within input n) b (tree_within inner (suc m)
      && tree_within input m)
      (node_more when kind way (suc n) (suc m) (omega arith))
      (and_more (tree_within inner (suc n)) (tree_within input n) (tree_within inner (suc m))
      (tree_within input m)
      (within_more inner (suc n) (suc m) (omega arith)) (within_more input n m l)) h
  within_more (filter s input) n m l h =
      and_more (stays s (suc n)) (tree_within input n) (stays s (suc m)) (tree_within input m)
      (stays_more s (suc n) (suc m) (omega arith))
      (within_more input n m l) h
  within_more (keep is input) n m l h = within_more input n m l h
  within_more (cross a b) n m l h =
      and_more (tree_within a n) (tree_within b n) (tree_within a m) (tree_within b m)
      (within_more a n m l) (within_more b n m l) h
  within_more (left_outer nodes s k a b) n m l h =
      and_more (nodes_within nodes n && stays s (suc n)) (tree_within a n && tree_within b n)
      (nodes_within nodes m && stays s (suc m))
      (tree_within a m && tree_within b m)
      (and_more (nodes_within nodes n) (stays s (suc n)) (nodes_within nodes m) (stays s (suc m))
      (nodes_more nodes n m l)
      (stays_more s (suc n) (suc m) (omega arith)))
      (and_more (tree_within a n) (tree_within b n) (tree_within a m) (tree_within b m)
      (within_more a n m l) (within_more b n m l)) h
  within_more (settle input) n m l h = within_more input n m l h
  within_more (group keys ags input) n m l h = within_more input n m l h
  within_more (sort keys input) n m l h = within_more input n m l h

  nodes_more : (nodes : Nodes) (n m : ℕ) → n ≤ m → nodes_within nodes n ≡ true →
      nodes_within nodes m ≡ true
  nodes_more no_node n m l h = refl
  nodes_more (extend_by ss rest) n m l h =
      and_more (stays_all ss (suc n)) (nodes_within rest n) (stays_all ss (suc m))
      (nodes_within rest m) (all_stay_more ss (suc n) (suc m) (omega arith))
      (nodes_more rest n m l) h
  nodes_more (apply_by when kind way inner rest) n m l h =
      let a = stays when (suc n) && (way_stays way (suc n) && kind_stays kind (suc n)) in
      let b = stays when (suc m) && (way_stays way (suc m) && kind_stays kind (suc m)) in
      and_more a (tree_within inner (suc n) && nodes_within rest n) b (tree_within inner (suc m)
      && nodes_within rest m)
      (node_more when kind way (suc n) (suc m) (omega arith))
      (and_more (tree_within inner (suc n)) (nodes_within rest n) (tree_within inner (suc m))
      (nodes_within rest m)
      (within_more inner (suc n) (suc m) (omega arith)) (nodes_more rest n m l)) h

-- Counts of runs.
pub applies_joined : (a b : Nodes) → applies_in (joined_nodes a b) ≡ applies_in a + applies_in b
applies_joined no_node b = let e : applies_in b ≡ 0 + applies_in b = omega arith in e
applies_joined (extend_by ss a) b = applies_joined a b
applies_joined (apply_by when kind way inner a) b =
    let e = applies_joined a b in
    let d : way_count way + (applies inner + applies_in (joined_nodes a b))
    ≡ way_count way + (applies inner + applies_in a) +
    applies_in b = omega (arith, e) in d

pub applies_on_each : (nodes : Nodes) (t : PlanTree) → applies (on_each nodes t) ≡ applies_in nodes
    + applies t
applies_on_each no_node t = let e : applies t ≡ 0 + applies t = omega arith in e
applies_on_each (extend_by ss a) t = applies_on_each a (extend ss t)
applies_on_each (apply_by when kind way inner a) t =
    let e = applies_on_each a (apply when kind way inner t) in
    let d : applies (on_each a (apply when kind way inner t)) ≡ way_count way +
    (applies inner + applies_in a) + applies t = omega (arith, e) in d

pub none_goes_joined : (a b : Nodes) → NoneGoesIn a → NoneGoesIn b → NoneGoesIn (joined_nodes a b)
none_goes_joined no_node b h k = k
none_goes_joined (extend_by ss a) b h k = none_goes_joined a b h k
none_goes_joined (apply_by when kind way inner a) b h k = (h.0, h.1, none_goes_joined a b h.2 k)

pub none_goes_on_each : (nodes : Nodes) (t : PlanTree) → NoneGoesIn nodes → NoneGoes t →
    NoneGoes (on_each nodes t)
none_goes_on_each no_node t h k = k
none_goes_on_each (extend_by ss a) t h k = none_goes_on_each a (extend ss t) h k
none_goes_on_each (apply_by when kind way inner a) t h k =
    none_goes_on_each a (apply when kind way inner t) h.2 (h.0, h.1, k)

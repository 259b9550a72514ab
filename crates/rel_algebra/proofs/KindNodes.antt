-- Kinds of the columns that runs of nodes add, and of scalars over them.
use Rattle.std.proofs.Common.{◌≡◌, ℕ, zero, suc, ◌+◌, ◌<◌, true, ◌&&◌, List, [], ◌∷◌, ◌++◌, length}
use Rattle.std.proofs.Common.{Option, Some, None, refl, ap, sym, ◌∙◌, subst, arith, length-append}
use Rattle.rel_algebra.specs.Emit.{Emitted, EmittedAll, Env, Folded, Place, at, below}
use Rattle.rel_algebra.specs.Emit.{columns_within}
use Rattle.rel_algebra.specs.Emit.{entered, filters, filters_width, first_and, folded_env, given}
use Rattle.rel_algebra.specs.Emit.{joined_nodes, lifted, listed, listed_by, nowhere, outward}
use Rattle.rel_algebra.specs.Emit.{own_places, passed, read, scalar_count, singly, then_columns}
use Rattle.rel_algebra.specs.Emit.{width, with_place}
use Rattle.rel_algebra.specs.Joins.{places}
use Rattle.rel_algebra.specs.Kinds.{found_kinds, way_good, DataKind, Kinds, aggregate_kinds}
use Rattle.rel_algebra.specs.Kinds.{aggregates_good}
use Rattle.rel_algebra.specs.Kinds.{apply_kinds, is_test, kind_at, kind_good, kinds_at, kinds_row}
use Rattle.rel_algebra.specs.Kinds.{nodes_good, nodes_kinds, scalar_good, scalar_kind, scalars_good}
use Rattle.rel_algebra.specs.Kinds.{scalars_kinds, tree_good, tree_kinds}
use Rattle.rel_algebra.specs.Plan.{Kind, Nodes, PlanTree, Scalars, aggregate, apply, apply_by}
use Rattle.rel_algebra.specs.Plan.{column, exists, extend, extend_by, filter, kind_width, member}
use Rattle.rel_algebra.specs.Plan.{more, no_node, none, on_each, single, into}
use Rattle.rel_algebra.specs.Tree.{Aggregate}
use Rattle.rel_algebra.proofs.Truths.{and_true, both, left_true, right_true}
use Rattle.rel_algebra.proofs.KindRows.{KindsGrow, kinds_grow_at, kinds_grow_by, kinds_grow_same}
use Rattle.rel_algebra.proofs.KindRows.{kinds_grow_trans, kinds_grown_at, kinds_grown_columns}
use Rattle.rel_algebra.proofs.KindWords.{Has, HaveAll}

pub kinds_long : (ss : Scalars) (ks : List Kinds) (ps : Kinds) → length (scalars_kinds ss ks ps)
    ≡ scalar_count ss
kinds_long none ks ps = refl
kinds_long (more s ss) ks ps = ap suc (kinds_long ss ks ps)

pub aggregates_long : (ags : List (Aggregate × ℕ)) (r : Kinds) → length (aggregate_kinds ags r)
    ≡ length ags
aggregates_long [] r = refl
aggregates_long (a ∷ ags) r = ap suc (aggregates_long ags r)

into_long : (r : Kinds) (i n : ℕ) → length (kinds_at r (places i n)) ≡ n
into_long r i zero = refl
into_long r i (suc n) = ap suc (into_long r (suc i) n)

pub apply_long : (kind : Kind) (r : Kinds) → length (apply_kinds kind r) ≡ kind_width kind
apply_long single r = refl
apply_long exists r = refl
apply_long (member s) r = refl
apply_long (aggregate ags) r = aggregates_long ags r
apply_long (into k) r = into_long r 0 k

pub kinds_wider : (r j : Kinds) (n k : ℕ) → length r ≡ n → length j ≡ k → length (r ++ j) ≡ n + k
kinds_wider r j n k a b = length-append r j ∙ both (λ (x y : ℕ). x + y) _ _ _ _ a b

pub after_long : (nodes : Nodes) (T : List ℕ → Kinds) (r : Kinds) (ks : List Kinds) (ps : Kinds)
    (n : ℕ) → length r ≡ n →
    length (nodes_kinds nodes T r ks ps) ≡ width nodes n
after_long no_node T r ks ps n e = e
after_long (extend_by ss a) T r ks ps n e =
    after_long a T (r ++ scalars_kinds ss (r ∷ ks) ps) ks ps (n + scalar_count ss)
    (kinds_wider r (scalars_kinds ss (r ∷ ks) ps) n (scalar_count ss) e (kinds_long ss (r ∷ ks) ps))
after_long (apply_by when kind way inner a) T r ks ps n e =
    let j = apply_kinds kind (found_kinds way (tree_kinds inner T (r ∷ ks) ps)) in
    after_long a T (r ++ j) ks ps (n + kind_width kind)
    (kinds_wider r j n (kind_width kind) e
    (apply_long kind (found_kinds way (tree_kinds inner T (r ∷ ks) ps))))

pub after_grow : (nodes : Nodes) (T : List ℕ → Kinds) (r : Kinds) (ks : List Kinds) (ps : Kinds) →
    KindsGrow r (nodes_kinds nodes T r ks ps)
after_grow no_node T r ks ps = kinds_grow_same r
after_grow (extend_by ss a) T r ks ps = let j = scalars_kinds ss (r ∷ ks) ps in
    kinds_grow_trans r (r ++ j) _ (kinds_grow_by r j)
    (after_grow a T (r ++ j) ks ps)
after_grow (apply_by when kind way inner a) T r ks ps =
    let j = apply_kinds kind (found_kinds way (tree_kinds inner T (r ∷ ks) ps)) in
    kinds_grow_trans r (r ++ j) _
    (kinds_grow_by r j) (after_grow a T (r ++ j) ks ps)

pub after_join : (a b : Nodes) (T : List ℕ → Kinds) (r : Kinds) (ks : List Kinds) (ps : Kinds) →
    nodes_kinds (joined_nodes a b) T r ks ps ≡ nodes_kinds b T (nodes_kinds a T r ks ps) ks ps
after_join no_node b T r ks ps = refl
after_join (extend_by ss a) b T r ks ps = after_join a b T (r ++ scalars_kinds ss (r ∷ ks) ps) ks ps
after_join (apply_by when kind way inner a) b T r ks ps =
    after_join a b T (r ++ apply_kinds kind (found_kinds way (tree_kinds inner T (r ∷ ks) ps))) ks
    ps

pub good_join : (a b : Nodes) (T : List ℕ → Kinds) (r : Kinds) (ks : List Kinds) (ps : Kinds) →
    nodes_good a T r ks ps ≡ true →
    nodes_good b T (nodes_kinds a T r ks ps) ks ps ≡ true → nodes_good (joined_nodes a b) T r ks ps
    ≡ true
good_join no_node b T r ks ps p q = q
good_join (extend_by ss a) b T r ks ps p q =
    let x = scalars_good ss (r ∷ ks) ps in let j = r ++ scalars_kinds ss (r ∷ ks) ps in
    and_true x (nodes_good (joined_nodes a b) T j ks ps) (left_true x (nodes_good a T j ks ps) p)
    (good_join a b T j ks ps (right_true x (nodes_good a T j ks ps) p) q)
good_join (apply_by when kind way inner a) b T r ks ps p q =
    let x = is_test when (r ∷ ks) ps && (way_good way (tree_kinds inner T (r ∷ ks) ps) (r ∷ ks) ps
    && kind_good kind (found_kinds way (tree_kinds inner T (r ∷ ks) ps)) (r ∷ ks) ps) in
    let y = tree_good inner T (r ∷ ks) ps in let j
    = r ++ apply_kinds kind (found_kinds way (tree_kinds inner T (r ∷ ks) ps)) in
    let m : (y && nodes_good a T j ks ps) ≡ true = right_true x (y && nodes_good a T j ks ps) p in
    and_true x (y && nodes_good (joined_nodes a b) T j ks ps)
    (left_true x (y && nodes_good a T j ks ps) p)
    (and_true y (nodes_good (joined_nodes a b) T j ks ps) (left_true y (nodes_good a T j ks ps) m)
    (good_join a b T j ks ps (right_true y (nodes_good a T j ks ps) m) q))

-- Environments.
abbrev pub KindsAgree : Env → List Kinds → Kinds → List Kinds → Kinds → Type 0
KindsAgree e ks ps g p = ((d i : ℕ) → scalar_kind (read (e.columns d i)) ks ps
    ≡ kind_at (kinds_row g d) i) ×
    ((i : ℕ) → scalar_kind (read (e.params i)) ks ps ≡ kind_at p i)

abbrev pub KindsRead : Env → Kinds → List Kinds → Kinds → List Kinds → Kinds → Type 0
KindsRead e r ks ps g p = (z : Kinds) → KindsGrow r z → KindsAgree e (z ∷ ks) ps g p

pub read_on : (e : Env) (r z : Kinds) (ks : List Kinds) (ps : Kinds) (g : List Kinds) (p : Kinds) →
    KindsRead e r ks ps g p → KindsGrow r z →
    KindsRead e z ks ps g p
read_on e r z ks ps g p h k = λ y j. h y (kinds_grow_trans r z y k j)

pub below_kind : (r : Kinds) (i : ℕ) (p : Place) (ks : List Kinds) (ps : Kinds) →
    (i < length r → scalar_kind (read p) ks ps ≡ kind_at r i) →
    scalar_kind (read (below (length r) i p)) ks ps ≡ kind_at r i
below_kind [] i p ks ps h = refl
below_kind (k ∷ r) zero p ks ps h = h (omega arith)
below_kind (k ∷ r) (suc i) p ks ps h = below_kind r i p ks ps (λ l. h (omega arith))

outward_kind : (p : Place) (z : Kinds) (ks : List Kinds) (ps : Kinds) →
    scalar_kind (read (outward p)) (z ∷ ks) ps ≡ scalar_kind (read p) ks ps
outward_kind (at level i) z ks ps = refl
outward_kind (given i) z ks ps = refl
outward_kind nowhere z ks ps = refl

pub entered_kinds : (e : Env) (n : ℕ) (r : Kinds) (ks : List Kinds) (ps : Kinds) (g : List Kinds)
    (p : Kinds) → length r ≡ n →
    KindsAgree e ks ps g p → KindsRead (entered e n) r ks ps (r ∷ g) p
entered_kinds e n r ks ps g p l h z k = (columns, λ i. outward_kind (e.params i) z ks ps ∙ h.1 i)
  where
    columns : (d i : ℕ) → scalar_kind (read (columns_within e n d i)) (z ∷ ks) ps
        ≡ kind_at (kinds_row (r ∷ g) d) i
    columns zero i = subst (λ (m : ℕ). scalar_kind (read (below m i (at 0 i))) (z ∷ ks) ps
        ≡ kind_at r i) l
        (below_kind r i (at 0 i) (z ∷ ks) ps (λ j. kinds_grow_at r z i k j))
    columns (suc d) i = outward_kind (e.columns d i) z ks ps ∙ h.0 d i

pub lifted_kinds : (e : Env) (r : Kinds) (ks : List Kinds) (ps : Kinds) (g : List Kinds)
    (p : Kinds) → KindsAgree e ks ps g p →
    KindsRead (lifted e) r ks ps g p
lifted_kinds e r ks ps g p h z k = (
  λ d i. outward_kind (e.columns d i) z ks ps
      ∙ h.0 d i,
  λ i. outward_kind (e.params i) z ks ps ∙ h.1 i,
)

pub passed_kinds : (m : ℕ) (r vs : Kinds) (ks : List Kinds) (ps : Kinds) → length r ≡ m →
    KindsRead (passed m (length vs)) (r ++ vs) ks ps [] vs
passed_kinds m r vs ks ps e z k = (
  λ d i. refl,
  λ i. below_kind vs i (at 0 (m + i)) (z ∷ ks) ps
      (λ h. kinds_grown_at r vs z m i e k h),
)

pub folded_kinds : (e : Env) (r vs : Kinds) (n m : ℕ) (ks : List Kinds) (ps : Kinds)
    (g : List Kinds) (p : Kinds) → length r ≡ n → length vs ≡ m →
    KindsRead e r ks ps g p → KindsRead (folded_env e n m) (r ++ vs) ks ps (vs ∷ g) p
folded_kinds e r vs n m ks ps g p lr lv h z k =
    (columns, (h z (kinds_grow_trans r (r ++ vs) z (kinds_grow_by r vs) k)).1)
  where
    columns : (d i : ℕ) → scalar_kind (read ((folded_env e n m).columns d i)) (z ∷ ks) ps
        ≡ kind_at (kinds_row (vs ∷ g) d) i
    columns zero i = subst (λ (j : ℕ). scalar_kind (read (below j i (at 0 (n + i)))) (z ∷ ks) ps
        ≡ kind_at vs i) lv
        (below_kind vs i (at 0 (n + i)) (z ∷ ks) ps (λ j. kinds_grown_at r vs z n i lr k j))
    columns (suc d) i = (h z (kinds_grow_trans r (r ++ vs) z (kinds_grow_by r vs) k)).0 d i

-- Emitted nodes and scalars, on rows of the kinds r.
abbrev pub Yields : Emitted → (List ℕ → Kinds) → Kinds → List Kinds → Kinds → DataKind → Type 0
Yields a T r ks ps k = (nodes_good a.nodes T r ks ps ≡ true)
    × ((z : Kinds) → KindsGrow (nodes_kinds a.nodes T r ks ps) z → Has a.scalar (z ∷ ks) ps
    k)

abbrev pub YieldsAll : EmittedAll → (List ℕ → Kinds) → Kinds → List Kinds → Kinds → Kinds → Type 0
YieldsAll a T r ks ps kk = (nodes_good a.nodes T r ks ps ≡ true)
    × ((z : Kinds) → KindsGrow (nodes_kinds a.nodes T r ks ps) z → HaveAll a.scalars
    (z ∷ ks) ps kk)

-- what is folded, where there is anything
abbrev pub FoldIs : Option Folded → (List ℕ → Kinds) → Kinds → List Kinds → Kinds → ℕ → Kinds →
    Type 0
FoldIs None T r ks ps n kk = Unit {0}
FoldIs (Some a) T r ks ps n kk =
    (aggregates_good a.aggregates (tree_kinds a.input T (r ∷ ks) ps) ≡ true)
    × (tree_good a.input T (r ∷ ks) ps ≡ true)
    × YieldsAll (a.list n) T (r ++ aggregate_kinds a.aggregates (tree_kinds a.input T (r ∷ ks) ps))
    ks ps kk

pub first_and_kinds : (a : Emitted) (b : ℕ → EmittedAll) (n : ℕ) (T : List ℕ →
    Kinds) (r : Kinds) (ks : List Kinds) (ps : Kinds) (k : DataKind)
    (kk : Kinds) → length r ≡ n → Yields a T r ks ps k →
    ((z : Kinds) → length z ≡ width a.nodes n → KindsGrow r z →
    YieldsAll (b (width a.nodes n)) T z ks ps kk) →
    YieldsAll (first_and a b n) T r ks ps (k ∷ kk)
first_and_kinds a b n T r ks ps k kk l ya yb =
    let q = nodes_kinds a.nodes T r ks ps in let m = width a.nodes n in let c = b m in
    let y = yb q (after_long a.nodes T r ks ps n l)
    (after_grow a.nodes T r ks ps) in (
      good_join a.nodes c.nodes T r ks ps ya.0 y.0,
      λ z g.
          let g' : KindsGrow (nodes_kinds c.nodes T q ks ps) z =
          subst (λ (j : Kinds). KindsGrow j z) (after_join a.nodes c.nodes T r ks ps) g in
          let ha = ya.1 z (kinds_grow_trans q _ z (after_grow c.nodes T q ks ps) g') in
          let hb = y.1 z g' in (
            both (λ (x : DataKind) (xs : Kinds). x ∷ xs) _ _ _ _ ha.0 hb.0,
            and_true (scalar_good a.scalar (z ∷ ks) ps)
                (scalars_good c.scalars (z ∷ ks) ps) ha.1 hb.1,
          ),
    )

pub singly_kinds : (a : Emitted) (T : List ℕ → Kinds) (r : Kinds) (ks : List Kinds) (ps : Kinds)
    (k : DataKind) → Yields a T r ks ps k →
    YieldsAll (singly a) T r ks ps (k ∷ [])
singly_kinds a T r ks ps k y = (
  y.0,
  λ z g. let h = y.1 z g in (
    ap (λ (x : DataKind). x ∷ []) h.0,
    and_true (scalar_good a.scalar (z ∷ ks) ps) true
        h.1 refl,
  ),
)

pub then_columns_kinds : (a : EmittedAll) (go : ℕ → ℕ → Emitted) (n : ℕ) (T : List ℕ →
    Kinds) (r kk : Kinds) (ks : List Kinds) (ps : Kinds)
    (k : DataKind) → length r ≡ n → YieldsAll a T r ks ps kk →
    ((z : Kinds) → length z ≡ width a.nodes n → KindsGrow r z → length kk ≡ scalar_count a.scalars →
    Yields
    (go (width a.nodes n) (scalar_count a.scalars)) T (z ++ kk) ks ps k) →
    Yields (then_columns a go n) T r ks ps k
then_columns_kinds a go n T r kk ks ps k l ya yc =
    let q = nodes_kinds a.nodes T r ks ps in let m = width a.nodes n in
    let c = go m (scalar_count a.scalars) in
    let h = ya.1 q (kinds_grow_same q) in
    let y = yc q (after_long a.nodes T r ks ps n l) (after_grow a.nodes T r ks ps)
    (ap (λ (j : Kinds). length j) (sym h.0) ∙ kinds_long a.scalars (q ∷ ks) ps) in (
      good_join a.nodes (extend_by a.scalars c.nodes) T r ks ps ya.0
          (and_true (scalars_good a.scalars (q ∷ ks) ps)
          (nodes_good c.nodes T (q ++ scalars_kinds a.scalars (q ∷ ks) ps) ks ps) h.1
          (subst (λ (j : Kinds). nodes_good c.nodes T (q ++ j) ks ps ≡ true) (sym h.0) y.0)),
      λ z g. y.1 z (subst (λ (j : Kinds). KindsGrow j z)
          (after_join a.nodes (extend_by a.scalars c.nodes) T r ks ps ∙ ap
          (λ (j : Kinds). nodes_kinds c.nodes T (q ++ j) ks ps) h.0) g),
    )

-- Tests.
abbrev pub TestsGood : List Emitted → (List ℕ → Kinds) → Kinds → List Kinds → Kinds → Type 0
TestsGood [] T r ks ps = Unit {0}
TestsGood (a ∷ ems) T r ks ps = (nodes_good a.nodes T r ks ps ≡ true)
    × (is_test a.scalar (nodes_kinds a.nodes T r ks ps ∷ ks) ps ≡ true) × TestsGood
    ems T (nodes_kinds a.nodes T r ks ps) ks ps

abbrev pub filters_kinds : List Emitted → (List ℕ → Kinds) → Kinds → List Kinds → Kinds → Kinds
filters_kinds [] T r ks ps = r
filters_kinds (a ∷ ems) T r ks ps = filters_kinds ems T (nodes_kinds a.nodes T r ks ps) ks ps

pub filters_long : (ems : List Emitted) (T : List ℕ → Kinds) (r : Kinds) (ks : List Kinds)
    (ps : Kinds) (n : ℕ) → length r ≡ n →
    length (filters_kinds ems T r ks ps) ≡ filters_width ems n
filters_long [] T r ks ps n e = e
filters_long (a ∷ ems) T r ks ps n e = filters_long ems T (nodes_kinds a.nodes T r ks ps) ks ps
    (width a.nodes n) (after_long a.nodes T r ks ps n e)

pub filters_grow : (ems : List Emitted) (T : List ℕ → Kinds) (r : Kinds) (ks : List Kinds)
    (ps : Kinds) → KindsGrow r (filters_kinds ems T r ks ps)
filters_grow [] T r ks ps = kinds_grow_same r
filters_grow (a ∷ ems) T r ks ps = kinds_grow_trans r _ _ (after_grow a.nodes T r ks ps)
    (filters_grow ems T (nodes_kinds a.nodes T r ks ps) ks ps)

-- a plan that is good, with columns of these kinds
abbrev pub PlanIs : PlanTree → (List ℕ → Kinds) → List Kinds → Kinds → Kinds → Type 0
PlanIs t T ks ps r = (tree_good t T ks ps ≡ true) × (tree_kinds t T ks ps ≡ r)

pub on_each_is : (nodes : Nodes) (t : PlanTree) (T : List ℕ → Kinds) (r : Kinds) (ks : List Kinds)
    (ps : Kinds) → nodes_good nodes T r ks ps ≡ true →
    PlanIs t T ks ps r → PlanIs (on_each nodes t) T ks ps (nodes_kinds nodes T r ks ps)
on_each_is no_node t T r ks ps h i = i
on_each_is (extend_by ss a) t T r ks ps h i =
    let x = scalars_good ss (r ∷ ks) ps in let j = r ++ scalars_kinds ss (r ∷ ks) ps in
    let y = nodes_good a T j ks ps in
    on_each_is a (extend ss t) T j ks ps (right_true x y h) (
      and_true (scalars_good ss (tree_kinds t T ks ps ∷ ks) ps) (tree_good t T ks ps)
          (subst (λ (z : Kinds). scalars_good ss (z ∷ ks) ps ≡ true) (sym i.1) (left_true x y h))
          i.0,
      ap (λ (z : Kinds). z ++ scalars_kinds ss (z ∷ ks) ps) i.1,
    )
on_each_is (apply_by when kind way inner a) t T r ks ps h i =
    let x = is_test when (r ∷ ks) ps && (way_good way (tree_kinds inner T (r ∷ ks) ps) (r ∷ ks) ps
    && kind_good kind (found_kinds way (tree_kinds inner T (r ∷ ks) ps)) (r ∷ ks) ps) in
    let y = tree_good inner T (r ∷ ks) ps in
    let j = r ++ apply_kinds kind (found_kinds way (tree_kinds inner T (r ∷ ks) ps)) in
    let u = nodes_good a T j ks ps in
    let m : (y && u) ≡ true = right_true x (y && u) h in
    on_each_is a (apply when kind way inner t) T j ks ps (right_true y u m) (
      subst (λ (z : Kinds). ((is_test when (z ∷ ks) ps
          && (way_good way (tree_kinds inner T (z ∷ ks) ps) (z ∷ ks) ps
          && kind_good kind (found_kinds way (tree_kinds inner T (z ∷ ks) ps)) (z ∷ ks) ps)) &&
          (tree_good inner T (z ∷ ks) ps && tree_good t T ks ps)) ≡ true) (sym i.1)
          (and_true x (y && tree_good t T ks ps) (left_true x (y && u) h)
          (and_true y (tree_good t T ks ps) (left_true y u m) i.0)),
      ap (λ (z : Kinds). z ++ apply_kinds kind (found_kinds way (tree_kinds inner T (z ∷ ks) ps)))
          i.1,
    )

pub filters_are : (ems : List Emitted) (input : PlanTree) (T : List ℕ →
    Kinds) (r : Kinds) (ks : List Kinds) (ps : Kinds) → TestsGood ems T r ks ps →
    PlanIs input T ks ps r → PlanIs (filters ems input) T ks ps (filters_kinds ems T r ks ps)
filters_are [] input T r ks ps h t = t
filters_are (a ∷ ems) input T r ks ps h t =
    let q = nodes_kinds a.nodes T r ks ps in let x = on_each_is a.nodes input T r ks ps h.0 t in
    filters_are ems (filter a.scalar (on_each a.nodes input)) T q ks ps h.2 (
      and_true (is_test a.scalar (tree_kinds (on_each a.nodes input) T ks ps ∷ ks) ps)
          (tree_good (on_each a.nodes input) T ks ps)
          (subst (λ (j : Kinds). is_test a.scalar (j ∷ ks) ps ≡ true) (sym x.1) h.1) x.0,
      x.1,
    )

-- The list.
abbrev pub OwnKinds : Option (List ℕ) → Scalars → Type 0
OwnKinds None ss = Unit {0}
OwnKinds (Some is) ss = (z : Kinds) (ks : List Kinds) (ps : Kinds) →
    kinds_at z is ≡ scalars_kinds ss (z ∷ ks) ps

own_more : (i : ℕ) (own : Option (List ℕ)) (ss : Scalars) → OwnKinds own ss →
    OwnKinds (with_place i own) (more (column zero i) ss)
own_more i None ss h = tt
own_more i (Some is) ss h = λ z ks ps. ap (λ (kk : Kinds). kind_at z i ∷ kk) (h z ks ps)

own_kinds : (ss : Scalars) → OwnKinds (own_places ss) ss
own_kinds none = λ z ks ps. refl
own_kinds (more (column zero i) ss) = own_more i (own_places ss) ss (own_kinds ss)
own_kinds (more _ ss) = tt

listed_by_is : (own : Option (List ℕ)) (a : EmittedAll) (n : ℕ) (input : PlanTree) (T : List ℕ →
    Kinds) (r kk : Kinds) (ks : List Kinds) (ps : Kinds)
    → OwnKinds own a.scalars → length r ≡ n → YieldsAll a T r ks ps kk → PlanIs input T ks ps r →
    PlanIs (listed_by own a n input) T ks ps kk
listed_by_is (Some is) a n input T r kk ks ps o l y t =
    let q = nodes_kinds a.nodes T r ks ps in let x = on_each_is a.nodes input T r ks ps y.0 t in
    (x.0, ap (λ (j : Kinds). kinds_at j is) x.1 ∙ (o q ks ps ∙ (y.1 q (kinds_grow_same q)).0))
listed_by_is None a n input T r kk ks ps o l y t =
    let nodes = joined_nodes a.nodes (extend_by a.scalars no_node) in
    let q = nodes_kinds a.nodes T r ks ps in let h = y.1 q (kinds_grow_same q) in
    let m = width a.nodes n in let c = scalar_count a.scalars in
    let x = on_each_is nodes input T r ks ps
    (good_join a.nodes (extend_by a.scalars no_node) T r ks ps y.0
    (and_true (scalars_good a.scalars (q ∷ ks) ps) true h.1 refl)) t in (
      x.0,
      ap (λ (j : Kinds). kinds_at j (places m c)) x.1
          ∙ (ap (λ (j : Kinds). kinds_at j (places m c))
          (after_join a.nodes (extend_by a.scalars no_node) T r ks ps
          ∙ ap (λ (j : Kinds). q ++ j) h.0)
          ∙ kinds_grown_columns q kk (q ++ kk) m c (after_long a.nodes T r ks ps n l)
          (ap (λ (j : Kinds). length j) (sym h.0) ∙ kinds_long a.scalars (q ∷ ks) ps)
          (kinds_grow_same (q ++ kk))),
    )

pub listed_is : (a : EmittedAll) (n : ℕ) (input : PlanTree) (T : List ℕ →
    Kinds) (r kk : Kinds) (ks : List Kinds) (ps : Kinds) → length r ≡ n →
    YieldsAll a T r ks ps kk → PlanIs input T ks ps r → PlanIs (listed a n input) T ks ps kk
listed_is a n input T r kk ks ps l y t =
    listed_by_is (own_places a.scalars) a n input T r kk ks ps (own_kinds a.scalars) l y t

-- The plan of a body uses no row outside but those that the scalars of its parameters read.
use Rattle.std.proofs.Common.{◌≡◌, ℕ, zero, suc, true, false, cond, ◌&&◌, List, [], ◌∷◌, Option}
use Rattle.std.proofs.Common.{Some, None, refl}
use Rattle.rel_algebra.specs.Environments.{Env as Reading, read}
use Rattle.rel_algebra.specs.Emissions.{Folded}
use Rattle.rel_algebra.specs.Plan.{Kind, Nodes, PlanTree, Scalar, Scalars, Way, and_word, anew}
use Rattle.rel_algebra.specs.Plan.{apply, apply_by, extend, extend_by, keep, lookup, more, no_node}
use Rattle.rel_algebra.specs.Plan.{none, once, unit_row, word}
use Rattle.rel_algebra.specs.Removal.{kind_stays, nodes_within, stays, stays_all, tree_within}
use Rattle.rel_algebra.specs.Removal.{way_stays}
use Rattle.rel_algebra.proofs.Truths.{and_true, left_true, right_true}
use Rattle.rel_algebra.specs.Bodies.{Routine, Target}
use Rattle.rel_algebra.specs.BodyChain.{inline_with, place_at}
use Rattle.rel_algebra.specs.Leaves.{QueryLeaf, ValueLeaf, Widths}
use Rattle.rel_algebra.specs.BodySteps.{also, asked_when, code_is, is_sure, two}
use Rattle.rel_algebra.proofs.BodyHeld.{RoutineHolds, routine_gives}
use Rattle.rel_algebra.proofs.BodyTraits.{AllHave, ChainHas, FoldedHas, NodesHave, QueryHas, Trait}
use Rattle.rel_algebra.proofs.BodyTraits.{ValueHas, inline_has}

-- ---- what is asked of leaves

-- an environment reads within so many rows, the innermost the row itself
abbrev pub ReadsWithin : Reading → ℕ → Type 0
ReadsWithin env n = ((d i : ℕ) → stays (read (env.columns d i)) n ≡ true)
    × ((i : ℕ) → stays (read (env.params i)) n ≡ true)

-- an expression's columns and scalar use the n innermost of the rows outside
abbrev pub ValueWithin : Widths → ℕ → ValueLeaf → Type 0
ValueWithin S n e = (env : Reading) (m : ℕ) → ReadsWithin env (suc n) →
    (nodes_within (e.emitted S env m).nodes n ≡ true)
    × (stays (e.emitted S env m).scalar (suc n) ≡ true)

-- so does what is folded
abbrev pub FoldedWithin : Option Folded → ℕ → Type 0
FoldedWithin None n = Unit {0}
FoldedWithin (Some a) n = (tree_within a.input (suc n) ≡ true)
    × ((j : ℕ) → (nodes_within (a.list j).nodes n ≡ true)
    × (stays_all (a.list j).scalars (suc n) ≡ true))

-- and a query's plan, which sees the row as one more outside
pub record QueryWithin (S : Widths) (n : ℕ) (q : QueryLeaf) (targets : List Target) : Type 0 where
  pub plan : (env : Reading) → ReadsWithin env (suc n) → tree_within (q.plan S env) (suc n) ≡ true
  pub folds : (env : Reading) → ReadsWithin env (suc n) → FoldedWithin (q.folded S env) n

-- so do all leaves of a function
abbrev pub RoutineWithin : Widths → ℕ → Routine → Type 0
RoutineWithin S n r = RoutineHolds r (ValueWithin S n) (QueryWithin S n)

-- ---- as a trait

all_stay : (ss : Scalars) (n : ℕ) → AllHave (λ s. stays s n ≡ true) ss → stays_all ss n ≡ true
all_stay none n h = refl
all_stay (more s ss) n h = and_true (stays s n) (stays_all ss n) h.0 (all_stay ss n h.1)

each_stays : (ss : Scalars) (n : ℕ) → stays_all ss n ≡ true → AllHave (λ s. stays s n ≡ true) ss
each_stays none n h = tt
each_stays (more s ss) n h = (
  left_true (stays s n) (stays_all ss n) h,
  each_stays ss n (right_true (stays s n) (stays_all ss n) h),
)

also_stays : (k : ℕ) (when : Scalar) (n : ℕ) → stays when (suc n) ≡ true →
    stays (also k when) (suc n) ≡ true
also_stays k when n h = elim (is_sure when) as
    (λ b. stays (cond b (code_is k) (word and_word (two (code_is k) when))) (suc n) ≡ true) [
      | true ↦ refl
      | false ↦ and_true (stays when (suc n)) true h refl
    ]

place_stays : (cs : List ℕ) (i n : ℕ) → stays (read (place_at cs i)) (suc n) ≡ true
place_stays [] i n = refl
place_stays (c ∷ cs) zero n = refl
place_stays (c ∷ cs) (suc i) n = place_stays cs i n

-- an Apply uses the n innermost of the rows outside
abbrev Asks : ℕ → Scalar → Kind → Way → PlanTree → Type 0
Asks n when kind way inner = (stays when (suc n) ≡ true) × (way_stays way (suc n) ≡ true)
    × (kind_stays kind (suc n) ≡ true) × (tree_within inner (suc n) ≡ true)

when_stays : (n k : ℕ) (when : Scalar) (kind : Kind) (way : Way) (inner : PlanTree) →
    Asks n when kind way inner → Asks n (asked_when way k when) kind way inner
when_stays n k when kind anew inner h = (also_stays k when n h.0, h.1, h.2, h.3)
when_stays n k when kind once inner h = h
when_stays n k when kind (lookup keys) inner h = (also_stays k when n h.0, h.1, h.2, h.3)

-- that the n innermost of the rows outside are used
abbrev inward : ℕ → Trait
inward n = record {
  scalar = λ s. stays s (suc n) ≡ true;
  asks = Asks n;
  places = λ env. ReadsWithin env (suc n);
  constants = λ v. refl;
  columns = λ i. refl;
  words = λ w ss h. all_stay ss (suc n) h;
  asked = λ k when kind way inner h. when_stays n k when kind way inner h;
  own_places = λ env. (λ d i. refl, λ i. place_stays env.columns i n);
}

nodes_have : (nodes : Nodes) (n : ℕ) → nodes_within nodes n ≡ true → NodesHave (inward n) nodes
nodes_have no_node n h = tt
nodes_have (extend_by ss rest) n h = (
  each_stays ss (suc n) (left_true (stays_all ss (suc n)) (nodes_within rest n) h),
  nodes_have rest n (right_true (stays_all ss (suc n)) (nodes_within rest n) h),
)
nodes_have (apply_by when kind way inner rest) n h =
    let s = stays when (suc n) in let w = way_stays way (suc n) in let k = kind_stays kind (suc n)
    in let t = tree_within inner (suc n) in let r = nodes_within rest n in
    let a : (s && (w && k)) ≡ true = left_true (s && (w && k)) (t && r) h in
    let b : (t && r) ≡ true = right_true (s && (w && k)) (t && r) h in
    let c : (w && k) ≡ true = right_true s (w && k) a in (
      (left_true s (w && k) a, left_true w k c, right_true w k c, left_true t r b),
      nodes_have rest n (right_true t r b),
    )

folded_has : (oa : Option Folded) (n : ℕ) → FoldedWithin oa n → FoldedHas (inward n) oa
folded_has None n h = tt
folded_has (Some a) n h = (
  (refl, refl, refl, h.0),
  λ j. let x = h.1 j in
      (nodes_have (a.list j).nodes n x.0, each_stays (a.list j).scalars (suc n) x.1),
)

value_has : (S : Widths) (n : ℕ) (e : ValueLeaf) → ValueWithin S n e → ValueHas (inward n) S e
value_has S n e h = λ env m g. let x = h env m g in
    (nodes_have (e.emitted S env m).nodes n x.0, x.1)

query_has : (S : Widths) (n : ℕ) (q : QueryLeaf) (ts : List Target) → QueryWithin S n q ts →
    QueryHas (inward n) S q ts
query_has S n q ts h = record {
  asked = λ env g is. (refl, refl, refl, h.plan env g);
  folds = λ env g. folded_has (q.folded S env) n (h.folds env g);
}

chain_gives : (t : PlanTree) (n : ℕ) → ChainHas (inward n) t → tree_within t n ≡ true
chain_gives unit_row n h = refl
chain_gives (extend ss t) n h = and_true (stays_all ss (suc n)) (tree_within t n)
    (all_stay ss (suc n) h.0) (chain_gives t n h.1)
chain_gives (apply when kind way inner t) n h =
    let s = stays when (suc n) in let w = way_stays way (suc n) in let k = kind_stays kind (suc n)
    in let i = tree_within inner (suc n) in let a = h.0 in
    and_true (s && (w && k)) (i && tree_within t n)
    (and_true s (w && k) a.0 (and_true w k a.1 a.2))
    (and_true i (tree_within t n) a.3 (chain_gives t n h.1))
chain_gives (keep is t) n h = chain_gives t n h
chain_gives _ n h = absurd h

-- Where the leaves use the n innermost of the rows outside, as the scalars of the parameters do, so
-- does the plan of the function.
pub chain_within : (r : Routine) (S : Widths) (n : ℕ) (params : Scalars) → RoutineWithin S n r →
    stays_all params (suc n) ≡ true → tree_within (inline_with r S params) n ≡ true
chain_within r S n params h p = chain_gives (inline_with r S params) n
    (inline_has r (inward n) S params
    (routine_gives r (ValueWithin S n) (ValueHas (inward n) S) (QueryWithin S n)
    (QueryHas (inward n) S) (value_has S n) (query_has S n) h) (each_stays params (suc n) p))

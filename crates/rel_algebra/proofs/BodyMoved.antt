-- The plan of a body, where a row outside is moved, is the plan that reads its parameters where
-- they are moved to.
use Rattle.std.proofs.Common.{◌≡◌, ℕ, zero, suc, ◌+◌, true, false, cond, List, [], ◌∷◌, length}
use Rattle.std.proofs.Common.{Option, Some, None, refl, ap, ◌∙◌, arith}
use Rattle.sql_values.specs.declared.value.Value.TheVariants.{Null}
use Rattle.rel_algebra.specs.Environments.{Env as Reading}
use Rattle.rel_algebra.specs.Emissions.{Folded}
use Rattle.rel_algebra.specs.MovedPlans.{Move, moved_index, moved_kind, moved_nodes, moved_scalar}
use Rattle.rel_algebra.specs.MovedPlans.{moved_scalars, moved_tree, moved_way}
use Rattle.rel_algebra.specs.Plan.{Kind, Nodes, PlanTree, Scalar, Scalars, Way, and_word, anew}
use Rattle.rel_algebra.specs.Plan.{apply, apply_by, column, constant, extend, extend_by, keep}
use Rattle.rel_algebra.specs.Plan.{lookup, more, no_node, none, on_each, once, single, unit_row}
use Rattle.rel_algebra.specs.Plan.{word}
use Rattle.rel_algebra.proofs.Moves.{EnvMoved, moved_place}
use Rattle.rel_algebra.specs.Bodies.{Body, Routine, Target}
use Rattle.rel_algebra.specs.BodyChain.{emit, first_cells, inline_with, outer_columns, place_at}
use Rattle.rel_algebra.specs.BodyChain.{region, top}
use Rattle.rel_algebra.specs.Leaves.{QueryLeaf, ValueLeaf, Widths}
use Rattle.rel_algebra.specs.BodySteps.{Step, also, asked_when, code_is, fat, grow, is_sure}
use Rattle.rel_algebra.specs.BodySteps.{steps_tree, two}
use Rattle.rel_algebra.proofs.BodyHeld.{RoutineHolds, routine_gives}
use Rattle.rel_algebra.proofs.BodyTraits.{AllHave, FoldedHas, NodesHave, QueryHas, StepsHave, Trait}
use Rattle.rel_algebra.proofs.BodyTraits.{ValueHas, body_has, last_has}

-- ---- what is asked of leaves

-- An expression's columns and scalar stay, where its environment does; the row that is moved is at
-- level d.
abbrev pub ValueStays : Widths → Move → ℕ → ValueLeaf → Type 0
ValueStays S v d e = (env : Reading) (m : ℕ) → EnvMoved v d env env →
    (moved_nodes v d (e.emitted S env m).nodes ≡ (e.emitted S env m).nodes)
    × (moved_scalar v d (e.emitted S env m).scalar ≡ (e.emitted S env m).scalar)

-- so does what is folded
abbrev pub FoldedStays : Option Folded → Move → ℕ → Type 0
FoldedStays None v d = Unit {0}
FoldedStays (Some a) v d = (moved_tree v d a.input ≡ a.input)
    × ((j : ℕ) → (moved_nodes v d (a.list j).nodes ≡ (a.list j).nodes)
    × (moved_scalars v d (a.list j).scalars ≡ (a.list j).scalars))

-- and a query's plan
pub record QueryStays (S : Widths) (v : Move) (d : ℕ) (q : QueryLeaf) (targets : List Target)
    : Type 0 where
  pub plan : (env : Reading) → EnvMoved v d env env → moved_tree v d (q.plan S env) ≡ q.plan S env
  pub folds : (env : Reading) → EnvMoved v d env env → FoldedStays (q.folded S env) v d

-- so do all leaves of a function
abbrev pub RoutineStays : Widths → Move → ℕ → Routine → Type 0
RoutineStays S v d r = RoutineHolds r (ValueStays S v d) (QueryStays S v d)

-- ---- as a trait

-- the first of scalars
abbrev first_of : Scalars → Scalar
first_of none = constant Null
first_of (more s ss) = s

-- the others
abbrev rest_of : Scalars → Scalars
rest_of none = none
rest_of (more s ss) = ss

-- of the first of nodes: the scalars that it adds
abbrev scalars_in : Nodes → Scalars
scalars_in no_node = none
scalars_in (extend_by ss rest) = ss
scalars_in (apply_by when kind way inner rest) = none

-- when it asks
abbrev when_in : Nodes → Scalar
when_in no_node = constant Null
when_in (extend_by ss rest) = constant Null
when_in (apply_by when kind way inner rest) = when

-- of which kind it is
abbrev kind_in : Nodes → Kind
kind_in no_node = single
kind_in (extend_by ss rest) = single
kind_in (apply_by when kind way inner rest) = kind

-- how it comes to its rows
abbrev way_in : Nodes → Way
way_in no_node = anew
way_in (extend_by ss rest) = anew
way_in (apply_by when kind way inner rest) = way

-- its inner plan
abbrev inner_in : Nodes → PlanTree
inner_in no_node = unit_row
inner_in (extend_by ss rest) = unit_row
inner_in (apply_by when kind way inner rest) = inner

-- the others
abbrev rest_in : Nodes → Nodes
rest_in no_node = no_node
rest_in (extend_by ss rest) = rest
rest_in (apply_by when kind way inner rest) = rest

each_stays : (ss : Scalars) (v : Move) (d : ℕ) → moved_scalars v d ss ≡ ss →
    AllHave (λ s. moved_scalar v d s ≡ s) ss
each_stays none v d h = tt
each_stays (more s ss) v d h = (ap first_of h, each_stays ss v d (ap rest_of h))

all_stay : (ss : Scalars) (v : Move) (d : ℕ) → AllHave (λ s. moved_scalar v d s ≡ s) ss →
    moved_scalars v d ss ≡ ss
all_stay none v d h = refl
all_stay (more s ss) v d h = λ i. more (h.0 i) (all_stay ss v d h.1 i)

also_stays : (k : ℕ) (when : Scalar) (v : Move) (d : ℕ) → moved_scalar v (suc d) when ≡ when →
    moved_scalar v (suc d) (also k when) ≡ also k when
also_stays k when v d h = elim (is_sure when) as
    (λ b. moved_scalar v (suc d) (cond b (code_is k) (word and_word (two (code_is k) when)))
    ≡ cond b (code_is k) (word and_word (two (code_is k) when))) [
      | true ↦ refl
      | false ↦ ap (λ s. word and_word (two (code_is k) s)) h
    ]

-- an Apply stays
abbrev Asks : Move → ℕ → Scalar → Kind → Way → PlanTree → Type 0
Asks v d when kind way inner = (moved_scalar v d when ≡ when) × (moved_kind v d kind ≡ kind)
    × (moved_way v d way ≡ way) × (moved_tree v d inner ≡ inner)

when_stays : (v : Move) (d k : ℕ) (when : Scalar) (kind : Kind) (way : Way) (inner : PlanTree) →
    Asks v (suc d) when kind way inner → Asks v (suc d) (asked_when way k when) kind way inner
when_stays v d k when kind anew inner h = (also_stays k when v d h.0, h.1, h.2, h.3)
when_stays v d k when kind once inner h = h
when_stays v d k when kind (lookup keys) inner h = (also_stays k when v d h.0, h.1, h.2, h.3)

place_stays : (cs : List ℕ) (i : ℕ) (v : Move) (d : ℕ) →
    place_at cs i ≡ moved_place v (suc d) (place_at cs i)
place_stays [] i v d = refl
place_stays (c ∷ cs) zero v d = refl
place_stays (c ∷ cs) (suc i) v d = place_stays cs i v d

-- that what names the row itself stays, where one further outside is moved
abbrev staying : Move → ℕ → Trait
staying v d = record {
  scalar = λ s. moved_scalar v (suc d) s ≡ s;
  asks = Asks v (suc d);
  places = λ env. EnvMoved v (suc d) env env;
  constants = λ x. refl;
  columns = λ i. refl;
  words = λ w ss h. ap (word w) (all_stay ss v (suc d) h);
  asked = λ k when kind way inner h. when_stays v d k when kind way inner h;
  own_places = λ env. record {
    columns = λ c i. refl;
    params = λ i. place_stays env.columns i v d;
    free = λ c i. tt;
  };
}

nodes_have : (nodes : Nodes) (v : Move) (d : ℕ) → moved_nodes v (suc d) nodes ≡ nodes →
    NodesHave (staying v d) nodes
nodes_have no_node v d h = tt
nodes_have (extend_by ss rest) v d h =
    (each_stays ss v (suc d) (ap scalars_in h), nodes_have rest v d (ap rest_in h))
nodes_have (apply_by when kind way inner rest) v d h =
    ((ap when_in h, ap kind_in h, ap way_in h, ap inner_in h), nodes_have rest v d (ap rest_in h))

folded_has : (oa : Option Folded) (v : Move) (d : ℕ) → FoldedStays oa v (suc d) →
    FoldedHas (staying v d) oa
folded_has None v d h = tt
folded_has (Some a) v d h = (
  (refl, refl, refl, h.0),
  λ j. let x = h.1 j in
      (nodes_have (a.list j).nodes v d x.0, each_stays (a.list j).scalars v (suc d) x.1),
)

value_has : (S : Widths) (v : Move) (d : ℕ) (e : ValueLeaf) → ValueStays S v (suc d) e →
    ValueHas (staying v d) S e
value_has S v d e h = λ env m g. let x = h env m g in
    (nodes_have (e.emitted S env m).nodes v d x.0, x.1)

query_has : (S : Widths) (v : Move) (d : ℕ) (q : QueryLeaf) (ts : List Target) →
    QueryStays S v (suc d) q ts → QueryHas (staying v d) S q ts
query_has S v d q ts h = record {
  asked = λ env g is. (refl, refl, refl, h.plan env g);
  folds = λ env g. folded_has (q.folded S env) v d (h.folds env g);
}

-- ---- the plan

moved_each : (nodes : Nodes) (t : PlanTree) (v : Move) (d : ℕ) → NodesHave (staying v d) nodes →
    moved_tree v d (on_each nodes t) ≡ on_each nodes (moved_tree v d t)
moved_each no_node t v d h = refl
moved_each (extend_by ss rest) t v d h = moved_each rest (extend ss t) v d h.1
    ∙ (λ i. on_each rest (extend (all_stay ss v (suc d) h.0 i) (moved_tree v d t)))
moved_each (apply_by when kind way inner rest) t v d h =
    let a = h.0 in
    moved_each rest (apply when kind way inner t) v d h.1
    ∙ (λ i. on_each rest (apply (a.0 i) (a.1 i) (a.2 i) (a.3 i) (moved_tree v d t)))

moved_steps : (ss : List Step) (t : PlanTree) (v : Move) (d : ℕ) → StepsHave (staying v d) ss →
    moved_tree v d (steps_tree ss t) ≡ steps_tree ss (moved_tree v d t)
moved_steps [] t v d h = refl
moved_steps (grow cs ∷ ss) t v d h = moved_steps ss (extend cs t) v d h.1
    ∙ (λ i. steps_tree ss (extend (all_stay cs v (suc d) h.0 i) (moved_tree v d t)))
moved_steps (fat nodes is ∷ ss) t v d h = moved_steps ss (keep is (on_each nodes t)) v d h.1
    ∙ (λ i. steps_tree ss (keep is (moved_each nodes t v d h.0 i)))

-- Where the leaves stay, the plan of a function that is moved reads its parameters by scalars that
-- are.
pub inline_moved : (r : Routine) (S : Widths) (v : Move) (d : ℕ) (params : Scalars) →
    RoutineStays S v (suc d) r →
    moved_tree v d (inline_with r S params)
    ≡ inline_with r S (moved_scalars v (suc d) params)
inline_moved (Body types returns body) S v d params h =
    let k = length types in let n = 3 + k in
    let steps = emit body S [] (top k) 3 4 n in
    let held : StepsHave (staying v d) steps = body_has body (staying v d) S
    (routine_gives (Body types returns body) (ValueStays S v (suc d)) (ValueHas (staying v d) S)
    (QueryStays S v (suc d)) (QueryHas (staying v d) S) (value_has S v d) (query_has S v d) h) k n
    in λ i. keep (n ∷ []) (extend (more (last_has (staying v d) returns i) none)
    (moved_steps steps (extend (first_cells returns params) unit_row) v d held i))

index_suc : (v : Move) (d m : ℕ) → moved_index v d 0 (suc m) ≡ suc (moved_index v d 0 m)
index_suc v zero m = omega arith
index_suc v (suc d) m = refl

outer_moved : (v : Move) (d m k : ℕ) → moved_scalars v (suc d) (outer_columns m k)
    ≡ outer_columns (moved_index v d 0 m) k
outer_moved v d m zero = refl
outer_moved v d m (suc k) = ap (more (column 1 (moved_index v d 0 m)))
    (outer_moved v d (suc m) k ∙ ap (λ (j : ℕ). outer_columns j k) (index_suc v d m))

-- So a function's plan as a region reads the columns where these are moved to.
pub region_moved : (r : Routine) (S : Widths) (v : Move) (d m k : ℕ) → RoutineStays S v (suc d) r →
    moved_tree v d (region r S m k) ≡ region r S (moved_index v d 0 m) k
region_moved r S v d m k h = inline_moved r S v d (outer_columns m k) h
    ∙ ap (inline_with r S) (outer_moved v d m k)

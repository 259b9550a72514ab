-- The plan of a keyed query is a chain over a base, with its equalities in one run.
use Rattle.std.proofs.Common.{◌++◌, ◌≡◌, inl, inr, ℕ, zero, suc, Bool, true, false, cond, ◌&&◌}
use Rattle.std.proofs.Common.{◌||◌, List, [], ◌∷◌, Option, Some, None, refl, ap, sym, ◌∙◌, subst}
use Rattle.std.proofs.lemmas.List.{append-nil}
use Rattle.sql_values.specs.declared.operators.Comparison.TheVariants.{Equals}
use Rattle.rel_algebra.specs.Emit.{Emitted, EmittedAll, Env, Folded, Key, Place, Waiting}
use Rattle.rel_algebra.specs.Emit.{all_waiting, at, below, emit, emit_all, emit_tests, entered}
use Rattle.rel_algebra.specs.Emit.{filters, filters_width, folded, folded_env, from_plan, given}
use Rattle.rel_algebra.specs.Emit.{joined_nodes, key_of, key_step, lifted, listed_by, none_waits}
use Rattle.rel_algebra.specs.Emit.{nowhere, one_column, one_param, outward, own_places, plan}
use Rattle.rel_algebra.specs.Emit.{selected, test_step, turned, width}
use Rattle.rel_algebra.specs.Joins.{from_width, numbered}
use Rattle.rel_algebra.specs.Plan.{Nodes, PlanTree, Scalar, apply, apply_by, extend, extend_by}
use Rattle.rel_algebra.specs.Plan.{filter, no_node, on_each, aggregate, Kind}
use Rattle.rel_algebra.specs.Removal.{Lower, Phase, Running, Stuck, Upper, base_phase, filter_phase}
use Rattle.rel_algebra.specs.Removal.{inner_phase, is_chain, is_key, is_region, keep_phase, keyed}
use Rattle.rel_algebra.specs.Removal.{kind_stays, less, nodes_within, phase, removable, stays}
use Rattle.rel_algebra.specs.Removal.{stays_all, tree_width, tree_within, up, of_region, way_stays}
use Rattle.rel_algebra.specs.Simple.{BeforeRun, InRun, Innermost, IsKeyed, KeyedQuery, Names}
use Rattle.rel_algebra.specs.Simple.{NamesAll, NamesFrom, Nested, SimpleFrom, SimpleQuery}
use Rattle.rel_algebra.specs.Tree.{Column, Comparing, Cross, Derived, Expr, Exprs, From, Grouped}
use Rattle.rel_algebra.specs.Tree.{Inner, LeftOuter, MoreExprs, NoExpr, Operate, Ordered, Query}
use Rattle.rel_algebra.specs.Tree.{Select, Table, Values, Variable}
use Rattle.rel_algebra.proofs.Truths.{and_true, left_true, never, right_true}
use Rattle.rel_algebra.proofs.Moves.{NotGiven, outward_free}
use Rattle.rel_algebra.proofs.Widths.{Even, EvenFrom, from_plan_width}
use Rattle.rel_algebra.proofs.Within.{EnvIn, InputWithin, KeyWithin, PlaceIn, Within, WithinAll}
use Rattle.rel_algebra.proofs.Within.{all_in, each_in, entered_in, expr_in, fold_in, from_in}
use Rattle.rel_algebra.proofs.Within.{joined_in, key_in, query_in}
pub use Rattle.rel_algebra.proofs.Reading.{Given}
pub use Rattle.rel_algebra.proofs.FoldedParts.{InputRemovable}

below_is : (m i : ℕ) (p : Place) → less i m ≡ true → below m i p ≡ p
below_is zero i p h = never h
below_is (suc m) zero p h = refl
below_is (suc m) (suc i) p h = below_is m i p h

-- Phases.
base_is : (t : PlanTree) (n : ℕ) → tree_within t 0 ≡ true → tree_width t ≡ n →
    base_phase t ≡ Lower n
base_is t n h w = ap (λ b. cond b (Lower (tree_width t)) Stuck) h ∙ ap Lower w

none_in : (e : Env) (p : Bool) → Given e p → EnvIn e (Innermost 0) p 0
none_in e true g = (λ d i l. never l, λ t. g)
none_in e false g = (λ d i l. never l, λ t. never t)

outward_given : (p : Place) → PlaceIn p 0 → PlaceIn (outward p) 0
outward_given (at level i) h = never h
outward_given (given i) h = tt
outward_given nowhere h = tt

pub entered_given : (e : Env) (n : ℕ) (p : Bool) → Given e p → Given (entered e n) p
entered_given e n true g = λ i. outward_given (e.params i) (g i)
entered_given e n false g = λ i. outward_free (e.params i) (g i)

pub lifted_given : (e : Env) (p : Bool) → Given e p → Given (lifted e) p
lifted_given e true g = λ i. outward_given (e.params i) (g i)
lifted_given e false g = λ i. outward_free (e.params i) (g i)

pub folded_given : (e : Env) (n m : ℕ) (p : Bool) → Given e p → Given (folded_env e n m) p
folded_given e n m true g = g
folded_given e n m false g = g

-- VALUES below a simple query
pub simple_even : (q : Query) (S : List ℕ → ℕ) (p : Bool) → SimpleQuery q S p → Even q
simple_even (Select items from tests) S p s = tt
simple_even (Grouped from tests k items ags having list) S p s = tt
simple_even (Values rows) S p s = s.0
simple_even (Ordered q keys) S p s = simple_even q S p s

simple_even_from : (x : From) (S : List ℕ → ℕ) (p : Bool) → SimpleFrom x S p → EvenFrom x
simple_even_from (Table t) S p s = tt
simple_even_from (Derived q) S p s = simple_even q S p s
simple_even_from (Cross a b) S p s = (simple_even_from a S p s.0, simple_even_from b S p s.1)
simple_even_from (Inner a b on) S p s = (simple_even_from a S p s.0, simple_even_from b S p s.1)
simple_even_from (LeftOuter a b on) S p s = (simple_even_from a S p s.0, simple_even_from b S p s.1)

from_phase : (x : From) (S : List ℕ → ℕ) (e : Env) (p : Bool) → Given e p → EvenFrom x →
    NamesFrom x (Innermost 0) p →
    phase (from_plan x S e) ≡ Lower (from_width x S)
from_phase (Table t) S e p g v ns = refl
from_phase (Derived q) S e p g v ns = base_is (from_plan (Derived q) S e) (from_width (Derived q) S)
    (from_in (Derived q) S (Innermost 0) p e 0 ns (none_in e p g))
    (from_plan_width (Derived q) S e v)
from_phase (Cross a b) S e p g v ns = base_is (from_plan (Cross a b) S e) (from_width (Cross a b) S)
    (from_in (Cross a b) S (Innermost 0) p e 0 ns (none_in e p g))
    (from_plan_width (Cross a b) S e v)
from_phase (Inner a b on) S e p g v ns =
    base_is (from_plan (Inner a b on) S e) (from_width (Inner a b on) S)
    (from_in (Inner a b on) S (Innermost 0) p e 0 ns (none_in e p g))
    (from_plan_width (Inner a b on) S e v)
from_phase (LeftOuter a b on) S e p g v ns =
    base_is (from_plan (LeftOuter a b on) S e) (from_width (LeftOuter a b on) S)
    (from_in (LeftOuter a b on) S (Innermost 0) p e 0 ns (none_in e p g))
    (from_plan_width (LeftOuter a b on) S e v)

up_chain : (p : Phase) → is_chain p ≡ true → is_chain (up p) ≡ true
up_chain (Lower n) h = refl
up_chain (Running n) h = refl
up_chain Upper h = refl
up_chain Stuck h = h

keep_chain : (p : Phase) → is_chain p ≡ true → is_chain (keep_phase p) ≡ true
keep_chain (Lower n) h = refl
keep_chain (Running n) h = refl
keep_chain Upper h = refl
keep_chain Stuck h = h

-- a run of nodes
abbrev pub nodes_phase : Nodes → Phase → Phase
nodes_phase no_node p = p
nodes_phase (extend_by ss rest) p = nodes_phase rest (inner_phase (stays_all ss 1) p)
nodes_phase (apply_by when kind way inner rest) p =
    nodes_phase rest (inner_phase ((stays when 1 && (way_stays way 1 && kind_stays kind 1))
    && tree_within inner 1) p)

phase_on_each : (nodes : Nodes) (t : PlanTree) →
    phase (on_each nodes t) ≡ nodes_phase nodes (phase t)
phase_on_each no_node t = refl
phase_on_each (extend_by ss rest) t = phase_on_each rest (extend ss t)
phase_on_each (apply_by when kind way inner rest) t =
    phase_on_each rest (apply when kind way inner t)

nodes_chain : (nodes : Nodes) (p : Phase) → nodes_within nodes 0 ≡ true → is_chain p ≡ true →
    is_chain (nodes_phase nodes p) ≡ true
nodes_chain no_node p h k = k
nodes_chain (extend_by ss rest) p h k =
    let x = stays_all ss 1 in let y = nodes_within rest 0 in
    nodes_chain rest (inner_phase x p) (right_true x y h)
    (ap (λ b. is_chain (inner_phase b p)) (left_true x y h) ∙ up_chain p k)
nodes_chain (apply_by when kind way inner rest) p h k =
    let x = stays when 1 && (way_stays way 1 && kind_stays kind 1) in let y = tree_within inner 1 in
    let z = nodes_within rest 0 in let r : (y && z) ≡ true = right_true x
    (y && z) h in
    nodes_chain rest (inner_phase (x && y) p) (right_true y z r)
    (ap (λ b. is_chain (inner_phase b p))
    (and_true x y (left_true x (y && z) h) (left_true y z r)) ∙ up_chain p k)

nodes_lower : (nodes : Nodes) (n : ℕ) → nodes_within nodes 0 ≡ true → nodes_phase nodes (Lower n)
    ≡ Lower n
nodes_lower no_node n h = refl
nodes_lower (extend_by ss rest) n h =
    let x = stays_all ss 1 in let y = nodes_within rest 0 in
    ap (λ b. nodes_phase rest (inner_phase b (Lower n))) (left_true x y h) ∙ nodes_lower rest
    n (right_true x y h)
nodes_lower (apply_by when kind way inner rest) n h =
    let x = stays when 1 && (way_stays way 1 && kind_stays kind 1) in let y = tree_within inner 1 in
    let z = nodes_within rest 0 in let r : (y && z) ≡ true = right_true x
    (y && z) h in
    ap (λ b. nodes_phase rest (inner_phase b (Lower n)))
    (and_true x y (left_true x (y && z) h) (left_true y z r)) ∙ nodes_lower rest n
    (right_true y z r)

-- a Filter that uses no outer column
local_filter : (s : Scalar) (p : Phase) → stays s 1 ≡ true → filter_phase s p ≡ up p
local_filter s p h = ap (λ b. cond b (up p) (keyed s p)) h

abbrev pub tested : Emitted → PlanTree → PlanTree
tested a input = filter a.scalar (on_each a.nodes input)

tested_phase : (a : Emitted) (input : PlanTree) →
    phase (tested a input) ≡ filter_phase a.scalar (nodes_phase a.nodes (phase input))
tested_phase a input = ap (filter_phase a.scalar) (phase_on_each a.nodes input)

local_chain : (a : Emitted) (input : PlanTree) → Within a 0 → is_chain (phase input) ≡ true →
    is_chain (phase (tested a input)) ≡ true
local_chain a input w h =
    ap is_chain (tested_phase a input
    ∙ local_filter a.scalar (nodes_phase a.nodes (phase input)) w.1)
    ∙ up_chain (nodes_phase a.nodes (phase input))
    (nodes_chain a.nodes (phase input) w.0 h)

local_lower : (a : Emitted) (input : PlanTree) (n : ℕ) → Within a 0 → phase input ≡ Lower n →
    phase (tested a input) ≡ Lower n
local_lower a input n w h =
    tested_phase a input
    ∙ (ap (λ (ph : Phase). filter_phase a.scalar (nodes_phase a.nodes ph)) h ∙
    (local_filter a.scalar (nodes_phase a.nodes (Lower n)) w.1 ∙ ap up (nodes_lower a.nodes n w.0)))

-- a conjunct that names nothing outside
local_within : (x : Expr) (S : List ℕ → ℕ) (e : Env) (n j : ℕ) (p : Bool) → Given e p →
    Names x (Innermost 1) p → Within (emit x S (entered e n) j) 0
local_within x S e n j p g ns = expr_in x S (Innermost 1) p (entered e n) 0 j ns
    (entered_in e n (Innermost 0) p 0 (none_in e p g))

-- where it is an equality, it names a parameter, and this is an argument
abbrev pub LocalKey : Bool → Option Key → Type 0
LocalKey p None = Unit {0}
LocalKey p (Some key) = (key.of_column ≡ false) × (p ≡ true) × Within (turned key.own key.other) 0

local_key : (x : Expr) (e : Env) (n : ℕ) (p : Bool) → Names x (Innermost 1) p →
    KeyWithin (key_of x (entered e n)) 0 → LocalKey p (key_of x (entered e n))
local_key (Operate (Comparing Equals)
    (MoreExprs (Column zero i) (MoreExprs (Column (suc d) j) NoExpr))) e n p ns w = never ns.1.0
local_key (Operate (Comparing Equals)
    (MoreExprs (Column (suc d) j) (MoreExprs (Column zero i) NoExpr))) e n p ns w = never ns.0
local_key (Operate (Comparing Equals) (MoreExprs (Column zero i) (MoreExprs (Variable j) NoExpr))) e
    n p ns w = (refl, ns.1.0, w)
local_key (Operate (Comparing Equals) (MoreExprs (Variable j) (MoreExprs (Column zero i) NoExpr))) e
    n p ns w = (refl, ns.0, w)
local_key _ e n p ns w = tt

local_of : (x : Expr) (e : Env) (n : ℕ) (p : Bool) → Given e p → Names x (Innermost 1) p →
    LocalKey p (key_of x (entered e n))
local_of x e n p g ns = local_key x e n p ns
    (key_in x (entered e n) (Innermost 1) p 0 ns (entered_in e n (Innermost 0) p 0 (none_in e p g)))

-- a run's conjunct: a column of the base, and a name from outside
abbrev pub ParamPlace : Bool → Place → Type 0
ParamPlace true q = PlaceIn q 0
ParamPlace false q = NotGiven q

param_place : (e : Env) (p : Bool) (i : ℕ) → Given e p → ParamPlace p (e.params i)
param_place e true i g = g i
param_place e false i g = g i

abbrev pub KeyedPlaces : Bool → Option Key → ℕ → Type 0
KeyedPlaces p None n = ⊥
KeyedPlaces p (Some key) n = (i : ℕ) × (less i n ≡ true) × (key.own ≡ at 0 i) × (q : Place)
    × (key.other ≡ outward q) ×
    (key.of_column ≡ false → ParamPlace p q)

keyed_places : (x : Expr) (e : Env) (n : ℕ) (p : Bool) → Given e p → IsKeyed x n →
    KeyedPlaces p (key_of x (entered e n)) n
keyed_places (Operate (Comparing Equals)
    (MoreExprs (Column zero i) (MoreExprs (Column (suc d) j) NoExpr))) e n p g h =
    (i, h, below_is n i (at 0 i) h, e.columns d j, refl, λ f. never (sym f))
keyed_places (Operate (Comparing Equals)
    (MoreExprs (Column (suc d) j) (MoreExprs (Column zero i) NoExpr))) e n p g h =
    (i, h, below_is n i (at 0 i) h, e.columns d j, refl, λ f. never (sym f))
keyed_places (Operate (Comparing Equals)
    (MoreExprs (Column zero i) (MoreExprs (Variable j) NoExpr))) e n p g h =
    (i, h, below_is n i (at 0 i) h, e.params j, refl, λ f. param_place e p j g)
keyed_places (Operate (Comparing Equals)
    (MoreExprs (Variable j) (MoreExprs (Column zero i) NoExpr))) e n p g h =
    (i, h, below_is n i (at 0 i) h, e.params j, refl, λ f. param_place e p j g)
keyed_places _ e n p g h = absurd h

abbrev pub IsKey : Emitted → ℕ → Type 0
IsKey a n = (a.nodes ≡ no_node) × (stays a.scalar 1 ≡ false) × (is_key n a.scalar ≡ true)

-- Those that wait.
abbrev pub AllKeys : List Emitted → ℕ → Type 0
AllKeys [] n = Unit {0}
AllKeys (a ∷ ems) n = IsKey a n × AllKeys ems n

abbrev pub AllLocal : List Emitted → Type 0
AllLocal [] = Unit {0}
AllLocal (a ∷ ems) = Within a 0 × AllLocal ems

keys_more : (ems : List Emitted) (a : Emitted) (n : ℕ) → AllKeys ems n → IsKey a n →
    AllKeys (ems ++ a ∷ []) n
keys_more [] a n h k = (k, tt)
keys_more (x ∷ ems) a n h k = (h.0, keys_more ems a n h.1 k)

keys_both : (a b : List Emitted) (n : ℕ) → AllKeys a n → AllKeys b n → AllKeys (a ++ b) n
keys_both [] b n h k = k
keys_both (x ∷ a) b n h k = (h.0, keys_both a b n h.1 k)

local_more : (ems : List Emitted) (a : Emitted) → AllLocal ems → Within a 0 →
    AllLocal (ems ++ a ∷ [])
local_more [] a h k = (k, tt)
local_more (x ∷ ems) a h k = (h.0, local_more ems a h.1 k)

filters_append : (a b : List Emitted) (input : PlanTree) →
    filters (a ++ b) input ≡ filters b (filters a input)
filters_append [] b input = refl
filters_append (x ∷ a) b input = filters_append a b (tested x input)

local_all_chain : (ems : List Emitted) (input : PlanTree) → AllLocal ems →
    is_chain (phase input) ≡ true → is_chain (phase (filters ems input)) ≡ true
local_all_chain [] input h k = k
local_all_chain (a ∷ ems) input h k =
    local_all_chain ems (tested a input) h.1 (local_chain a input h.0 k)

local_all_lower : (ems : List Emitted) (input : PlanTree) (n : ℕ) → AllLocal ems →
    phase input ≡ Lower n → phase (filters ems input) ≡ Lower n
local_all_lower [] input n h k = k
local_all_lower (a ∷ ems) input n h k =
    local_all_lower ems (tested a input) n h.1 (local_lower a input n h.0 k)

key_filter : (a : Emitted) (n : ℕ) (p : Phase) → IsKey a n →
    keyed a.scalar p ≡ cond (is_key n a.scalar) (Running n) Stuck →
    filter_phase a.scalar (nodes_phase a.nodes p) ≡ Running n
key_filter a n p k h =
    ap (λ (nodes : Nodes). filter_phase a.scalar (nodes_phase nodes p)) k.0
    ∙ (ap (λ b. cond b (up p) (keyed a.scalar p)) k.1
    ∙ (h ∙ ap (λ b. cond b (Running n) Stuck) k.2))

keys_running : (ems : List Emitted) (input : PlanTree) (n : ℕ) → AllKeys ems n →
    phase input ≡ Running n → phase (filters ems input) ≡ Running n
keys_running [] input n h e = e
keys_running (a ∷ ems) input n h e =
    keys_running ems (tested a input) n h.1 (tested_phase a input
    ∙ (ap (λ (ph : Phase). filter_phase a.scalar (nodes_phase a.nodes ph)) e ∙
    key_filter a n (Running n) h.0 refl))

keys_chain : (ems : List Emitted) (input : PlanTree) (n : ℕ) → AllKeys ems n →
    phase input ≡ Lower n → is_chain (phase (filters ems input)) ≡ true
keys_chain [] input n h e = ap is_chain e
keys_chain (a ∷ ems) input n h e =
    ap is_chain (keys_running ems (tested a input) n h.1 (tested_phase a input ∙
    (ap (λ (ph : Phase). filter_phase a.scalar (nodes_phase a.nodes ph)) e
    ∙ key_filter a n (Lower n) h.0 refl)))

-- in the run and after it: parameters that are arguments raise no phase, and all others are keys
abbrev pub ParamsHeld : Bool → List Emitted → ℕ → Type 0
ParamsHeld true ps n = AllLocal ps
ParamsHeld false ps n = AllKeys ps n

abbrev pub Held : Bool → Waiting → ℕ → Type 0
Held p w n = ParamsHeld p w.params n × AllKeys w.columns n

held_chain : (p : Bool) (w : Waiting) (input : PlanTree) (n : ℕ) → Held p w n →
    phase input ≡ Lower n →
    is_chain (phase (filters (all_waiting w) input)) ≡ true
held_chain true w input n h e =
    ap (λ (t : PlanTree). is_chain (phase t)) (filters_append w.params w.columns input)
    ∙ keys_chain w.columns (filters w.params input) n h.1
    (local_all_lower w.params input n h.0 e)
held_chain false w input n h e =
    keys_chain (all_waiting w) input n (keys_both w.params w.columns n h.0 h.1) e

local_held : (p : Bool) (ps : List Emitted) (t : Emitted) (n : ℕ) → p ≡ true → ParamsHeld p ps n →
    Within t 0 → ParamsHeld p (ps ++ t ∷ []) n
local_held true ps t n e h k = local_more ps t h k
local_held false ps t n e h k = never e

-- before the run there are none but such parameters, and above it too
abbrev pub ParamsBefore : Bool → List Emitted → Type 0
ParamsBefore true ps = AllLocal ps
ParamsBefore false ps = ps ≡ []

abbrev pub Quiet : Waiting → Type 0
Quiet w = AllLocal w.params × (w.columns ≡ [])

abbrev pub Before : Bool → Waiting → Type 0
Before p w = ParamsBefore p w.params × (w.columns ≡ [])

before_quiet : (p : Bool) (w : Waiting) → Before p w → Quiet w
before_quiet true w h = h
before_quiet false w h = (subst AllLocal (sym h.0) tt, h.1)

before_held : (p : Bool) (w : Waiting) (n : ℕ) → Before p w → Held p w n
before_held true w n h = (h.0, subst (λ (ems : List Emitted). AllKeys ems n) (sym h.1) tt)
before_held false w n h = (
  subst (λ (ems : List Emitted). AllKeys ems n) (sym h.0) tt,
  subst (λ (ems : List Emitted). AllKeys ems n) (sym h.1) tt,
)

before_more : (p : Bool) (w : Waiting) (t : Emitted) → p ≡ true → Before p w → Within t 0 →
    Before p (one_param t w)
before_more true w t e h k = (local_more w.params t h.0 k, h.1)
before_more false w t e h k = never e

before_none : (p : Bool) → Before p none_waits
before_none true = (tt, refl)
before_none false = (refl, refl)

quiet_are : (w : Waiting) → Quiet w → all_waiting w ≡ w.params
quiet_are w h = ap (λ (cs : List Emitted). w.params ++ cs) h.1 ∙ append-nil w.params

quiet_chain : (w : Waiting) (input : PlanTree) → Quiet w → is_chain (phase input) ≡ true →
    is_chain (phase (filters (all_waiting w) input)) ≡ true
quiet_chain w input h k = ap (λ (ems : List Emitted). is_chain (phase (filters ems input)))
    (quiet_are w h) ∙ local_all_chain w.params input h.0 k

quiet_lower : (w : Waiting) (input : PlanTree) (n : ℕ) → Quiet w → phase input ≡ Lower n →
    phase (filters (all_waiting w) input) ≡ Lower n
quiet_lower w input n h k = ap (λ (ems : List Emitted). phase (filters ems input)) (quiet_are w h)
    ∙ local_all_lower w.params input n h.0 k

-- a chain is made of these
abbrev pub Chains : List Emitted → PlanTree → Type 0
Chains ems input = is_chain (phase (filters ems input)) ≡ true

param_step : (place : Place) (t : Emitted) (rest : Waiting → ℕ → List Emitted) (w : Waiting) (j : ℕ)
    (input : PlanTree) →
    Chains (rest (one_param t w) j) input → Chains (rest w j) (tested t input) →
    Chains (key_step false place t rest w j) input
param_step (at level i) t rest w j input waits goes = waits
param_step (given i) t rest w j input waits goes = waits
param_step nowhere t rest w j input waits goes = goes

local_step : (p : Bool) (key : Key) (rest : Waiting → ℕ → List Emitted) (w : Waiting) (j : ℕ)
    (input : PlanTree) → LocalKey p (Some key) →
    Chains (rest (one_param (turned key.own key.other) w) j) input →
    Chains (rest w j) (tested (turned key.own key.other) input) →
    Chains (key_step key.of_column key.other (turned key.own key.other) rest w j) input
local_step p key rest w j input k waits goes =
    ap (λ b. is_chain (phase (filters (key_step b key.other (turned key.own key.other) rest w j)
    input))) k.0 ∙ param_step key.other
    (turned key.own key.other) rest w j input waits goes

flushed : (w : Waiting) (a : Emitted) (others : List Emitted) (input : PlanTree) →
    Chains others (tested a (filters (all_waiting w) input)) →
    Chains (all_waiting w ++ a ∷ others) input
flushed w a others input h = ap (λ (t : PlanTree). is_chain (phase t))
    (filters_append (all_waiting w) (a ∷ others) input) ∙ h

-- Above the run.
above_step : (p : Bool) (key : Option Key) (a : Emitted) (rest : Waiting → ℕ →
    List Emitted) (w : Waiting) (j : ℕ) (input : PlanTree) →
    LocalKey p key → Within a 0 → Quiet w → is_chain (phase input) ≡ true →
    ((u : Waiting) (i : ℕ) (t : PlanTree) → Quiet u → is_chain (phase t) ≡ true →
    Chains (rest u i) t) → Chains (test_step key a rest w j) input
above_step p None a rest w j input k wa hw h go =
    flushed w a (rest none_waits (width a.nodes j)) input
    (go none_waits (width a.nodes j) (tested a (filters (all_waiting w) input)) (tt, refl)
    (local_chain a (filters (all_waiting w) input) wa (quiet_chain w input hw h)))
above_step p (Some key) a rest w j input k wa hw h go =
    let t = turned key.own key.other in
    local_step p key rest w j input k (go (one_param t w) j input (
      local_more w.params t hw.0 k.2,
      hw.1,
    ) h)
    (go w j (tested t input) hw (local_chain t input k.2 h))

above_chain : (es : Exprs) (S : List ℕ → ℕ) (e : Env) (n j : ℕ) (p : Bool) → Given e p →
    (w : Waiting) (input : PlanTree) → NamesAll es (Innermost 1) p →
    Quiet w → is_chain (phase input) ≡ true → Chains (emit_tests es S (entered e n) w j) input
above_chain NoExpr S e n j p g w input ns hw h = quiet_chain w input hw h
above_chain (MoreExprs x es) S e n j p g w input ns hw h =
    above_step p (key_of x (entered e n)) (emit x S (entered e n) j) (emit_tests es S (entered e n))
    w j input (local_of x e n p g ns.0)
    (local_within x S e n j p g ns.0) hw h
    (λ u i t hu k. above_chain es S e n i p g u t ns.1 hu k)

-- After the run, while its equalities wait.
late_step : (p : Bool) (key : Option Key) (a : Emitted) (rest : Waiting → ℕ →
    List Emitted) (w : Waiting) (n j : ℕ) (input : PlanTree) →
    LocalKey p key → Within a 0 → Held p w n → phase input ≡ Lower n →
    ((i : ℕ) (t : PlanTree) → is_chain (phase t) ≡ true → Chains (rest none_waits i) t) →
    ((u : Waiting) (t : PlanTree) → Held p u n → phase t ≡ Lower n → Chains (rest u j) t) →
    Chains (test_step key a rest w j) input
late_step p None a rest w n j input k wa hw h above late =
    flushed w a (rest none_waits (width a.nodes j)) input
    (above (width a.nodes j) (tested a (filters (all_waiting w) input))
    (local_chain a (filters (all_waiting w) input) wa (held_chain p w input n hw h)))
late_step p (Some key) a rest w n j input k wa hw h above late =
    let t = turned key.own key.other in
    local_step p key rest w j input k
    (late (one_param t w) input (local_held p w.params t n k.1 hw.0 k.2, hw.1) h)
    (late w (tested t input) hw (local_lower t input n k.2 h))

late_chain : (es : Exprs) (S : List ℕ → ℕ) (e : Env) (n j : ℕ) (p : Bool) → Given e p →
    (w : Waiting) (input : PlanTree) → NamesAll es (Innermost 1) p →
    Held p w n → phase input ≡ Lower n → Chains (emit_tests es S (entered e n) w j) input
late_chain NoExpr S e n j p g w input ns hw h = held_chain p w input n hw h
late_chain (MoreExprs x es) S e n j p g w input ns hw h =
    late_step p (key_of x (entered e n)) (emit x S (entered e n) j) (emit_tests es S (entered e n))
    w n j input (local_of x e n p g ns.0)
    (local_within x S e n j p g ns.0) hw h
    (λ i t k. above_chain es S e n i p g none_waits t ns.1 (tt, refl) k)
    (λ u t hu k. late_chain es S e n j p g u t ns.1 hu k)

-- In the run.
held_param : (p : Bool) (level j i n : ℕ) (ps : List Emitted) → ParamPlace p (at level j) →
    less i n ≡ true → ParamsHeld p ps n →
    ParamsHeld p (ps ++ turned (at 0 i) (at (suc level) j) ∷ []) n
held_param true level j i n ps q l h = never q
held_param false level j i n ps q l h =
    keys_more ps (turned (at 0 i) (at (suc level) j)) n h (refl, refl, l)

held_given : (p : Bool) (j i n : ℕ) (ps : List Emitted) → ParamPlace p (given j) →
    ParamsHeld p ps n →
    ParamsHeld p (ps ++ turned (at 0 i) (given j) ∷ []) n
held_given true j i n ps q h = local_more ps (turned (at 0 i) (given j)) h (refl, refl)
held_given false j i n ps q h = absurd q

keyed_turn : (p : Bool) (of_column : Bool) (q : Place) (i n j : ℕ) (rest : Waiting → ℕ →
    List Emitted) (w : Waiting) (input : PlanTree) →
    less i n ≡ true → (of_column ≡ false → ParamPlace p q) → Held p w n → phase input ≡ Lower n →
    ((u : Waiting) (t : PlanTree) → Held p u n → phase t ≡ Lower n → Chains (rest u j) t) →
    Chains (key_step of_column (outward q) (turned (at 0 i) (outward q)) rest w j) input
keyed_turn p true (at level c) i n j rest w input l f hw h go =
    let t = turned (at 0 i) (at (suc level) c) in
    go (one_column t w) input (hw.0, keys_more w.columns t n hw.1 (refl, refl, l)) h
keyed_turn p true (given c) i n j rest w input l f hw h go = let t = turned (at 0 i) (given c) in
    go w (tested t input) hw
    (local_lower t input n (refl, refl) h)
keyed_turn p true nowhere i n j rest w input l f hw h go = let t = turned (at 0 i) nowhere in
    go w (tested t input) hw
    (local_lower t input n (refl, refl) h)
keyed_turn p false (at level c) i n j rest w input l f hw h go =
    go (one_param (turned (at 0 i) (at (suc level) c)) w) input
    (held_param p level c i n w.params (f refl) l hw.0, hw.1) h
keyed_turn p false (given c) i n j rest w input l f hw h go =
    go (one_param (turned (at 0 i) (given c)) w) input
    (held_given p c i n w.params (f refl) hw.0, hw.1) h
keyed_turn p false nowhere i n j rest w input l f hw h go = let t = turned (at 0 i) nowhere in
    go w (tested t input) hw
    (local_lower t input n (refl, refl) h)

run_step : (p : Bool) (key : Option Key) (a : Emitted) (rest : Waiting → ℕ →
    List Emitted) (w : Waiting) (n j : ℕ) (input : PlanTree) →
    KeyedPlaces p key n → Held p w n → phase input ≡ Lower n →
    ((u : Waiting) (t : PlanTree) → Held p u n → phase t ≡ Lower n → Chains (rest u j) t) →
    Chains (test_step key a rest w j) input
run_step p None a rest w n j input k hw h go = absurd k
run_step p (Some key) a rest w n j input k hw h go =
    subst (λ (own : Place). Chains
    (key_step key.of_column key.other (turned own key.other) rest w j) input) (sym k.2)
    (subst (λ (other : Place). Chains
    (key_step key.of_column other (turned (at 0 k.0) other) rest w j) input) (sym k.4)
    (keyed_turn p key.of_column k.3 k.0 n j rest w input k.1 k.5 hw h go))

run_chain : (es : Exprs) (S : List ℕ → ℕ) (e : Env) (n j : ℕ) (p : Bool) → Given e p →
    (w : Waiting) (input : PlanTree) → InRun es n p → Held p w n →
    phase input ≡ Lower n → Chains (emit_tests es S (entered e n) w j) input
run_chain NoExpr S e n j p g w input r hw h = held_chain p w input n hw h
run_chain (MoreExprs x es) S e n j p g w input (inl r) hw h =
    run_step p (key_of x (entered e n)) (emit x S (entered e n) j) (emit_tests es S (entered e n)) w
    n j input (keyed_places x e n p g r.0) hw h
    (λ u t hu k. run_chain es S e n j p g u t r.1 hu k)
run_chain (MoreExprs x es) S e n j p g w input (inr r) hw h =
    late_chain (MoreExprs x es) S e n j p g w input r hw h

-- Before the run.
before_step : (p : Bool) (key : Option Key) (a : Emitted) (rest : Waiting → ℕ →
    List Emitted) (w : Waiting) (n j : ℕ) (input : PlanTree) →
    LocalKey p key → Within a 0 → Before p w → phase input ≡ Lower n →
    ((u : Waiting) (i : ℕ) (t : PlanTree) → Before p u → phase t ≡ Lower n → Chains (rest u i) t) →
    Chains (test_step key a rest w j) input
before_step p None a rest w n j input k wa hw h go =
    flushed w a (rest none_waits (width a.nodes j)) input
    (go none_waits (width a.nodes j) (tested a (filters (all_waiting w) input)) (before_none p)
    (local_lower a (filters (all_waiting w) input) n wa
    (quiet_lower w input n (before_quiet p w hw) h)))
before_step p (Some key) a rest w n j input k wa hw h go =
    let t = turned key.own key.other in
    local_step p key rest w j input k (go (one_param t w) j input (before_more p w t k.1 hw k.2) h)
    (go w j (tested t input) hw (local_lower t input n k.2 h))

before_chain : (es : Exprs) (S : List ℕ → ℕ) (e : Env) (n j : ℕ) (p : Bool) → Given e p →
    (w : Waiting) (input : PlanTree) → BeforeRun es n p →
    Before p w → phase input ≡ Lower n → Chains (emit_tests es S (entered e n) w j) input
before_chain NoExpr S e n j p g w input r hw h =
    ap is_chain (quiet_lower w input n (before_quiet p w hw) h)
before_chain (MoreExprs x es) S e n j p g w input (inl r) hw h =
    before_step p (key_of x (entered e n)) (emit x S (entered e n) j)
    (emit_tests es S (entered e n)) w n j input (local_of x e n p g r.0)
    (local_within x S e n j p g r.0) hw h
    (λ u i t hu k. before_chain es S e n i p g u t r.1 hu k)
before_chain (MoreExprs x es) S e n j p g w input (inr r) hw h =
    run_chain (MoreExprs x es) S e n j p g w input (inr_run x es n p r)
    (before_held p w n hw) h
  where
    inr_run : (x : Expr) (es : Exprs) (n : ℕ) (p : Bool) → IsKeyed x n × InRun es n p →
        InRun (MoreExprs x es) n p
    inr_run x es n p r = inl r

-- The list.
listed_chain : (own : Option (List ℕ)) (a : EmittedAll) (n : ℕ) (input : PlanTree) → WithinAll a 0 →
    is_chain (phase input) ≡ true →
    is_chain (phase (listed_by own a n input)) ≡ true
listed_chain (Some is) a n input w h =
    keep_chain (phase (on_each a.nodes input)) (ap is_chain (phase_on_each a.nodes input)
    ∙ nodes_chain a.nodes (phase input) w.0 h)
listed_chain None a n input w h =
    let nodes = joined_nodes a.nodes (extend_by a.scalars no_node) in
    keep_chain (phase (on_each nodes input))
    (ap is_chain (phase_on_each nodes input) ∙ nodes_chain nodes (phase input)
    (joined_in a.nodes (extend_by a.scalars no_node) 0 w.0
    (and_true (stays_all a.scalars 1) true w.1 refl)) h)

selected_chain : (from : From) (tests items : Exprs) (S : List ℕ → ℕ) (e : Env) (p : Bool) →
    Given e p → EvenFrom from → NamesFrom from (Innermost 0) p →
    BeforeRun tests (from_width from S) p → NamesAll items (Innermost 1) p →
    is_chain (phase (selected (emit_tests tests S (entered e (from_width from S)) none_waits)
    (emit_all items S (entered e (from_width from S)))
    (from_width from S) (from_plan from S e))) ≡ true
selected_chain from tests items S e p g v nf b ni =
    let n = from_width from S in let inner = entered e n in
    let ts = emit_tests tests S inner none_waits n in let j = filters_width ts n in let a =
    emit_all items S inner j in
    let w : WithinAll a 0 = all_in items (each_in items) S (Innermost 1) p inner 0 j ni
    (entered_in e n (Innermost 0) p 0 (none_in e p g)) in
    listed_chain (own_places a.scalars) a j (filters ts (from_plan from S e)) w
    (before_chain tests S e n n p g none_waits (from_plan from S e) b (before_none p)
    (from_phase from S e p g v nf))

or_left : (a b : Bool) → a ≡ true → (a || b) ≡ true
or_left true b h = refl
or_left false b h = never h

or_right : (a b : Bool) → b ≡ true → (a || b) ≡ true
or_right true b h = refl
or_right false b h = h

by_chain : (kind : Kind) (t : PlanTree) → is_chain (phase t) ≡ true → removable kind t ≡ true
by_chain kind t h = or_right (tree_within t 0) (is_chain (phase t)
    || (is_region t && of_region kind))
    (or_left (is_chain (phase t)) (is_region t && of_region kind) h)

by_closed : (kind : Kind) (t : PlanTree) → tree_within t 0 ≡ true → removable kind t ≡ true
by_closed kind t h = or_left (tree_within t 0) (is_chain (phase t)
    || (is_region t && of_region kind)) h

-- The plan of a nested query, and what it folds.
keyed_removable : (q : Query) (S : List ℕ → ℕ) (e : Env) (p : Bool) → Given e p →
    SimpleQuery q S p → KeyedQuery q S p → folded q S e ≡ None →
    is_chain (phase (plan q S e)) ≡ true
keyed_removable (Select items from tests) S e p g s k h =
    selected_chain from tests items S e p g (simple_even_from from S p s.0) k.0 k.1 k.2
keyed_removable (Grouped from tests zero items (a ∷ ags) NoExpr list) S e p g s k h = absurd cc
keyed_removable _ S e p g s k h = absurd k

keyed_folded : (q : Query) (S : List ℕ → ℕ) (e : Env) (p : Bool) → Given e p → SimpleQuery q S p →
    KeyedQuery q S p → InputRemovable (folded q S e)
keyed_folded (Grouped from tests zero items (a ∷ ags) NoExpr list) S e p g s k =
    let n = from_width from S in
    let input = selected (emit_tests tests S (entered e n) none_waits)
    (emit_all items S (entered e n)) n
    (from_plan from S e) in
    by_chain (aggregate (numbered 0 (a ∷ ags))) input
    (selected_chain from tests items S e p g (simple_even_from from S p s.0) k.0 k.1 k.2)
keyed_folded _ S e p g s k = tt

input_closed : (oa : Option Folded) → InputWithin oa 0 → InputRemovable oa
input_closed None h = tt
input_closed (Some a) h = by_closed (aggregate a.aggregates) a.input h

pub nested_folded : (q : Query) (S : List ℕ → ℕ) (e : Env) (p : Bool) → Given e p →
    SimpleQuery q S p → Nested q S p → InputRemovable (folded q S e)
nested_folded q S e p g s (inl h) =
    input_closed (folded q S e) ((fold_in q S (Innermost 0) p e 0 h).0 (none_in e p g))
nested_folded q S e p g s (inr h) = keyed_folded q S e p g s h

pub nested_removable : (q : Query) (S : List ℕ → ℕ) (e : Env) (p : Bool) → Given e p →
    SimpleQuery q S p → Nested q S p → (kind : Kind) →
    folded q S e ≡ None → removable kind (plan q S e) ≡ true
nested_removable q S e p g s (inl h) kind n =
    by_closed kind (plan q S e) (query_in q S (Innermost 0) p e 0 h (none_in e p g))
nested_removable q S e p g s (inr h) kind n =
    by_chain kind (plan q S e) (keyed_removable q S e p g s h n)

-- How many columns plans have.
use Rattle.std.proofs.Common.{◌≡◌, ℕ, zero, suc, ◌+◌, ◌≤◌, Bool, true, false, cond, List, [], ◌∷◌}
use Rattle.std.proofs.Common.{length, Option, Some, None, refl, ap, ◌∙◌, arith}
use Rattle.rel_algebra.specs.Emit.{Emitted, EmittedAll, Env, all_plain, chosen, emit_all, emit_rows}
use Rattle.rel_algebra.specs.Emit.{emit_tests, entered, filters, filters_width, from_plan}
use Rattle.rel_algebra.specs.Emit.{joined_nodes, lifted, list_nodes, listed, listed_by, none_waits}
use Rattle.rel_algebra.specs.Emit.{numbers, own_places, plan, scalar_count, scalars_of, selected}
use Rattle.rel_algebra.specs.Emit.{several, values_plan, width, with_place}
use Rattle.rel_algebra.specs.Joins.{from_width, places, query_width, rows_width}
use Rattle.rel_algebra.specs.Plain.{all_even}
use Rattle.rel_algebra.specs.Plan.{Nodes, PlanTree, Scalars, apply, apply_by, column, extend}
use Rattle.rel_algebra.specs.Plan.{extend_by, kind_width, more, no_node, none, on_each, unit_row}
use Rattle.rel_algebra.specs.Plan.{values}
use Rattle.rel_algebra.specs.Removal.{tree_width}
use Rattle.rel_algebra.specs.Tree.{Cross, Derived, Exprs, From, Grouped, Inner, LeftOuter, Ordered}
use Rattle.rel_algebra.specs.Tree.{Query, Select, Table, Values, count}
use Rattle.rel_algebra.proofs.Counts.{EachCount, all_count, chosen_count, rows_count}

pub places_long : (i k : ℕ) → length (places i k) ≡ k
places_long i zero = refl
places_long i (suc k) = ap suc (places_long (suc i) k)

pub on_each_width : (nodes : Nodes) (t : PlanTree) → tree_width (on_each nodes t)
    ≡ width nodes (tree_width t)
on_each_width no_node t = refl
on_each_width (extend_by ss a) t = on_each_width a (extend ss t)
on_each_width (apply_by when kind way inner a) t = on_each_width a (apply when kind way inner t)

pub width_more : (nodes : Nodes) (m : ℕ) → m ≤ width nodes m
width_more no_node m = omega arith
width_more (extend_by ss a) m = let k = width_more a (m + scalar_count ss) in omega (arith, k)
width_more (apply_by when kind way inner a) m = let k = width_more a (m + kind_width kind) in
    omega (arith, k)

pub width_join : (a b : Nodes) (m : ℕ) → width (joined_nodes a b) m ≡ width b (width a m)
width_join no_node b m = refl
width_join (extend_by ss a) b m = width_join a b (m + scalar_count ss)
width_join (apply_by when kind way inner a) b m = width_join a b (m + kind_width kind)

abbrev pub OwnLong : Option (List ℕ) → Scalars → Type 0
OwnLong None ss = Unit {0}
OwnLong (Some is) ss = length is ≡ scalar_count ss

own_longer : (i : ℕ) (own : Option (List ℕ)) (ss : Scalars) → OwnLong own ss →
    OwnLong (with_place i own) (more (column zero i) ss)
own_longer i None ss h = tt
own_longer i (Some is) ss h = ap suc h

own_long : (ss : Scalars) → OwnLong (own_places ss) ss
own_long none = refl
own_long (more (column zero i) ss) = own_longer i (own_places ss) ss (own_long ss)
own_long (more _ ss) = tt

listed_by_width : (own : Option (List ℕ)) (a : EmittedAll) (n : ℕ) (input : PlanTree) →
    OwnLong own a.scalars →
    tree_width (listed_by own a n input) ≡ scalar_count a.scalars
listed_by_width (Some is) a n input h = h
listed_by_width None a n input h = places_long (width a.nodes n) (scalar_count a.scalars)

pub listed_width : (a : EmittedAll) (n : ℕ) (input : PlanTree) → tree_width (listed a n input)
    ≡ scalar_count a.scalars
listed_width a n input = listed_by_width (own_places a.scalars) a n input (own_long a.scalars)

pub selected_width : (ts : ℕ → List Emitted) (items : Exprs) (S : List ℕ →
    ℕ) (e : Env) (n : ℕ) (input : PlanTree) →
    tree_width (selected ts (emit_all items S e) n input) ≡ count items
selected_width ts items S e n input = let m = filters_width (ts n) n in
    listed_width (emit_all items S e m) m (filters (ts n) input) ∙ all_count items
    S e m

either_width : (b : Bool) (x y : PlanTree) (n : ℕ) → tree_width x ≡ n → tree_width y ≡ n →
    tree_width (cond b x y) ≡ n
either_width true x y n p q = p
either_width false x y n p q = q

several_width : (k : ℕ) (lists : List EmittedAll) → EachCount k lists → tree_width (several k lists)
    ≡ k
several_width k lists h =
    listed_width (record { nodes = list_nodes lists; scalars = chosen k 0 lists }) 1
    (values (numbers 0 (length lists))) ∙
    chosen_count k 0 lists h

values_plan_width : (k : ℕ) (first lists : List EmittedAll) → EachCount k first →
    EachCount k lists → tree_width (values_plan k first lists) ≡ k
values_plan_width k [] lists p q = several_width k lists q
values_plan_width k (a ∷ []) lists p q = listed_width a 0 unit_row ∙ p.0
values_plan_width k (a ∷ b ∷ others) lists p q =
    either_width (all_plain (a ∷ b ∷ others)) (values (scalars_of (a ∷ b ∷ others)))
    (several k lists) k p.0 (several_width k lists q)

-- a query's own rows of VALUES have one length
abbrev pub Even : Query → Type 0
Even (Select items from tests) = Unit {0}
Even (Grouped from tests k items ags having list) = Unit {0}
Even (Values rows) = all_even (rows_width rows) rows ≡ true
Even (Ordered q keys) = Even q

abbrev pub EvenFrom : From → Type 0
EvenFrom (Table t) = Unit {0}
EvenFrom (Derived q) = Even q
EvenFrom (Cross a b) = EvenFrom a × EvenFrom b
EvenFrom (Inner a b on) = EvenFrom a × EvenFrom b
EvenFrom (LeftOuter a b on) = EvenFrom a × EvenFrom b

pub plan_width : (q : Query) (S : List ℕ → ℕ) (e : Env) → Even q →
    tree_width (plan q S e) ≡ query_width q S
plan_width (Select items from tests) S e h = let n = from_width from S in
    selected_width (emit_tests tests S (entered e n) none_waits) items S
    (entered e n) n (from_plan from S e)
plan_width (Grouped from tests k items ags having list) S e h = let n = k + length ags in
    selected_width
    (emit_tests having S (entered e n) none_waits) list S (entered e n) n _
plan_width (Values rows) S e h =
    let k = rows_width rows in
    values_plan_width k (emit_rows rows S (lifted e) 0) (emit_rows rows S (lifted e) 1)
    (rows_count rows k S (lifted e) 0 h) (rows_count rows k S (lifted e) 1 h)
plan_width (Ordered q keys) S e h = plan_width q S e h

pub from_plan_width : (x : From) (S : List ℕ → ℕ) (e : Env) → EvenFrom x →
    tree_width (from_plan x S e) ≡ from_width x S
from_plan_width (Table t) S e h = refl
from_plan_width (Derived q) S e h = plan_width q S e h
from_plan_width (Cross a b) S e h = ap (λ n. n + tree_width (from_plan b S e))
    (from_plan_width a S e h.0) ∙ ap (λ n. from_width a S + n)
    (from_plan_width b S e h.1)
from_plan_width (Inner a b on) S e h = places_long 0 (from_width a S + from_width b S)
from_plan_width (LeftOuter a b on) S e h = ap (λ n. n + from_width b S) (from_plan_width a S e h.0)

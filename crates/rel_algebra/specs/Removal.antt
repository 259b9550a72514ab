-- Which rows outside a plan uses, and which Applies can be removed: a computed test on plans.
use Rattle.std.specs.Prelude.{ℕ, zero, suc, ◌&&◌, ◌||◌, not, Bool, true, false, if◌then◌else◌, List}
use Rattle.std.specs.Prelude.{[], ◌∷◌}
use Rattle.sql_values.specs.declared.operators.Comparison.TheVariants.{Equals}
pub use Rattle.rel_algebra.specs.Plan.{lists_width, tree_width}
use Rattle.rel_algebra.specs.Plan.{Way, anew, once, lookup, Kind, Nodes, PlanTree, Scalar, Scalars}
use Rattle.rel_algebra.specs.Plan.{aggregate, apply, apply_by, argument, column, constant, cross}
use Rattle.rel_algebra.specs.Plan.{exists, extend, extend_by, filter, group, into, keep, left_outer}
use Rattle.rel_algebra.specs.Plan.{member, more, no_node, none, scan, settle, single, sort, strict}
use Rattle.rel_algebra.specs.Plan.{unit_row, values, word}
use Rattle.rel_algebra.specs.Tree.{Comparing}

-- whether a number is below another one
abbrev pub less : ℕ → ℕ → Bool
less a zero = false
less zero (suc n) = true
less (suc a) (suc n) = less a n

-- names no level from n on
abbrev mutual
  -- a scalar names no level from n on
  pub stays : Scalar → ℕ → Bool
  stays (constant v) n = true
  stays (column level i) n = less level n
  stays (argument i) n = true
  stays (word w ss) n = stays_all ss n

  -- several scalars name none
  pub stays_all : Scalars → ℕ → Bool
  stays_all none n = true
  stays_all (more s ss) n = stays s n && stays_all ss n

-- the lists of a Values name none
abbrev pub lists_stay : List Scalars → ℕ → Bool
lists_stay [] n = true
lists_stay (ss ∷ lists) n = stays_all ss n && lists_stay lists n

-- the scalar of a kind names none
abbrev pub kind_stays : Kind → ℕ → Bool
kind_stays single n = true
kind_stays exists n = true
kind_stays (member s) n = stays s n
kind_stays (aggregate ags) n = true
kind_stays (into k) n = true

-- the scalars of a Lookup's keys name none
abbrev pub keys_stay : List (ℕ × Scalar) → ℕ → Bool
keys_stay [] n = true
keys_stay (k ∷ keys) n = stays k.1 n && keys_stay keys n

-- what a way reads names none
abbrev pub way_stays : Way → ℕ → Bool
way_stays anew n = true
way_stays once n = true
way_stays (lookup keys) n = keys_stay keys n

-- uses at most the n innermost of the rows outside
abbrev mutual
  -- a plan uses at most the n innermost of the rows outside
  pub tree_within : PlanTree → ℕ → Bool
  tree_within unit_row n = true
  tree_within (scan name m) n = true
  tree_within (values lists) n = lists_stay lists (suc n)
  tree_within (extend ss input) n = stays_all ss (suc n) && tree_within input n
  tree_within (apply when kind way inner input) n =
      (stays when (suc n) && (way_stays way (suc n) && kind_stays kind (suc n)))
      && (tree_within inner (suc n) && tree_within input n)
  tree_within (filter s input) n = stays s (suc n) && tree_within input n
  tree_within (keep is input) n = tree_within input n
  tree_within (cross a b) n = tree_within a n && tree_within b n
  tree_within (left_outer nodes s k a b) n =
      (nodes_within nodes n && stays s (suc n)) && (tree_within a n && tree_within b n)
  tree_within (settle input) n = tree_within input n
  tree_within (group keys ags input) n = tree_within input n
  tree_within (sort keys input) n = tree_within input n

  -- the same of a run of nodes
  pub nodes_within : Nodes → ℕ → Bool
  nodes_within no_node n = true
  nodes_within (extend_by ss rest) n = stays_all ss (suc n) && nodes_within rest n
  nodes_within (apply_by when kind way inner rest) n =
      (stays when (suc n) && (way_stays way (suc n) && kind_stays kind (suc n)))
      && (tree_within inner (suc n) && nodes_within rest n)

-- eq(#i, ^d.j) on a row of n columns
abbrev pub is_key : ℕ → Scalar → Bool
is_key n (word (strict (Comparing Equals)) (more (column zero i) (more (column (suc d) j) none))) =
    less i n
is_key n _ = false

-- How far a chain over a base has come, from the base up: below its run of equalities, over a base
-- of so many columns; in it; above it; or it is no such chain.
pub data Phase : Type 0 where
  Lower : ℕ → Phase
  Running : ℕ → Phase
  Upper : Phase
  Stuck : Phase

-- a node that uses no outer column
abbrev pub up : Phase → Phase
up (Lower n) = Lower n
up (Running n) = Upper
up Upper = Upper
up Stuck = Stuck

-- a Filter that uses an outer column: one equality of the run, or no chain
abbrev pub keyed : Scalar → Phase → Phase
keyed s (Lower n) = if is_key n s then Running n else Stuck
keyed s (Running n) = if is_key n s then Running n else Stuck
keyed s Upper = Stuck
keyed s Stuck = Stuck

-- a Filter, by whether it uses an outer column
abbrev pub filter_phase : Scalar → Phase → Phase
filter_phase s p = if stays s 1 then up p else keyed s p

-- an Extend or an Apply
abbrev pub inner_phase : Bool → Phase → Phase
inner_phase true p = up p
inner_phase false p = Stuck

-- the base's columns have other places from here on
abbrev pub keep_phase : Phase → Phase
keep_phase (Lower n) = Upper
keep_phase (Running n) = Upper
keep_phase Upper = Upper
keep_phase Stuck = Stuck

-- a base that uses no outer column begins a chain
abbrev pub base_phase : PlanTree → Phase
base_phase t = if tree_within t 0 then Lower (tree_width t) else Stuck

-- how far the chain that a plan is has come
abbrev pub phase : PlanTree → Phase
phase (extend ss t) = inner_phase (stays_all ss 1) (phase t)
phase (apply when kind way inner t) =
    inner_phase ((stays when 1 && (way_stays way 1 && kind_stays kind 1)) && tree_within inner 1)
    (phase t)
phase (filter s t) = filter_phase s (phase t)
phase (keep is t) = keep_phase (phase t)
phase unit_row = base_phase unit_row
phase (scan name n) = base_phase (scan name n)
phase (values lists) = base_phase (values lists)
phase (cross a b) = base_phase (cross a b)
phase (left_outer nodes s n a b) = base_phase (left_outer nodes s n a b)
phase (settle t) = base_phase (settle t)
phase (group keys ags t) = base_phase (group keys ags t)
phase (sort keys t) = base_phase (sort keys t)

-- a chain, in whatever phase
abbrev pub is_chain : Phase → Bool
is_chain (Lower n) = true
is_chain (Running n) = true
is_chain Upper = true
is_chain Stuck = false

-- The same but for the run and the base's columns, which removal does not need: a chain over a base
-- that uses no outer column; nor do its nodes, but for Filters eq(#i, ^d.j).
abbrev pub chained : PlanTree → Bool
chained (extend ss t) = stays_all ss 1 && chained t
chained (apply when kind way inner t) =
    ((stays when 1 && (way_stays way 1 && kind_stays kind 1)) && tree_within inner 1) && chained t
chained (filter s t) = (stays s 1 || is_key (tree_width t) s) && chained t
chained (keep is t) = chained t
chained unit_row = true
chained (scan name n) = true
chained (values lists) = tree_within (values lists) 0
chained (cross a b) = tree_within (cross a b) 0
chained (left_outer nodes s n a b) = tree_within (left_outer nodes s n a b) 0
chained (settle t) = tree_within t 0
chained (group keys ags t) = tree_within t 0
chained (sort keys t) = tree_within t 0

-- a chain over Unit, which may use outer columns anywhere
abbrev pub is_region : PlanTree → Bool
is_region unit_row = true
is_region (extend ss t) = is_region t
is_region (apply when kind way inner t) = is_region t
is_region (keep is t) = is_region t
is_region (scan name n) = false
is_region (values lists) = false
is_region (filter s t) = false
is_region (cross a b) = false
is_region (left_outer nodes s n a b) = false
is_region (settle t) = false
is_region (group keys ags t) = false
is_region (sort keys t) = false

-- no aggregate is made of a region with outer columns: a scalar can't say what SUM makes of a value
abbrev pub of_region : Kind → Bool
of_region single = true
of_region exists = true
of_region (member s) = true
of_region (aggregate ags) = false
of_region (into k) = true

-- an inner plan under which an Apply can be removed: it uses no outer column, or is such a chain
-- over a base, or a region
abbrev pub removable : Kind → PlanTree → Bool
removable kind t = tree_within t 0 || (is_chain (phase t) || (is_region t && of_region kind))

-- an Apply, and neither Once nor Lookup
abbrev pub is_anew : Way → Bool
is_anew anew = true
is_anew once = false
is_anew (lookup keys) = false

-- each Apply can be removed, inner plans included
abbrev mutual
  -- each Apply of a plan can be removed
  pub all_removable : PlanTree → Bool
  all_removable unit_row = true
  all_removable (scan name n) = true
  all_removable (values lists) = true
  all_removable (extend ss input) = all_removable input
  all_removable (apply when kind way inner input) =
      ((not (is_anew way) || removable kind inner) && all_removable inner) && all_removable input
  all_removable (filter s input) = all_removable input
  all_removable (keep is input) = all_removable input
  all_removable (cross a b) = all_removable a && all_removable b
  all_removable (left_outer nodes s k a b) =
      nodes_removable nodes && (all_removable a && all_removable b)
  all_removable (settle input) = all_removable input
  all_removable (group keys ags input) = all_removable input
  all_removable (sort keys input) = all_removable input

  -- each Apply of a run of nodes can be removed
  pub nodes_removable : Nodes → Bool
  nodes_removable no_node = true
  nodes_removable (extend_by ss rest) = nodes_removable rest
  nodes_removable (apply_by when kind way inner rest) =
      ((not (is_anew way) || removable kind inner) && all_removable inner) && nodes_removable rest

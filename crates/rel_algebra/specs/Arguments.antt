-- Plans that name no argument, and plans whose inner plans name none.
use Rattle.std.specs.Prelude.{ℕ, List, [], ◌∷◌}
use Rattle.rel_algebra.specs.Plan.{Kind, Nodes, PlanTree, Scalar, Scalars, Way, aggregate, anew}
use Rattle.rel_algebra.specs.Plan.{apply, apply_by, argument, column, constant, cross, exists}
use Rattle.rel_algebra.specs.Plan.{extend, extend_by, filter, group, keep, left_outer, lookup}
use Rattle.rel_algebra.specs.Plan.{member, more, no_node, none, once, scan, settle, single, sort}
use Rattle.rel_algebra.specs.Plan.{unit_row, values, word, into}
use Rattle.rel_algebra.specs.Remove.{remove}

abbrev mutual
  -- a scalar that names no argument
  pub NoArgument : Scalar → Type 0
  NoArgument (constant v) = Unit {0}
  NoArgument (column level i) = Unit {0}
  NoArgument (argument i) = ⊥
  NoArgument (word w ss) = NoArguments ss

  -- scalars that name none
  pub NoArguments : Scalars → Type 0
  NoArguments none = Unit {0}
  NoArguments (more s ss) = NoArgument s × NoArguments ss

-- the lists of a Values name none
abbrev pub ListsFree : List Scalars → Type 0
ListsFree [] = Unit {0}
ListsFree (ss ∷ lists) = NoArguments ss × ListsFree lists

-- the scalar of a kind names none
abbrev pub KindFree : Kind → Type 0
KindFree single = Unit {0}
KindFree exists = Unit {0}
KindFree (member s) = NoArgument s
KindFree (aggregate ags) = Unit {0}
KindFree (into k) = Unit {0}

-- the scalars of a Lookup's keys name none
abbrev pub KeysFree : List (ℕ × Scalar) → Type 0
KeysFree [] = Unit {0}
KeysFree (k ∷ keys) = NoArgument k.1 × KeysFree keys

-- what a way reads names none
abbrev pub WayFree : Way → Type 0
WayFree anew = Unit {0}
WayFree once = Unit {0}
WayFree (lookup keys) = KeysFree keys

abbrev mutual
  -- a plan that names none, its inner plans included
  pub TreeFree : PlanTree → Type 0
  TreeFree unit_row = Unit {0}
  TreeFree (scan name n) = Unit {0}
  TreeFree (values lists) = ListsFree lists
  TreeFree (extend ss input) = NoArguments ss × TreeFree input
  TreeFree (apply when kind way inner input) = NoArgument when × KindFree kind × WayFree way
      × TreeFree inner × TreeFree input
  TreeFree (filter s input) = NoArgument s × TreeFree input
  TreeFree (keep is input) = TreeFree input
  TreeFree (cross a b) = TreeFree a × TreeFree b
  TreeFree (left_outer nodes s n a b) = NodesFree nodes × NoArgument s × TreeFree a × TreeFree b
  TreeFree (settle input) = TreeFree input
  TreeFree (group keys ags input) = TreeFree input
  TreeFree (sort keys input) = TreeFree input

  -- a run of nodes that names none
  pub NodesFree : Nodes → Type 0
  NodesFree no_node = Unit {0}
  NodesFree (extend_by ss rest) = NoArguments ss × NodesFree rest
  NodesFree (apply_by when kind way inner rest) = NoArgument when × KindFree kind × WayFree way
      × TreeFree inner × NodesFree rest

-- the inner plans name none
abbrev mutual
  -- a plan whose inner plans name none
  pub InsideFree : PlanTree → Type 0
  InsideFree unit_row = Unit {0}
  InsideFree (scan name n) = Unit {0}
  InsideFree (values lists) = Unit {0}
  InsideFree (extend ss input) = InsideFree input
  InsideFree (apply when kind way inner input) = TreeFree inner × InsideFree input
  InsideFree (filter s input) = InsideFree input
  InsideFree (keep is input) = InsideFree input
  InsideFree (cross a b) = InsideFree a × InsideFree b
  InsideFree (left_outer nodes s n a b) = RunFree nodes × InsideFree a × InsideFree b
  InsideFree (settle input) = InsideFree input
  InsideFree (group keys ags input) = InsideFree input
  InsideFree (sort keys input) = InsideFree input

  -- a run of nodes whose inner plans name none
  pub RunFree : Nodes → Type 0
  RunFree no_node = Unit {0}
  RunFree (extend_by ss rest) = RunFree rest
  RunFree (apply_by when kind way inner rest) = TreeFree inner × RunFree rest

-- where no inner plan names an argument, none of the result does
abbrev pub RemovedFree : Type 0
RemovedFree = (t : PlanTree) → InsideFree t → InsideFree (remove t)

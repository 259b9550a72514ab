-- What is emitted of an expression: nodes that add columns, and a scalar over the wider row. How
-- emissions are joined, asked, folded and listed, whatever they were emitted of.
use Rattle.std.specs.Prelude.{ℕ, zero, suc, ◌+◌, ◌&&◌, Bool, true, false, if◌then◌else◌, List, []}
use Rattle.std.specs.Prelude.{◌∷◌, length, Option, Some, None, pos}
use Rattle.sql_values.specs.declared.value.Value.TheVariants.{Null, Int, Bool as Truth}
use Rattle.sql_values.specs.declared.value.SqlType.{SqlType}
use Rattle.sql_values.specs.declared.value.SqlType.TheVariants.{Varchar}
use Rattle.sql_values.specs.declared.operators.Comparison.TheVariants.{Equals}
use Rattle.rel_algebra.specs.Tree.{Comparing, NullTest, TrueTest, AnyOf, Aggregate, Assign}
use Rattle.rel_algebra.specs.Joins.{places}
use Rattle.rel_algebra.specs.Plan.{scalar_count, anew, Word, strict, and_word, or_word, case_word}
use Rattle.rel_algebra.specs.Plan.{Scalar, constant, column, word, Scalars, none, more, Kind}
use Rattle.rel_algebra.specs.Plan.{single, member, aggregate, kind_width, PlanTree, unit_row}
use Rattle.rel_algebra.specs.Plan.{values, filter, keep, Nodes, no_node, extend_by, apply_by}
use Rattle.rel_algebra.specs.Plan.{on_each}

-- nodes that add columns, and a scalar over the wider row
pub record Emitted : Type 0 where
  pub nodes : Nodes
  pub scalar : Scalar

-- nodes that add columns, and scalars over the wider row
pub record EmittedAll : Type 0 where
  pub nodes : Nodes
  pub scalars : Scalars

-- the nodes of two runs, the first lower
abbrev pub joined_nodes : Nodes → Nodes → Nodes
joined_nodes no_node b = b
joined_nodes (extend_by ss a) b = extend_by ss (joined_nodes a b)
joined_nodes (apply_by when kind way inner a) b = apply_by when kind way inner (joined_nodes a b)

-- the width of a row of n columns after these nodes
abbrev pub width : Nodes → ℕ → ℕ
width no_node n = n
width (extend_by ss a) n = width a (n + scalar_count ss)
width (apply_by when kind way inner a) n = width a (n + kind_width kind)

-- a scalar without nodes
abbrev pub plain : Scalar → Emitted
plain s = record { nodes = no_node; scalar = s }

-- no nodes and no scalars
abbrev pub no_scalar : EmittedAll
no_scalar = record { nodes = no_node; scalars = none }

-- a word over emitted operands
abbrev pub word_on : Word → EmittedAll → Emitted
word_on w a = record { nodes = a.nodes; scalar = word w a.scalars }

-- one after another: the second on the row that the first leaves
abbrev pub first_and : Emitted → (ℕ → EmittedAll) → ℕ → EmittedAll
first_and a b n = let c = b (width a.nodes n) in
    record { nodes = joined_nodes a.nodes c.nodes; scalars = more a.scalar c.scalars }

-- the scalars become columns, and the rest sees the row that has them
abbrev pub then_columns : EmittedAll → (ℕ → ℕ → Emitted) → ℕ → Emitted
then_columns a go n =
    let m = width a.nodes n in let k = scalar_count a.scalars in let c = go m k in
    record { nodes = joined_nodes a.nodes (extend_by a.scalars c.nodes); scalar = c.scalar }

-- a query inside, under an Apply that asks it where this scalar is TRUE
abbrev pub asked_where : Scalar → Kind → PlanTree → ℕ → Emitted
asked_where when kind inner n = record {
  nodes = apply_by when kind anew inner no_node;
  scalar = column 0 n;
}

-- a query inside, under an Apply
abbrev pub asked : Kind → PlanTree → ℕ → Emitted
asked = asked_where (constant (Truth true))

-- x IN a query, whose Apply reads x's scalar. 8.4 (in predicate)
abbrev pub asked_member : Emitted → PlanTree → ℕ → Emitted
asked_member a inner n =
    record {
      nodes = joined_nodes a.nodes
          (apply_by (constant (Truth true)) (member a.scalar) anew inner no_node);
      scalar = column 0 (width a.nodes n);
    }

-- TRUE where these columns are values, and else the first one's area: for each or(isnull(#i), TRUE)
abbrev pub checks : List ℕ → Scalars
checks [] = none
checks (i ∷ is) = more (word or_word (more (word (strict NullTest) (more (column 0 i) none))
    (more (constant (Truth true)) none))) (checks is)

-- TRUE where all of these columns are values, and else the first area
abbrev pub all_values : List ℕ → Scalar
all_values is = word and_word (checks is)

-- the scalar, where these columns are values
abbrev pub if_values : List ℕ → Scalar → Scalar
if_values [] s = s
if_values (i ∷ is) s = word case_word (more (all_values (i ∷ is)) (more s none))

-- What a target of a type takes of a scalar: a longer text is cut or refused, and all else stands
-- as it is.
abbrev pub assigning : SqlType → Scalar → Scalar
assigning (Varchar n) s = word (strict (Assign (Varchar n))) (more s none)
assigning _ s = s

-- the same for the next of several targets; with no target left, the scalar itself
abbrev pub assigning_first : List SqlType → Scalar → Scalar
assigning_first [] s = s
assigning_first (t ∷ types) s = assigning t s

-- an emission whose scalar is as the next of several targets takes it
abbrev pub assigning_in : List SqlType → Emitted → Emitted
assigning_in types a = record { nodes = a.nodes; scalar = assigning_first types a.scalar }

-- the same for scalars
abbrev pub checks_of : Scalars → Scalars
checks_of none = none
checks_of (more s ss) = more
    (word or_word (more (word (strict NullTest) (more s none)) (more (constant (Truth true)) none)))
    (checks_of ss)

-- the scalar, where all of these scalars are values
abbrev pub if_all : Scalars → Scalar → Scalar
if_all ss s = word case_word (more (word and_word (checks_of ss)) (more s none))

-- A query of aggregates alone, without GROUP BY and HAVING, is folded under the Apply: its cells
-- are the finished aggregates, and its list is read on the row that has them.
pub record Folded : Type 0 where
  -- the plan whose rows are aggregated
  pub input : PlanTree
  -- each over a column of it
  pub aggregates : List (Aggregate × ℕ)
  -- from the width of the row that asks
  pub list : ℕ → EmittedAll

-- of the one row of the list: its first value, where all are values
abbrev pub first_value : Scalars → Scalar
first_value none = constant Null
first_value (more s none) = s
first_value (more s (more t ss)) = if_all (more s (more t ss)) s

-- EXISTS of the one row of a folded query: TRUE, where its list raises nothing. 8.10 (exists
-- predicate)
abbrev pub row_stands : Scalars → Scalar
row_stands ss = if_all ss (constant (Truth true))

-- the first of the aggregates' cells tells whether they are values
abbrev pub folding : Folded → (Scalars → Scalar) → ℕ → Emitted
folding a use_list n =
    let c = a.list n in
    record {
      nodes = apply_by (constant (Truth true)) (aggregate a.aggregates) anew a.input c.nodes;
      scalar = if_values (n ∷ []) (use_list c.scalars);
    }

-- a query inside an expression, folded where it can be
abbrev pub ask : Option Folded → Kind → (Scalars → Scalar) → PlanTree → ℕ → Emitted
ask None kind use_list inner n = asked kind inner n
ask (Some a) kind use_list inner n = folding a use_list n

-- x IN the value of b
abbrev pub folded_member : Emitted → Emitted → Emitted
folded_member a b = record {
  nodes = joined_nodes a.nodes b.nodes;
  scalar = word (strict AnyOf) (more a.scalar (more b.scalar none));
}

-- x IN a query, folded where it can be. 8.4 (in predicate)
abbrev pub ask_member : Option Folded → Emitted → PlanTree → ℕ → Emitted
ask_member None a inner n = asked_member a inner n
ask_member (Some c) a inner n = folded_member a (folding c first_value (width a.nodes n))

-- tests become comparisons with a column
abbrev pub against : ℕ → Scalars → Scalars
against p none = none
against p (more last none) = more last none
against p (more test (more result arms)) =
    more (word (strict (Comparing Equals)) (more (column 0 p) (more test none)))
    (more result (against p arms))

-- CASE with an operand, which stands in column p. 6.12 (case expression)
abbrev pub against_on : ℕ → EmittedAll → Emitted
against_on p a = record { nodes = a.nodes; scalar = word case_word (against p a.scalars) }

-- the body of a call, where all arguments that may raise are values
abbrev pub called : List ℕ → Emitted → Emitted
called is body = record { nodes = body.nodes; scalar = if_values is body.scalar }

-- A call of a function that has a plan of its own, as a region that reads its parameters from the k
-- columns from m on of the row outside: it is run where all of these are values.
abbrev pub called_region : (ℕ → ℕ → PlanTree) → ℕ → ℕ → Emitted
called_region region m k =
    record {
      nodes = apply_by (all_values (places m k)) single anew (region m k) no_node;
      scalar = column 0 (m + k);
    }

-- conjuncts as one scalar, up to the first that isn't true: and(istrue(..), ..)
abbrev pub truths : Scalars → Scalars
truths none = none
truths (more s ss) = more (word (strict TrueTest) (more s none)) (truths ss)

-- whether all conjuncts are true, up to the first that isn't
abbrev pub all_true : Scalars → Scalar
all_true ss = word and_word (truths ss)

-- for each test its nodes and a Filter
abbrev pub filters : List Emitted → PlanTree → PlanTree
filters [] input = input
filters (a ∷ ags) input = filters ags (filter a.scalar (on_each a.nodes input))

-- the width of a row of n columns after the nodes of these tests
abbrev pub filters_width : List Emitted → ℕ → ℕ
filters_width [] n = n
filters_width (a ∷ ags) n = filters_width ags (width a.nodes n)

-- the places, where all are columns of the row itself
abbrev pub with_place : ℕ → Option (List ℕ) → Option (List ℕ)
with_place i None = None
with_place i (Some is) = Some (i ∷ is)

-- the places of scalars that all are columns of the row itself
abbrev pub own_places : Scalars → Option (List ℕ)
own_places none = Some []
own_places (more (column zero i) ss) = with_place i (own_places ss)
own_places (more _ ss) = None

-- the list's nodes, its cells, and only these; columns need no cells of their own
abbrev pub listed_by : Option (List ℕ) → EmittedAll → ℕ → PlanTree → PlanTree
listed_by (Some is) a n input = keep is (on_each a.nodes input)
listed_by None a n input = keep (places (width a.nodes n) (scalar_count a.scalars))
    (on_each (joined_nodes a.nodes (extend_by a.scalars no_node)) input)

-- a list on rows of n columns: its cells and only these
abbrev pub listed : EmittedAll → ℕ → PlanTree → PlanTree
listed a n input = listed_by (own_places a.scalars) a n input

-- tests and then a list on rows of n columns
abbrev pub selected : (ℕ → List Emitted) → (ℕ → EmittedAll) → ℕ → PlanTree → PlanTree
selected tests list n input =
    let ts = tests n in let m = filters_width ts n in listed (list m) m (filters ts input)

-- so many NULLs
abbrev pub nulls : ℕ → Scalars
nulls zero = none
nulls (suc k) = more (constant Null) (nulls k)

-- one scalar as a list
abbrev pub singly : Emitted → EmittedAll
singly a = record { nodes = a.nodes; scalars = more a.scalar none }

-- VALUES of several rows: one row for each, with its number, and on each the nodes of all lists; a
-- column is that of the list of this number.
abbrev pub numbers : ℕ → ℕ → List Scalars
numbers i zero = []
numbers i (suc k) = more (constant (Int (pos i))) none ∷ numbers (suc i) k

-- the nodes of all lists of a VALUES, one after another
abbrev pub list_nodes : List EmittedAll → Nodes
list_nodes [] = no_node
list_nodes (a ∷ lists) = joined_nodes a.nodes (list_nodes lists)

-- a last result that is a CASE goes on as arms
abbrev pub else_arms : Scalar → Scalars
else_arms (word case_word arms) = arms
else_arms s = more s none

-- on the row of number i the first, else the second
abbrev pub either_of : ℕ → Scalar → Scalar → Scalar
either_of i s r = word case_word
    (more (word (strict (Comparing Equals))
    (more (column 0 0) (more (constant (Int (pos i))) none)))
    (more s (else_arms r)))

-- column by column: on the row of number i the first list's scalar, else the second's
abbrev pub either_all : ℕ → Scalars → Scalars → Scalars
either_all i (more s ss) (more r rs) = more (either_of i s r) (either_all i ss rs)
either_all i _ _ = none

-- the columns of a VALUES of k columns, by the number of the row, from i on
abbrev pub chosen : ℕ → ℕ → List EmittedAll → Scalars
chosen k i [] = nulls k
chosen k i (a ∷ lists) = either_all i a.scalars (chosen k (suc i) lists)

-- VALUES of several rows, in the order in which they stand. 7.3 (table value constructor)
abbrev pub several : ℕ → List EmittedAll → PlanTree
several k lists = listed (record { nodes = list_nodes lists; scalars = chosen k 0 lists }) 1
    (values (numbers 0 (length lists)))

-- whether there is no node
abbrev pub is_plain : Nodes → Bool
is_plain no_node = true
is_plain (extend_by ss rest) = false
is_plain (apply_by when kind way inner rest) = false

-- whether no list has nodes
abbrev pub all_plain : List EmittedAll → Bool
all_plain [] = true
all_plain (a ∷ lists) = is_plain a.nodes && all_plain lists

-- the scalars of lists
abbrev pub scalars_of : List EmittedAll → List Scalars
scalars_of [] = []
scalars_of (a ∷ lists) = a.scalars ∷ scalars_of lists

-- one row on Unit; several without nodes by Values alone
abbrev pub values_plan : ℕ → List EmittedAll → List EmittedAll → PlanTree
values_plan k [] lists = several k lists
values_plan k (a ∷ []) lists = listed a 0 unit_row
values_plan k (a ∷ b ∷ more_lists) lists = if all_plain (a ∷ b ∷ more_lists)
    then values (scalars_of (a ∷ b ∷ more_lists)) else several k lists

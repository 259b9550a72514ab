-- Plans and what they mean. A cell is a value or a condition, and a row may be poisoned: poisoned
-- rows pass all nodes unevaluated.
use Rattle.std.specs.Prelude.{ℕ, zero, suc, ◌+◌, ◌||◌, nat_eq, Bool, true, false, if◌then◌else◌}
use Rattle.std.specs.Prelude.{List, [], ◌∷◌, ◌++◌, map, replicate, length, Ok, Err}
use Rattle.sql_values.specs.declared.value.Value.{Value}
use Rattle.sql_values.specs.declared.value.Value.TheVariants.{Null, Bool as Truth}
use Rattle.sql_values.specs.Values.{is_null, is_true}
use Rattle.row_types.specs.Rows.{Row}
use Rattle.row_types.specs.Tables.{rows_named}
use Rattle.row_types.specs.declared.cell.Cell.{Cell}
use Rattle.row_types.specs.declared.cell.Cell.TheVariants.{Val, Cond}
use Rattle.row_types.specs.Cells.{PlanRow, Whole, Poisoned}
use Rattle.sql_values.specs.declared.operators.Comparison.TheVariants.{Equals}
use Rattle.rel_algebra.specs.Tree.{Operation, Comparing, Aggregate}
use Rattle.row_types.specs.declared.sort_key.SortKey.{SortKey}
use Rattle.rel_algebra.specs.Endings.{Ending, after, ◌>>=◌, cell_end, is_false, op_value, value_at}
use Rattle.rel_algebra.specs.Groups.{Group, groups, finish, values_of_column}
use Rattle.row_types.specs.Sorting.{in_order}
use Rattle.rel_algebra.specs.Joins.{places, single_of, exists_of, member_of}
use Rattle.rel_algebra.specs.States.{no_data}
use Rattle.rel_algebra.specs.OnConditions.{ConditionWord, condition_cell}
use Rattle.sql_conditions.specs.Conditions.{area_of}
use Rattle.sql_conditions.specs.declared.condition.EngineCondition.TheVariants.{SeveralRows}
use Rattle.rel_algebra.specs.Scopes.{Inputs}

-- What stands over operands. A strict operation takes all; the others do not look at what comes
-- after they are decided.
pub data Word : Type 0 where
  strict : Operation → Word
  and_word : Word
  or_word : Word
  case_word : Word
  coalesce_word : Word
  -- over cells that may be conditions
  on_condition : ConditionWord → Word

-- Scalars. A column's level is 0 for the row itself, and d for the d-th row outside it.
mutual
  -- a literal, a column of the row or of a row outside, an argument of the whole plan, or a word
  -- over scalars
  pub data Scalar : Type 0 where
    constant : Value → Scalar
    column : ℕ → ℕ → Scalar
    argument : ℕ → Scalar
    word : Word → Scalars → Scalar

  -- scalars in order
  pub data Scalars : Type 0 where
    none : Scalars
    more : Scalar → Scalars → Scalars

-- what an Apply makes of the rows of its inner plan: the value of a scalar subquery, EXISTS, IN,
-- finished aggregates, or the cells of its one row. 7.19 (subquery), 8.4, 8.10 and 10.9
pub data Kind : Type 0 where
  single : Kind
  exists : Kind
  member : Scalar → Kind
  aggregate : List (Aggregate × ℕ) → Kind
  -- the so many cells of the one row
  into : ℕ → Kind

-- How an Apply comes to the rows of its inner plan: it is run anew for each row; or, where it uses
-- no outer column, once for all (Once); or once for all, and of its rows those whose columns at
-- these places equal these scalars, read on the outer row, without these columns (Lookup).
pub data Way : Type 0 where
  anew : Way
  once : Way
  lookup : List (ℕ × Scalar) → Way

-- Plans. The last tree of a node is its input.
mutual
  -- a leaf, which has rows (Unit, Scan, Values), or a node over its input
  pub data PlanTree : Type 0 where
    unit_row : PlanTree
    -- the rows of a table, by its name and its number of columns
    scan : List ℕ → ℕ → PlanTree
    -- one row for each list, its scalars read as on Unit
    values : List Scalars → PlanTree
    extend : Scalars → PlanTree → PlanTree
    -- the when, the kind, the way and the inner plan
    apply : Scalar → Kind → Way → PlanTree → PlanTree → PlanTree
    filter : Scalar → PlanTree → PlanTree
    keep : List ℕ → PlanTree → PlanTree
    cross : PlanTree → PlanTree → PlanTree
    -- nodes that are run on each pair before the test, the test, and the number of the right side's
    -- columns
    left_outer : Nodes → Scalar → ℕ → PlanTree → PlanTree → PlanTree
    settle : PlanTree → PlanTree
    group : List ℕ → List (Aggregate × ℕ) → PlanTree → PlanTree
    sort : List SortKey → PlanTree → PlanTree

  -- a run of Extend and Apply nodes, the first the lowest
  pub data Nodes : Type 0 where
    no_node : Nodes
    extend_by : Scalars → Nodes → Nodes
    apply_by : Scalar → Kind → Way → PlanTree → Nodes → Nodes

-- the nodes of a run over a plan
abbrev pub on_each : Nodes → PlanTree → PlanTree
on_each no_node input = input
on_each (extend_by ss rest) input = on_each rest (extend ss input)
on_each (apply_by when kind way inner rest) input = on_each rest (apply when kind way inner input)

-- ---- widths

-- how many scalars there are
abbrev pub scalar_count : Scalars → ℕ
scalar_count none = 0
scalar_count (more s ss) = suc (scalar_count ss)

-- how many columns a Values has
abbrev pub lists_width : List Scalars → ℕ
lists_width [] = 0
lists_width (ss ∷ lists) = scalar_count ss

-- how many columns an Apply adds
abbrev pub kind_width : Kind → ℕ
kind_width single = 1
kind_width exists = 1
kind_width (member s) = 1
kind_width (aggregate ags) = length ags
kind_width (into n) = n

-- how many columns a plan's rows have
abbrev pub tree_width : PlanTree → ℕ
tree_width unit_row = 0
tree_width (scan name n) = n
tree_width (values lists) = lists_width lists
tree_width (extend ss input) = tree_width input + scalar_count ss
tree_width (apply when kind way inner input) = tree_width input + kind_width kind
tree_width (filter s input) = tree_width input
tree_width (keep is input) = length is
tree_width (cross a b) = tree_width a + tree_width b
tree_width (left_outer nodes s n a b) = tree_width a + n
tree_width (settle input) = tree_width input
tree_width (group keys ags input) = length keys + length ags
tree_width (sort keys input) = tree_width input

-- of n columns those that stand at no key's place
abbrev pub has_key : List (ℕ × Scalar) → ℕ → Bool
has_key [] i = false
has_key (k ∷ keys) i = nat_eq k.0 i || has_key keys i

-- the places from i on of so many columns, without those of keys
abbrev pub other_places : List (ℕ × Scalar) → ℕ → ℕ → List ℕ
other_places keys i zero = []
other_places keys i (suc n) = if has_key keys i then other_places keys (suc i) n
    else i ∷ other_places keys (suc i) n

-- how many columns of the inner plan's rows are judged
abbrev pub found_width : Way → ℕ → ℕ
found_width anew n = n
found_width once n = n
found_width (lookup keys) n = length (other_places keys 0 n)

-- the i-th cell of a row, the i-th row of a stack
abbrev pub cell_at : List Cell → ℕ → Cell
cell_at [] i = Val Null
cell_at (c ∷ cs) zero = c
cell_at (c ∷ cs) (suc i) = cell_at cs i

-- the i-th row of a stack, the innermost first
abbrev pub cells_row : List (List Cell) → ℕ → List Cell
cells_row [] i = []
cells_row (r ∷ rs) zero = r
cells_row (r ∷ rs) (suc i) = cells_row rs i

-- the values of cells, or the first condition
abbrev pub values_of : List Cell → Ending Row
values_of [] = Ok []
values_of (Cond s ∷ cs) = Err s
values_of (Val v ∷ cs) = do
  vs ← values_of cs
  Ok (v ∷ vs)

-- of values what f gives, and else the first condition
abbrev pub strictly : (List Value → Ending Value) → List Cell → Cell
strictly f cs = cell_end (after (values_of cs) f)

-- AND, up to the first that is false or a condition. 6.39 (boolean value expression)
abbrev pub and_cell : Value → List Cell → Cell
and_cell so_far [] = Val so_far
and_cell so_far (Cond s ∷ cs) = Cond s
and_cell so_far (Val v ∷ cs) = if is_false v then Val (Truth false)
    else and_cell (if is_true v then so_far else Null) cs

-- OR, up to the first that is true or a condition. 6.39 (boolean value expression)
abbrev pub or_cell : Value → List Cell → Cell
or_cell so_far [] = Val so_far
or_cell so_far (Cond s ∷ cs) = Cond s
or_cell so_far (Val v ∷ cs) = if is_true v then Val (Truth true)
    else or_cell (if is_false v then so_far else Null) cs

-- the first result whose test is true, and NULL without one. 6.12 (case expression)
abbrev pub case_cell : List Cell → Cell
case_cell [] = Val Null
case_cell (last ∷ []) = last
case_cell (Cond s ∷ result ∷ cs) = Cond s
case_cell (Val v ∷ result ∷ cs) = if is_true v then result else case_cell cs

-- the first that is not NULL. 6.12 (case expression)
abbrev pub coalesce_cell : List Cell → Cell
coalesce_cell [] = Val Null
coalesce_cell (Cond s ∷ cs) = Cond s
coalesce_cell (Val v ∷ cs) = if is_null v then coalesce_cell cs else Val v

-- what a word gives of the cells of its operands
abbrev pub word_cell : Word → List Cell → Cell
word_cell (strict op) cs = strictly (op_value op) cs
word_cell and_word cs = and_cell (Truth true) cs
word_cell or_word cs = or_cell (Truth false) cs
word_cell case_word cs = case_cell cs
word_cell coalesce_word cs = coalesce_cell cs
word_cell (on_condition w) cs = condition_cell w cs

-- what a scalar is read on: the row and the rows outside it, and the arguments
pub record Sight : Type 0 where
  pub rows : List (List Cell)
  pub args : List Value

-- on a row of a plan, under the rows outside it
abbrev pub sight : Inputs → List (List Cell) → List Cell → Sight
sight w outer row = record { rows = row ∷ outer; args = w.args }

abbrev mutual
  -- what a scalar gives: a value or a condition
  pub cell_of : Scalar → Sight → Cell
  cell_of (constant v) s = Val v
  cell_of (column level i) s = cell_at (cells_row s.rows level) i
  cell_of (argument i) s = Val (value_at s.args i)
  cell_of (word w operands) s = word_cell w (cells_of operands s)

  -- what several give, in order
  pub cells_of : Scalars → Sight → List Cell
  cells_of none s = []
  cells_of (more e rest) s = cell_of e s ∷ cells_of rest s

-- rows of values
abbrev pub shown : Row → List Cell
shown r = map Val r

-- rows of values as rows of a plan
abbrev pub shown_rows : List Row → List PlanRow
shown_rows [] = []
shown_rows (r ∷ rs) = Whole (shown r) ∷ shown_rows rs

-- the rows, or the first area in row order: poison, or a cell that is a condition, cells left to
-- right
abbrev pub collected : List PlanRow → Ending (List Row)
collected [] = Ok []
collected (Poisoned s ∷ rows) = Err s
collected (Whole cs ∷ rows) = do
  r ← values_of cs
  rs ← collected rows
  Ok (r ∷ rs)

-- a finished list as plan rows
abbrev pub finished : Ending (List Row) → List PlanRow
finished (Ok rs) = shown_rows rs
finished (Err s) = Poisoned s ∷ []

-- one row poisoned by the first area, where there is one
abbrev pub settled_as : Ending (List Row) → List PlanRow → List PlanRow
settled_as (Ok rs) rows = rows
settled_as (Err s) rows = Poisoned s ∷ []

-- a list that is made whole: its rows, or one row poisoned by the first area
abbrev pub settled : List PlanRow → List PlanRow
settled rows = settled_as (collected rows) rows

-- each row without poison becomes the rows of f
abbrev pub each : (List Cell → List PlanRow) → List PlanRow → List PlanRow
each f [] = []
each f (Whole row ∷ rows) = f row ++ each f rows
each f (Poisoned s ∷ rows) = Poisoned s ∷ each f rows

-- a test's row: kept where it is true, poisoned where it raises
abbrev pub kept : Cell → List Cell → List PlanRow
kept (Cond s) row = Poisoned s ∷ []
kept (Val v) row = if is_true v then Whole row ∷ [] else []

-- the cells at these places
abbrev pub cells_at : List Cell → List ℕ → List Cell
cells_at row [] = []
cells_at row (i ∷ is) = cell_at row i ∷ cells_at row is

-- goes on with rows, or with one poisoned row
abbrev pub settled_then : Ending (List Row) → List PlanRow → (List PlanRow → List PlanRow) →
    List PlanRow
settled_then (Ok rs) rows go = go rows
settled_then (Err s) rows go = Poisoned s ∷ []

-- goes on with the list settled; a poisoned one is the whole answer
abbrev pub with_settled : List PlanRow → (List PlanRow → List PlanRow) → List PlanRow
with_settled rows go = settled_then (collected rows) rows go

-- each left row with each right row. 7.10 (joined table)
abbrev pub crossed : List PlanRow → List PlanRow → List PlanRow
crossed left right = each (λ l. each (λ r. Whole (l ++ r) ∷ []) right) left

-- a left row that no right row meets stands with NULLs. 7.10 (joined table)
abbrev pub or_null_cells : List Cell → ℕ → List PlanRow → List PlanRow
or_null_cells l n [] = Whole (l ++ replicate n (Val Null)) ∷ []
or_null_cells l n (m ∷ ms) = m ∷ ms

-- each left row with the right rows for which the test is true
abbrev pub joined : ℕ → (List Cell → Cell) → List PlanRow → List PlanRow → List PlanRow
joined n test left right =
    each (λ l. or_null_cells l n (each (λ r. kept (test (l ++ r)) (l ++ r)) right)) left

-- the finished aggregates of a group's rows as cells. 10.9 (aggregate function)
abbrev pub finish_cells : List (Aggregate × ℕ) → List Row → List Cell
finish_cells [] rows = []
finish_cells (a ∷ ags) rows =
    cell_end (finish a.0 (values_of_column a.1 rows)) ∷ finish_cells ags rows

-- the row of each group: its grouping columns, and then its finished aggregates
abbrev pub group_rows : List (Aggregate × ℕ) → List Group → List PlanRow
group_rows ags [] = []
group_rows ags (g ∷ gs) = Whole (shown g.key ++ finish_cells ags g.members) ∷ group_rows ags gs

-- the groups of rows, in the order of their keys. 7.13 (group by clause)
abbrev pub grouped : List ℕ → List (Aggregate × ℕ) → Ending (List Row) → List PlanRow
grouped keys ags (Ok rs) = group_rows ags (groups keys rs)
grouped keys ags (Err s) = Poisoned s ∷ []

-- rows in the order of keys. 7.17 (query expression), ORDER BY
abbrev pub sorted : List SortKey → Ending (List Row) → List PlanRow
sorted keys (Ok rs) = shown_rows (in_order keys rs)
sorted keys (Err s) = Poisoned s ∷ []

-- where finished aggregates hold a condition, the first stands in each cell
abbrev pub all_or_first : ℕ → Ending Row → List Cell
all_or_first n (Ok vs) = shown vs
all_or_first n (Err s) = replicate n (Cond s)

-- the rows of lists
abbrev pub list_rows : List Scalars → Sight → List PlanRow
list_rows [] s = []
list_rows (ss ∷ lists) s = Whole (cells_of ss s) ∷ list_rows lists s

-- the first so many cells of the one row; no row and several raise
abbrev pub into_cells : ℕ → List Row → List Cell
into_cells n [] = replicate n (Cond no_data)
into_cells n (r ∷ []) = cells_at (shown r) (places 0 n)
into_cells n _ = replicate n (Cond (area_of SeveralRows))

-- what a finished inner list becomes
abbrev pub judged : Kind → Cell → List Row → List Cell
judged single c rs = cell_end (single_of rs) ∷ []
judged exists c rs = Val (exists_of rs) ∷ []
judged (member s) (Val x) rs = Val (member_of x rs) ∷ []
judged (member s) (Cond a) rs = Cond a ∷ []
judged (aggregate ags) c rs = all_or_first (length ags) (values_of (finish_cells ags rs))
judged (into n) c rs = into_cells n rs

-- what an Apply makes of a list: what its kind judges, or the list's area in each cell
abbrev pub collapse_as : Kind → Cell → Ending (List Row) → List Cell
collapse_as kind c (Ok rs) = judged kind c rs
collapse_as kind c (Err s) = replicate (kind_width kind) (Cond s)

-- the cell of member's scalar, where it is a condition, goes before the list's area
abbrev pub collapse : Kind → Cell → List PlanRow → List Cell
collapse (member s) (Cond a) rows = Cond a ∷ []
collapse kind c rows = collapse_as kind c (collected rows)

-- the cell of x, in x IN a query
abbrev pub member_cell : Kind → Sight → Cell
member_cell (member s) here = cell_of s here
member_cell kind here = Val Null

-- where the when is true the cells, its area where it raises, else NULL
abbrev pub applied : Cell → Cell → Cell
applied (Cond s) c = Cond s
applied (Val v) c = if is_true v then c else Val Null

-- the rows that meet the outer row: those whose key column equals the scalar; a row whose
-- comparison raises stays, poisoned
abbrev pub meeting : List (ℕ × Scalar) → Sight → List PlanRow → List PlanRow
meeting [] s rows = rows
meeting (k ∷ keys) s rows =
    meeting keys s (each (λ r.
    kept (strictly (op_value (Comparing Equals)) (cell_at r k.0 ∷ cell_of k.1 s ∷ [])) r) rows)

-- of the inner plan's rows, n columns wide, those that are judged
abbrev pub found : Way → ℕ → Sight → List PlanRow → List PlanRow
found anew n s rows = rows
found once n s rows = rows
found (lookup keys) n s rows =
    each (λ r. Whole (cells_at r (other_places keys 0 n)) ∷ []) (meeting keys s rows)

-- what an Apply adds to a row, by the rows of its inner plan
abbrev pub apply_cells : Scalar → Kind → Sight → List PlanRow → List Cell
apply_cells when kind here rows =
    map (applied (cell_of when here)) (collapse kind (member_cell kind here) rows)

abbrev mutual
  -- the rows of a plan under the rows outside it, the innermost first
  pub den : PlanTree → Inputs → List (List Cell) → List PlanRow
  den unit_row w outer = Whole [] ∷ []
  den (scan name n) w outer = shown_rows (rows_named name w.tables)
  den (values lists) w outer = list_rows lists (sight w outer [])
  den (extend ss input) w outer =
      each (λ row. Whole (row ++ cells_of ss (sight w outer row)) ∷ []) (den input w outer)
  den (apply when kind way inner input) w outer =
      each (λ row. Whole (row ++ apply_cells when kind (sight w outer row)
      (found way (tree_width inner) (sight w outer row) (den inner w (row ∷ outer)))) ∷ [])
      (den input w outer)
  den (filter s input) w outer =
      each (λ row. kept (cell_of s (sight w outer row)) row) (den input w outer)
  den (keep is input) w outer = each (λ row. Whole (cells_at row is) ∷ []) (den input w outer)
  den (cross a b) w outer =
      with_settled (den a w outer) (λ left. with_settled (den b w outer) (crossed left))
  den (left_outer nodes s n a b) w outer =
      with_settled (den a w outer) (λ left. with_settled (den b w outer) (λ right.
      settled (joined n (λ row. cell_of s (sight w outer (added nodes w outer row))) left right)))
  den (settle input) w outer = settled (den input w outer)
  den (group keys ags input) w outer = grouped keys ags (collected (den input w outer))
  den (sort keys input) w outer = sorted keys (collected (den input w outer))

  -- what a row becomes by a run of nodes
  pub added : Nodes → Inputs → List (List Cell) → List Cell → List Cell
  added no_node w outer row = row
  added (extend_by scalars rest) w outer row =
      added rest w outer (row ++ cells_of scalars (sight w outer row))
  added (apply_by when kind way inner rest) w outer row =
      added rest w outer (row ++ apply_cells when kind (sight w outer row)
      (found way (tree_width inner) (sight w outer row) (den inner w (row ∷ outer))))

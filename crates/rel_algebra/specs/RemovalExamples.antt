-- Worked rows of removal, which hold by computation.
use Rattle.rel_algebra.specs.States.{no_data}
use Rattle.std.specs.Prelude.{◌≡◌, ℕ, true, false, List, [], ◌∷◌, codes, Ok, Err}
use Rattle.sql_values.specs.declared.operators.Operator.TheVariants.{Add}
use Rattle.sql_values.specs.declared.value.Value.TheVariants.{Null, Bool as Truth}
use Rattle.sql_values.specs.declared.operators.Comparison.TheVariants.{LessThan}
use Rattle.sql_conditions.specs.declared.condition.EngineCondition.TheVariants.{DivisionByZero}
use Rattle.sql_conditions.specs.declared.condition.EngineCondition.TheVariants.{NumberOutOfRange}
use Rattle.sql_conditions.specs.declared.condition.EngineCondition.TheVariants.{SeveralRows}
use Rattle.sql_conditions.specs.Conditions.{area_of}
use Rattle.row_types.specs.Cells.{PlanRow, Whole}
use Rattle.row_types.specs.Rows.{Row}
use Rattle.row_types.specs.declared.cell.Cell.TheVariants.{Cond, Val}
use Rattle.rel_algebra.specs.Applies.{applies}
use Rattle.rel_algebra.specs.Endings.{Ending}
use Rattle.rel_algebra.specs.Plan.{PlanTree, Scalar, aggregate, anew, apply, collected, column}
use Rattle.rel_algebra.specs.Plan.{constant, den, extend, filter, keep, lookup, once, scan, single}
use Rattle.rel_algebra.specs.Plan.{strict, unit_row, word, into}
use Rattle.rel_algebra.specs.PlanExamples.{both_of, col, d_name, divided, equal, f, guarded}
use Rattle.rel_algebra.specs.PlanExamples.{hundredths, inputs, int, keys_where, number, of, one}
use Rattle.rel_algebra.specs.PlanExamples.{only, past_range, planned_as, row_of, same, sums_of_keys}
use Rattle.rel_algebra.specs.PlanExamples.{swapped, t_name, two, call_of}
use Rattle.rel_algebra.specs.Remove.{remove}
use Rattle.rel_algebra.specs.Tree.{Arithmetic, Column, Comparing, Count, Expr, Grouped, Literal}
use Rattle.rel_algebra.specs.Tree.{MoreExprs, NoExpr, Operate, Query, Select, Single, Sum, Table}
use Rattle.rel_algebra.specs.Tree.{Variable}

-- what a query's plan gives after removal
abbrev pub goes : Query → Ending (List Row)
goes q = collected (den (remove (planned_as q)) inputs [])

-- how many Applies are left
abbrev pub left : Query → ℕ
left q = applies (remove (planned_as q))

-- SELECT f(k), (SELECT 100 / a FROM t) FROM e
abbrev pub over_none : Query
over_none = Select (two (call_of f (Column 0 0)) hundredths) (Table (codes "E")) NoExpr

-- cn(x): RETURN (SELECT COUNT(*) FROM d WHERE g = x)
abbrev pub cn : Expr
cn = Single (Grouped (Table d_name) (one (same (Column 0 1) (Variable 0))) 0
    (one (Literal (Truth true))) (Count ∷ []) NoExpr (one (Column 0 0)))

-- VALUES (cn(NULL), cn(1), cn(9))
abbrev pub counted : Query
counted = row_of (MoreExprs (call_of cn (Literal Null))
    (two (call_of cn (number 1)) (call_of cn (number 9))))

-- SELECT (SELECT COUNT(*) FROM t AS u WHERE u.a = t.a) FROM t
abbrev pub like_it : Query
like_it = Select (one (Single (Grouped (Table t_name) (one (same (Column 0 1) (Column 1 1))) 0
    (one (Literal (Truth true))) (Count ∷ []) NoExpr
    (one (Column 0 0))))) (Table t_name) NoExpr

-- Apply aggregate count #0 of a table's rows whose first column equals 100 / a, over T: of the
-- third row that is a condition
abbrev pub by_cell : Scalar → PlanTree → PlanTree
by_cell when rows = apply when (aggregate ((Count, 0) ∷ [])) anew
    (filter (equal (col 0) (column 1 2)) rows)
    (extend (only (divided (constant (int 100)) (col 1))) (scan t_name 2))

-- the rows of D
abbrev pub d_rows : PlanTree
d_rows = scan d_name 3

-- E, which has no rows
abbrev pub no_rows : PlanTree
no_rows = scan (codes "E") 1

-- over T, the region Keep #1 / Extend add(#0, 1) / Extend div(100, ^1.1) / Unit
abbrev pub hundred_and_one : Scalar → PlanTree
hundred_and_one when = apply when single anew
    (keep (1 ∷ []) (extend (only
    (word (strict (Arithmetic Add)) (both_of (col 0) (constant (int 1)))))
    (extend (only (divided (constant (int 100)) (column 1 1))) unit_row))) (scan t_name 2)

-- the same, and then its quotient, INTO two columns
abbrev pub both_of_region : Scalar → PlanTree
both_of_region when = apply when (into 2) anew
    (keep (1 ∷ 0 ∷ []) (extend
    (only (word (strict (Arithmetic Add)) (both_of (col 0) (constant (int 1)))))
    (extend (only (divided (constant (int 100)) (column 1 1))) unit_row))) (scan t_name 2)

-- the rows of a plan
abbrev pub rows_of : PlanTree → List PlanRow
rows_of t = den t inputs []

-- worked rows of removal, which give what the plans gave before
pub record RemovalWorked : Type 0 where
  -- another group's condition comes first, and the group's own
  pub other_group : goes (of f 9) ≡ Err (area_of DivisionByZero)
  -- also where the group has rows
  pub own_group : goes (of f 1) ≡ Err (area_of DivisionByZero)
  -- the equality first: the condition of another group is none of this one
  pub swapped_sum : goes (of swapped 1) ≡ Ok ((int 12 ∷ []) ∷ [])
  -- of a group without rows it is NULL
  pub swapped_none : goes (of swapped 9) ≡ Ok ((Null ∷ []) ∷ [])
  -- and the group's own condition is raised
  pub swapped_raises : goes (of swapped 2) ≡ Err (area_of DivisionByZero)
  -- the group's own before a later one of another row, and the other way round
  pub first_row : goes (of past_range 1) ≡ Err (area_of NumberOutOfRange)
  -- where the first row is left out, the second row's test raises
  pub second_row : goes (of past_range 2) ≡ Err (area_of DivisionByZero)
  -- over no rows nothing runs
  pub no_row : goes over_none ≡ Ok []
  -- no Apply is left
  pub none_left : left over_none ≡ 0
  -- Keep #4 / Extend case(.., #3) / Lookup TRUE aggregate sum #0 [#1 = #2, #2 = TRUE] / Extend #0 /
  -- Scan T Keep #2, #1, #3 / Extend lt(0, div(10, #2)) / Scan D
  pub late_test : remove (planned_as sums_of_keys)
      ≡ keep (4 ∷ []) (extend (only (guarded 3 (col 3)))
      (apply (constant (Truth true)) (aggregate ((Sum, 0) ∷ []))
      (lookup ((1, col 2) ∷ (2, constant (Truth true)) ∷ []))
      (keep (2 ∷ 1 ∷ 3 ∷ []) (extend
      (only (word (strict (Comparing LessThan))
      (both_of (constant (int 0)) (divided (constant (int 10)) (col 2))))) (scan d_name 3)))
      (extend (only (col 0)) (scan t_name 2))))
  -- NULL meets nothing, on either side
  pub null_argument : goes counted ≡ Ok ((int 0 ∷ int 2 ∷ int 0 ∷ []) ∷ [])
  -- a column that is NULL meets nothing, not even itself
  pub null_columns : goes like_it ≡ Ok ((int 0 ∷ []) ∷ (int 1 ∷ []) ∷ (int 1 ∷ []) ∷ [])
  -- no Apply is left of these
  pub none_of_these : left counted ≡ 0
  -- a key that is a condition raises where there is a row, and only there
  pub key_raises : rows_of (remove (by_cell (constant (Truth true)) d_rows))
      ≡ Whole (Val (int 1) ∷ Val Null ∷ Val Null ∷ Val (int 0) ∷ [])
      ∷ Whole (Val (int 2) ∷ Val (int 10) ∷ Val (int 10) ∷ Val (int 0) ∷ [])
      ∷ Whole (Val (int 3) ∷ Val (int 0) ∷ Cond (area_of DivisionByZero)
      ∷ Cond (area_of DivisionByZero) ∷ []) ∷ []
  -- without a row nothing raises
  pub no_row_raises : rows_of (remove (by_cell (constant (Truth true)) no_rows))
      ≡ Whole (Val (int 1) ∷ Val Null ∷ Val Null ∷ Val (int 0) ∷ [])
      ∷ Whole (Val (int 2) ∷ Val (int 10) ∷ Val (int 10) ∷ Val (int 0) ∷ [])
      ∷ Whole (Val (int 3) ∷ Val (int 0) ∷ Cond (area_of DivisionByZero) ∷ Val (int 0) ∷ []) ∷ []
  -- under a when that is false the cell is NULL, and under one that raises its area
  pub when_false : rows_of (remove (by_cell (constant (Truth false)) no_rows))
      ≡ Whole (Val (int 1) ∷ Val Null ∷ Val Null ∷ Val Null ∷ [])
      ∷ Whole (Val (int 2) ∷ Val (int 10) ∷ Val (int 10) ∷ Val Null ∷ [])
      ∷ Whole (Val (int 3) ∷ Val (int 0) ∷ Cond (area_of DivisionByZero) ∷ Val Null ∷ []) ∷ []
  -- where the when raises, its area is the cell
  pub when_raises : rows_of (remove (by_cell (equal (constant (int 10)) (col 2)) no_rows))
      ≡ Whole (Val (int 1) ∷ Val Null ∷ Val Null ∷ Val Null ∷ [])
      ∷ Whole (Val (int 2) ∷ Val (int 10) ∷ Val (int 10) ∷ Val (int 0) ∷ [])
      ∷ Whole (Val (int 3) ∷ Val (int 0) ∷ Cond (area_of DivisionByZero)
      ∷ Cond (area_of DivisionByZero) ∷ []) ∷ []
  -- a region: Keep #0, #1, #4 / Extend #3 / Extend add(#2, 1) / Extend div(100, #1) / Scan T
  pub region_plan : remove (hundred_and_one (constant (Truth true)))
      ≡ keep (0 ∷ 1 ∷ 4 ∷ []) (extend (only (col 3))
      (extend (only (word (strict (Arithmetic Add)) (both_of (col 2) (constant (int 1)))))
      (extend (only (divided (constant (int 100)) (col 1))) (scan t_name 2))))
  -- its rows, of which the third has a condition
  pub region_rows : rows_of (remove (hundred_and_one (constant (Truth true))))
      ≡ Whole (Val (int 1) ∷ Val Null ∷ Val Null ∷ [])
      ∷ Whole (Val (int 2) ∷ Val (int 10) ∷ Val (int 11) ∷ [])
      ∷ Whole (Val (int 3) ∷ Val (int 0) ∷ Cond (area_of DivisionByZero) ∷ []) ∷ []
  -- under a when that is true of one row
  pub region_when : rows_of (remove (hundred_and_one (equal (col 0) (constant (int 2)))))
      ≡ Whole (Val (int 1) ∷ Val Null ∷ Val Null ∷ [])
      ∷ Whole (Val (int 2) ∷ Val (int 10) ∷ Val (int 11) ∷ [])
      ∷ Whole (Val (int 3) ∷ Val (int 0) ∷ Val Null ∷ []) ∷ []
  -- INTO of a region; of rows, by Once
  pub region_into : rows_of (remove (both_of_region (constant (Truth true))))
      ≡ Whole (Val (int 1) ∷ Val Null ∷ Val Null ∷ Val Null ∷ [])
      ∷ Whole (Val (int 2) ∷ Val (int 10) ∷ Val (int 11) ∷ Val (int 10) ∷ [])
      ∷ Whole (Val (int 3) ∷ Val (int 0) ∷ Cond (area_of DivisionByZero)
      ∷ Cond (area_of DivisionByZero) ∷ []) ∷ []
  -- INTO of a region leaves no Apply
  pub region_into_gone : applies (remove (both_of_region (constant (Truth true)))) ≡ 0
  -- INTO of several rows raises 21000
  pub several_into : rows_of
      (remove (apply (constant (Truth true)) (into 2) anew (scan t_name 2) unit_row))
      ≡ Whole (Cond (area_of SeveralRows) ∷ Cond (area_of SeveralRows) ∷ []) ∷ []
  -- INTO of no row raises 02000
  pub none_into : rows_of (remove (apply (constant (Truth true)) (into 1) anew no_rows unit_row))
      ≡ Whole (Cond no_data ∷ []) ∷ []
  -- a plan that uses no outer column is run once
  pub into_once : applies (remove (apply (constant (Truth true)) (into 1) anew no_rows unit_row))
      ≡ 0
  -- Once: Keep #0 / Once scalar / Unit / ..
  pub once_plan : remove (apply (constant (Truth true)) single anew (keep (1 ∷ []) (scan t_name 2))
      unit_row)
      ≡ apply (constant (Truth true)) single once (keep (1 ∷ []) (scan t_name 2)) unit_row
  -- what can't be told to be removable stays, and is removed inside
  pub one_stays : left (keys_where (λ x y. Operate (Comparing LessThan) (two y x))) ≡ 1

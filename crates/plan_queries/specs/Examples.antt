-- Worked plans, which hold by computation. ISO/IEC 9075-2, 7.5 (from clause), 7.10 (joined table),
-- 7.13 (group by clause) and 14.3 (cursor).
use Rattle.std.specs.Prelude.{◌≡◌, ℕ, true, pos, List, [], ◌∷◌, codes}
use Rattle.row_types.specs.declared.sort_key.SortKey.{SortKey}
use Rattle.sql_values.specs.declared.value.Value.TheVariants.{Int, Bool as Truth}
use Rattle.sql_values.specs.declared.operators.Operator.TheVariants.{Divide}
use Rattle.sql_values.specs.declared.operators.Comparison.TheVariants.{Equals, GreaterThan}
use Rattle.rel_algebra.specs.Tree.{Arithmetic, Comparing, NullTest, TrueTest, Count, Sum, Literal}
use Rattle.rel_algebra.specs.Tree.{Column, Chain, Operate, NoLink, MoreLinks, Exprs, NoExpr}
use Rattle.rel_algebra.specs.Tree.{MoreExprs, From, Table, Derived, Query, Select, Grouped, Ordered}
use Rattle.rel_algebra.specs.Plan.{strict, and_word, Scalar, constant, column, word, none, more}
use Rattle.rel_algebra.specs.Plan.{PlanTree, scan, extend, filter, keep, cross, left_outer, settle}
use Rattle.rel_algebra.specs.Plan.{group, sort, no_node}
use Rattle.rel_algebra.specs.Emit.{top, plan, from_plan}
use Rattle.plan_expressions.specs.Emission.{value_check}
use Rattle.catalog_store.specs.View.{after_comma, crossing, matching, matching_or_nulls, from_of}

-- #i = #j, as an expression and as a scalar
abbrev pub equal : ℕ → ℕ → Exprs
equal i j = MoreExprs (Operate (Comparing Equals)
    (MoreExprs (Column 0 i) (MoreExprs (Column 0 j) NoExpr))) NoExpr

-- #i = #j as a scalar of a plan
abbrev pub equals : ℕ → ℕ → Scalar
equals i j = word (strict (Comparing Equals)) (more (column 0 i) (more (column 0 j) none))

-- each table has one column
abbrev pub one_column : List ℕ → ℕ
one_column name = 1

-- the table of a name as an item of FROM
abbrev pub table : List ℕ → From
table name = Table name

-- the i-th column in descending order
abbrev pub descending : ℕ → SortKey
descending i = record { place = i; descending = true }

-- SELECT A.X, D.X FROM A, B JOIN C ON B.X = C.X LEFT JOIN D ON C.X = D.X WHERE A.X = D.X ORDER BY 2
-- DESC
abbrev pub joined : Query
joined = Ordered (Select (MoreExprs (Column 0 0) (MoreExprs (Column 0 3) NoExpr))
    (from_of (after_comma (table (codes "A")) ∷ after_comma (table (codes "B")) ∷ matching
    (table (codes "C")) (equal 0 1)
    ∷ matching_or_nulls (table (codes "D")) (equal 1 2) ∷ [])) (equal 0 3)) (descending 1 ∷ [])

-- the columns of ON are those of B, C and D alone
abbrev pub joined_plan : PlanTree
joined_plan = sort (descending 1 ∷ []) (keep (0 ∷ 3 ∷ [])
    (filter (equals 0 3) (cross (scan (codes "A") 1)
    (left_outer no_node
    (word and_word (more (word (strict TrueTest) (more (equals 1 2) none)) none)) 1
    (settle (keep (0 ∷ 1 ∷ []) (filter (equals 0 1)
    (cross (scan (codes "B") 1) (scan (codes "C") 1))))) (scan (codes "D") 1)))))

-- what joins are planned as: the one above, a comma beside CROSS JOIN, and a derived table
pub record JoinsPlanned : Type 0 where
  pub whole : plan joined one_column (top 0) ≡ joined_plan
  -- A, B CROSS JOIN C: the comma joins A with both
  pub comma : from_plan (from_of (after_comma (table (codes "A")) ∷ after_comma
      (table (codes "B")) ∷ crossing (table (codes "C")) ∷ [])) one_column (top 0)
      ≡ cross (scan (codes "A") 1) (cross (scan (codes "B") 1) (scan (codes "C") 1))
  -- A CROSS JOIN (SELECT X FROM B): a derived table is settled
  pub derived : from_plan (from_of (after_comma (table (codes "A"))
      ∷ crossing (Derived (Select (MoreExprs (Column 0 0) NoExpr)
      (from_of (after_comma (table (codes "B")) ∷ [])) NoExpr)) ∷ [])) one_column (top 0)
      ≡ cross (scan (codes "A") 1) (settle (keep (0 ∷ []) (scan (codes "B") 1)))

-- D (K, G, V)
abbrev pub three_columns : List ℕ → ℕ
three_columns name = 3

-- SELECT G, COUNT(*) AS N FROM D GROUP BY G HAVING 10 / SUM(V) > 0
abbrev pub counted : Query
counted =
    Grouped (table (codes "D")) NoExpr 1 (MoreExprs (Column 0 1)
    (MoreExprs (Literal (Truth true)) (MoreExprs (Column 0 2) NoExpr))) (Count ∷ Sum ∷ [])
    (MoreExprs (Operate (Comparing GreaterThan)
    (MoreExprs (Chain (Literal (Int (pos 10))) (MoreLinks Divide (Column 0 2) NoLink))
    (MoreExprs (Literal (Int (pos 0))) NoExpr))) NoExpr)
    (MoreExprs (Column 0 0) (MoreExprs (Column 0 1) NoExpr))

-- the grouping column and the arguments, their groups, a test that both aggregates are values,
-- HAVING, and the list
abbrev pub counted_plan : PlanTree
counted_plan =
    keep (0 ∷ 1 ∷ [])
    (filter (word (strict (Comparing GreaterThan))
    (more (word (strict (Arithmetic Divide)) (more (constant (Int (pos 10)))
    (more (column 0 2) none))) (more (constant (Int (pos 0))) none)))
    (filter (word and_word (more (value_check 1) (more (value_check 2) none)))
    (group (0 ∷ []) ((Count, 1) ∷ (Sum, 2) ∷ [])
    (keep (3 ∷ 4 ∷ 5 ∷ [])
    (extend (more (column 0 1) (more (constant (Truth true)) (more (column 0 2) none)))
    (scan (codes "D") 3))))))

-- what grouped queries are planned as: the one above, one group of all rows, and no aggregate
pub record GroupsPlanned : Type 0 where
  pub whole : plan counted three_columns (top 0) ≡ counted_plan
  -- SELECT SUM(V) FROM D WHERE G IS NULL: one group, and a part that is a column needs no cell of
  -- its own
  pub one_group : plan (Grouped (table (codes "D"))
      (MoreExprs (Operate NullTest (MoreExprs (Column 0 1) NoExpr)) NoExpr) 0
      (MoreExprs (Column 0 2) NoExpr) (Sum ∷ []) NoExpr
      (MoreExprs (Column 0 0) NoExpr)) three_columns (top 0)
      ≡ keep (0 ∷ []) (filter (word and_word (more (value_check 0) none)) (group [] ((Sum, 0) ∷ [])
      (keep (2 ∷ []) (filter (word (strict NullTest) (more (column 0 1) none))
      (scan (codes "D") 3)))))
  -- SELECT G FROM D GROUP BY G: no aggregate is tested
  pub no_aggregate : plan (Grouped (table (codes "D")) NoExpr 1 (MoreExprs (Column 0 1) NoExpr) []
      NoExpr (MoreExprs (Column 0 0) NoExpr)) three_columns (top 0)
      ≡ keep (0 ∷ []) (filter (word and_word none)
      (group (0 ∷ []) [] (keep (1 ∷ []) (scan (codes "D") 3))))

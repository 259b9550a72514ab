-- Worked rows of INSERT with a column list, UPDATE and DELETE, which hold by computation.
use Rattle.std.specs.Prelude.{ℕ, true, pos, ◌≡◌, List, [], ◌∷◌, codes, Some, None}
use Rattle.sql_values.specs.declared.value.Value.TheVariants.{Null, Int}
use Rattle.sql_values.specs.declared.operators.Operator.TheVariants.{Subtract}
use Rattle.sql_values.specs.declared.operators.Comparison.TheVariants.{Equals, LessThan}
use Rattle.sql_conditions.specs.declared.condition.EngineCondition.TheVariants.{ConstraintViolated}
use Rattle.sql_conditions.specs.Conditions.{area_of}
use Rattle.rel_algebra.specs.Tree.{Expr, Literal, Column, Chain, MoreLinks, NoLink, Exprs, NoExpr}
use Rattle.rel_algebra.specs.Tree.{MoreExprs, Query, Values, NoRow, MoreRows}
use Rattle.rel_algebra.specs.World.{World, Ends, Gives, Raises}
use Rattle.rel_algebra.specs.Examples.{row, number, comparing, world, world_with, three}
use Rattle.data_change.specs.Writing.{insert, update, delete}
use Rattle.data_change.specs.Met.{met_rows}

-- a list of one expression
abbrev pub only : Expr → Exprs
only e = MoreExprs e NoExpr

-- the first column of the row, which is the key of the table T
abbrev pub key : Expr
key = Column 0 0

-- WHERE k = n
abbrev pub key_is : ℕ → Exprs
key_is n = only (comparing Equals key (number n))

-- UPDATE t SET (targets) = (values) WHERE conjuncts, of a table T of two columns
abbrev pub set : List ℕ → Exprs → Exprs → World → Ends ℕ
set targets values conjuncts = update (codes "T") targets (met_rows (codes "T") 2 values conjuncts)

-- DELETE FROM t WHERE conjuncts
abbrev pub delete_where : Exprs → World → Ends ℕ
delete_where conjuncts = delete (codes "T") (met_rows (codes "T") 2 NoExpr conjuncts)

-- 3 - k
abbrev pub other_key : Expr
other_key = Chain (number 3) (MoreLinks Subtract key NoLink)

-- keys are judged when all rows are changed
pub record KeysOfTheWhole : Type 0 where
  -- SET k = 3 - k WHERE k < 3
  pub swapped : set (0 ∷ []) (only other_key) (only (comparing LessThan key (number 3))) three
      ≡ Gives 2 (world (row 1 (Int (pos 10)) ∷ row 2 Null ∷ row 3 (Int (pos 0)) ∷ []))
  -- SET k = 7
  pub twice : set (0 ∷ []) (only (number 7)) NoExpr three ≡ Raises (area_of ConstraintViolated)
      three
  -- SET k = 7 WHERE k = 1
  pub moved : set (0 ∷ []) (only (number 7)) (key_is 1) three
      ≡ Gives 1 (world (row 2 (Int (pos 10)) ∷ row 3 (Int (pos 0)) ∷ row 7 Null ∷ []))

-- each target takes its own value, and NOT NULL is judged of the row as it is then
pub record TargetsTakeValues : Type 0 where
  -- SET a = 5, k = 9 WHERE k = 2
  pub in_turn : set (1 ∷ 0 ∷ []) (MoreExprs (number 5) (only (number 9))) (key_is 2) three
      ≡ Gives 1 (world (row 1 Null ∷ row 3 (Int (pos 0)) ∷ row 9 (Int (pos 5)) ∷ []))
  -- SET a = k, k = a WHERE k = 2: values are those of the old row
  pub old_values : set (1 ∷ 0 ∷ []) (MoreExprs key (only (Column 0 1))) (key_is 2) three
      ≡ Gives 1 (world (row 1 Null ∷ row 3 (Int (pos 0)) ∷ row 10 (Int (pos 2)) ∷ []))
  -- SET a = NULL, where a takes none
  pub null : set (1 ∷ []) (only (Literal Null)) NoExpr
      (world_with true (row 1 (Int (pos 2)) ∷ []) 3)
      ≡ Raises (area_of ConstraintViolated) (world_with true (row 1 (Int (pos 2)) ∷ []) 3)

-- rows that are met go, and no others
pub record RowsGo : Type 0 where
  pub second : delete_where (key_is 2) three ≡ Gives 1
      (world (row 1 Null ∷ row 3 (Int (pos 0)) ∷ []))
  pub first_two : delete_where (only (comparing LessThan key (number 3))) three ≡ Gives 2
      (world (row 3 (Int (pos 0)) ∷ []))
  pub all : delete_where NoExpr three ≡ Gives 3 (world [])

-- no row is met
pub record NoneMet : Type 0 where
  pub none_changed : set (0 ∷ []) (only (number 7)) (key_is 4) three ≡ Gives 0 three
  pub none_removed : delete_where (key_is 4) three ≡ Gives 0 three

-- VALUES (first, second)
abbrev pub one_row : Exprs → Query
one_row values = Values (MoreRows values NoRow)

-- columns that are not listed take NULL
pub record ListedColumns : Type 0 where
  -- INSERT INTO t (k) VALUES (5)
  pub one : insert (codes "T") (Some (0 ∷ [])) (one_row (only (number 5))) three
      ≡ Gives 1 (world (row 1 Null ∷ row 2 (Int (pos 10)) ∷ row 3 (Int (pos 0)) ∷ row 5 Null ∷ []))
  -- INSERT INTO t (a, k) VALUES (6, 5)
  pub turned : insert (codes "T") (Some (1 ∷ 0 ∷ []))
      (one_row (MoreExprs (number 6) (only (number 5)))) (world [])
      ≡ Gives 1 (world (row 5 (Int (pos 6)) ∷ []))
  -- INSERT INTO t VALUES (5, 6)
  pub unlisted : insert (codes "T") None (one_row (MoreExprs (number 5) (only (number 6))))
      (world [])
      ≡ Gives 1 (world (row 5 (Int (pos 6)) ∷ []))
  -- INSERT INTO t (a) VALUES (5): the key is NULL
  pub no_key : insert (codes "T") (Some (1 ∷ [])) (one_row (only (number 5))) three ≡ Raises
      (area_of ConstraintViolated) three
  -- INSERT INTO t (k) VALUES (5), where a takes no NULL
  pub left_out : insert (codes "T") (Some (0 ∷ [])) (one_row (only (number 5)))
      (world_with true [] 3)
      ≡ Raises (area_of ConstraintViolated) (world_with true [] 3)

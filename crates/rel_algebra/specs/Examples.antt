-- Worked rows, which hold by computation.
use Rattle.std.specs.Prelude.{ℕ, Bool, true, false, pos, negsuc, ◌≡◌, List, [], ◌∷◌, codes}
use Rattle.sql_values.specs.declared.value.Value.{Value}
use Rattle.sql_values.specs.declared.value.Value.TheVariants.{Null, Int, Bool as Truth}
use Rattle.sql_values.specs.declared.operators.Operator.TheVariants.{Subtract, Divide}
use Rattle.sql_values.specs.declared.operators.Comparison.{Comparison}
use Rattle.sql_values.specs.declared.operators.Comparison.TheVariants.{NotEquals, LessThan}
use Rattle.sql_conditions.specs.declared.condition.EngineCondition.TheVariants.{NumberOutOfRange}
use Rattle.sql_conditions.specs.declared.condition.EngineCondition.TheVariants.{DivisionByZero}
use Rattle.sql_conditions.specs.declared.condition.EngineCondition.TheVariants.{ConstraintViolated}
use Rattle.sql_conditions.specs.declared.condition.EngineCondition.TheVariants.{RecursionTooDeep}
use Rattle.sql_conditions.specs.Conditions.{area_of}
use Rattle.sql_values.specs.declared.value.SqlType.TheVariants.{Integer}
use Rattle.row_types.specs.declared.ColumnType.{ColumnType}
use Rattle.row_types.specs.Rows.{Row}
use Rattle.rel_algebra.specs.Tree.{Negation, Comparing, Expr, Literal, Column, Variable, Chain}
use Rattle.rel_algebra.specs.Tree.{Operate, Call, CallSelf, NoLink, MoreLinks, Exprs, NoExpr}
use Rattle.rel_algebra.specs.Tree.{MoreExprs, Routine, Function, Returned, Return, Query, Select}
use Rattle.rel_algebra.specs.Tree.{Values, Table, Rows, NoRow, MoreRows}
use Rattle.rel_algebra.specs.World.{World, Gives, Raises, RunsOut, no_self, no_frame}
use Rattle.rel_algebra.specs.Meaning.{ev, ask}
use Rattle.rel_algebra.specs.Changes.{insert_all as insert}

-- a row of a key and a value
abbrev pub row : ℕ → Value → Row
row k a = Int (pos k) ∷ a ∷ []

-- an INTEGER column, perhaps NOT NULL
abbrev pub column : List ℕ → Bool → ColumnType
column name not_null = record { name = name; data_type = Integer; not_null = not_null }

-- a table T (K INTEGER PRIMARY KEY, A INTEGER, which may be NOT NULL) with these rows, and so many
-- turns
abbrev pub world_with : Bool → List Row → ℕ → World
world_with not_null rows turns =
    record {
      tables = record {
        name = codes "T";
        table = record {
          columns = column (codes "K") false ∷ column (codes "A") not_null ∷ [];
          key = 0 ∷ [];
          rows = rows;
        };
      } ∷ [];
      turns = turns;
      active = 0;
    }

-- T with these rows, and three turns
abbrev pub world : List Row → World
world rows = world_with false rows 3

-- T with three rows
abbrev pub three : World
three = world (row 1 Null ∷ row 2 (Int (pos 10)) ∷ row 3 (Int (pos 0)) ∷ [])

-- an INTEGER literal
abbrev pub number : ℕ → Expr
number n = Literal (Int (pos n))

-- -x
abbrev pub opposite : Expr → Expr
opposite x = Operate Negation (MoreExprs x NoExpr)

-- a comparison
abbrev pub comparing : Comparison → Expr → Expr → Expr
comparing comparison x y = Operate (Comparing comparison) (MoreExprs x (MoreExprs y NoExpr))

-- inv (x): RETURN 100 / x
abbrev pub inv : Routine
inv = Returned (Integer ∷ []) Integer (Chain (number 100) (MoreLinks Divide (Variable 0) NoLink))

-- inv(x)
abbrev pub call_inv : Expr → Expr
call_inv e = Call (codes "INV") inv (MoreExprs e NoExpr)

-- SELECT k, inv(a) FROM t WHERE conjuncts
abbrev pub inverses : Exprs → Query
inverses conjuncts = Select (MoreExprs (Column 0 0) (MoreExprs (call_inv (Column 0 1)) NoExpr))
    (Table (codes "T")) conjuncts

-- worked rows of a query with a call. 7.16 and 10.4
pub record InverseOfEachRow : Type 0 where
  -- the row with zero raises
  pub raises : ask (inverses NoExpr) three ≡ Raises (area_of DivisionByZero) three
  -- WHERE a <> 0: unknown where a is NULL
  pub gives : ask (inverses (MoreExprs (comparing NotEquals (Column 0 1) (number 0)) NoExpr)) three
      ≡ Gives (row 2 (Int (pos 10)) ∷ []) three

-- rows of VALUES, with (k, NULL) in front
abbrev pub values : ℕ → Rows → Rows
values k rows = MoreRows (MoreExprs (number k) (MoreExprs (Literal Null) NoExpr)) rows

-- worked rows of INSERT. 14.11 (insert statement)
pub record KeysStandOnce : Type 0 where
  -- rows are stored in the order of their keys
  pub in_order : insert (codes "T") (Values (values 5 (values 4 NoRow))) (world (row 7 Null ∷ []))
      ≡ Gives 2 (world (row 4 Null ∷ row 5 Null ∷ row 7 Null ∷ []))
  -- a key that stands already is refused
  pub stands : insert (codes "T") (Values (values 5 (values 1 NoRow))) three
      ≡ Raises (area_of ConstraintViolated) three
  -- a key that comes twice is refused
  pub twice : insert (codes "T") (Values (values 5 (values 5 NoRow))) three
      ≡ Raises (area_of ConstraintViolated) three
  -- a key that is NULL is refused
  pub null : insert (codes "T")
      (Values (MoreRows (MoreExprs (Literal Null) (MoreExprs (Literal Null) NoExpr)) NoRow)) three
      ≡ Raises (area_of ConstraintViolated) three

-- -9223372036854775807 - 1
abbrev pub least : Expr
least = Chain (opposite (number 9223372036854775807)) (MoreLinks Subtract (number 1) NoLink)

-- worked rows of the least INTEGER. 6.27 (numeric value expression)
pub record LeastHasNoOpposite : Type 0 where
  -- it is computed
  pub gives : ev least no_self [] no_frame three ≡ Gives (Int (negsuc 9223372036854775807)) three
  -- (-9223372036854775807 - 1) / -1
  pub divided : ev (Chain least (MoreLinks Divide (opposite (number 1)) NoLink)) no_self [] no_frame
      three ≡ Raises (area_of NumberOutOfRange) three
  -- its negation is out of range
  pub negated : ev (opposite least) no_self [] no_frame three
      ≡ Raises (area_of NumberOutOfRange) three
  -- the negation of NULL is NULL
  pub null : ev (opposite (Literal Null)) no_self [] no_frame three ≡ Gives Null three

-- worked rows of VALUES. 7.3 (table value constructor)
pub record RowsInTurn : Type 0 where
  -- VALUES (5, NULL), (4, NULL)
  pub given : ask (Values (values 5 (values 4 NoRow))) three
      ≡ Gives (row 5 Null ∷ row 4 Null ∷ []) three
  -- VALUES (5, NULL), (inv(0))
  pub raises : ask (Values (values 5 (MoreRows (MoreExprs (call_inv (number 0)) NoExpr) NoRow)))
      three ≡ Raises (area_of DivisionByZero) three

-- worked rows of NOT NULL. 11.4 (column definition)
pub record NoValueLacks : Type 0 where
  -- one row without a value refuses all
  pub refused : insert (codes "T")
      (Values (MoreRows (MoreExprs (number 1) (MoreExprs (number 2) NoExpr)) (values 3 NoRow)))
      (world_with true [] 3)
      ≡ Raises (area_of ConstraintViolated) (world_with true [] 3)
  -- rows with all values are stored
  pub stored : insert (codes "T")
      (Values (MoreRows (MoreExprs (number 1) (MoreExprs (number 2) NoExpr)) NoRow))
      (world_with true [] 3)
      ≡ Gives 1 (world_with true (row 1 (Int (pos 2)) ∷ []) 3)

-- A column is found in the row of its level; a comparison is TRUE, FALSE or unknown.
pub record ColumnsByLevel : Type 0 where
  -- the innermost row is at level 0
  pub inner : ev (Column 0 1) no_self (row 1 (Int (pos 7)) ∷ row 2 Null ∷ []) no_frame three
      ≡ Gives (Int (pos 7)) three
  -- the row outside it is at level 1
  pub outer : ev (Column 1 0) no_self (row 1 (Int (pos 7)) ∷ row 2 Null ∷ []) no_frame three
      ≡ Gives (Int (pos 2)) three
  -- a comparison of numbers
  pub less : ev (comparing LessThan (number 1) (number 2)) no_self [] no_frame three
      ≡ Gives (Truth true) three
  -- a comparison with NULL is unknown
  pub unknown : ev (comparing LessThan (number 1) (Literal Null)) no_self [] no_frame three
      ≡ Gives Null three

-- again (x): RETURN again(x)
abbrev pub again : Expr
again = Call (codes "AGAIN")
    (Function true (Integer ∷ []) Integer false
    (Return (CallSelf (Integer ∷ []) (MoreExprs (Variable 0) NoExpr))))
    (MoreExprs (number 1) NoExpr)

-- A function that calls itself takes a turn at each activation, and of those 24 may be active.
pub record SelfCalls : Type 0 where
  -- with 23 turns none is left for the twenty-fourth activation
  pub runs_out : ev again no_self [] no_frame (world_with false [] 23)
      ≡ RunsOut (world_with false [] 0)
  -- with 24 the twenty-fifth activation raises
  pub too_deep : ev again no_self [] no_frame (world_with false [] 24)
      ≡ Raises (area_of RecursionTooDeep) (world_with false [] 0)

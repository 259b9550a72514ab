-- Worked rows, which hold by computation.
use Rattle.std.specs.Prelude.{ℕ, true, false, pos, ◌≡◌, List, [], ◌∷◌, ◌++◌, None, Some, codes}
use Rattle.sql_values.specs.declared.value.Value.TheVariants.{Int, Bool as Truth}
use Rattle.sql_values.specs.declared.value.SqlType.TheVariants.{Integer}
use Rattle.sql_values.specs.declared.operators.Operator.TheVariants.{Add}
use Rattle.rel_algebra.specs.Tree.{Expr, Literal, Column, Chain, Call, NoLink, MoreLinks, NoExpr}
use Rattle.rel_algebra.specs.Tree.{MoreExprs, Returned, From, Table, Cross, Inner}
use Rattle.rel_algebra.specs.Tree.{LeftOuter, Select, Grouped, Count, Single}
use Rattle.rel_algebra.specs.World.{World, Gives, no_self, no_frame}
use Rattle.rel_algebra.specs.Meaning.{ev}
use Rattle.catalog_store.specs.Catalog.{TableObject, FunctionObject, Entry, Catalog, object_named}
use Rattle.catalog_store.specs.Catalog.{routine_named, missing}
use Rattle.catalog_store.specs.Users.{users_of, without}
use Rattle.catalog_store.specs.Widths.{width_in}
use Rattle.bound_trees.specs.declared.expr.BoundExpr.{BoundExpr}
use Rattle.bound_trees.specs.declared.expr.BoundExpr.TheVariants as bound
use Rattle.bound_trees.specs.declared.query.BoundFromItem.TheVariants as item
use Rattle.bound_trees.specs.declared.query.BoundGrouping.{BoundGrouping, roll-BoundGrouping}
use Rattle.bound_trees.specs.declared.query.BoundQuery.TheVariants as query
use Rattle.bound_trees.specs.declared.query.BoundRow.TheVariants as row
use Rattle.bound_trees.specs.declared.query.BoundSelect.{BoundSelect, roll-BoundSelect}
use Rattle.bound_trees.specs.declared.query.BoundSource.TheVariants as source
use Rattle.bound_trees.specs.declared.statement.BoundStmt.TheVariants as statement
use Rattle.catalog_store.specs.declared.entry.DataAccess.TheVariants.{ContainsSql, ReadsSqlData}
use Rattle.catalog_store.specs.declared.entry.DataAccess.TheVariants.{ModifiesSqlData}
use Rattle.catalog_store.specs.declared.entry.InterpretedFunction.{InterpretedFunction}
use Rattle.catalog_store.specs.declared.entry.Object.TheVariants.{Function as FunctionRecord}
use Rattle.catalog_store.specs.declared.entry.Object.TheVariants.{Interpreted as InterpretedRecord}
use Rattle.catalog_store.specs.declared.entry.Object.TheVariants.{Procedure as ProcedureRecord}
use Rattle.catalog_store.specs.declared.entry.Procedure.{Procedure as HeldProcedure}
use Rattle.catalog_store.specs.declared.entry.RoutineRecord.{RoutineRecord}
use Rattle.catalog_store.specs.Entries.{entry_of, ObjectFits}
use Rattle.catalog_store.specs.Uses.{calls, reads, uses_in, names_used, SameNames}
use Rattle.catalog_store.specs.View.{after_comma, crossing, matching, matching_or_nulls, from_of}
use Rattle.catalog_store.specs.View.{selected, tree_of}

-- CREATE TABLE T (K INTEGER PRIMARY KEY)
abbrev pub table : Entry
table = record {
  name = codes "T";
  object = TableObject
      (record {
        columns = record { name = codes "K"; data_type = Integer; not_null = false } ∷ [];
        key = 0 ∷ [];
      });
}

-- a function without parameters, by its name, its height, what it uses and what it returns
abbrev pub entry : List ℕ → ℕ → List (List ℕ) → Expr → Entry
entry name height uses e =
    record {
      name = name;
      object = FunctionObject
          (record {
            parameters = [];
            returns = Integer;
            access = ContainsSql;
            height = height;
            weight =
                1;
            uses = uses;
            routine = Returned [] Integer e;
          });
    }

-- a literal
abbrev pub number : ℕ → Expr
number n = Literal (Int (pos n))

-- ONE (): RETURN 1; TWO (): RETURN 2; NEXT (): RETURN ONE() + 1
abbrev pub one : Entry
one = entry (codes "ONE") 1 [] (number 1)

-- TWO (): RETURN 2
abbrev pub two : Entry
two = entry (codes "TWO") 1 [] (number 2)

-- NEXT (): RETURN ONE() + 1
abbrev pub next : Entry
next = entry (codes "NEXT") 2 (codes "ONE" ∷ [])
    (Chain (Call (codes "ONE") (Returned [] Integer (number 1)) NoExpr)
    (MoreLinks Add (number 1) NoLink))

-- the catalog of these rows: ONE, T, TWO and NEXT, in the order of their making
abbrev pub known : Catalog
known = one ∷ table ∷ two ∷ next ∷ []

-- a world without tables, turns and active functions
abbrev pub no_tables : World
no_tables = record { tables = []; turns = 0; active = 0 }

-- which object a name stands for
pub record ObjectsByName : Type 0 where
  pub table : object_named (codes "T") known ≡ Some (table.object)
  pub function : object_named (codes "NEXT") known ≡ Some (next.object)
  pub nothing : object_named (codes "TW") known ≡ None
  -- a table isn't called
  pub no_function : routine_named (codes "T") known ≡ missing

-- how many routines use a name
pub record UsersOfNames : Type 0 where
  pub used : users_of (codes "ONE") known ≡ 1
  pub unused : users_of (codes "TWO") known ≡ 0
  -- nothing reads the table
  pub unread : users_of (codes "T") known ≡ 0
  -- a function isn't among its own users
  pub itself : users_of (codes "ONE") (entry (codes "ONE") 1 (codes "ONE" ∷ []) (number 1) ∷ []) ≡ 0

-- TWO stands between ONE and NEXT, which calls ONE. Without TWO it still does.
pub record CallsAfterADrop : Type 0 where
  pub left : without (codes "TWO") known ≡ one ∷ table ∷ next ∷ []
  pub same : routine_named (codes "NEXT") (without (codes "TWO") known) ≡ routine_named
      (codes "NEXT") known
  pub gives : ev (Call (codes "NEXT") (routine_named (codes "NEXT") (without (codes "TWO") known))
      NoExpr) no_self [] no_frame no_tables ≡ Gives (Int (pos 2)) no_tables

-- a table in FROM
abbrev pub table_at : List ℕ → From
table_at name = Table name

-- What stands after a comma is joined by itself, and then with what stands before.
pub record ItemsFromTheLeft : Type 0 where
  -- A, B JOIN C ON .., D
  pub commas : from_of (after_comma (table_at (codes "A")) ∷ after_comma (table_at (codes "B")) ∷
      matching (table_at (codes "C")) NoExpr ∷ after_comma (table_at (codes "D")) ∷ [])
      ≡ Cross (Cross (Table (codes "A")) (Inner (Table (codes "B")) (Table (codes "C")) NoExpr))
      (Table (codes "D"))
  -- A LEFT JOIN B ON .. CROSS JOIN C
  pub joins : from_of (after_comma (table_at (codes "A")) ∷ matching_or_nulls (table_at (codes "B"))
      NoExpr ∷ crossing (table_at (codes "C")) ∷ [])
      ≡ Cross (LeftOuter (Table (codes "A")) (Table (codes "B")) NoExpr) (Table (codes "C"))

-- A select over FROM T without WHERE.
pub record GroupedOrNot : Type 0 where
  -- SELECT COUNT(*): the list is that of the group's row
  pub grouped :
      selected (Some (record {
        keys = 0;
        parts = MoreExprs (Literal (Truth true)) NoExpr;
        aggregates = Count ∷ [];
        having = NoExpr;
      }))
      (MoreExprs (Column 0 0) NoExpr) (table_at (codes "T")) NoExpr
      ≡ Grouped (Table (codes "T")) NoExpr 0 (MoreExprs (Literal (Truth true)) NoExpr)
      (Count ∷ []) NoExpr (MoreExprs (Column 0 0) NoExpr)
  -- SELECT K: without a grouping the list is that of the row of FROM
  pub plain : selected None (MoreExprs (Column 0 0) NoExpr) (table_at (codes "T")) NoExpr ≡ Select
      (MoreExprs (Column 0 0) NoExpr) (Table (codes "T")) NoExpr

-- SELECT COUNT(*) FROM T
abbrev pub all_rows : BoundGrouping
all_rows = roll-BoundGrouping (record {
  keys = 0;
  parts = bound.Literal (Truth true) ∷ [];
  aggregates = Count ∷ [];
  having = [];
})

-- the same as a whole query
abbrev pub count_of_rows : BoundSelect
count_of_rows =
    roll-BoundSelect (record {
      items = bound.Column 0 0 ∷ [];
      from =
          item.Comma (source.Table (codes "T")) ∷ [];
      conjuncts = [];
      grouping = Some all_rows;
    })

-- HOW_MANY (): RETURN (SELECT COUNT(*) FROM T)
abbrev pub how_many_body : BoundExpr
how_many_body = bound.Single (query.Select count_of_rows)

-- its record
abbrev pub how_many : RoutineRecord
how_many = record {
  head = record {
    parameters = [];
    returns = Integer;
    access = ReadsSqlData;
    height = 1;
    weight = 1;
    uses = codes "T" ∷ [];
  };
  body = how_many_body;
  plan = None;
}

-- A body that reads a table uses it.
pub record TablesInBodies : Type 0 where
  pub reading : uses_in how_many_body ≡ reads (codes "T") ∷ []
  pub head : SameNames how_many.head.uses (names_used (uses_in how_many_body))
  pub users : users_of (codes "T") (known ++ entry_of known (codes "HOW_MANY")
      (FunctionRecord how_many) ∷ []) ≡ 1
  -- NEXT() IN (SELECT COUNT(*) FROM T), from left to right
  pub both : uses_in (bound.In (bound.Call (codes "NEXT") []) (query.Select count_of_rows)) ≡ calls
      (codes "NEXT") 0 ∷ reads (codes "T") ∷ []
  -- the tree that a call of HOW_MANY runs
  pub tree : tree_of known how_many_body
      ≡ Single (Grouped (Table (codes "T")) NoExpr 0 (MoreExprs (Literal (Truth true)) NoExpr)
      (Count ∷ []) NoExpr (MoreExprs (Column 0 0) NoExpr))

-- FILL (): INSERT INTO T VALUES (1)
abbrev pub fill : HeldProcedure
fill =
    record {
      head = record {
        modes = [];
        parameters = [];
        access = ModifiesSqlData;
        height = 1;
        weight = 1;
        uses = codes "T" ∷ [];
      };
      self_calling = false;
      body = statement.Insert (record {
        table = codes "T";
        source =
            query.Values (row.Row (bound.Literal (Int (pos 1)) ∷ []) ∷ []);
      }) None;
    }

-- AGAIN (): RETURN AGAIN() + 1
abbrev pub again : InterpretedFunction
again =
    record {
      head = record {
        parameters = [];
        returns = Integer;
        access = ContainsSql;
        height = 1;
        weight =
            1;
        uses = [];
      };
      null_call = false;
      self_calling = true;
      body = statement.Return (bound.Chain (bound.Call (codes "AGAIN") [])
          (record { operator = Add; operand = bound.Literal (Int (pos 1)) } ∷ []));
    }

-- the catalog with FILL and AGAIN made last
abbrev pub with_statements : Catalog
with_statements = known ++ entry_of known (codes "FILL") (ProcedureRecord fill) ∷ entry_of known
    (codes "AGAIN") (InterpretedRecord again) ∷ []

-- Routines whose bodies are statements.
pub record RoutinesWithoutPlans : Type 0 where
  -- FILL writes T
  pub used : users_of (codes "T") with_statements ≡ 1
  -- AGAIN calls itself alone
  pub itself : users_of (codes "AGAIN") with_statements ≡ 0
  -- FILL fits where T stands before it, and not where it doesn't
  pub fits : ObjectFits known (ProcedureRecord fill)
  pub unfit : ¬ ObjectFits (without (codes "T") known) (ProcedureRecord fill)
  -- a query calls neither
  pub function : routine_named (codes "AGAIN") with_statements ≡ missing
  pub procedure : routine_named (codes "FILL") with_statements ≡ missing
  -- and reads neither
  pub no_columns : width_in with_statements (codes "AGAIN") ≡ 0

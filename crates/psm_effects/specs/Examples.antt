-- Worked rows of what statements reply and leave.
use Rattle.std.specs.Prelude.{◌≡◌, ℕ, List, [], ◌∷◌, None, pos, true, false, codes, refl}
use Rattle.std.specs.Fmt.{digits}
use lib.Utf8.{encode}
use Rattle.sql_values.specs.declared.value.Value.TheVariants.{Null, Int}
use Rattle.sql_values.specs.declared.value.SqlType.TheVariants.{Integer}
use Rattle.sql_conditions.specs.declared.condition.EngineCondition.TheVariants.{DivisionByZero}
use Rattle.sql_conditions.specs.Conditions.{area_of}
use Rattle.row_types.specs.declared.RowType.{RowType}
use Rattle.row_types.specs.Tables.{Tables}
use Rattle.rel_algebra.specs.Plain.{planned}
use Rattle.rel_algebra.specs.Tree.{Returned, Literal}
use Rattle.rel_algebra.specs.World.{Gives, Raises, RunsOut}
use Rattle.bound_trees.specs.declared.expr.BoundExpr.TheVariants as bound
use Rattle.bound_trees.specs.declared.query.BoundQuery.{BoundQuery}
use Rattle.bound_trees.specs.declared.query.BoundQuery.TheVariants.{Values}
use Rattle.bound_trees.specs.declared.query.BoundRow.TheVariants.{Row}
use Rattle.bound_trees.specs.declared.statement.BoundStmt.TheVariants as statement
use Rattle.catalog_store.specs.Catalog.{Catalog, Entry, TableObject, FunctionObject}
use Rattle.catalog_store.specs.Catalog.{InterpretedObject, ProcedureObject}
use Rattle.catalog_store.specs.View.{query_of}
use Rattle.catalog_store.specs.declared.entry.DataAccess.TheVariants.{ContainsSql, ModifiesSqlData}
use Rattle.psm_effects.specs.Database.{Plain, empty}
use Rattle.psm_effects.specs.Effects.{created, dropped, replied, changed_text, world_of}
use Rattle.psm_effects.specs.Shapes.{IsWhole}

-- a table of one column, which is its key
abbrev one_column : RowType
one_column = record {
  columns = record { name = codes "K"; data_type = Integer; not_null = false } ∷
      [];
  key = 0 ∷ [];
}

-- the entry of the table T in the catalog
abbrev table_entry : Entry
table_entry = record { name = codes "T"; object = TableObject one_column }

-- the entry of the function F, which has no parameter and returns NULL
abbrev function_entry : Entry
function_entry = record {
  name = codes "F";
  object = FunctionObject (record {
    parameters = [];
    returns = Integer;
    access = ContainsSql;
    height = 1;
    weight = 1;
    uses = [];
    routine = Returned [] Integer (Literal Null);
  });
}

-- the table T, empty
abbrev no_rows : Tables
no_rows = record {
  name = codes "T";
  table = record {
    columns = one_column.columns;
    key =
        one_column.key;
    rows = [];
  };
} ∷ []

-- the table T, with a row
abbrev one_row : Tables
one_row = record {
  name = codes "T";
  table = record {
    columns = one_column.columns;
    key =
        one_column.key;
    rows = (Int (pos 1) ∷ []) ∷ [];
  };
} ∷ []

-- a database of the table T, which has no rows
abbrev with_table : Plain
with_table = record { catalog = table_entry ∷ []; tables = no_rows }

-- CREATE TABLE: the reply is 00000, and the table has no rows
pub a_table_is_made_empty : created table_entry empty ≡ record {
  reply = codes "00000\n";
  after =
      with_table;
}
a_table_is_made_empty = refl

-- CREATE FUNCTION: the catalog alone grows
pub a_function_makes_no_table : created function_entry with_table ≡
    record {
      reply = codes "00000\n";
      after =
          record { catalog = table_entry ∷ function_entry ∷ []; tables = no_rows };
    }
a_function_makes_no_table = refl

-- an INSERT of one row: the reply counts it, and the tables are those that it left
pub rows_are_counted : replied changed_text with_table (Gives 1 (world_of 5 one_row)) ≡
    record {
      reply = codes "00000 rows 1\n";
      after =
          record { catalog = table_entry ∷ []; tables = one_row };
    }
unfolding digits
rows_are_counted = refl

-- a condition is replied with its state and its message
pub conditions_are_told : replied changed_text with_table
    (Raises (area_of DivisionByZero) (world_of 5 no_rows)) ≡
    record { reply = codes "! 22012 division by zero\n"; after = with_table }
unfolding encode
conditions_are_told = refl

-- a statement that runs out of turns leaves the database in which it began
pub the_start_is_put_back : replied changed_text with_table (RunsOut (world_of 0 one_row)) ≡
    record { reply = codes "! PS001 budget exhausted\n"; after = with_table }
the_start_is_put_back = refl

-- a function among the entries has no table, and a table may have rows
pub tables_are_those_of_the_catalog : IsWhole
    (record { catalog = function_entry ∷ table_entry ∷ []; tables = one_row })
tables_are_those_of_the_catalog = refl

-- the table T with a row, and the function F
abbrev both : Plain
both = record { catalog = table_entry ∷ function_entry ∷ []; tables = one_row }

-- DROP TABLE: its entry and its rows are gone
pub a_dropped_table_goes_with_its_rows : dropped (codes "T") both ≡
    record {
      reply = codes "00000\n";
      after =
          record { catalog = function_entry ∷ []; tables = [] };
    }
a_dropped_table_goes_with_its_rows = refl

-- DROP FUNCTION: the tables stay as they are
pub a_dropped_function_leaves_the_tables : dropped (codes "F") both ≡
    record {
      reply = codes "00000\n";
      after =
          record { catalog = table_entry ∷ []; tables = one_row };
    }
a_dropped_function_leaves_the_tables = refl

-- a change that meets no row replies 02000 and not 00000
pub no_row_is_no_data : replied changed_text with_table (Gives 0 (world_of 5 no_rows)) ≡
    record { reply = codes "02000 rows 0\n"; after = with_table }
unfolding digits
no_row_is_no_data = refl

-- ---- which queries have plans

-- the entry of the function G, which calls itself: RETURN G()
abbrev self_calling_entry : Entry
self_calling_entry = record {
  name = codes "G";
  object = InterpretedObject (record {
    parameters = [];
    returns = Integer;
    access = ContainsSql;
    height = 1;
    weight = 1;
    uses = [];
    null_call = false;
    self_calling = true;
    body = statement.Return (bound.Call (codes "G") []);
  });
}

-- the entry of the procedure P, which has no parameter: INSERT INTO T VALUES (1)
abbrev procedure_entry : Entry
procedure_entry = record {
  name = codes "P";
  object = ProcedureObject (record {
    modes = [];
    parameters = [];
    access = ModifiesSqlData;
    height = 1;
    weight = 1;
    uses = codes "T" ∷ [];
    self_calling = false;
    body = statement.Insert (record {
      table = codes "T";
      source = Values (Row (bound.Literal (Int (pos 1)) ∷ []) ∷ []);
    }) None;
  });
}

-- a catalog of a table, a function with a plan, one without and a procedure
abbrev pub with_routines : Catalog
with_routines = table_entry ∷ function_entry ∷ self_calling_entry ∷ procedure_entry ∷ []

-- VALUES (NAME()): a query that calls what the name stands for
abbrev pub calling : List ℕ → BoundQuery
calling name = Values (Row (bound.Call name [] ∷ []) ∷ [])

-- No plan means a query that calls a function without a plan, nor one that calls what is no
-- function. So only a query whose functions all have plans can be prepared.
pub record QueriesWithoutPlans : Type 0 where
  -- a function that has a plan itself
  pub function : planned (query_of with_routines (calling (codes "F"))) ≡ true
  -- a function that calls itself
  pub interpreted : planned (query_of with_routines (calling (codes "G"))) ≡ false
  -- a procedure
  pub procedure : planned (query_of with_routines (calling (codes "P"))) ≡ false
  -- a table
  pub table : planned (query_of with_routines (calling (codes "T"))) ≡ false
  -- a name that stands for nothing
  pub nothing : planned (query_of with_routines (calling (codes "N"))) ≡ false

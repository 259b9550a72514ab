-- What a valid statement replies, and the database that it leaves. ISO/IEC 9075-2, 4.33
-- (SQL-statements), 11.3 (table definition), 11.31 and 11.62 (drop statements), 11.60 (SQL-invoked
-- routine), 14.9 (delete statement), 14.11 (insert statement), 14.14 (update statement), 15.1 (call
-- statement) and 7.17 (query expression); ISO/IEC 9075-4, 14.1 (compound statement).
use Rattle.std.specs.Prelude.{ℕ, List, [], ◌∷◌, ◌++◌, Option, Some, None}
use Rattle.sql_values.specs.declared.value.Value.{Value}
use Rattle.row_types.specs.Tables.{Tables, without_table_named}
use Rattle.bound_trees.specs.declared.change.BoundDelete.{BoundDelete}
use Rattle.bound_trees.specs.declared.change.BoundInsert.{BoundInsert}
use Rattle.bound_trees.specs.declared.change.BoundUpdate.{BoundUpdate}
use Rattle.bound_trees.specs.declared.query.BoundQuery.{BoundQuery}
use Rattle.bound_trees.specs.declared.statement.BoundCall.{BoundCall}
use Rattle.bound_trees.specs.declared.statement.BoundStmt.{BoundStmt, out-BoundStmt}
use Rattle.bound_trees.specs.declared.statement.BoundStmt.TheOpen.{BoundStmt-F}
use Rattle.bound_trees.specs.declared.statement.BoundBlock.{BoundBlock}
use Rattle.bound_trees.specs.declared.statement.BoundBranch.{BoundBranch}
use Rattle.bound_trees.specs.declared.statement.BoundHandler.{BoundHandler}
use Rattle.rel_algebra.specs.Doing.{End, Outcome, Raising, Spent}
use Rattle.rel_algebra.specs.World.{World, Ends, Gives, Raises, RunsOut}
use Rattle.rel_algebra.specs.Meaning.{ask, run, run_call}
use Rattle.catalog_store.specs.Catalog.{Entry, Object, TableObject, FunctionObject}
use Rattle.catalog_store.specs.Catalog.{InterpretedObject, ProcedureObject}
use Rattle.catalog_store.specs.Users.{without}
use Rattle.routine_views.specs.Routines.{routines_of}
use Rattle.routine_views.specs.Views.{query_in, stmt_in, arguments}
use Rattle.run_places.specs.Places.{no_routine}
use Rattle.data_change.specs.Writing.{insert, update, delete}
use Rattle.reply_text.specs.Texts.{rows_text, done_text, area_text, spent_text}
use Rattle.psm_effects.specs.Database.{Plain, with_tables}

-- what a statement replies, and the database that it leaves
pub record Effect : Type 0 where
  pub reply : List ℕ
  pub after : Plain

-- the tables, with the turns of a statement, and no function that calls itself is active
abbrev pub world_of : ℕ → Tables → World
world_of budget tables = record { tables = tables; turns = budget; active = 0 }

-- a new table is empty
abbrev pub with_table_of : List ℕ → Object → Tables → Tables
with_table_of name (TableObject row_type) tables =
    tables ++ record {
      name = name;
      table = record {
        columns = row_type.columns;
        key = row_type.key;
        rows = [];
      };
    } ∷ []
with_table_of name (FunctionObject f) tables = tables
with_table_of name (InterpretedObject f) tables = tables
with_table_of name (ProcedureObject p) tables = tables

-- a new entry of the catalog, with its table where it has one
abbrev pub created : Entry → Plain → Effect
created e db = record {
  reply = done_text [] None;
  after = record {
    catalog = db.catalog ++ e ∷ [];
    tables =
        with_table_of e.name e.object db.tables;
  };
}

-- An entry less, with its table where it has one.
abbrev pub dropped : List ℕ → Plain → Effect
dropped name db = record {
  reply = done_text [] None;
  after = record { catalog = without name db.catalog; tables = without_table_named name db.tables };
}

-- The reply to what an evaluation gives or raises, with the tables that it leaves. Without a turn
-- left the statement's start is put back.
abbrev pub replied : {A : Type 0} → (A → List ℕ) → Plain → Ends A → Effect
replied text db (Gives a w) = record { reply = text a; after = with_tables db w.tables }
replied text db (Raises area w) = record { reply = area_text area; after = with_tables db w.tables }
replied text db (RunsOut w) = record { reply = spent_text; after = db }

-- the reply to a change of rows: how many it stored, changed or removed
abbrev pub changed_text : ℕ → List ℕ
changed_text count = done_text [] (Some count)

-- INSERT, with so many turns and the places of the columns that it lists, where it lists some
abbrev pub inserted : ℕ → BoundInsert → Option (List ℕ) → Plain → Effect
inserted budget s listed db = replied changed_text db
    (insert s.table listed (query_in (no_routine db.catalog) s.source) (world_of budget db.tables))

-- UPDATE
abbrev pub updated : ℕ → BoundUpdate → Plain → Effect
updated budget s db = replied changed_text db
    (update s.table s.targets (query_in (no_routine db.catalog) s.rows) (world_of budget db.tables))

-- DELETE
abbrev pub deleted : ℕ → BoundDelete → Plain → Effect
deleted budget s db = replied changed_text db
    (delete s.table (query_in (no_routine db.catalog) s.rows) (world_of budget db.tables))

-- a query
abbrev pub answered : ℕ → BoundQuery → Plain → Effect
answered budget query db =
    replied rows_text db (ask (query_in (no_routine db.catalog) query) (world_of budget db.tables))

-- CALL replies a record of the values of the OUT and INOUT parameters, where there are any
abbrev pub given_text : List Value → List ℕ
given_text values = done_text values None

-- CALL
abbrev pub called : ℕ → BoundCall → Plain → Effect
called budget c db = replied given_text db
    (run_call (routines_of db.catalog c.procedure) (arguments (no_routine db.catalog) c.arguments)
    (world_of budget db.tables))

-- The reply to how a compound statement ends, with the tables that it leaves: what no handler takes
-- it raises. Without a turn left the statement's start is put back.
abbrev pub ended_by : Plain → Outcome → World → Effect
ended_by db (Raising area) w = record {
  reply = area_text area;
  after = with_tables db w.tables;
}
ended_by db Spent w = record { reply = spent_text; after = db }
ended_by db _ w = record { reply = done_text [] None; after = with_tables db w.tables }

-- the same of its end
abbrev pub ended : Plain → End → Effect
ended db e = ended_by db e.outcome e.world

-- a compound statement
abbrev pub ran : ℕ → BoundStmt → Plain → Effect
ran budget s db =
    ended db (run (stmt_in (no_routine db.catalog) s []) (world_of budget db.tables))

-- a statement as a routine has it: CALL, or a compound statement
abbrev pub performed : ℕ → BoundStmt → BoundStmt-F BoundStmt BoundBlock BoundBranch BoundHandler →
    Plain → Effect
performed budget s (BoundStmt-F.Call c) db = called budget c db
performed budget s _ db = ran budget s db

-- the same of the whole statement
abbrev pub routine_done : ℕ → BoundStmt → Plain → Effect
routine_done budget s db = performed budget s (out-BoundStmt s) db

-- what is bound alone leaves the database
abbrev pub bound_alone : Plain → Effect
bound_alone db = record { reply = done_text [] None; after = db }

-- Direct SQL statements that hold no statement of a routine: the bound statement that each stands
-- for, the name faults in it, and whether plans answer it. ISO/IEC 9075-2, 22.1 (direct SQL
-- statement),
-- 11.3 (table definition), 11.31 and 11.62 (drop statements), 14.9, 14.11 and 14.14 (changes) and
-- 15.1 (call statement).
use Rattle.std.specs.Prelude.{Bool, true, false, ◌&&◌, [], None, is_some}
use Rattle.syntax_trees.specs.declared.anchor.Ident.{Ident}
use Rattle.syntax_trees.specs.declared.query.OrderedQuery.{OrderedQuery}
use Rattle.statement_trees.specs.declared.definition.CreateTable.{CreateTable}
use Rattle.statement_trees.specs.declared.definition.DropObject.{DropObject}
use Rattle.statement_trees.specs.declared.writing.Call.{Call}
use Rattle.statement_trees.specs.declared.writing.Delete.{Delete}
use Rattle.statement_trees.specs.declared.writing.Insert.{Insert}
use Rattle.statement_trees.specs.declared.writing.Update.{Update}
use Rattle.bound_trees.specs.declared.statement.BoundStmt.TheVariants as stmt
use Rattle.catalog_store.specs.Catalog.{Catalog}
use Rattle.catalog_store.specs.declared.entry.Object.{Object as NewObject}
use Rattle.catalog_store.specs.declared.entry.Object.TheVariants as new
use Rattle.bind_faults.specs.Faults.{Noted, as_value}
use Rattle.bind_sight.specs.Sight.{at_top}
use Rattle.bind_queries.specs.Order.{judge_ordered}
use Rattle.bind_queries.specs.Runs.{all_run}
use Rattle.bind_rules.specs.Definitions.{Definition, result_of}
use Rattle.bind_changes.specs.Writing.{judged_insert, judged_update, judged_delete}
use Rattle.bind_definitions.specs.Tables.{judged_table}
use Rattle.bind_definitions.specs.Removals.{judged_drop}
use Rattle.bind_simple.specs.Calls.{judged_call}
use Rattle.bind_simple.specs.Places.{Surroundings}
use Rattle.bind_direct.specs.declared.bound.Bound.{Bound}
use Rattle.bind_direct.specs.declared.bound.BoundStatement.{BoundStatement}
use Rattle.bind_direct.specs.declared.bound.Bound.TheVariants as bound

-- ---- whether plans answer a statement

-- a bound statement, and whether plans answer it
abbrev pub with_plans : Bool → Bound → BoundStatement
with_plans by_plan b = record { bound = b; by_plan = by_plan }

-- a statement that asks nothing of a plan
abbrev pub asking_nothing : {A : Type 0} → (A → Bound) → Noted A → Noted BoundStatement
asking_nothing make x = as_value (λ a. with_plans true (make a)) x

-- a statement that no plan answers
abbrev pub not_planned : {A : Type 0} → (A → Bound) → Noted A → Noted BoundStatement
not_planned make x = as_value (λ a. with_plans false (make a)) x

-- a plan answers a query or a change where all functions that it calls have plans
abbrev pub runs_over : {A : Type 0} → Catalog → Noted A → Bool
runs_over catalog x = all_run catalog x.uses

-- a statement that a plan answers where all functions that it calls have plans
abbrev pub run_over : {A : Type 0} → Catalog → (A → Bound) → Noted A → Noted BoundStatement
run_over catalog make x = record {
  value = with_plans (runs_over catalog x) (make x.value);
  faults =
      x.faults;
  uses = x.uses;
}

-- a table, or a function with a plan
abbrev pub is_planned : NewObject → Bool
is_planned (new.Table t) = true
is_planned (new.Function r) = true
is_planned (new.Interpreted f) = false
is_planned (new.Procedure p) = false

-- ---- definitions

-- a new table or procedure, under its name
abbrev pub created : Ident → NewObject → BoundStatement
created i o = with_plans (is_planned o) (bound.Create i.name o)

-- a new function, and whether it only returns a value and has a plan
abbrev pub created_function : Definition → NewObject → BoundStatement
created_function s o = with_plans (is_some (result_of s) && is_planned o)
    (bound.Create s.name.name o)

-- a direct CREATE TABLE
abbrev pub direct_table : CreateTable → Catalog → Noted BoundStatement
direct_table s catalog = as_value (created s.name) (judged_table s catalog)

-- a direct DROP
abbrev pub direct_drop : DropObject → Catalog → Noted BoundStatement
direct_drop s catalog = asking_nothing (λ name. bound.Drop name) (judged_drop s catalog)

-- ---- queries and changes

-- a direct query
abbrev pub direct_query : OrderedQuery → Catalog → Noted BoundStatement
direct_query q catalog = run_over catalog (λ b. bound.Query b) (judge_ordered q (at_top catalog))

-- EXPLAIN, which is bound alone
abbrev pub explained : OrderedQuery → Catalog → Noted BoundStatement
explained q catalog = not_planned (λ b. bound.Explain b) (judge_ordered q (at_top catalog))

-- a direct INSERT
abbrev pub direct_insert : Insert → Catalog → Noted BoundStatement
direct_insert s catalog = run_over catalog (λ b. bound.Insert b.insert b.listed)
    (judged_insert s (at_top catalog))

-- a direct UPDATE
abbrev pub direct_update : Update → Catalog → Noted BoundStatement
direct_update s catalog = run_over catalog (λ b. bound.Update b) (judged_update s (at_top catalog))

-- a direct DELETE
abbrev pub direct_delete : Delete → Catalog → Noted BoundStatement
direct_delete s catalog = run_over catalog (λ b. bound.Delete b) (judged_delete s (at_top catalog))

-- ---- CALL

-- outside of routines
abbrev pub at_script : Catalog → Surroundings
at_script catalog = record {
  scopes = [];
  labels = [];
  returns = None;
  own = None;
  procedure = None;
  catalog = catalog;
}

-- a direct CALL
abbrev pub direct_call : Call → Catalog → Noted BoundStatement
direct_call s catalog = not_planned (λ b. bound.Routine (stmt.Call b))
    (judged_call true s (at_script catalog))

-- What is done in a world of tables, and how a change of rows is made of the rows that a query
-- gives. ISO/IEC 9075-2, 14.9 (delete statement), 14.11 (insert statement) and 14.14 (update
-- statement).
use Rattle.std.specs.Prelude.{ℕ, ◌≡◌, Bool, true, List, []}
use Rattle.row_types.specs.Rows.{Row}
use Rattle.bound_trees.specs.declared.query.BoundQuery.{BoundQuery}
use Rattle.rel_algebra.specs.World.{Eval, ◌>>=◌, unit, no_self, no_frame}
use Rattle.rel_algebra.specs.Meaning.{answer}
use Rattle.rel_algebra.specs.Plain.{planned}
use Rattle.catalog_store.specs.Catalog.{Catalog}
use Rattle.catalog_store.specs.View.{query_of}
use Rattle.routine_views.specs.Views.{query_in}
use Rattle.run_places.specs.Places.{no_routine}
use Rattle.data_change.specs.Writing.{stored_in, changed, removed}
use Rattle.psm_effects.specs.declared.change.Change.{Change}
use Rattle.psm_effects.specs.declared.change.Change.TheVariants.{Insert, Update, Delete}
use Rattle.psm_effects.specs.declared.task.Task.{Task}
use Rattle.psm_effects.specs.declared.task.Task.TheVariants.{Make, Answer, Call, Run}
use Rattle.psm_effects.specs.Database.{Plain}
use Rattle.psm_effects.specs.Effects.{Effect, replied, changed_text, world_of, answered}
use Rattle.psm_effects.specs.Effects.{called, ran}

-- ---- changes

-- the query that gives its rows
abbrev pub rows_query : Change → BoundQuery
rows_query (Insert insert listed) = insert.now.source
rows_query (Update update) = update.now.rows
rows_query (Delete delete) = delete.now.rows

-- what it makes of them
abbrev pub made : Change → List Row → Eval ℕ
made (Insert insert listed) rows = stored_in insert.now.table listed.now rows
made (Update update) rows = changed update.now.table update.now.targets rows
made (Delete delete) rows = removed delete.now.table rows

-- All rows are evaluated first.
abbrev pub change_of : Change → Catalog → Eval ℕ
change_of change catalog =
    unit (answer (query_in (no_routine catalog) (rows_query change)) no_self [] no_frame
    >>= made change)

-- a query of the catalog has a plan
abbrev pub HasPlan : Catalog → BoundQuery → Type 0
HasPlan catalog q = planned (query_of catalog q) ≡ true

-- what is to be answered by a plan has one
abbrev pub PlanFits : Bool → Catalog → BoundQuery → Type 0
PlanFits by_plan catalog q = by_plan ≡ true → HasPlan catalog q

-- ---- tasks

-- What a task asks of the catalog: the query that it answers, or that gives its rows, has a plan
-- where it is answered by one.
abbrev pub TaskFits : Bool → Catalog → Task → Type 0
TaskFits by_plan catalog (Make change) = PlanFits by_plan catalog (rows_query change)
TaskFits by_plan catalog (Answer query) = PlanFits by_plan catalog query.now
TaskFits by_plan catalog (Call call) = Unit {0}
TaskFits by_plan catalog (Run stmt) = Unit {0}

-- the effect of the statement whose task it is, with so many turns
abbrev pub task_effect : ℕ → Task → Plain → Effect
task_effect budget (Make change) db = replied changed_text db
    (change_of change db.catalog (world_of budget db.tables))
task_effect budget (Answer query) db = answered budget query.now db
task_effect budget (Call call) db = called budget call.now db
task_effect budget (Run stmt) db = ran budget stmt.now db

-- What a valid statement replies, and the database that it leaves, by its form. ISO/IEC 9075-2,
-- 4.33 (SQL-statements).
use Rattle.std.specs.Prelude.{ℕ, Bool, true, false}
use Rattle.catalog_store.specs.Entries.{entry_of}
use Rattle.bind_direct.specs.declared.bound.Bound.{Bound}
use Rattle.bind_direct.specs.declared.bound.Bound.TheVariants.{Create, Drop, Insert, Update}
use Rattle.bind_direct.specs.declared.bound.Bound.TheVariants.{Delete, Query, Explain, Routine}
use Rattle.psm_effects.specs.Database.{Plain}
use Rattle.psm_effects.specs.Effects.{Effect, created, dropped, inserted, updated, deleted}
use Rattle.psm_effects.specs.Effects.{answered, routine_done, bound_alone}
use Rattle.run_modes.specs.declared.mode.Mode.{Mode}
use Rattle.run_modes.specs.Modes.{is_by_plan}

-- whether what a statement of this form replies is a part of its effect; that of EXPLAIN, which does
-- nothing, is told elsewhere
abbrev pub is_done : Bound → Bool
is_done (Explain query) = false
is_done _ = true

-- Whether a statement of which it is said whether plans answer it is done by them in a mode: so says
-- the query that it asks, or that gives the rows of its change.
abbrev pub by_plans : Mode → Bool → Bound → Bool
by_plans mode by_plan (Insert s listed) = is_by_plan mode by_plan s.source
by_plans mode by_plan (Update s) = is_by_plan mode by_plan s.rows
by_plans mode by_plan (Delete s) = is_by_plan mode by_plan s.rows
by_plans mode by_plan (Query query) = is_by_plan mode by_plan query
by_plans mode by_plan _ = by_plan

-- With so many turns. An EXPLAIN leaves what was there; its reply is told elsewhere.
abbrev pub effect : ℕ → Bound → Plain → Effect
effect budget (Create name object) db = created (entry_of db.catalog name object) db
effect budget (Drop name) db = dropped name db
effect budget (Insert s listed) db = inserted budget s listed db
effect budget (Update s) db = updated budget s db
effect budget (Delete s) db = deleted budget s db
effect budget (Query query) db = answered budget query db
effect budget (Explain query) db = bound_alone db
effect budget (Routine stmt) db = routine_done budget stmt db

-- where statements are checked alone definitions are carried out, and all else is bound
abbrev pub checked : Bound → Plain → Effect
checked (Create name object) db = created (entry_of db.catalog name object) db
checked (Drop name) db = dropped name db
checked _ db = bound_alone db

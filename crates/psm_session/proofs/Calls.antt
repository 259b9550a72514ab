-- Heads go on listing what bodies call, and calls go on standing before what calls them, as a
-- statement makes or drops an entry.
use Rattle.std.proofs.Common.{◌≡◌, ℕ, Bool, List, [], ◌∷◌, ◌++◌, Result, Ok, Err, refl, sym, ap}
use Rattle.std.proofs.Common.{subst}
use Rattle.std.specs.Prelude.{IfOk, OnErr}
use Rattle.sql_texts.specs.declared.memory.NoMemory.{NoMemory}
use Rattle.statement_trees.specs.declared.statement.Stmt.{Stmt}
use Rattle.bound_trees.specs.declared.statement.BoundStmt.{out-BoundStmt}
use Rattle.rel_algebra.specs.Meaning.{ask}
use Rattle.catalog_store.specs.Catalog.{Catalog}
use Rattle.catalog_store.specs.Entries.{entry_of}
use Rattle.catalog_store.specs.Planning.{AllPlanned}
use Rattle.catalog_store.specs.Users.{without}
use Rattle.routine_views.specs.Views.{query_in}
use Rattle.run_places.specs.Places.{no_routine}
use Rattle.data_change.specs.Writing.{insert, update, delete}
use Rattle.bind_queries.specs.Binds.{Binds}
use Rattle.bind_direct.specs.declared.bound.Bound.{Bound}
use Rattle.bind_direct.specs.declared.bound.Bound.TheVariants as bound
use Rattle.bind_direct.specs.declared.bound.BoundStatement.{BoundStatement}
use Rattle.bind_statements.specs.Binds.{BoundFits}
use Rattle.bind_statements.specs.Statements.{judged_statement}
use Rattle.listed_calls.specs.Kept.{CallsListed}
use Rattle.listed_calls.specs.Listed.{MadeLists}
use Rattle.listed_calls.proofs.Laws.{new_routines_list, listed-made, listed-dropped}
use Rattle.reply_text.specs.Texts.{rows_text}
use Rattle.psm_effects.specs.Conclusions.{IsEffect}
use Rattle.psm_effects.specs.Database.{Plain}
use Rattle.psm_effects.specs.Effects.{Effect, changed_text, world_of}
use Rattle.psm_session.specs.Effects.{checked, effect}
use Rattle.psm_session.proofs.Made.{replied-catalog, done-catalog}

-- what is made by a statement without faults lists what it calls
pub makes-listed : (s : Stmt) (known : Catalog) (b : BoundStatement) → AllPlanned known →
    Binds (judged_statement s known) (Ok b) → MadeLists known b.bound
makes-listed s known b all binds = subst (λ (x : BoundStatement). MadeLists known x.bound)
    (sym binds.1) (new_routines_list s known all binds.0)

-- ---- the catalog that a statement leaves

abbrev pub catalog_after : Bound → Catalog → Catalog
catalog_after (bound.Create name object) known = known ++ entry_of known name object ∷ []
catalog_after (bound.Drop name) known = without name known
catalog_after _ known = known

after-listed : (known : Catalog) (b : Bound) (runs : Bool) → BoundFits known runs b →
    MadeLists known b → CallsListed known → CallsListed (catalog_after b known)
after-listed known (bound.Create name object) runs f m c = listed-made known name object c f.1 m
after-listed known (bound.Drop name) runs f m c = listed-dropped known name c f.1
after-listed known (bound.Insert s places) runs f m c = c
after-listed known (bound.Update s) runs f m c = c
after-listed known (bound.Delete s) runs f m c = c
after-listed known (bound.Query q) runs f m c = c
after-listed known (bound.Explain q) runs f m c = c
after-listed known (bound.Routine s) runs f m c = c

pub effect-catalog : (budget : ℕ) (b : Bound) (db : Plain) →
    catalog_after b db.catalog ≡ (effect budget b db).after.catalog
effect-catalog budget (bound.Create name object) db = refl
effect-catalog budget (bound.Drop name) db = refl
effect-catalog budget (bound.Insert s places) db = replied-catalog changed_text db
    (insert s.table places (query_in (no_routine db.catalog) s.source) (world_of budget db.tables))
effect-catalog budget (bound.Update s) db = replied-catalog changed_text db
    (update s.table s.targets (query_in (no_routine db.catalog) s.rows) (world_of budget db.tables))
effect-catalog budget (bound.Delete s) db = replied-catalog changed_text db
    (delete s.table (query_in (no_routine db.catalog) s.rows) (world_of budget db.tables))
effect-catalog budget (bound.Query q) db = replied-catalog rows_text db
    (ask (query_in (no_routine db.catalog) q) (world_of budget db.tables))
effect-catalog budget (bound.Explain q) db = refl
effect-catalog budget (bound.Routine s) db = done-catalog budget s (out-BoundStmt s) db

pub checked-catalog : (b : Bound) (db : Plain) →
    catalog_after b db.catalog ≡ (checked b db).after.catalog
checked-catalog (bound.Create name object) db = refl
checked-catalog (bound.Drop name) db = refl
checked-catalog _ db = refl

pub effect-listed : (budget : ℕ) (b : Bound) (runs : Bool) (db : Plain) →
    BoundFits db.catalog runs b → MadeLists db.catalog b → CallsListed db.catalog →
    CallsListed (effect budget b db).after.catalog
effect-listed budget b runs db f m c =
    subst CallsListed (effect-catalog budget b db) (after-listed db.catalog b runs f m c)

pub checked-listed : (b : Bound) (runs : Bool) (db : Plain) → BoundFits db.catalog runs b →
    MadeLists db.catalog b → CallsListed db.catalog → CallsListed (checked b db).after.catalog
checked-listed b runs db f m c =
    subst CallsListed (checked-catalog b db) (after-listed db.catalog b runs f m c)

-- where there is memory for the reply, and where there is none
pub left-listed : (r : Result (List ℕ) NoMemory) (e : Effect) (old after : Plain) →
    IfOk r (λ x. IsEffect e x after) → OnErr r (after ≡ old) → CallsListed old.catalog →
    CallsListed e.after.catalog → CallsListed after.catalog
left-listed (Ok x) e old after ok err c d =
    subst CallsListed (sym (ap (λ (p : Plain). p.catalog) ok.1)) d
left-listed (Err x) e old after ok err c d =
    subst CallsListed (sym (ap (λ (p : Plain). p.catalog) err)) c

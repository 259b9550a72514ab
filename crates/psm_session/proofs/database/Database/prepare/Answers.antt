-- What is prepared by the catalog is prepared for the tables.
use Rattle.std.proofs.Common.{◌≡◌, true, sym, subst}
use Rattle.std.specs.Prelude.{IfOk}
use Rattle.rel_algebra.specs.Joins.{table_width}
use Rattle.rel_algebra.specs.Plain.{planned}
use Rattle.catalog_store.specs.View.{query_of}
use Rattle.typing_plans.specs.Bodies.{kinds_in}
use Rattle.psm_effects.specs.Conclusions.{database}
use Rattle.psm_effects.specs.Database.{Plain}
use Rattle.psm_effects.specs.Preparing.{IsPrepared, plan_in}
use Rattle.psm_session.specs.Bodies.{IsTypedQuery}
use Rattle.psm_session.proofs.Preparing.{prepared-here}
use Rattle.psm_session.proofs.database.Database.prepare.Goals as goal

pub returns : goal.returns
returns c =
    let here = database c.self.inside.catalog c.self.inside.tables in
    let q = c.args.query.now in
    subst (λ (db : Plain). IfOk c.prepare_query.result
    (λ p. IsPrepared (query_of db.catalog q) (table_width db.tables) (kinds_in db.catalog)
    (plan_in p))) c.self.view_is
    (prepared-here here q c.prepare_query.result c.self.invariant.0 c.len-entries.ensures.names
    c.self.invariant.1.0
    (subst (λ (db : Plain). IsTypedQuery db.catalog q) (sym c.self.view_is) c.requires.typed)
    (subst (λ (db : Plain). planned (query_of db.catalog q) ≡ true) (sym c.self.view_is)
    c.requires.planned)
    c.prepare_query.ensures.plan c.prepare_query.ensures.form)

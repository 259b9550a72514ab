-- What is explained in the catalog is explained in the database.
use Rattle.std.proofs.Common.{ap, subst}
use Rattle.std.specs.Prelude.{IfOk}
use Rattle.catalog_store.specs.Catalog.{Catalog}
use Rattle.psm_effects.specs.Database.{Plain}
use Rattle.psm_effects.specs.Explaining.{IsExplained}
use Rattle.psm_session.proofs.database.Database.explain.Goals as goal

pub returns : goal.returns
returns c =
    subst (λ (known : Catalog). IfOk c.explain_query.result
    (λ reply. IsExplained known c.args.query.now reply))
    (ap (λ (db : Plain). db.catalog) c.self.view_is) c.explain_query.ensures

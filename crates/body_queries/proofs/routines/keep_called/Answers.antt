-- The plans of what is asked are in the catalog of those that are kept.
use Rattle.std.proofs.Common.{None, sym, subst, ◌∙◌}
use Rattle.catalog_store.specs.Catalog.{Catalog}
use Rattle.kept_queries.specs.Keeping.{ArePlans}
use Rattle.body_queries.proofs.routines.keep_called.Goals as goal

pub set_statement-requires : goal.set_statement-requires
set_statement-requires c =
    subst (λ (k : Catalog). ArePlans k None c.in_ok-queries.queries)
    (sym (c.keep_routines.ensures ∙ c.requires.catalog)) c.in_ok-queries.ensures

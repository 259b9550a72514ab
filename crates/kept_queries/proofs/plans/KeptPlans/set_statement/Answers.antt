use Rattle.std.proofs.Common.{None, sym, subst}
use Rattle.catalog_store.specs.Catalog.{Catalog}
use Rattle.kept_queries.specs.Keeping.{ArePlans}
use Rattle.kept_queries.proofs.plans.KeptPlans.set_statement.Goals as goal

pub invariant_of-self : goal.invariant_of-self
invariant_of-self c = (
  c.self.invariant.0,
  (
    c.self.invariant.1.0,
    (
      c.self.invariant.1.1.0,
      subst (λ (k : Catalog). ArePlans k None c.args.queries) (sym c.self.view_is) c.requires,
    ),
  ),
)

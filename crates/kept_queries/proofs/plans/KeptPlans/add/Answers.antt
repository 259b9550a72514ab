use Rattle.std.proofs.Common.{Some, sym, subst}
use Rattle.catalog_store.specs.Catalog.{Catalog}
use Rattle.kept_queries.specs.Keeping.{ArePlans, AreForBodies}
use Rattle.kept_queries.proofs.Holding.{one_more}
use Rattle.kept_queries.proofs.plans.KeptPlans.add.Goals as goal

pub invariant_of-self-2 : goal.invariant_of-self-2
invariant_of-self-2 c =
    let known = c.self.inside.known.value in (
      c.self.invariant.0,
      (
        subst (AreForBodies known) (sym c.in_ok-insert.ensures.entries)
            (one_more known c.self.inside.routines.entries c.args.name c.args.queries
            (subst (λ (k : Catalog). ArePlans k (Some c.args.name) c.args.queries)
            (sym c.self.view_is) c.requires) c.self.invariant.1.0),
        c.self.invariant.1.1,
      ),
    )

-- The plan is one of the catalog that is seen.
use Rattle.std.proofs.Common.{sym, subst}
use Rattle.catalog_store.specs.Catalog.{Catalog}
use Rattle.call_plans.specs.Calls.{IsCallPlan}
use Rattle.kept_queries.specs.Called.{AreCalls}
use Rattle.kept_queries.proofs.Calls.{one_more}
use Rattle.kept_queries.proofs.plans.KeptPlans.add_call.Goals as goal

pub invariant_of-self-2 : goal.invariant_of-self-2
invariant_of-self-2 c =
    let known = c.self.inside.known.value in (
      (
        c.self.invariant.0.0,
        subst (AreCalls known) (sym c.in_ok-insert.ensures.entries)
            (one_more known c.self.inside.calls.entries c.args.name c.args.call
            (subst (λ (k : Catalog). IsCallPlan k c.args.name c.args.call) (sym c.self.view_is)
            c.requires) c.self.invariant.0.1),
      ),
      c.self.invariant.1,
    )

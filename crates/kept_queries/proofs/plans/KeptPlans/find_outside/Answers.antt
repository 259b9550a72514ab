use Rattle.std.proofs.Common.{None, sym, subst}
use Rattle.catalog_store.specs.Catalog.{Catalog}
use Rattle.kept_queries.specs.Keeping.{ArePlans}
use Rattle.kept_queries.proofs.plans.KeptPlans.find_outside.Goals as goal

pub returns-in-Some-clause-kept : goal.returns-in-Some-clause-kept
returns-in-Some-clause-kept c =
    c.in-Some.ensures.kept c.args.self.now None
    (subst (ArePlans c.args.self.now None) (sym c.as_slice.ensures)
    (subst (λ (k : Catalog). ArePlans k None c.self.inside.statement) c.self.view_is
    c.self.invariant.1.1.1))

pub returns-in-None-clause-kept : goal.returns-in-None-clause-kept
returns-in-None-clause-kept c =
    c.find-in-None.ensures.kept c.args.self.now None
    (subst (ArePlans c.args.self.now None) (sym c.as_slice-in-None.ensures)
    (subst (λ (k : Catalog). ArePlans k None c.self.inside.returned) c.self.view_is
    c.self.invariant.1.1.0))

-- What a routine is kept with is found by its name.
use Rattle.std.proofs.Common.{Some, sym, subst}
use Rattle.catalog_store.specs.Catalog.{Catalog}
use Rattle.kept_queries.specs.Keeping.{ArePlans}
use Rattle.kept_queries.proofs.Holding.{found}
use Rattle.kept_queries.proofs.plans.KeptPlans.find_in.Goals as goal

pub returns-in-Some-clause-kept : goal.returns-in-Some-clause-kept
returns-in-Some-clause-kept c =
    let own = Some c.args.own.now in
    c.find.ensures.kept c.args.self.now own
    (subst (ArePlans c.args.self.now own) (sym c.as_slice.ensures)
    (subst (λ (k : Catalog). ArePlans k own c.in-Some.queries.now) c.self.view_is
    (found c.self.inside.known.value c.self.inside.routines.entries c.args.own.now
    c.in-Some.queries.now c.self.invariant.1.0 (sym c.in-Some.ensures.value))))

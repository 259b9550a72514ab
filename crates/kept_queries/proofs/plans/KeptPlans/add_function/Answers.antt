-- Those of a function more are kept in the same catalog.
use Rattle.kept_queries.proofs.Holding.{put_after}
use Rattle.kept_queries.proofs.plans.KeptPlans.add_function.Goals as goal

pub invariant_of-self : goal.invariant_of-self
invariant_of-self c = (
  c.self.invariant.0,
  (
    c.self.invariant.1.0,
    (
      put_after c.self.inside.known.value c.args.self.now c.self.inside.returned c.args.queries
          c.append.new.self c.self.view_is c.self.invariant.1.1.0 c.requires c.in-Ok.ensures,
      c.self.invariant.1.1.1,
    ),
  ),
)

pub invariant_of-self-in-Ok : goal.invariant_of-self-in-Ok
invariant_of-self-in-Ok c = (
  c.self.invariant.0,
  (
    c.self.invariant.1.0,
    (
      put_after c.self.inside.known.value c.args.self.now c.self.inside.returned c.args.queries
          c.append.new.self c.self.view_is c.self.invariant.1.1.0 c.requires c.in-Ok.ensures,
      c.self.invariant.1.1.1,
    ),
  ),
)

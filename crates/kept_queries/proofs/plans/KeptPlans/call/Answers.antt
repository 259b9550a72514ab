use Rattle.kept_queries.proofs.Calls.{found_seen}
use Rattle.kept_queries.proofs.plans.KeptPlans.call.Goals as goal

pub returns : goal.returns
returns c =
    found_seen c.self.inside.known.value c.args.self.now c.self.inside.calls.entries
    c.args.name.now c.get.result c.self.view_is c.self.invariant.0.1 c.get.ensures.value

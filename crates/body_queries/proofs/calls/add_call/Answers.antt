-- The plan is that of the calls of the function, whatever its name is copied to.
use Rattle.std.proofs.Common.{ℕ, List, sym, subst}
use Rattle.call_plans.specs.Calls.{IsCallPlan}
use Rattle.body_queries.proofs.calls.add_call.Goals as goal

pub add_call-requires : goal.add_call-requires
add_call-requires c =
    subst (λ (n : List ℕ). IsCallPlan c.args.kept.now n c.in_ok-call.call)
    (sym c.in_ok-name.ensures)
    (c.in_ok-call.ensures c.args.kept.now c.args.name.now c.requires.planned c.requires.parameters
    c.requires.plan)

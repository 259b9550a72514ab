use Rattle.std.proofs.Common.{◌≡◌, drop}
use Rattle.plan_steps.specs.Places.{any_continues}
use Rattle.plan_steps.proofs.sight.any_goes_on.Given as goal

abbrev pub invariant-loop-handler : goal.invariant-loop-handler
invariant-loop-handler l = any_continues (drop l.handler-index l.handlers) ≡ any_continues
    l.handlers

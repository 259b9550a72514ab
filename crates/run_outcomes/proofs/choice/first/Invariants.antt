use Rattle.std.proofs.Common.{◌≡◌, drop}
use Rattle.rel_algebra.specs.Handlers.{first_with}
use Rattle.run_outcomes.specs.Scopes.{taking}
use Rattle.run_outcomes.proofs.choice.first.Given as goal

abbrev pub invariant-loop-handler : goal.invariant-loop-handler
invariant-loop-handler l =
    first_with (taking l.manner l.state) (drop l.handler-index l.handlers)
    ≡ first_with (taking l.manner l.state) l.handlers

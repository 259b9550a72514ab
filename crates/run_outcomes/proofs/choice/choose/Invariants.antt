use Rattle.std.proofs.Common.{◌≡◌, ◌≤◌, take, length}
use Rattle.rel_algebra.specs.Handlers.{best}
use Rattle.run_outcomes.specs.Scopes.{Acts, scopes_by}
use Rattle.run_outcomes.proofs.choice.choose.Given as goal

abbrev pub invariant-loop-outer : goal.invariant-loop-outer
invariant-loop-outer l = record {
  within : l.outer ≤ length l.scopes;
  best : (acts : Acts) → best l.state (scopes_by acts (take l.outer l.scopes))
      ≡ best l.state (scopes_by acts l.scopes);
}

abbrev pub decreases-loop-outer : goal.decreases-loop-outer
decreases-loop-outer l = l.outer

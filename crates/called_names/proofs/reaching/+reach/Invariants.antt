use Rattle.std.proofs.Common.{◌≡◌, ◌-◌, drop}
use Rattle.called_names.specs.Called.{held}
use Rattle.called_names.specs.Reached.{in_turn, reach}
use Rattle.called_names.proofs.reaching.+reach.Given as goal

abbrev pub decreases-reach : goal.decreases-reach
decreases-reach l = l.steps

abbrev pub invariant-loop-used : goal.invariant-loop-used
invariant-loop-used l =
    in_turn (reach (l.steps - 1) l.catalog) (drop l.used-index l.uses) (held l.done.items)
    ≡ in_turn (reach (l.steps - 1) l.catalog) l.uses (held l.fn.done.items)

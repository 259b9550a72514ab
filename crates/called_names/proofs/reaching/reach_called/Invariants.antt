use Rattle.std.proofs.Common.{◌≡◌, drop}
use Rattle.called_names.specs.Called.{held}
use Rattle.called_names.specs.Reached.{in_turn, reach}
use Rattle.called_names.proofs.reaching.reach_called.Given as goal

abbrev pub invariant-loop-name : goal.invariant-loop-name
invariant-loop-name l =
    in_turn (reach l.steps l.catalog) (held (drop l.name-index l.names)) (held l.done.items)
    ≡ in_turn (reach l.steps l.catalog) (held l.names) (held l.fn.done.items)

use Rattle.std.proofs.Common.{◌≡◌, drop}
use Rattle.called_names.specs.Called.{held}
use Rattle.called_names.specs.Reached.{is_among}
use Rattle.called_names.proofs.reaching.is_among.Given as goal

abbrev pub invariant-loop-other : goal.invariant-loop-other
invariant-loop-other l =
    is_among l.name (held (drop l.other-index l.names)) ≡ is_among l.name (held l.names)

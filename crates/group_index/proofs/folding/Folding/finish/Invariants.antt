use Rattle.std.proofs.Common.{◌≡◌, map}
use Rattle.group_index.specs.Folded.{finished_group}
use Rattle.group_index.proofs.folding.Folding.finish.Given as goal

abbrev pub invariant-loop-key : goal.invariant-loop-key
invariant-loop-key l = l.ends ≡ map finished_group l.yielded

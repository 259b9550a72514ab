use Rattle.std.proofs.Common.{length}
use Rattle.grammar_algebra.proofs.input.Input.+sees_any.Given as goal

abbrev pub decreases-sees_any : goal.decreases-sees_any
decreases-sees_any l = length l.kinds.now

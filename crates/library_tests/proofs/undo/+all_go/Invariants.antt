use Rattle.std.proofs.Common.{length}
use Rattle.library_tests.proofs.undo.+all_go.Given as goal

abbrev pub decreases-all_go : goal.decreases-all_go
decreases-all_go l = length l.steps.now

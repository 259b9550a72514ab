use Rattle.std.proofs.Common.{arith}
use Rattle.std.proofs.lemmas.Grind.{common_steps}
use Rattle.bind_faults.proofs.Laws.{noted_append}
use Rattle.bind_kinds.proofs.cases.arms.Goals.{in-None, in-Some}
use Rattle.bind_kinds.proofs.cases.arms.Goals as goal

pub loop-head-preserved : goal.loop-head-preserved
loop-head-preserved c = elim c.match-waiting.branch [
  | in-None w ↦ grind (arith, common_steps, noted_append)
  | in-Some w ↦ grind (arith, common_steps, noted_append)
]

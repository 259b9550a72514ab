use Rattle.std.proofs.Common.{◌≡◌, ◌-◌, drop, length}
use Rattle.sql_lex.specs.Scan.{close_end, plus}
use Rattle.sql_lex.proofs.step.close_end.Given as goal

abbrev pub invariant-loop-at : goal.invariant-loop-at
invariant-loop-at l = close_end l.bytes ≡ plus l.at (close_end (drop l.at l.bytes))

abbrev pub decreases-loop-at : goal.decreases-loop-at
decreases-loop-at l = length l.bytes - l.at

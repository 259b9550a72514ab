use Rattle.std.proofs.Common.{◌≡◌, ◌-◌, ◌++◌, List, ℕ, drop, length}
use Rattle.sql_lex.specs.Scan.{unquoted, with_front}
use Rattle.sql_lex.proofs.step.unquoted.Given as goal

-- some bytes of the text are read, and what is left gives the others
abbrev pub invariant-loop-at : goal.invariant-loop-at
invariant-loop-at l =
    (read : List ℕ) × (l.text.items ≡ l.initial.text.items ++ read) ×
    (unquoted l.bytes ≡ with_front read l.at (unquoted (drop l.at l.bytes)))

abbrev pub decreases-loop-at : goal.decreases-loop-at
decreases-loop-at l = length l.bytes - l.at

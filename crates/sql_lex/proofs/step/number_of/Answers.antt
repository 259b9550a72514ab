use Rattle.std.proofs.Common.{sym, arith}
use Rattle.sql_lex.proofs.Scanning.{number_of-past, each_digit_most}
use Rattle.sql_lex.proofs.step.number_of.Goals as goal

pub returns-then-number-digit : goal.returns-then-number-digit
returns-then-number-digit c =
    sym (number_of-past _ _ _ c.loop-b-test.true c.loop-b.invariant.in_range
    (each_digit_most _ c.loop-b.b-index c.requires) (omega arith) c.loop-b.invariant.value)

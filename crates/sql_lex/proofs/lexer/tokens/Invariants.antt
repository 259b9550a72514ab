use Rattle.std.proofs.Common.{◌-◌, length}
use Rattle.sql_lex.proofs.Loop.{SoFar}
use Rattle.sql_lex.proofs.lexer.tokens.Given as goal

abbrev pub invariant-loop-position : goal.invariant-loop-position
invariant-loop-position l = SoFar l.bytes l.list.items l.position

abbrev pub decreases-loop-position : goal.decreases-loop-position
decreases-loop-position l = length l.bytes - l.position.at

use Rattle.std.proofs.Common.{◌≡◌, ◌+◌, ◌≤◌, drop}
use Rattle.sql_lex.specs.Places.{past}
use Rattle.sql_lex.proofs.position.Position.past.Given as goal

-- what is left leads from here to the place where all the bytes lead
abbrev pub invariant-loop-b : goal.invariant-loop-b
invariant-loop-b l = record {
  is : past (drop l.b-index l.bytes) l.position ≡ past l.bytes l.fn.self;
  at : l.position.at ≡ l.fn.self.at + l.b-index;
  line : l.position.line ≤ l.position.at + 1;
  column : l.position.column ≤ l.position.at + 1;
}

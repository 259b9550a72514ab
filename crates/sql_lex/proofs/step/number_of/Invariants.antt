use Rattle.std.proofs.Common.{◌≡◌, ◌+◌, ◌-◌, ◌*◌, ◌≤◌, drop}
use Rattle.std.specs.List.{fold}
use Rattle.sql_lex.specs.Tokens.{digits_value, most_number}
use Rattle.sql_lex.proofs.step.number_of.Given as goal

-- the digits that are left carry on the number so far
abbrev pub invariant-loop-b : goal.invariant-loop-b
invariant-loop-b l = record {
  in_range : l.number ≤ most_number;
  value : fold (λ n b. 10 * n + (b - 48)) l.number (drop l.b-index l.digits) ≡
      digits_value l.digits;
}

-- Worked rows hold by computation.
use Rattle.std.proofs.Common.{refl}
use Rattle.statement_laws.specs.Examples.{StatementsWorked}

pub statements_worked : StatementsWorked
statements_worked = record {
  left_at_once = refl;
  never_left = refl;
  for_rows = refl;
  outer_label = λ go. refl;
  own_label = λ go. refl;
  left_label = λ go. refl;
  not_done = refl;
}

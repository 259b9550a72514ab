use Rattle.sql_values.proofs.Spelling.{integer-read, integer-spelled, truth-read, truth-spelled}
use Rattle.sql_values.proofs.law.reads_what_is_spelled.Goals as goal

pub returns : goal.returns
returns c = record {
  integers = λ s z. (integer-read s z, integer-spelled s z);
  truths = λ s w. (truth-read s w, truth-spelled s w);
}

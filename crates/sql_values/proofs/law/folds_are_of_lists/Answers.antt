use Rattle.sql_values.proofs.Folding.{folds}
use Rattle.sql_values.proofs.law.folds_are_of_lists.Goals as goal

pub returns : goal.returns
returns c = folds

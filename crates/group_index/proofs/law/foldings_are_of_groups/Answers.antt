use Rattle.group_index.proofs.OfGroups.{of_groups}
use Rattle.group_index.proofs.law.foldings_are_of_groups.Goals as goal

pub returns : goal.returns
returns c = of_groups c.folds_are_of_lists.ensures

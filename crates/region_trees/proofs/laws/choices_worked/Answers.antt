use Rattle.std.proofs.Common.{true, false, ◌&&◌, refl}
use Rattle.region_trees.proofs.Worked.{f-planned, g-unplanned}
use Rattle.region_trees.proofs.laws.choices_worked.Goals as goal

pub returns : goal.returns
returns c = record {
  branches = refl;
  one_branch_not = refl;
  otherwise_not = refl;
  searched = refl;
  searched_not = refl;
  simple = λ i. f-planned i && true;
  simple_unplanned = λ i. g-unplanned i && true;
  simple_not = λ i. f-planned i && false;
  branch = λ i. f-planned i && true;
  branch_unplanned = λ i. g-unplanned i && true;
  branch_not = λ i. f-planned i && false;
  handled = refl;
  action_not = refl;
  statement_not = refl;
  default = λ i. (f-planned i && true) && true;
  default_unplanned = λ i. (g-unplanned i && true) && true;
  cursor = λ q. refl;
}

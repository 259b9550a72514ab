use Rattle.std.proofs.Common.{[], ◌∷◌, refl}
use Rattle.bound_trees.specs.declared.statement.BoundStmt.TheVariants as bound
use Rattle.block_plans.specs.Callees.{without_blocks}
use Rattle.region_trees.specs.Examples.{bare, f_weighing}
use Rattle.region_trees.proofs.Worked.{f-in-form, g-not-in-form, loop-not-in-form, block-in-form}
use Rattle.region_trees.proofs.Worked.{block-not-in-form, count-not-in-form}
use Rattle.region_trees.proofs.laws.bodies_worked.Goals as goal

pub returns : goal.returns
returns c = record {
  planned = f-in-form bare;
  unplanned = g-not-in-form;
  loop = loop-not-in-form bare (bound.Leave 0 ∷ []);
  heaviest = f-in-form (without_blocks (f_weighing 4095));
  too_heavy = f-in-form (without_blocks (f_weighing 4096));
  block = block-in-form;
  block_unplanned = block-not-in-form;
  block_count = count-not-in-form;
  function = refl;
  interpreted = refl;
  procedure = refl;
  table = refl;
  itself = refl;
  even = refl;
  ragged = refl;
  first_on = refl;
  second_on = refl;
}

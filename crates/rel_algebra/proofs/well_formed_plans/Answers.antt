use Rattle.rel_algebra.proofs.Fitting.{well_formed_plans}
use Rattle.rel_algebra.proofs.well_formed_plans.Goals as goal

pub returns : goal.returns
returns c = well_formed_plans

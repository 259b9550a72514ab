use Rattle.std.proofs.Common.{refl}
use Rattle.plan_bodies.proofs.blocks_planned.Goals as goal

pub returns : goal.returns
returns c = record { alone = refl; block = refl; known = refl }

use Rattle.std.proofs.Common.{arith}
use Rattle.run_places.proofs.Insides.{further_in}
use Rattle.run_places.proofs.further.inside.Goals as goal

pub returns-in-Some : goal.returns-in-Some
returns-in-Some c = further_in c.args.place.now c.in-Some.level _ _ (omega (arith, c.in-Some.ensures))

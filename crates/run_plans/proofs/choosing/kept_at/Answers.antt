use Rattle.std.proofs.Common.{Some, None}
use Rattle.run_plans.proofs.Chosen.{found_kept}
use Rattle.run_plans.proofs.choosing.kept_at.Goals as goal

pub returns-in-Some-clause-kept : goal.returns-in-Some-clause-kept
returns-in-Some-clause-kept c =
    found_kept c.args.place.now (Some c.in-Some.own) c.find.result c.in-Some.is c.find.ensures.kept

pub returns-in-None-clause-kept : goal.returns-in-None-clause-kept
returns-in-None-clause-kept c =
    found_kept c.args.place.now None c.find-in-None.result c.in-None.is
    c.find-in-None.ensures.kept

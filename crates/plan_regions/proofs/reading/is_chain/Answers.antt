use Rattle.std.proofs.Common.{sym, ◌∙◌}
use Rattle.plan_regions.proofs.Chained.{plan_one}
use Rattle.plan_regions.proofs.reading.is_chain.Goals as goal

pub returns-in-Unit : goal.returns-in-Unit
returns-in-Unit c h w outer =
    plan_one c.args.plan.now c.as_slice.result.now w outer c.in-Unit.is c.as_slice.ensures
    (sym c.all_of_chain.ensures ∙ h)

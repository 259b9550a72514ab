use Rattle.std.proofs.Common.{Bool, subst, sym}
use Rattle.bind_statements.specs.Binds.{BoundFits}
use Rattle.psm_session.proofs.Planned.{by-plans-fit}
use Rattle.psm_session.proofs.effect.is_done_by_plans.Goals as goal

pub returns-clause-fits : goal.returns-clause-fits
returns-clause-fits c catalog fits =
    subst (λ (b : Bool). BoundFits catalog b c.args.stmt.now.bound) (sym c.is_asked_by_plan.ensures)
    (by-plans-fit catalog c.args.mode c.args.stmt.now.by_plan c.args.stmt.now.bound fits)

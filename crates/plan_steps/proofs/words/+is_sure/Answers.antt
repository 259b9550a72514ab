use Rattle.std.proofs.Common.{sym, ap, ◌∙◌}
use Rattle.rel_algebra.specs.BodySteps.{is_sure}
use Rattle.rel_algebra.specs.PlanView.{scalar_of}
use Rattle.plan_steps.proofs.Sure.{chain_sure}
use Rattle.plan_steps.proofs.words.+is_sure.Goals as goal

pub returns-else-is_empty : goal.returns-else-is_empty
returns-else-is_empty t c =
    chain_sure c.in-Chain.first c.in-Chain.links (λ h. let never = c.if-is_empty.ensures.1 h in cc)
    ∙ ap (λ s. is_sure (scalar_of s)) (sym c.in-Chain.is)

use Rattle.std.proofs.Common.{sym, ap, ◌∙◌}
use Rattle.rel_algebra.specs.PlanView.{scalar_of}
use Rattle.plan_drafts.specs.Listing.{place_of}
use Rattle.plan_drafts.proofs.Own.{chain_place}
use Rattle.plan_drafts.proofs.listing.+own_place.Goals as goal

pub returns-else-is_empty : goal.returns-else-is_empty
returns-else-is_empty t c =
    chain_place c.in-Chain.first c.in-Chain.links (λ h. let never = c.if-is_empty.ensures.1 h in cc)
    ∙ ap (λ s. place_of (scalar_of s)) (sym c.in-Chain.is)

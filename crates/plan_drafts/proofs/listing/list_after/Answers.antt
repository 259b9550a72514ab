use Rattle.std.proofs.Common.{◌≡◌, ◌-◌, length, ◌∙◌, arith}
use Rattle.rel_algebra.specs.Joins.{places}
use Rattle.rel_algebra.specs.Plan.{keep}
use Rattle.plan_drafts.proofs.listing.list_after.Goals as goal

pub returns : goal.returns
returns c =
    let many : c.columns.result - c.columns-first.result ≡ length c.args.scalars =
    omega (arith, c.columns.ensures, c.columns-first.ensures, c.in_ok-extend.ensures.width) in
    c.in_ok-keep.ensures.tree ∙
    (λ j. keep ((c.in_ok-places.ensures ∙ (λ i. places (c.columns-first.ensures i) (many i))) j)
    (c.in_ok-extend.ensures.tree j))

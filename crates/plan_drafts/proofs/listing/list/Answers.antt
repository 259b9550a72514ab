use Rattle.std.proofs.Common.{List, sym, ap, ◌∙◌}
use Rattle.rel_algebra.specs.declared.scalar.Scalar.{Scalar as ScalarCode}
use Rattle.rel_algebra.specs.Joins.{places}
use Rattle.rel_algebra.specs.Plan.{keep, extend}
use Rattle.rel_algebra.specs.PlanView.{scalars_of}
use Rattle.rel_algebra.specs.Emit.{own_places}
use Rattle.plan_expressions.specs.Drafts.{drafted}
use Rattle.plan_expressions.proofs.Laws.{scalars-counted}
use Rattle.plan_drafts.proofs.Own.{listed_none}
use Rattle.plan_drafts.proofs.listing.list.Goals as goal

pub returns-in_ok-list_after-in-None : goal.returns-in_ok-list_after-in-None
returns-in_ok-list_after-in-None c =
    let start = drafted c.args.draft.now in
    c.in_ok-list_after-in-None.ensures ∙ ap (λ n. keep (places start.width n)
    (extend (scalars_of c.args.scalars) start.tree)) (sym (scalars-counted c.args.scalars))
    ∙ listed_none (scalars_of c.args.scalars) start.width start.tree
    (sym c.in-None.is ∙ c.in_ok-places.ensures ∙
    ap (λ (ss : List ScalarCode). own_places (scalars_of ss)) c.as_slice.ensures)

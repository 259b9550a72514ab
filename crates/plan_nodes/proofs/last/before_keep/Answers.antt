use Rattle.std.proofs.Common.{◌++◌, List, ap, sym, ◌∙◌}
use Rattle.rel_algebra.specs.declared.plan.Node.{Node}
use Rattle.rel_algebra.specs.Plan.{cells_of, cells_at}
use Rattle.rel_algebra.specs.PlanView.{scalars_of}
use Rattle.plan_scalars.specs.Sights.{sight_of}
use Rattle.plan_nodes.specs.Fates.{Stays, fate, go_on}
use Rattle.plan_nodes.proofs.Picks.{extended_last}
use Rattle.plan_nodes.proofs.last.before_keep.Goals as goal

pub returns-in-Some : goal.returns-in-Some
returns-in-Some c row outer args =
    let ps = c.args.places.now in
    let ss = c.in-Some.scalars.now in
    extended_last c.args.nodes.now ss ps row outer args c.in-Some.ensures
    ∙ ap (λ (ms : List Node). go_on (fate ms row outer args)
    (λ r. Stays (cells_at (r ++ cells_of (scalars_of ss) (sight_of r outer args)) ps)))
    (sym c.without_last.ensures)

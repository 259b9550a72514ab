use Rattle.std.proofs.Common.{List, ap, sym, ◌∙◌}
use Rattle.rel_algebra.specs.declared.plan.Node.{Node}
use Rattle.rel_algebra.specs.PlaceForms.{kept_places}
use Rattle.rel_algebra.specs.Plan.{cells_at}
use Rattle.plan_nodes.specs.Fates.{Stays, fate, go_on}
use Rattle.plan_nodes.proofs.Picks.{kept_last}
use Rattle.plan_nodes.proofs.last.Way.through.Goals as goal

pub returns-in-Some : goal.returns-in-Some
returns-in-Some c row outer args =
    let ps = kept_places c.in-Some.places in
    kept_last c.args.nodes.now ps row outer args c.in-Some.ensures
    ∙ (ap (λ (ms : List Node). go_on (fate ms row outer args) (λ r. Stays (cells_at r ps)))
    (sym c.without_last.ensures)
    ∙ c.with_places.ensures row outer args)

use Rattle.std.proofs.Common.{slice_set, sym, ap, ◌∙◌}
use Rattle.rel_algebra.specs.Plan.{cell_at}
use Rattle.region_steps.proofs.Cells.{set_itself}
use Rattle.region_steps.proofs.keeping.bring.Goals as goal

pub returns-then-from-to : goal.returns-then-from-to
returns-then-from-to c =
    let cells = c.args.cells.now.items in
    sym (ap (λ i. slice_set cells c.args.to (cell_at cells i)) c.if-from-to.true
    ∙ set_itself cells c.args.to)

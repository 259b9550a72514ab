use Rattle.std.proofs.Common.{ap, sym, ◌∙◌, ◌-◌, arith}
use Rattle.std.proofs.lemmas.Result.{IfOk-weaker}
use Rattle.row_types.specs.OuterRows.{outer_rows}
use Rattle.rel_algebra.specs.Plan.{cell_at, cells_of}
use Rattle.rel_algebra.specs.PlanView.{scalars_of}
use Rattle.plan_scalars.specs.Sights.{sight_of}
use Rattle.plan_nodes.proofs.Picks.{cell_following, cell_scalar}
use Rattle.plan_nodes.proofs.last.extended_cell.Goals as goal

pub returns-then-after-scalars : goal.returns-then-after-scalars
returns-then-after-scalars c =
    let s = sight_of c.args.row.now (outer_rows c.args.outer.now) c.args.args.now in
    let ss = c.args.scalars.now in
    let i = c.args.place - c.args.width in
    IfOk-weaker c.eval_on.result _ _
    (λ x h. h ∙
    (sym (cell_scalar ss s i c.index-scalars-after.result
    (omega (arith, c.if-after-scalars.true)) c.index-scalars-after.is)
    ∙ (ap (λ n. cell_at (cells_of (scalars_of ss) s) (c.args.place - n)) c.requires ∙
    sym (cell_following c.args.row.now (cells_of (scalars_of ss) s) c.args.place
    (omega (arith, c.requires, c.if-place-width.false))))))
    c.eval_on.ensures

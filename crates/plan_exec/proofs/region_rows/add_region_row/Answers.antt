use Rattle.std.proofs.Common.{[], ◌∷◌, ◌++◌, map, sym, ap, ◌∙◌}
use Rattle.std.proofs.lemmas.Result.{on_ok_weaker}
use Rattle.row_types.specs.OuterRows.{outer_rows}
use Rattle.row_types.specs.declared.cell.Cell.TheVariants.{Val}
use Rattle.row_types.specs.Cells.{Whole}
use Rattle.plan_nodes.specs.Receiving.{received}
use Rattle.plan_exec.specs.Applying.{opened_row}
use Rattle.plan_exec.proofs.Regions.{poison_region, row_region}
use Rattle.plan_exec.proofs.region_rows.add_region_row.Goals as goal

pub returns-in-Values : goal.returns-in-Values
returns-in-Values c =
    let o = outer_rows c.args.outer.now in
    let cells = c.open_row.new.scratch.cells.items in
    on_ok_weaker c.add_region_values.result
    (row_region c.args.when.now c.args.region.now.steps.items o c.args.args.now c.args.way.now
    c.args.row (map Val c.as_slice.result.now ++ cells) c.args.received.now
    c.add_region_values.new.received
    (ap (λ vs. Whole (map Val vs ++ cells)) c.as_slice.ensures
    ∙ (sym (ap (λ r. opened_row r cells) c.in-Values.is) ∙ c.in_ok-values.ensures)))
    c.add_region_values.ensures

pub returns-in-Poison : goal.returns-in-Poison
returns-in-Poison c =
    let o = outer_rows c.args.outer.now in
    let cells = c.open_row.new.scratch.cells.items in
    on_ok_weaker c.take.result
    (λ h. poison_region c.args.when.now c.args.region.now.steps.items o c.args.args.now
    c.args.way.now c.args.row c.in-Poison.area c.args.received.now c.take.new.self
    (sym (ap (λ r. opened_row r cells) c.in-Poison.is) ∙ c.in_ok-values.ensures)
    (h ∙ ap (λ r. received c.args.received.now (r ∷ [])) c.poisoned.ensures))
    c.take.ensures

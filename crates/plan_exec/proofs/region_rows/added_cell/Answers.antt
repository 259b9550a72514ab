use Rattle.std.proofs.Common.{◌∷◌, ◌++◌, map}
use Rattle.row_types.specs.OuterRows.{outer_rows}
use Rattle.row_types.specs.declared.cell.Cell.TheVariants.{Val}
use Rattle.plan_exec.proofs.Regions.{none_there}
use Rattle.plan_exec.proofs.region_rows.added_cell.Goals as goal

pub returns-in-Some : goal.returns-in-Some
returns-in-Some c =
    let o = outer_rows c.args.outer.now in
    let row = map Val c.args.values.now ++ c.args.cells.now in
    none_there c.args.when.now c.args.region.now.steps.items o c.args.args.now c.of-row.result row
    c.of-row.ensures c.in_ok-eval_on.field-0 c.in_ok-eval_on.ensures c.in-Some.cell
    (c.requires.one (row ∷ o) c.args.args.now) c.in-Some.ensures.some

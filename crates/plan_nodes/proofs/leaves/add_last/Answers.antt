use Rattle.std.proofs.Common.{map, ◌++◌, ap, ◌∙◌}
use Rattle.std.proofs.lemmas.Result.{on_ok_weaker}
use Rattle.row_types.specs.declared.cell.Cell.TheVariants.{Val}
use Rattle.row_types.specs.OuterRows.{outer_rows}
use Rattle.plan_nodes.specs.Ways.{last_cells}
use Rattle.plan_nodes.proofs.Receiving.{folded_values}
use Rattle.plan_nodes.proofs.leaves.add_last.Goals as goal

pub returns-then-branch : goal.returns-then-branch
returns-then-branch c =
    on_ok_weaker c.take.result
    (λ h. folded_values c.args.received.now c.in-Folds.folding c.take.new.self c.as_slice.result.now
    (last_cells c.args.last.now (map Val c.args.front.now ++ c.args.scratch.now.cells.items)
    (outer_rows c.args.outer.now) c.args.args.now)
    c.in-Folds.is (ap (map Val) c.as_slice.ensures.value ∙
    c.in_ok-work_out.ensures.values c.if-branch.true) h)
    c.take.ensures

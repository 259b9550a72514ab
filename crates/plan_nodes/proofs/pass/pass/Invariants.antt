use Rattle.std.proofs.Common.{◌≡◌, ◌++◌, map, drop}
use Rattle.row_types.specs.declared.cell.Cell.TheVariants.{Val}
use Rattle.row_types.specs.OuterRows.{outer_rows}
use Rattle.plan_nodes.specs.Fates.{fate}
use Rattle.plan_nodes.proofs.pass.pass.Given as goal

abbrev pub invariant-loop-node : goal.invariant-loop-node
invariant-loop-node l =
    fate (drop l.node-index l.nodes) (map Val l.front ++ l.scratch.cells.items) (outer_rows l.outer)
    l.args
    ≡ fate l.nodes (map Val l.values ++ l.fn.scratch.cells.items) (outer_rows l.outer) l.args

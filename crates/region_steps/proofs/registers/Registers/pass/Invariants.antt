use Rattle.std.proofs.Common.{◌≡◌, drop}
use Rattle.row_types.specs.OuterRows.{outer_rows}
use Rattle.region_steps.specs.Chains.{chain_cells}
use Rattle.region_steps.proofs.registers.Registers.pass.Given as goal

abbrev pub invariant-loop-node : goal.invariant-loop-node
invariant-loop-node l =
    chain_cells (drop l.node-index l.nodes) l.self.cells.items (outer_rows l.outer) l.args
    ≡ chain_cells l.nodes l.fn.self.cells.items (outer_rows l.outer) l.args

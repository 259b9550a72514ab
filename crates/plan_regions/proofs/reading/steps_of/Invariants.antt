use Rattle.std.proofs.Common.{◌≡◌, List, length}
use Rattle.std.specs.List.{All}
use Rattle.sql_values.specs.declared.value.Value.{Value}
use Rattle.row_types.specs.declared.cell.Cell.{Cell}
use Rattle.region_steps.specs.Chains.{chain_cells}
use Rattle.plan_regions.specs.Regions.{IsSound, steps_cells}
use Rattle.plan_regions.proofs.reading.steps_of.Given as goal

abbrev pub invariant-loop-left : goal.invariant-loop-left
invariant-loop-left l = record {
  sound : All IsSound l.steps.items;
  cells : (row : List Cell) (outer : List (List Cell)) (args : List Value) →
      chain_cells l.left (steps_cells l.steps.items row outer args) outer args
      ≡ chain_cells l.nodes row outer args;
}

abbrev pub decreases-loop-left : goal.decreases-loop-left
decreases-loop-left l = length l.left

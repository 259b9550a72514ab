-- AND and OR after some of their operands. ISO/IEC 9075-2, 6.39 (boolean value expression).
use Rattle.std.specs.Prelude.{List}
use Rattle.three_valued.specs.Truths.{value_of_truth}
use Rattle.row_types.specs.declared.cell.Cell.{Cell}
use Rattle.rel_algebra.specs.Plan.{and_cell, or_cell}
use Rattle.plan_rows.specs.declared.connectives.SoFar.{SoFar}
use Rattle.plan_rows.specs.declared.connectives.SoFar.TheVariants.{Open, Decided}

-- what an AND comes to with the cells of the operands that are left; once it is decided they don't
-- count
abbrev pub and_rest : SoFar → List Cell → Cell
and_rest (Open truth) rest = and_cell (value_of_truth truth) rest
and_rest (Decided cell) rest = cell

-- the same of an OR
abbrev pub or_rest : SoFar → List Cell → Cell
or_rest (Open truth) rest = or_cell (value_of_truth truth) rest
or_rest (Decided cell) rest = cell

-- The cells of a word's operands, by their number.
use Rattle.std.specs.Prelude.{List, [], ◌∷◌}
use Rattle.row_types.specs.declared.cell.Cell.{Cell}
use Rattle.plan_conditions.specs.declared.word.Operands.{Operands}
use Rattle.plan_conditions.specs.declared.word.Operands.TheVariants.{One, Two, Other}

-- one cell, or two, or another number of them
abbrev pub operands_in : List Cell → Operands
operands_in (only ∷ []) = One only
operands_in (first ∷ second ∷ []) = Two first second
operands_in _ = Other

-- Heights of routines. ISO/IEC 9075-4, 9.20 (SQL-invoked function).
use Rattle.std.specs.Prelude.{ℕ, ◌+◌, nat_lt, min, List}
use Rattle.syntax_trees.specs.declared.anchor.Ident.{Ident}
use Rattle.bind_faults.specs.declared.fault.Fault.{Fault}
use Rattle.bind_faults.specs.declared.fault.FaultKind.TheVariants.{TooHigh}
use Rattle.bind_faults.specs.Faults.{fault_if}
use Rattle.bind_rules.specs.declared.heights.TheConstants.{MOST_HEIGHT}

-- one more than the greatest height that is used, within the limit
abbrev pub height_above : ℕ → ℕ
height_above called = min (called + 1) MOST_HEIGHT

-- a routine that is higher than the limit, by the greatest height that it uses
abbrev pub too_high : Ident → ℕ → List Fault
too_high i called = fault_if (nat_lt MOST_HEIGHT (called + 1)) TooHigh i.anchor

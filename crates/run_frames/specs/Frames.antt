-- Frames whose tails are kept aside while an action runs. ISO/IEC 9075-4, 14.2 (handler
-- declaration).
use Rattle.std.specs.Prelude.{ℕ, List, ◌++◌, drop, length}
use Rattle.sql_values.specs.declared.value.Value.{Value}
use Rattle.rel_algebra.specs.World.{Frame, Cursor}
use Rattle.run_frames.specs.declared.extent.Extent.{Extent}

-- variables and cursors that are kept aside
pub record Kept : Type 0 where
  pub variables : List Value
  pub cursors : List Cursor

-- what a frame has after its first so many variables and cursors
abbrev pub kept_of : ℕ → ℕ → Frame → Kept
kept_of n m f = record { variables = drop n f.variables; cursors = drop m f.cursors }

-- the frame, and after its own variables and cursors those that were kept aside
abbrev pub with_kept : Kept → Frame → Frame
with_kept kept f = record f
    { variables = f.variables ++ kept.variables; cursors = f.cursors ++ kept.cursors }

-- how many variables and cursors a frame has
abbrev pub extent_of : Frame → Extent
extent_of f = record { variables = length f.variables; cursors = length f.cursors }

use Rattle.std.proofs.Common.{◌≡◌, ◌≤◌, ◌+◌, ◌++◌, length}
use Rattle.std.specs.List.{flat_map}
use Rattle.row_types.specs.Cells.{value_rows}
use Rattle.reply_text.specs.Texts.{record_text}
use Rattle.reply_text.specs.Writers.{written, IsBetween}
use Rattle.reply_text.proofs.reply.records_text.Given as goal

-- what stands written and what is still to come are all records
abbrev pub invariant-loop-alloc : goal.invariant-loop-alloc
invariant-loop-alloc g l =
    (written l.writer ++ flat_map record_text (value_rows l.rows) ≡ flat_map record_text
    (value_rows l.initial.rows))
    × (l.steps + length l.rows ≤ l.initial.steps + length l.initial.rows) × IsBetween l.writer

abbrev pub decreases-loop-alloc : goal.decreases-loop-alloc
decreases-loop-alloc g l = length l.rows

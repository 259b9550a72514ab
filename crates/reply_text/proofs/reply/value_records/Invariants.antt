use Rattle.std.proofs.Common.{◌≡◌, take}
use Rattle.std.specs.List.{flat_map}
use Rattle.reply_text.specs.Texts.{record_text}
use Rattle.reply_text.specs.Writers.{written, IsBetween}
use Rattle.reply_text.proofs.reply.value_records.Given as goal

-- what stands written are the records of the rows so far
abbrev pub invariant-loop-row : goal.invariant-loop-row
invariant-loop-row l = (written l.writer ≡ flat_map record_text (take l.row-index l.rows)) ×
    IsBetween l.writer

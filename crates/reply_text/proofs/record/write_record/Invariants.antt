use Rattle.std.proofs.Common.{map, take}
use Rattle.reply_text.specs.Texts.{value_text}
use Rattle.reply_text.specs.Writers.{written, IsWithin}
use Rattle.reply_text.proofs.record.write_record.Given as goal

abbrev pub invariant-loop-value : goal.invariant-loop-value
invariant-loop-value l = IsWithin l.writer (written l.initial.writer)
    (map value_text (take l.value-index l.values))

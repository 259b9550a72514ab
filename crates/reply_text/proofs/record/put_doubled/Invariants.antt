use Rattle.std.proofs.Common.{◌≡◌, ◌++◌, drop}
use Rattle.reply_text.specs.Texts.{doubled}
use Rattle.reply_text.proofs.record.put_doubled.Given as goal

abbrev pub invariant-loop-byte : goal.invariant-loop-byte
invariant-loop-byte l = l.text.items ++ doubled (drop l.byte-index l.bytes) ≡
    l.initial.text.items ++ doubled l.bytes

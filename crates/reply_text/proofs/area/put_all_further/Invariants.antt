use Rattle.std.proofs.Common.{◌≡◌, ◌++◌, take}
use Rattle.std.specs.List.{flat_map}
use Rattle.reply_text.specs.Texts.{further_line}
use Rattle.reply_text.proofs.area.put_all_further.Given as goal

abbrev pub invariant-loop-condition : goal.invariant-loop-condition
invariant-loop-condition l = l.text.items ≡ l.initial.text.items ++ flat_map further_line
    (take l.condition-index l.conditions)

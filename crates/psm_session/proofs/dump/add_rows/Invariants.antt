use Rattle.std.proofs.Common.{◌≡◌, ◌++◌, take}
use Rattle.std.specs.List.{flat_map}
use Rattle.reply_text.specs.Texts.{record_text}
use Rattle.psm_session.proofs.dump.add_rows.Given as goal

-- the rows so far are there
abbrev pub invariant-loop-at : goal.invariant-loop-at
invariant-loop-at l = l.dump ≡ l.initial.dump ++ flat_map record_text
    (take l.at l.table.table.rows)

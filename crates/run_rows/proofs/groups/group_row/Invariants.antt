use Rattle.std.proofs.Common.{◌≡◌, drop}
use Rattle.run_rows.specs.GroupRows.{row_of_ends}
use Rattle.run_rows.proofs.groups.group_row.Given as goal

abbrev pub invariant-loop-end : goal.invariant-loop-end
invariant-loop-end l = row_of_ends l.row (drop l.end-index l.group.ends) ≡ row_of_ends l.group.key
    l.group.ends

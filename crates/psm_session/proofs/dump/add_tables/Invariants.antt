use Rattle.std.proofs.Common.{◌≡◌, ◌++◌, take}
use Rattle.psm_session.specs.Dump.{tables_text}
use Rattle.psm_session.proofs.dump.add_tables.Given as goal

-- the tables so far are there
abbrev pub invariant-loop-at : goal.invariant-loop-at
invariant-loop-at l = l.dump ≡ l.initial.dump ++ tables_text (take l.at l.tables.tables)

use Rattle.std.proofs.Common.{◌≡◌, ◌<◌, ◌≤◌, ◌+◌, ◌-◌, length, drop, vec_len, vec_capacity}
use Rattle.std.proofs.Common.{deque_len}
use Rattle.atomic_undo.specs.Changes.{Going}
use Rattle.atomic_undo.proofs.insert.insert_each.Given as goal

abbrev pub invariant-loop-row : goal.invariant-loop-row
invariant-loop-row l = record {
  going : Going l.initial.tables l.tables l.table l.fn.new.items l.stored l.initial.edits.items
      l.edits.items;
  there : l.table < length l.tables.tables;
  rest : l.rest.items ≡ drop l.stored l.fn.new.items;
  left : l.stored + deque_len l.rest ≡ length l.fn.new.items;
  noted : vec_len l.edits + (length l.fn.new.items - l.stored) ≤ vec_capacity l.edits;
}

abbrev pub decreases-loop-row : goal.decreases-loop-row
decreases-loop-row l = deque_len l.rest

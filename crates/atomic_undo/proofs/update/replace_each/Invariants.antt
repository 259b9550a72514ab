use Rattle.std.proofs.Common.{◌≤◌, ◌+◌, vec_len, vec_capacity}
use Rattle.atomic_undo.specs.Changes.{Replacing}
use Rattle.atomic_undo.proofs.update.replace_each.Given as goal

abbrev pub invariant-loop-at : goal.invariant-loop-at
invariant-loop-at l = record {
  going : Replacing l.initial.tables l.tables l.table l.initial.places.items l.initial.new.items
      l.places.items l.new.items l.edits.items;
  noted : vec_len l.edits + vec_len l.places ≤ vec_capacity l.edits;
}

abbrev pub decreases-loop-at : goal.decreases-loop-at
decreases-loop-at l = vec_len l.places

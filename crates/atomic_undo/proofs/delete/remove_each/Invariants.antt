use Rattle.std.proofs.Common.{◌≡◌, ◌+◌, vec_len, vec_capacity}
use Rattle.atomic_undo.specs.Changes.{Going_out}
use Rattle.atomic_undo.proofs.delete.remove_each.Given as goal

abbrev pub invariant-loop-at : goal.invariant-loop-at
invariant-loop-at l = record {
  out : Going_out l.initial.tables l.tables l.table l.fn.places.items l.rest.items
      l.initial.edits.items l.edits.items;
  noted : vec_len l.edits + vec_len l.rest ≡ vec_len l.initial.edits + vec_len l.fn.places;
  capacity : vec_capacity l.edits ≡ vec_capacity l.initial.edits;
}

abbrev pub decreases-loop-at : goal.decreases-loop-at
decreases-loop-at l = vec_len l.rest

use Rattle.std.proofs.Common.{◌≡◌, length, vec_len}
use Rattle.atomic_undo.specs.Changes.{set_all}
use Rattle.run_changes.proofs.any_places.set_rows.Given as goal

abbrev pub invariant-loop-at : goal.invariant-loop-at
invariant-loop-at l = record {
  rows : set_all l.places.items l.new.items l.rows.items ≡ set_all l.initial.places.items
      l.initial.new.items l.initial.rows.items;
  both : length l.places.items ≡ length l.new.items;
}

abbrev pub decreases-loop-at : goal.decreases-loop-at
decreases-loop-at l = vec_len l.places

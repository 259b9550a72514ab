-- A function's own plan, merged into a call: its columns are moved after those of the calling row,
-- and its arguments are read in the columns that have them. The result is what the emitter makes of
-- the call's body.
use Rattle.std.specs.Prelude.{◌≡◌, ℕ, ◌+◌, List}
use Rattle.rel_algebra.specs.Emit.{emit_body, passed, top}
use Rattle.rel_algebra.specs.Tree.{Routine}
pub use Rattle.rel_algebra.specs.MovedPlans.{Move, moved_index, moved_scalar, moved_scalars}
pub use Rattle.rel_algebra.specs.MovedPlans.{moved_lists, moved_kind, moved_keys, moved_way}
pub use Rattle.rel_algebra.specs.MovedPlans.{moved_tree, moved_nodes, moved, after_arguments}

-- the emission of a body in a call is the one that the function has by itself, moved
abbrev pub MergedPlans : Type 0
MergedPlans = (r : Routine) (S : List ℕ → ℕ) (m k : ℕ) → emit_body r S (passed m k) (m + k)
    ≡ moved (after_arguments m k) 0 (emit_body r S (top k) 0)

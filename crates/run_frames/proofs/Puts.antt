-- Values that are stored into targets.
use Rattle.std.proofs.Common.{◌≡◌, List, [], ◌∷◌, map, refl}
use Rattle.bound_trees.specs.declared.statement.BoundTarget.{BoundTarget}
use Rattle.sql_values.specs.declared.value.Value.{Value}
use Rattle.rel_algebra.specs.World.{Frame}
use Rattle.rel_algebra.specs.Doing.{put_in}
use Rattle.routine_views.specs.Views.{target}

-- without a value nothing is stored
pub put_none : (ts : List BoundTarget) (vs : List Value) (f : Frame) → vs ≡ [] →
    put_in (map target ts) vs f ≡ f
put_none [] vs f h = refl
put_none (t ∷ ts) [] f h = refl
put_none (t ∷ ts) (v ∷ vs) f h = cc

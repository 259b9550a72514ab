use Rattle.std.proofs.Common.{[], ◌∷◌, codes}
use Rattle.viewing_laws.specs.Examples.{table}
use Rattle.typing_calls.specs.Examples.{nothing, only_p, over, with_f, with_g}
use Rattle.typing_calls.proofs.Worked.{g-typed, p-typed, sees_g, sees_p}
use Rattle.typing_calls.proofs.calling.bodies_typed.Goals as goal

pub returns : goal.returns
returns c = record {
  g = record { around = over nothing with_f; sees = sees_g with_f; typed = g-typed with_f };
  p = record { around = over only_p with_g; sees = sees_p with_g; typed = p-typed with_g };
  without = g-typed (table (codes "T") ∷ []);
}

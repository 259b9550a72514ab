use Rattle.std.proofs.Common.{refl}
use Rattle.regions.proofs.sizes_worked.Goals as goal

pub returns : goal.returns
returns c = record {
  none = record { has_nodes = refl; has_scalars = refl };
  one = record { has_nodes = refl; has_scalars = refl };
  two = record { has_nodes = refl; has_scalars = refl };
  one_exit = record { has_nodes = refl; has_scalars = refl };
  two_exit = record { has_nodes = refl; has_scalars = refl };
  one_continue = record { has_nodes = refl; has_scalars = refl };
  two_continue = record { has_nodes = refl; has_scalars = refl };
  one_by_two = record { has_nodes = refl; has_scalars = refl };
  two_by_two = record { has_nodes = refl; has_scalars = refl };
  one_within = record { has_nodes = refl; has_scalars = refl };
  two_within = record { has_nodes = refl; has_scalars = refl };
}

use Rattle.std.proofs.Common.{refl}
use Rattle.catalog_store.proofs.names.grouped_or_not.Goals as goal

pub returns : goal.returns
returns c = record { grouped = refl; plain = refl }

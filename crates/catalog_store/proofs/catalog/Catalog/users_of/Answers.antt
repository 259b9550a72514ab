use Rattle.std.proofs.Common.{[], ap, arith}
use Rattle.catalog_store.specs.Catalog.{Catalog}
use Rattle.catalog_store.specs.Holding.{held}
use Rattle.catalog_store.specs.Users.{users_of}
use Rattle.catalog_store.proofs.Dropped.{users-with_all}
use Rattle.catalog_store.proofs.catalog.Catalog.users_of.Goals as goal

pub returns : goal.returns
returns c = omega (
  arith,
  c.users_of.ensures,
  users-with_all c.args.name.now [] (held c.self.inside.entries),
  ap (λ (k : Catalog). users_of c.args.name.now k) c.self.view_is,
)

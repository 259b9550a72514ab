use Rattle.std.proofs.Common.{◌∙◌}
use Rattle.catalog_store.specs.Holding.{held}
use Rattle.catalog_store.proofs.Counting.{users_counted}
use Rattle.catalog_store.proofs.numbered.Entries.users_of.Goals as goal

pub returns : goal.returns
returns c =
    c.users_of.ensures.value
    ∙ users_counted c.args.name.now c.args.self.now.users.entries (held c.args.self.now)
    c.users_of.ensures.distinct c.requires.climb.distinct (c.requires.used c.args.name.now)

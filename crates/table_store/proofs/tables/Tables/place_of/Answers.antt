use Rattle.std.proofs.Common.{ap, ◌∙◌}
use Rattle.row_types.specs.Tables.{place_named}
use Rattle.table_store.specs.Memory.{Memory}
use Rattle.table_store.proofs.Named.{place_there, distinct_there}
use Rattle.table_store.proofs.tables.Tables.place_of.Goals as goal

pub returns-clause-place : goal.returns-clause-place
returns-clause-place c = c.get_index_of.ensures.index ∙
    place_there c.args.name.now c.self.inside.entries.entries ∙
    ap (λ (m : Memory). place_named c.args.name.now m.tables) c.self.view_is

pub returns-clause-names : goal.returns-clause-names
returns-clause-names c = distinct_there c.self.inside.entries.entries c.args.self.now c.self.view_is
    c.get_index_of.ensures.unique

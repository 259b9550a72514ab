use Rattle.std.proofs.Common.{ap, ◌∙◌, option_map}
use Rattle.row_types.specs.Tables.{place_named, table_named}
use Rattle.table_store.specs.Memory.{Memory, kept_at, table_of}
use Rattle.table_store.proofs.Named.{kept_there, table_there}
use Rattle.table_store.proofs.tables.Tables.table.Goals as goal

pub returns-clause-kept : goal.returns-clause-kept
returns-clause-kept c =
    c.get.ensures.value ∙ kept_there c.args.name.now c.self.inside.entries.entries ∙
    ap (λ (m : Memory). option_map (kept_at m) (place_named c.args.name.now m.tables))
    c.self.view_is

pub returns-clause-table : goal.returns-clause-table
returns-clause-table c =
    ap (option_map table_of) c.get.ensures.value ∙
    table_there c.args.name.now c.self.inside.entries.entries ∙
    ap (λ (m : Memory). table_named c.args.name.now m.tables) c.self.view_is

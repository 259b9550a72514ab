use Rattle.std.proofs.Common.{ap, ◌∙◌, map, subst, sym}
use Rattle.std.specs.Str.{bytes_eq}
use Rattle.indexmap.proofs.CallerLemmas.{insert_entry-new}
use Rattle.row_types.specs.Tables.{table_named}
use Rattle.table_store.specs.Memory.{Memory, memory_of, stored_of, with_one_more, AllWellKept}
use Rattle.table_store.proofs.Named.{free_there, memory-push}
use Rattle.table_store.proofs.WellKept.{AllWellKept-push}
use Rattle.table_store.proofs.tables.Tables.add_table.Goals as goal

pub returns-clause-ok : goal.returns-clause-ok
returns-clause-ok c =
    let ns = c.self.inside.entries.entries in
    let free = free_there c.args.name ns (ap (λ (m : Memory). table_named c.args.name m.tables)
    c.self.view_is ∙ c.requires) in
    ap memory_of (c.in_ok-insert.ensures.entries ∙
    insert_entry-new bytes_eq c.self.inside.entries c.args.name c.args.table free)
    ∙ memory-push ns c.args.name c.args.table ∙
    ap (λ (m : Memory). with_one_more m c.args.name c.args.table) c.self.view_is

pub invariant_of-self-2 : goal.invariant_of-self-2
invariant_of-self-2 c =
    let ns = c.self.inside.entries.entries in
    let free = free_there c.args.name ns (ap (λ (m : Memory). table_named c.args.name m.tables)
    c.self.view_is ∙ c.requires) in
    let more = ap memory_of (c.in_ok-insert.ensures.entries ∙
    insert_entry-new bytes_eq c.self.inside.entries c.args.name c.args.table free) ∙
    memory-push ns c.args.name c.args.table in
    subst (λ (m : Memory). AllWellKept m.tables) (sym more)
    (AllWellKept-push (map stored_of ns) record { name = c.args.name; table = c.args.table.table }
    c.self.invariant c.len-rows.ensures.kept.rows)

use Rattle.std.proofs.Common.{Some, sym, ap, ◌∙◌, map, subst}
use Rattle.row_types.specs.Tables.{place_named}
use Rattle.table_store.specs.Memory.{Memory, memory_of, stored_of, without_place, AllWellKept}
use Rattle.row_types.proofs.Laws.{without_table_named-none, without_table_named-at}
use Rattle.table_store.proofs.Named.{place_there, memory-remove}
use Rattle.table_store.proofs.WellKept.{AllWellKept-remove}
use Rattle.table_store.proofs.tables.Tables.drop_table.Goals as goal

pub returns-in_default-clause-memory : goal.returns-in_default-clause-memory
returns-in_default-clause-memory c =
    let none = c.in_default.ensures.index ∙ place_there c.args.name.now
    c.self.inside.entries.entries ∙ ap (λ (m : Memory). place_named c.args.name.now m.tables)
    c.self.view_is in
    ap (λ p. without_place p c.args.self.now) none

pub returns-in_default-clause-tables : goal.returns-in_default-clause-tables
returns-in_default-clause-tables c =
    let none = c.in_default.ensures.index ∙ place_there c.args.name.now
    c.self.inside.entries.entries ∙ ap (λ (m : Memory). place_named c.args.name.now m.tables)
    c.self.view_is in
    sym (without_table_named-none c.args.name.now c.args.self.now.tables (sym none))

pub returns-clause-memory : goal.returns-clause-memory
returns-clause-memory c =
    let ns = c.self.inside.entries.entries in
    let there = c.in-Some.ensures.index ∙ place_there c.args.name.now ns ∙
    ap (λ (m : Memory). place_named c.args.name.now m.tables) c.self.view_is in
    ap memory_of c.shift_remove_index-table.ensures.entries ∙ memory-remove ns c.in-Some.at
    ∙ ap (without_place (Some c.in-Some.at)) c.self.view_is ∙
    ap (λ p. without_place p c.args.self.now) there

pub returns-clause-tables : goal.returns-clause-tables
returns-clause-tables c =
    let ns = c.self.inside.entries.entries in
    let there = c.in-Some.ensures.index ∙ place_there c.args.name.now ns ∙
    ap (λ (m : Memory). place_named c.args.name.now m.tables) c.self.view_is in
    let gone = ap memory_of c.shift_remove_index-table.ensures.entries ∙
    memory-remove ns c.in-Some.at ∙ ap (without_place (Some c.in-Some.at)) c.self.view_is in
    ap (λ (m : Memory). m.tables) gone ∙ sym (without_table_named-at c.args.name.now
    c.args.self.now.tables c.in-Some.at (sym there))

pub invariant_of-self : goal.invariant_of-self
invariant_of-self c =
    let ns = c.self.inside.entries.entries in
    let gone = ap memory_of c.shift_remove_index-table.ensures.entries ∙
    memory-remove ns c.in-Some.at in
    subst (λ (m : Memory). AllWellKept m.tables) (sym gone)
    (AllWellKept-remove (map stored_of ns) c.in-Some.at c.self.invariant)

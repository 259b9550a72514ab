use Rattle.std.proofs.Common.{List, sym, ap, ◌∙◌, subst}
use Rattle.std.specs.List.{list_all}
use Rattle.row_types.specs.Rows.{fits}
use Rattle.row_types.specs.Tables.{Table}
use Rattle.table_store.specs.Memory.{kept_at}
use Rattle.atomic_undo.specs.declared.log.Edit.{Edit}
use Rattle.atomic_undo.specs.Undo.{CanUndo}
use Rattle.atomic_undo.proofs.Rekeyed.{found_alone, alone_table}
use Rattle.atomic_undo.proofs.rekey.find_repeat.Goals as goal

pub insert_each-place-requires-clause-fit : goal.insert_each-place-requires-clause-fit
insert_each-place-requires-clause-fit c = ap (λ (x : Table). list_all (fits x.columns x.key)
    c.args.rows.items) (alone_table c.reserve.new.self.tables c.new-alone.result
    c.add_table.new.self c.in_ok-name.name c.new.result c.in_ok-columns.columns
    c.args.table.now.table.columns c.in_ok-key.key c.args.table.now.table.key c.new-alone.ensures
    c.in_ok-add_table.ensures.ok c.in_ok-reserve.ensures.tables c.new.ensures
    (c.in_ok-columns.ensures ∙ c.columns.ensures) (c.in_ok-key.ensures ∙ c.key.ensures.value)) ∙
    c.requires

pub insert_each-place-requires-clause-can : goal.insert_each-place-requires-clause-can
insert_each-place-requires-clause-can c = subst
    (λ (es : List Edit). CanUndo (kept_at c.reserve.new.self 0) es)
    (sym c.in_ok-edits.ensures.items) tt

pub returns : goal.returns
returns c =
    let t = (alone_table c.reserve.new.self.tables c.new-alone.result c.add_table.new.self
    c.in_ok-name.name c.new.result c.in_ok-columns.columns c.args.table.now.table.columns
    c.in_ok-key.key c.args.table.now.table.key c.new-alone.ensures c.in_ok-add_table.ensures.ok
    c.in_ok-reserve.ensures.tables c.new.ensures (c.in_ok-columns.ensures ∙ c.columns.ensures)
    (c.in_ok-key.ensures ∙ c.key.ensures.value)) in
    found_alone c.reserve.new.self c.insert_each-place.new.tables c.args.rows.items
    c.in_ok-edits.edits.items c.insert_each-place.new.edits.items c.args.table.now.table.key
    c.insert_each-place.result
    (ap (λ (x : Table). x.rows) t) (ap (λ (x : Table). x.key) t) c.insert_each-place.ensures

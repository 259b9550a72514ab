use Rattle.std.proofs.Common.{rules, ◌<◌, length, Some, None, Ok, Err, subst, sym}
use Rattle.table_store.specs.Memory.{Memory}
use Rattle.row_types.proofs.Laws.{place_named-within}
use Rattle.run_rows.proofs.Stored.{no_table_stores, rows_stop, stores, change_stops}
use Rattle.run_rows.proofs.Stored.{place_there, fit_there}
use Rattle.run_rows.proofs.storing.store.Goals as goal

pub returns-in_default : goal.returns-in_default
returns-in_default c =
    no_table_stores c.args.world.now c.args.table.now c.args.new.items
    (place_there c.args.table.now None c.tables.result.now c.args.world.now.memory
    c.in_default.ensures.place c.tables.ensures)

pub table_at-requires : goal.table_at-requires
table_at-requires c =
    let m = c.args.world.now.memory in
    subst (λ (x : Memory). c.in-Some.place < length x.tables) (sym c.tables-2.ensures)
    (place_named-within c.args.table.now m.tables c.in-Some.place
    (place_there c.args.table.now (Some c.in-Some.place) c.tables.result.now m
    c.in-Some.ensures.place c.tables.ensures))

pub returns-in_err-rows : goal.returns-in_err-rows
returns-in_err-rows c =
    let m = c.args.world.now.memory in
    rows_stop c.args.world.now c.args.table.now c.in-Some.place c.args.new.items
    c.in_err-rows.field-0.0 c.from_residual.result
    (place_there c.args.table.now (Some c.in-Some.place) c.tables.result.now m
    c.in-Some.ensures.place c.tables.ensures)
    (fit_there c.in-Some.place c.table_at.result.now c.tables-2.result.now m
    (Err c.in_err-rows.field-0.0) c.args.new.items c.table_at.ensures c.tables-2.ensures
    c.in_err-rows.ensures.tells)
    (search rules)

pub change-requires-clause-there : goal.change-requires-clause-there
change-requires-clause-there c =
    let m = c.args.world.now.memory in
    place_named-within c.args.table.now m.tables c.in-Some.place
    (place_there c.args.table.now (Some c.in-Some.place) c.tables.result.now m
    c.in-Some.ensures.place c.tables.ensures)

pub returns-in_err-change : goal.returns-in_err-change
returns-in_err-change c =
    let m = c.args.world.now.memory in
    change_stops c.args.world.now c.change.new.self c.args.table.now c.in-Some.place
    c.args.new.items c.in_ok-rows.rows c.in_err-change.field-0.0
    c.from_residual-in_err-change.result
    (place_there c.args.table.now (Some c.in-Some.place) c.tables.result.now m
    c.in-Some.ensures.place c.tables.ensures)
    (fit_there c.in-Some.place c.table_at.result.now c.tables-2.result.now m
    (Ok c.in_ok-rows.rows.items) c.args.new.items c.table_at.ensures c.tables-2.ensures
    c.in_ok-rows.ensures.tells)
    c.in_err-change.ensures.answer c.in_err-change.ensures.marks c.in_err-change.ensures.turns
    c.in_err-change.ensures.active (search rules)

pub returns : goal.returns
returns c =
    let m = c.args.world.now.memory in
    stores c.args.world.now c.change.new.self c.args.table.now c.in-Some.place c.args.new.items
    c.in_ok-rows.rows.items
    (place_there c.args.table.now (Some c.in-Some.place) c.tables.result.now m
    c.in-Some.ensures.place c.tables.ensures)
    (fit_there c.in-Some.place c.table_at.result.now c.tables-2.result.now m
    (Ok c.in_ok-rows.rows.items) c.args.new.items c.table_at.ensures c.tables-2.ensures
    c.in_ok-rows.ensures.tells)
    c.in_ok-change.ensures.answer.1 c.in_ok-change.ensures.answer.2 c.in_ok-change.ensures.marks
    c.in_ok-change.ensures.turns c.in_ok-change.ensures.active

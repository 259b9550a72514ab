use Rattle.std.proofs.Common.{rules, ◌<◌, length, map, Some, None, Ok, Err, subst, sym}
use Rattle.table_store.specs.Memory.{Memory}
use Rattle.data_change.specs.Writing.{spread}
use Rattle.run_changes.proofs.Keeping.{place_there, there_within, tells_there, no_table_stores}
use Rattle.run_changes.proofs.Keeping.{store_stops, stores}
use Rattle.run_changes.proofs.store.store.Goals as goal

pub returns-in_default : goal.returns-in_default
returns-in_default c =
    no_table_stores c.args.world.now c.args.table.now c.args.listed.now c.args.new.items
    (place_there c.args.table.now None c.tables.result.now c.args.world.now.memory
    c.in_default.ensures.place c.tables.ensures)

pub table_at-stored-requires : goal.table_at-stored-requires
table_at-stored-requires c =
    let m = c.args.world.now.memory in
    subst (λ (x : Memory). c.in-Some.place < length x.tables) (sym c.tables-2.ensures)
    (there_within c.args.table.now c.in-Some.place m.tables
    (place_there c.args.table.now (Some c.in-Some.place) c.tables.result.now m
    c.in-Some.ensures.place c.tables.ensures))

pub returns-in_err-rows : goal.returns-in_err-rows
returns-in_err-rows c =
    let m = c.args.world.now.memory in
    store_stops c.args.world.now c.args.table.now c.args.listed.now c.args.new.items c.in-Some.place
    (place_there c.args.table.now (Some c.in-Some.place) c.tables.result.now m
    c.in-Some.ensures.place c.tables.ensures)
    c.in_err-rows.field-0.0 c.from_residual-in_err-rows.result
    (tells_there c.in-Some.place c.table_at-stored.result.now c.tables-2.result.now m
    (λ t. map (spread (Some c.args.listed.now) t) c.args.new.items)
    (Err c.in_err-rows.field-0.0)
    c.in_ok-spread.spread.items c.table_at-stored.ensures c.tables-2.ensures c.in_ok-spread.ensures
    c.in_err-rows.ensures.tells)
    (search rules)

pub make-requires-clause-there : goal.make-requires-clause-there
make-requires-clause-there c =
    let m = c.args.world.now.memory in
    there_within c.args.table.now c.in-Some.place m.tables
    (place_there c.args.table.now (Some c.in-Some.place) c.tables.result.now m
    c.in-Some.ensures.place c.tables.ensures)

pub returns : goal.returns
returns c =
    let m = c.args.world.now.memory in
    stores c.args.world.now c.args.table.now c.args.listed.now c.args.new.items c.in-Some.place
    (place_there c.args.table.now (Some c.in-Some.place) c.tables.result.now m
    c.in-Some.ensures.place c.tables.ensures)
    c.make.new.world c.in_ok-rows.rows c.make.result
    (tells_there c.in-Some.place c.table_at-stored.result.now c.tables-2.result.now m
    (λ t. map (spread (Some c.args.listed.now) t) c.args.new.items) (Ok c.in_ok-rows.rows.items)
    c.in_ok-spread.spread.items c.table_at-stored.ensures c.tables-2.ensures c.in_ok-spread.ensures
    c.in_ok-rows.ensures.tells)
    c.make.ensures

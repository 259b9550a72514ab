use Rattle.std.proofs.Common.{rules, ◌<◌, List, length, map, Some, None, Ok, Err, subst, sym, ◌∙◌}
use Rattle.std.proofs.Common.{ap}
use Rattle.table_store.specs.Memory.{Memory}
use Rattle.row_types.specs.Rows.{Row}
use Rattle.row_types.specs.Tables.{table_at}
use Rattle.data_change.specs.Writing.{changed_row}
use Rattle.run_changes.proofs.Keeping.{place_there, there_within, tells_there, places_there}
use Rattle.run_changes.proofs.Keeping.{fit_there, places_many, no_table_changes}
use Rattle.run_changes.proofs.Keeping.{change_stops, changes}
use Rattle.run_changes.proofs.change.change.Goals as goal

pub returns-in_default : goal.returns-in_default
returns-in_default c =
    no_table_changes c.args.world.now c.args.table.now c.args.targets.now c.args.met.items
    (place_there c.args.table.now None c.tables.result.now c.args.world.now.memory
    c.in_default.ensures.place c.tables.ensures)

pub table_at-stored-requires : goal.table_at-stored-requires
table_at-stored-requires c =
    let m = c.args.world.now.memory in
    subst (λ (x : Memory). c.in-Some.place < length x.tables) (sym c.tables-2.ensures)
    (there_within c.args.table.now c.in-Some.place m.tables
    (place_there c.args.table.now (Some c.in-Some.place) c.tables.result.now m
    c.in-Some.ensures.place c.tables.ensures))

pub returns-in_err-rows : goal.returns-in_err-rows
returns-in_err-rows c =
    let m = c.args.world.now.memory in
    change_stops c.args.world.now c.args.table.now c.args.targets.now c.args.met.items
    c.in-Some.place
    (place_there c.args.table.now (Some c.in-Some.place) c.tables.result.now m
    c.in-Some.ensures.place c.tables.ensures)
    c.in_err-rows.field-0.0 c.from_residual-in_err-rows.result
    (tells_there c.in-Some.place c.table_at-stored.result.now c.tables-2.result.now m
    (λ t. map (changed_row c.args.targets.now t) c.args.met.items) (Err c.in_err-rows.field-0.0)
    c.in_ok-changed.changed.items c.table_at-stored.ensures c.tables-2.ensures
    c.in_ok-changed.ensures c.in_err-rows.ensures.tells)
    (search rules)

pub change_at-requires-clause-there : goal.change_at-requires-clause-there
change_at-requires-clause-there c =
    let m = c.args.world.now.memory in
    there_within c.args.table.now c.in-Some.place m.tables
    (place_there c.args.table.now (Some c.in-Some.place) c.tables.result.now m
    c.in-Some.ensures.place c.tables.ensures)

pub change_at-requires-clause-both : goal.change_at-requires-clause-both
change_at-requires-clause-both c =
    let m = c.args.world.now.memory in
    places_many c.in_ok-places.places.items c.args.met.items (table_at m.tables c.in-Some.place)
    (changed_row c.args.targets.now c.table_at-stored.result.now.table) c.in_ok-rows.rows.items
    (places_there c.in-Some.place c.table_at-stored.result.now c.tables-2.result.now m
    c.deref.result.now c.args.met.items c.in_ok-places.places.items c.table_at-stored.ensures
    c.tables-2.ensures c.deref.ensures.value c.in_ok-places.ensures)
    (c.in_ok-rows.ensures.many ∙ ap (λ (rows : List Row). length rows) c.in_ok-changed.ensures)

pub change_at-requires-clause-fit : goal.change_at-requires-clause-fit
change_at-requires-clause-fit c =
    fit_there c.in-Some.place c.table_at-stored.result.now c.tables-2.result.now
    c.args.world.now.memory c.in_ok-rows.rows.items c.table_at-stored.ensures c.tables-2.ensures
    c.in_ok-rows.ensures.fit

pub returns : goal.returns
returns c =
    let m = c.args.world.now.memory in
    changes c.args.world.now c.args.table.now c.args.targets.now c.args.met.items c.in-Some.place
    (place_there c.args.table.now (Some c.in-Some.place) c.tables.result.now m
    c.in-Some.ensures.place c.tables.ensures)
    c.change_at.new.world c.in_ok-places.places c.in_ok-rows.rows c.change_at.result
    (places_there c.in-Some.place c.table_at-stored.result.now c.tables-2.result.now m
    c.deref.result.now c.args.met.items c.in_ok-places.places.items
    c.table_at-stored.ensures c.tables-2.ensures c.deref.ensures.value c.in_ok-places.ensures)
    (tells_there c.in-Some.place c.table_at-stored.result.now c.tables-2.result.now m
    (λ t. map (changed_row c.args.targets.now t) c.args.met.items) (Ok c.in_ok-rows.rows.items)
    c.in_ok-changed.changed.items c.table_at-stored.ensures c.tables-2.ensures
    c.in_ok-changed.ensures c.in_ok-rows.ensures.tells)
    c.change_at.ensures

use Rattle.std.proofs.Common.{◌<◌, length, Some, None, refl, subst, sym}
use Rattle.table_store.specs.Memory.{Memory}
use Rattle.run_changes.proofs.Keeping.{place_there, there_within, places_there}
use Rattle.run_changes.proofs.Keeping.{no_table_removes, removes}
use Rattle.run_changes.proofs.remove.remove.Goals as goal

pub returns-in_default : goal.returns-in_default
returns-in_default c =
    no_table_removes c.args.world.now c.args.table.now c.args.met.now
    (place_there c.args.table.now None c.tables.result.now c.args.world.now.memory
    c.in_default.ensures.place c.tables.ensures)

pub table_at-requires : goal.table_at-requires
table_at-requires c =
    let m = c.args.world.now.memory in
    subst (λ (x : Memory). c.in-Some.place < length x.tables) (sym c.tables-2.ensures)
    (there_within c.args.table.now c.in-Some.place m.tables
    (place_there c.args.table.now (Some c.in-Some.place) c.tables.result.now m
    c.in-Some.ensures.place c.tables.ensures))

pub remove_at-requires : goal.remove_at-requires
remove_at-requires c =
    let m = c.args.world.now.memory in
    record {
      there = there_within c.args.table.now c.in-Some.place m.tables
          (place_there c.args.table.now (Some c.in-Some.place) c.tables.result.now m
          c.in-Some.ensures.place c.tables.ensures);
    }

pub returns : goal.returns
returns c =
    let m = c.args.world.now.memory in
    removes c.args.world.now c.args.table.now c.args.met.now c.remove_at.new.world c.in-Some.place
    c.in_ok-places.places.items c.remove_at.result
    (place_there c.args.table.now (Some c.in-Some.place) c.tables.result.now m
    c.in-Some.ensures.place c.tables.ensures)
    (places_there c.in-Some.place c.table_at.result.now c.tables-2.result.now m c.args.met.now
    c.args.met.now c.in_ok-places.places.items c.table_at.ensures c.tables-2.ensures refl
    c.in_ok-places.ensures)
    c.remove_at.ensures

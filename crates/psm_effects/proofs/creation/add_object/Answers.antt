-- A table of a free name is added, with its entry; or taken back.
use Rattle.catalog_store.specs.Entries.{entry_of}
use Rattle.psm_effects.specs.Conclusions.{database}
use Rattle.psm_effects.proofs.Creating.{free_of_table, as_before, whole_either}
use Rattle.psm_effects.proofs.creation.add_object.Goals as goal

pub add_table-requires-clause-free : goal.add_table-requires-clause-free
add_table-requires-clause-free c = free_of_table c.args.name
    (database c.args.catalog.now c.args.tables.now) c.requires.whole c.requires.free

pub returns-clause-err : goal.returns-clause-err
returns-clause-err c =
    let before = database c.args.catalog.now c.args.tables.now in
    as_before c.add_entry.result (entry_of c.args.catalog.now c.args.name c.args.object) before
    c.add_entry.new.catalog c.add_table.new.tables c.add_entry.new.tables
    (free_of_table c.args.name before c.requires.whole c.requires.free)
    c.in_ok-add_table.ensures.ok c.add_entry.ensures.err

pub returns-clause-whole : goal.returns-clause-whole
returns-clause-whole c =
    let before = database c.args.catalog.now c.args.tables.now in
    whole_either c.add_entry.result (entry_of c.args.catalog.now c.args.name c.args.object) before
    c.add_entry.new.catalog c.add_table.new.tables c.add_entry.new.tables
    c.add_entry.ensures.added c.add_entry.ensures.stays c.in_ok-add_table.ensures.ok
    (returns-clause-err c) c.requires.whole

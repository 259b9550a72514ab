use Rattle.run_changes.proofs.Setting.{is_whole, sets_whole}
use Rattle.run_changes.proofs.any_places.whole_update.Goals as goal

pub returns-clause-whole : goal.returns-clause-whole
returns-clause-whole c =
    is_whole c.args.table.now.table c.args.places.items c.in_ok-all.all.items c.args.new.items
    c.in_ok-rows.rows.items c.set_rows.new.rows.items c.len-count.result c.len-count.ensures.value
    c.in_ok-all.ensures c.in_ok-rows.ensures c.set_rows.ensures c.requires.fit
    c.len-count.ensures.kept.rows

pub returns-clause-rows : goal.returns-clause-rows
returns-clause-rows c =
    sets_whole c.args.table.now.table c.args.places.items c.in_ok-all.all.items c.args.new.items
    c.in_ok-rows.rows.items c.set_rows.new.rows.items c.len-count.result c.len-count.ensures.value
    c.in_ok-all.ensures c.in_ok-rows.ensures c.set_rows.ensures

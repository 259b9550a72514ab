use Rattle.run_changes.proofs.Keeping.{without_list}
use Rattle.run_changes.proofs.store.store_counted.Goals as goal

pub returns-in-None : goal.returns-in-None
returns-in-None c =
    without_list c.args.world.now c.store_counted.new.world c.args.table.now c.args.listed.now
    c.args.new.items c.store_counted.result c.in-None.is c.store_counted.ensures

use Rattle.std.proofs.Common.{subst}
use Rattle.table_store.specs.Memory.{Memory, AllWellKept}
use Rattle.run_changes.proofs.Removing.{taken_out}
use Rattle.run_changes.proofs.any_places.remove_climbing.Goals as goal

pub returns : goal.returns
returns c =
    taken_out c.args.world.now c.make.new.world c.args.place c.args.places c.make.result
    (subst (λ (m : Memory). AllWellKept m.tables) c.tables.ensures c.len-rows.ensures.rows)
    c.make.ensures

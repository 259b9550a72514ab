use Rattle.table_store.proofs.WellKept.{well_kept-either}
use Rattle.table_store.proofs.table.Table.remove_all.Goals as goal

pub invariant_of-self : goal.invariant_of-self
invariant_of-self c = (
  c.self.invariant.0,
  well_kept-either c.remove_all.result c.self.inside.row_type.columns c.self.inside.row_type.key
      c.args.places.now c.self.inside.stored.rows c.remove_all.new.self.rows
      c.remove_all.ensures.rows c.remove_all.ensures.unchanged
      c.self.invariant.1,
)

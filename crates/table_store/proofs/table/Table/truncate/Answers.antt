use Rattle.std.proofs.Common.{subst, IsTrue, sym, List}
use Rattle.row_types.specs.Rows.{Row, well_kept}
use Rattle.table_store.proofs.WellKept.{well_kept-take}
use Rattle.table_store.proofs.table.Table.truncate.Goals as goal

pub invariant_of-self : goal.invariant_of-self
invariant_of-self c = (
  c.self.invariant.0,
  subst (λ (rows : List Row). IsTrue (well_kept c.self.inside.row_type.columns
      c.self.inside.row_type.key rows)) (sym c.truncate.ensures.rows)
      (well_kept-take c.self.inside.row_type.columns c.self.inside.row_type.key
      c.self.inside.stored.rows c.args.at c.self.invariant.1),
)

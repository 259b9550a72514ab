use Rattle.std.proofs.Common.{subst, IsTrue, sym, List}
use Rattle.row_types.specs.Rows.{Row, well_kept}
use Rattle.table_store.proofs.WellKept.{well_kept-removed_all}
use Rattle.table_store.proofs.table.Table.drop_all.Goals as goal

pub invariant_of-self : goal.invariant_of-self
invariant_of-self c = (
  c.self.invariant.0,
  subst (λ (rows : List Row). IsTrue (well_kept c.self.inside.row_type.columns
      c.self.inside.row_type.key rows)) (sym c.drop_all.ensures.rows)
      (well_kept-removed_all c.self.inside.row_type.columns c.self.inside.row_type.key
      c.args.places.now c.self.inside.stored.rows c.self.invariant.1),
)

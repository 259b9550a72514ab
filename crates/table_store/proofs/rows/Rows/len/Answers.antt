use Rattle.std.proofs.Common.{◌≤◌, length, subst, arith}
use Rattle.table_store.specs.Blocks.{Room}
use Rattle.table_store.proofs.Packing.{room_for_all}
use Rattle.table_store.proofs.rows.Rows.len.Goals as goal

pub returns-clause-memory : goal.returns-clause-memory
returns-clause-memory c = subst (λ (r : Room). length r.rows ≤ r.capacity) c.self.view_is
    (room_for_all c.self.inside.blocks.items c.self.invariant.0)

pub returns-clause-small : goal.returns-clause-small
returns-clause-small c = let h = room_for_all c.self.inside.blocks.items c.self.invariant.0 in
    let i = c.self.invariant.1 in let j = c.self.invariant.2 in omega arith

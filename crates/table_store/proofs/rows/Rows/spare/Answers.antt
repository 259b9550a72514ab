use Rattle.std.proofs.Common.{◌≡◌, ◌+◌, ◌-◌, ◌*◌, length, subst, arith}
use Rattle.table_store.specs.Blocks.{Room}
use Rattle.table_store.proofs.Packing.{room_for_all}
use Rattle.table_store.proofs.rows.Rows.spare.Goals as goal

pub overflow_sub-result : goal.overflow_sub-result
overflow_sub-result c = let h = room_for_all c.self.inside.blocks.items c.self.invariant.0 in
    let i = c.self.invariant.1 in let e = c.len.ensures in omega arith

pub returns-clause-sum : goal.returns-clause-sum
returns-clause-sum c =
    subst (λ (r : Room). length r.rows + (1024 * c.len.result - c.self.inside.count) ≡ r.capacity)
    c.self.view_is
    (let h = room_for_all c.self.inside.blocks.items c.self.invariant.0 in
    let i = c.self.invariant.1 in let e = c.len.ensures in omega arith)

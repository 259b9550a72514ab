use Rattle.std.proofs.Common.{◌≡◌, ◌<◌, ◌++◌, ◌+◌, ◌∷◌, [], ℕ, List, sym, ap, ◌∙◌, arith, length}
use Rattle.std.proofs.Common.{drop, get_or}
use Rattle.row_types.specs.Rows.{Row}
use Rattle.table_store.specs.declared.placed_row.PlacedRow.{PlacedRow}
use Rattle.atomic_undo.specs.Between.{with_places}
use Rattle.atomic_undo.proofs.Merging.{placed_next, placed_all}
use Rattle.atomic_undo.proofs.between.with_places.Goals as goal

pub loop-row-preserved : goal.loop-row-preserved
loop-row-preserved c =
    let ps = c.args.places.now in
    let i = c.loop-row.i in
    let all = with_places ps c.args.new.items in
    let l : i < length ps = (let k = c.in-Some.ensures.cases in
    let h = c.loop-row.invariant.count in omega arith) in
    record {
      placed = ap (λ (qs : List PlacedRow). qs ++ with_places (drop (i + 1) ps)
          c.pop_front.new.self.items) c.push_reserved.ensures.items
          ∙ placed_next ps c.in-Some.row c.pop_front.new.self.items c.loop-row.left.items i
          c.loop-row.placed.items all l c.in-Some.ensures.items c.loop-row.invariant.placed;
      count = (let k = c.in-Some.ensures.cases in let h = c.loop-row.invariant.count in
          omega arith);
      noted = (let h = c.loop-row.invariant.noted in let e = c.push_reserved.ensures.len in
          omega arith);
      memory = (let h = c.loop-row.invariant.memory in let e = c.push_reserved.ensures.capacity in
          omega arith);
    }

pub returns : goal.returns
returns c =
    let z = c.in_default.ensures.cases in
    let h = c.loop-row.invariant.count in
    c.from_vec.ensures ∙ placed_all c.args.places.now c.loop-row.left.items c.loop-row.i
    c.loop-row.placed.items (with_places c.args.places.now c.args.new.items)
    (let y = z.0 in omega arith) c.loop-row.invariant.placed

use Rattle.std.proofs.Common.{◌≡◌, ◌++◌, ◌∷◌, [], List, ap, ◌∙◌, arith, length, set, get_or, drop}
use Rattle.std.proofs.Common.{◌+◌, length-set}
use Rattle.row_types.specs.Rows.{Row}
use Rattle.table_store.specs.declared.placed_row.PlacedRow.{PlacedRow}
use Rattle.table_store.specs.Places.{removed_all, placed_at, all_placed_at}
use Rattle.table_store.proofs.Places.{climb_there, removed_all-vacated, vacated_next}
use Rattle.table_store.proofs.rows.Rows.vacate_all.Goals as goal

pub vacate-row-requires : goal.vacate-row-requires
vacate-row-requires c =
    let e = c.loop-i.invariant.len in
    let l = climb_there 0 c.args.places.now (length c.args.self.now.rows) c.loop-i.i
    c.loop-i-test.true c.requires.places in
    omega arith

pub loop-i-preserved : goal.loop-i-preserved
loop-i-preserved c =
    let ps = c.args.places.now in
    let rows = c.loop-i.self.rows in
    let p = get_or ps c.loop-i.i 0 in
    let h = c.loop-i.invariant in
    let same : c.push_reserved.new.self.items ≡ c.loop-i.taken.items ++ placed_at rows p ∷ [] =
    c.push_reserved.ensures.items ∙ ap (λ (r : Row). c.loop-i.taken.items ++
    record { at = p; row = r } ∷ []) c.vacate-row.ensures.row in
    record {
      taken = ap (λ (xs : List Row). c.push_reserved.new.self.items ++ all_placed_at
          (drop (c.loop-i.i + 1) ps) xs) c.vacate-row.ensures.rows
          ∙ ap (λ (xs : List PlacedRow). xs ++ all_placed_at (drop (c.loop-i.i + 1) ps)
          (set rows p [])) same
          ∙ vacated_next ps rows (length c.args.self.now.rows) c.loop-i.i c.loop-i.taken.items
          (c.args.taken.now.items ++ all_placed_at ps c.args.self.now.rows) c.loop-i-test.true
          c.requires.places h.taken;
      left = ap (removed_all ps) c.vacate-row.ensures.rows ∙
          removed_all-vacated 0 ps rows (length c.args.self.now.rows) c.loop-i.i []
          c.loop-i-test.true c.requires.places ∙ h.left;
      len = ap (λ (xs : List Row). length xs) c.vacate-row.ensures.rows ∙ length-set rows p [] ∙
          h.len;
      noted = (let a = h.noted in let b = c.push_reserved.ensures.len in omega arith);
      memory = (let a = h.memory in let b = c.push_reserved.ensures.capacity in omega arith);
      capacity = (let a = h.capacity in let b = c.vacate-row.ensures.capacity in omega arith);
    }

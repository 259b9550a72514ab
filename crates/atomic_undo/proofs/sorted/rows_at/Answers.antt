use Rattle.std.proofs.Common.{ap, ◌∙◌, ◌++◌, ◌+◌, ◌<◌, [], List, pos, arith, drop, set, length}
use Rattle.std.proofs.Common.{get_or, length-set}
use Rattle.std.proofs.lemmas.List.{get_or_default}
use Rattle.row_types.specs.Rows.{Row}
use Rattle.atomic_undo.specs.declared.sorted.Placed.{Placed}
use Rattle.atomic_undo.specs.Sorting.{rows_at}
use Rattle.atomic_undo.proofs.Placing.{goes_out}
use Rattle.atomic_undo.proofs.sorted.rows_at.Goals as goal

pub loop-one-preserved : goal.loop-one-preserved
loop-one-preserved c =
    let ps = c.args.placed.now in
    let i = c.loop-one.one-index in
    let left = c.loop-one.left.items in
    let long = c.loop-one.invariant.long in
    let here : i < length ps = c.loop-one-test.true in
    let none : Placed = record { place = 0; abbreviated = pos 0 } in
    let at = (get_or ps i none).place in
    let there : at < length c.args.rows.items = c.requires.there i none here in
    record {
      rows = ap (λ (xs : List Row). xs ++ rows_at (set left at c.replace-row.new.dest)
          (drop (i + 1) ps)) c.push_reserved.ensures.items
          ∙ goes_out c.loop-one.taken.items left ps i none c.replace-row.result
          c.replace-row.new.dest c.requires.once here
          (c.replace-row.ensures.value ∙ c.index_mut.ensures.value ∙
          get_or_default left at _ [] (omega (arith, there, long)))
          ∙ c.loop-one.invariant.rows;
      long = length-set left at c.replace-row.new.dest ∙ long;
      count = omega arith;
      room = omega arith;
    }

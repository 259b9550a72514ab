use Rattle.std.proofs.Common.{ap, ◌∙◌, ◌++◌, ◌+◌, ◌<◌, [], List, arith, drop, set, length, get_or}
use Rattle.std.proofs.Common.{length-set}
use Rattle.std.proofs.lemmas.List.{get_or_default}
use Rattle.row_types.specs.Rows.{Row}
use Rattle.row_sort.specs.Places.{rows_at}
use Rattle.row_sort.proofs.Places.{goes_out}
use Rattle.row_sort.proofs.rows_at.Goals as goal

pub loop-place-preserved : goal.loop-place-preserved
loop-place-preserved c =
    let ps = c.args.places.now in
    let i = c.loop-place.place-index in
    let left = c.loop-place.left.items in
    let long = c.loop-place.invariant.long in
    let here : i < length ps = c.loop-place-test.true in
    let at = get_or ps i 0 in
    let there : at < length c.args.rows.items = c.requires.there i 0 here in
    record {
      rows = ap (λ (xs : List Row). xs ++ rows_at (set left at c.replace-row.new.dest)
          (drop (i + 1) ps)) c.push_reserved.ensures.items
          ∙ goes_out c.loop-place.taken.items left ps i 0 c.replace-row.result
          c.replace-row.new.dest c.requires.once here
          (c.replace-row.ensures.value ∙ c.index_mut.ensures.value ∙
          get_or_default left at _ [] (omega (arith, there, long)))
          ∙ c.loop-place.invariant.rows;
      long = length-set left at c.replace-row.new.dest ∙ long;
      count = omega arith;
      room = omega arith;
    }

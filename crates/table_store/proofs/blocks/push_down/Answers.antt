use Rattle.std.proofs.Common.{◌+◌, ◌≡◌, ◌∷◌, ◌++◌, List, sym, ap, ◌∙◌, subst, length, take, drop}
use Rattle.std.proofs.Common.{set, length-set, set-set}
use Rattle.row_types.specs.Rows.{Row}
use Rattle.table_store.specs.Blocks.{joined, Packed}
use Rattle.table_store.proofs.Packing.{Down, block_there, down_step, down_rows, down_packed}
use Rattle.table_store.proofs.Packing.{same_block, set_again}
use Rattle.table_store.proofs.blocks.push_down.Goals as goal

pub loop-blocks-preserved : goal.loop-blocks-preserved
loop-blocks-preserved c =
    let bs = c.loop-blocks.blocks.items in
    let k = c.loop-blocks.at in
    let target = joined (take c.args.from c.args.blocks.now.items) ++ c.args.row ∷ joined
    (drop c.args.from c.args.blocks.now.items) in
    let l = block_there bs k c.loop-blocks.carry target c.loop-blocks.invariant.down in
    let front = c.pop_back-last.new.self in
    let n : length c.index_mut.result.now ≡ 1024 =
    ap (λ (xs : List Row). length xs) (same_block bs k c.index_mut.result.now c.index.result.now l
    c.index_mut.ensures.value c.index.ensures) ∙ sym c.len.ensures ∙ c.loop-blocks-test.true in
    let e : c.push_front.new.self ≡ c.loop-blocks.carry ∷ front =
    c.push_front.ensures ∙ ap (λ (xs : List Row). c.loop-blocks.carry ∷ xs)
    (set_again bs k front c.index_mut-in-loop-blocks.result.now front l
    c.index_mut-in-loop-blocks.ensures.value) in
    record {
      down = subst (λ (xs : List (List Row)). Down xs (k + 1) c.pop_back-last.result target)
          (ap (λ (b : List Row). set bs k b) (sym e) ∙
          sym (set-set bs k front c.push_front.new.self))
          (down_step bs k c.loop-blocks.carry target c.loop-blocks.invariant.down
          c.index_mut.result.now front c.pop_back-last.result c.index_mut.ensures.value
          c.pop_back-last.ensures n);
      len = length-set (set bs k front) k c.push_front.new.self ∙ length-set bs k front ∙
          c.loop-blocks.invariant.len;
    }

pub returns-clause-rows : goal.returns-clause-rows
returns-clause-rows c =
    let target = joined (take c.args.from c.args.blocks.now.items) ++ c.args.row ∷ joined
    (drop c.args.from c.args.blocks.now.items) in
    ap (λ (b : List Row). joined (set c.loop-blocks.blocks.items c.loop-blocks.at b))
    c.push_front-2.ensures
    ∙ down_rows c.loop-blocks.blocks.items c.loop-blocks.at c.loop-blocks.carry target
    c.loop-blocks.invariant.down c.index_mut-2.result.now c.index_mut-2.ensures.value

pub returns-clause-packed : goal.returns-clause-packed
returns-clause-packed c =
    let target = joined (take c.args.from c.args.blocks.now.items) ++ c.args.row ∷ joined
    (drop c.args.from c.args.blocks.now.items) in
    subst (λ (b : List Row). Packed (set c.loop-blocks.blocks.items c.loop-blocks.at b))
    (sym c.push_front-2.ensures)
    (down_packed c.loop-blocks.blocks.items c.loop-blocks.at c.loop-blocks.carry target
    c.loop-blocks.invariant.down c.index_mut-2.result.now c.index_mut-2.ensures.value
    (λ n. c.loop-blocks-test.false (c.len.ensures ∙
    ap (λ (xs : List Row). length xs) (same_block c.loop-blocks.blocks.items c.loop-blocks.at
    c.index.result.now c.index_mut-2.result.now
    (block_there c.loop-blocks.blocks.items c.loop-blocks.at c.loop-blocks.carry target
    c.loop-blocks.invariant.down) c.index.ensures c.index_mut-2.ensures.value) ∙ n)))

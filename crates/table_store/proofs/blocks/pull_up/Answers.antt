use Rattle.std.proofs.Common.{◌≡◌, ◌≢◌, ◌<◌, ◌+◌, [], List, sym, ap, ◌∙◌, subst, arith, length, set}
use Rattle.std.proofs.Common.{length-set, get_or}
use Rattle.std.proofs.lemmas.List.{get_or-set_other}
use Rattle.row_types.specs.Rows.{Row}
use Rattle.table_store.specs.Blocks.{joined}
use Rattle.table_store.proofs.Packing.{Up, up_step, up_rows, up_packed, there_if}
use Rattle.table_store.proofs.blocks.pull_up.Goals as goal

pub loop-blocks-preserved : goal.loop-blocks-preserved
loop-blocks-preserved c =
    let bs = c.loop-blocks.blocks.items in
    let k = c.loop-blocks.at in
    let b = c.index_mut-in-loop-blocks.result.now in
    let d = c.pop_front-row.new.self in
    let r = c.pop_front-row.result in
    let same : length (get_or c.deref.result.now (k + 1) []) ≡ length (get_or bs (k + 1) []) =
    ap (λ (xs : List (List Row)). length (get_or xs (k + 1) [])) c.deref.ensures.value in
    let l : k + 1 < length bs = there_if bs (k + 1) (let t = c.loop-blocks-test.true in
    let e = c.len_at.ensures in omega arith) in
    let ne : k ≢ k + 1 = omega arith in
    let eb : b ≡ get_or bs k b = c.index_mut-in-loop-blocks.ensures.value ∙
    get_or-set_other bs (k + 1) k d b ne in
    let e = c.push_back.ensures in
    record {
      up = subst (λ (x : List Row). Up (set (set bs (k + 1) d) k x) (k + 1)) (sym e)
          (up_step bs k c.loop-blocks.invariant.up b c.index_mut.result.now d r l eb
          c.index_mut.ensures.value c.pop_front-row.ensures);
      rows = ap (λ (x : List Row). joined (set (set bs (k + 1) d) k x)) e ∙
          up_rows bs k c.loop-blocks.invariant.up b c.index_mut.result.now d r l eb
          c.index_mut.ensures.value c.pop_front-row.ensures ∙ c.loop-blocks.invariant.rows;
      len = length-set (set bs (k + 1) d) k c.push_back.new.self ∙ length-set bs (k + 1) d ∙
          c.loop-blocks.invariant.len;
    }

pub returns-clause-packed : goal.returns-clause-packed
returns-clause-packed c =
    let bs = c.loop-blocks.blocks.items in
    let k = c.loop-blocks.at in
    let same : length (get_or c.deref.result.now (k + 1) []) ≡ length (get_or bs (k + 1) []) =
    ap (λ (xs : List (List Row)). length (get_or xs (k + 1) [])) c.deref.ensures.value in
    up_packed bs k c.loop-blocks.invariant.up (let t = c.loop-blocks-test.false in
    let e = c.len_at.ensures in omega arith)

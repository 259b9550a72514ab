use Rattle.std.proofs.Common.{ap, ◌∙◌, ℕ, ◌<◌, ◌≤◌, ◌+◌, ◌-◌, ◌/◌, sym, arith, length}
use Rattle.std.specs.Cmp.Lexicographic.{slice_cmp}
use Rattle.row_types.specs.Rows.{by_key, key_of, value_cmp}
use Rattle.row_types.proofs.Laws.{key_cmp_total}
use Rattle.row_types.proofs.Laws.{err_at, ok_at}
use Rattle.table_store.proofs.Halving.{all_less, all_greater, all_less_tied}
use Rattle.table_store.proofs.search.place_of.Goals as goal

pub loop-low-preserved-in-Less : goal.loop-low-preserved-in-Less
loop-low-preserved-in-Less c =
    let middle : ℕ = c.loop-low.low + (c.loop-low.high - c.loop-low.low) / 2 in
    let l : middle < length c.args.rows.now.rows = omega arith in
    record {
      between = omega arith;
      within = c.loop-low.invariant.within;
      below = all_less (slice_cmp value_cmp) key_cmp_total (key_of c.args.key.now)
          c.args.rows.now.rows (key_of c.args.key.now c.args.row.now) c.row_at.result.now middle
          c.requires l c.row_at.ensures (sym c.in-Less.ensures);
      above = c.loop-low.invariant.above;
    }

pub returns-in-Equal : goal.returns-in-Equal
returns-in-Equal c =
    let middle : ℕ = c.loop-low.low + (c.loop-low.high - c.loop-low.low) / 2 in
    let l : middle < length c.args.rows.now.rows = omega arith in
    sym (ok_at (λ r. by_key c.args.key.now r c.args.row.now) c.args.rows.now.rows middle
    c.row_at.result.now l
    (all_less_tied (slice_cmp value_cmp) key_cmp_total (key_of c.args.key.now) c.args.rows.now.rows
    (key_of c.args.key.now c.args.row.now) c.row_at.result.now middle c.requires l
    c.row_at.ensures (sym c.in-Equal.ensures))
    (ap (λ z. by_key c.args.key.now z c.args.row.now) (sym c.row_at.ensures) ∙
    sym c.in-Equal.ensures))

pub loop-low-preserved : goal.loop-low-preserved
loop-low-preserved c =
    let middle : ℕ = c.loop-low.low + (c.loop-low.high - c.loop-low.low) / 2 in
    let l : middle < length c.args.rows.now.rows = omega arith in
    record {
      between = omega arith;
      within = omega arith;
      below = c.loop-low.invariant.below;
      above = all_greater (slice_cmp value_cmp) key_cmp_total (key_of c.args.key.now)
          c.args.rows.now.rows (key_of c.args.key.now c.args.row.now) c.row_at.result.now middle
          c.requires l c.row_at.ensures (sym c.in-Greater.ensures);
    }

pub returns : goal.returns
returns c =
    sym (err_at (λ r. by_key c.args.key.now r c.args.row.now) c.args.rows.now.rows c.loop-low.low
    (omega arith) c.loop-low.invariant.below
    (λ k d n l. let n' : c.loop-low.high ≤ k = omega arith in c.loop-low.invariant.above k d n' l))

use Rattle.std.proofs.Common.{◌≡◌, sym, subst, arith, rules, ◌+◌}
use Rattle.table_store.specs.Blocks.{Room}
use Rattle.table_store.specs.Places.{removed_all}
use Rattle.table_store.proofs.Closing.{Closing, starts, passes, moves, closes}
use Rattle.table_store.proofs.rows.Rows.close_up.Goals as goal
use Rattle.table_store.proofs.rows.Rows.close_up.Goals.{then-is_next, else-is_next}

pub loop-from-init : goal.loop-from-init
loop-from-init c = record {
  closing = starts c.args.places.now c.args.self.now.rows c.args.first c.len-count.result
      c.len-count.ensures.value c.requires.there c.requires.places;
  capacity = search rules;
}

pub loop-from-preserved : goal.loop-from-preserved
loop-from-preserved c =
    let ps = c.args.places.now in
    let all = removed_all c.args.places.now c.args.self.now.rows in
    let from = c.loop-from.from in
    let passed = c.loop-from.passed in
    let g = c.loop-from.invariant.closing in
    let k = c.loop-from.invariant.capacity in
    elim c.if-is_next.branch [
      | then-is_next w ↦ record {
        closing = subst (λ (x : Room). Closing ps x.rows all (from + 1) c.if-is_next.passed
            c.len-count.result) (sym w.self-is)
            (subst (λ n. Closing ps c.loop-from.self.rows all (from + 1) n c.len-count.result)
            (sym w.passed-is)
            (passes ps c.loop-from.self.rows all from passed c.len-count.result g
            (c.is_next.ensures.0 w.if-is_next.true)));
        capacity = subst (λ (x : Room). x.capacity ≡ c.args.self.now.capacity) (sym w.self-is) k;
      }
      | else-is_next w ↦ record {
        closing = subst (λ (x : Room). Closing ps x.rows all (from + 1) c.if-is_next.passed
            c.len-count.result) (sym w.self-is)
            (subst (λ n. Closing ps w.move_row.new.self.rows all (from + 1) n c.len-count.result)
            (sym w.passed-is)
            (moves ps c.loop-from.self.rows all from passed c.len-count.result g
            (λ e. let t = c.is_next.ensures.1 e in let f = w.if-is_next.false in cc)
            c.loop-from-test.true w.move_row.new.self.rows w.move_row.ensures.rows));
        capacity = subst (λ (x : Room). x.capacity ≡ c.args.self.now.capacity) (sym w.self-is)
            (let j = w.move_row.ensures.capacity in omega arith);
      }
    ]

pub returns-clause-rows : goal.returns-clause-rows
returns-clause-rows c =
    closes c.args.places.now c.loop-from.self.rows
    (removed_all c.args.places.now c.args.self.now.rows) c.loop-from.from c.loop-from.passed
    c.len-count.result c.loop-from.invariant.closing c.loop-from-test.false
    c.truncate.new.self.rows c.truncate.ensures.rows

use Rattle.std.proofs.Common.{length, ap, ◌∙◌, sym, arith}
use Rattle.plan_keys.proofs.Bounding.{equal_more, length_more}
use Rattle.plan_keys.proofs.bounds.equal_values.Goals as goal

pub loop-place-preserved : goal.loop-place-preserved
loop-place-preserved c =
    let n = c.loop-place.place-index in
    let longer = ap length c.in_ok-push-in-Some.ensures.ok ∙
    length_more c.loop-place.sought c.in_ok-copied-in-Some.field-0 in
    record {
      counted = omega (arith, longer, c.loop-place.invariant.counted);
      end = c.loop-place.invariant.end;
      rows = λ row none. equal_more c.args.key.now c.loop-place.sought c.push.new.self
          c.in_ok-copied-in-Some.field-0 c.in-Some.value.now n row
          (sym c.loop-place.invariant.counted)
          (omega (arith, c.loop-place-test.true, c.loop-place.invariant.end))
          c.in_ok-push-in-Some.ensures.ok c.in_ok-copied-in-Some.ensures
          (c.loop-place.invariant.rows row none) (c.in-Some.ensures row none);
    }

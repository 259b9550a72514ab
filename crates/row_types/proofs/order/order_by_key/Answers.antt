use Rattle.std.proofs.Common.{sym, ◌∙◌}
use Rattle.row_types.proofs.Comparing.{same_at, other_at, no_more, tested_same, tested_other}
use Rattle.row_types.proofs.order.order_by_key.Goals as goal

pub loop-place-preserved : goal.loop-place-preserved
loop-place-preserved c =
    sym (same_at c.args.key.now c.args.a.now c.args.b.now c.loop-place.place-index
    c.loop-place-test.true
    (sym c.order_at-order.ensures ∙ tested_same c.order_at-order.result c.ne.result c.ne.ensures
    c.if-ne.false)) ∙ c.loop-place.invariant

pub returns-then-ne : goal.returns-then-ne
returns-then-ne c =
    c.order_at-order.ensures
    ∙ sym (other_at c.args.key.now c.args.a.now c.args.b.now c.loop-place.place-index
    c.loop-place-test.true
    (λ e. tested_other c.order_at-order.result c.ne.result c.ne.ensures c.if-ne.true
    (c.order_at-order.ensures ∙ e))) ∙ c.loop-place.invariant

pub returns : goal.returns
returns c = sym (no_more c.args.key.now c.args.a.now c.args.b.now c.loop-place.place-index
    c.loop-place-test.false) ∙ c.loop-place.invariant

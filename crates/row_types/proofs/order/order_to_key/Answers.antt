use Rattle.std.proofs.Common.{sym, ◌∙◌}
use Rattle.row_types.proofs.Comparing.{same_to, other_to, no_more_to, tested_same, tested_other}
use Rattle.row_types.proofs.order.order_to_key.Goals as goal

pub loop-i-preserved : goal.loop-i-preserved
loop-i-preserved c =
    let v = c.index-sought-i.result in
    sym (same_to c.args.key.now c.args.sought.now c.args.row.now c.loop-i.i v c.loop-i-test.true
    c.requires c.index-sought-i.is
    (sym c.order_to-order.ensures ∙ tested_same c.order_to-order.result c.ne.result c.ne.ensures
    c.if-ne.false)) ∙ c.loop-i.invariant

pub returns-then-ne : goal.returns-then-ne
returns-then-ne c =
    let v = c.index-sought-i.result in
    c.order_to-order.ensures
    ∙ sym (other_to c.args.key.now c.args.sought.now c.args.row.now c.loop-i.i v c.loop-i-test.true
    c.requires c.index-sought-i.is
    (λ e. tested_other c.order_to-order.result c.ne.result c.ne.ensures c.if-ne.true
    (c.order_to-order.ensures ∙ e))) ∙ c.loop-i.invariant

pub returns : goal.returns
returns c = sym (no_more_to c.args.key.now c.args.sought.now c.args.row.now c.loop-i.i
    c.loop-i-test.false c.requires) ∙ c.loop-i.invariant

use Rattle.std.proofs.Common.{◌++◌, sym, ◌∙◌, arith}
use Rattle.std.proofs.lemmas.Result.{on_ok_weaker}
use Rattle.plan_text.specs.Parts.{parts_of, all_parts, tails}
use Rattle.plan_text.proofs.NodeLines.{plan_put, run_put}
use Rattle.plan_text.proofs.Steps.{tails_put, tails_end, tail_put, tail_out, no_tail_put}
use Rattle.plan_text.proofs.Steps.{no_tail_out}
use Rattle.plan_text.proofs.lines.+lines.Goals as goal

pub put_lines-returns : goal.put_lines-returns
put_lines-returns t c =
    on_ok_weaker c.put_tails.result (λ up. plan_put c.args.plan.now c.as_slice-nodes.result.now
    c.args.depth c.in_ok-inside.inside c.args.text.now.items c.put_heads.new.text.items
    c.put_leaf_line.new.text.items c.put_tails.new.text.items c.as_slice-nodes.ensures
    c.in_ok-inside.ensures.text c.in_ok-inside.ensures.depth c.in_ok-put_leaf_line.ensures up)
    c.put_tails.ensures

pub put_run-returns : goal.put_run-returns
put_run-returns t c =
    on_ok_weaker c.put_tails.result (λ up. run_put c.args.nodes.now c.args.depth
    c.in_ok-inside.inside c.args.text.now.items c.put_heads.new.text.items
    c.put_tails.new.text.items c.in_ok-inside.ensures.text c.in_ok-inside.ensures.depth up)
    c.put_tails.ensures

pub put_tails-loop-node-preserved : goal.put_tails-loop-node-preserved
put_tails-loop-node-preserved t c =
    tails_put (parts_of c.args.in_run) c.args.nodes.now c.loop-node.node-index c.node-item.result
    c.loop-node.inside c.in_ok-above.above c.loop-node.text.items c.put_tail.new.text.items
    (c.args.text.now.items ++ tails (all_parts c.args.in_run c.args.nodes.now) c.args.depth)
    c.loop-node-test.true c.node-item.is c.in_ok-above.ensures.depth c.in_ok-above.ensures.text
    c.loop-node.invariant

pub put_tails-returns : goal.put_tails-returns
put_tails-returns t c =
    tails_end (parts_of c.args.in_run) c.args.nodes.now c.loop-node.node-index c.loop-node.inside
    c.loop-node.text.items
    (c.args.text.now.items ++ tails (all_parts c.args.in_run c.args.nodes.now) c.args.depth)
    (omega (arith, c.loop-node-test.false)) c.loop-node.invariant

pub put_tail-returns-then-not-has_line-clause-text :
    goal.put_tail-returns-then-not-has_line-clause-text
put_tail-returns-then-not-has_line-clause-text t c =
    no_tail_put c.args.in_run c.args.node.now c.args.depth c.args.text.now.items
    (sym c.has_line.ensures ∙ c.if-not-has_line.true)

pub put_tail-returns-then-not-has_line-clause-depth :
    goal.put_tail-returns-then-not-has_line-clause-depth
put_tail-returns-then-not-has_line-clause-depth t c =
    no_tail_out c.args.in_run c.args.node.now c.args.depth
    (sym c.has_line.ensures ∙ c.if-not-has_line.true)

pub put_tail-returns-clause-text : goal.put_tail-returns-clause-text
put_tail-returns-clause-text t c =
    tail_put c.args.in_run c.args.node.now c.args.depth c.args.text.now.items
    c.put_further.new.text.items (sym c.has_line.ensures ∙ c.if-not-has_line.false)
    c.in_ok-put_further.ensures

pub put_tail-returns-clause-depth : goal.put_tail-returns-clause-depth
put_tail-returns-clause-depth t c =
    c.one_out.ensures ∙ tail_out c.args.in_run c.args.node.now c.args.depth
    (sym c.has_line.ensures ∙ c.if-not-has_line.false)

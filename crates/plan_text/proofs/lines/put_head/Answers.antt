use Rattle.std.proofs.Common.{sym, ◌∙◌}
use Rattle.plan_text.proofs.Steps.{head_put, head_deep, no_head_put, no_head_deep}
use Rattle.plan_text.proofs.lines.put_head.Goals as goal

pub returns-then-not-has_line-clause-text : goal.returns-then-not-has_line-clause-text
returns-then-not-has_line-clause-text c =
    no_head_put c.args.in_run c.args.node.now c.args.depth c.args.text.now.items
    (sym c.has_line.ensures ∙ c.if-not-has_line.true)

pub returns-then-not-has_line-clause-depth : goal.returns-then-not-has_line-clause-depth
returns-then-not-has_line-clause-depth c =
    no_head_deep c.args.in_run c.args.node.now c.args.depth
    (sym c.has_line.ensures ∙ c.if-not-has_line.true)

pub returns-clause-text : goal.returns-clause-text
returns-clause-text c =
    head_put c.args.in_run c.args.node.now c.args.depth c.args.text.now.items
    c.put_line.new.text.items (sym c.has_line.ensures ∙ c.if-not-has_line.false)
    c.in_ok-put_line.ensures

pub returns-clause-depth : goal.returns-clause-depth
returns-clause-depth c =
    c.in_ok-inside.ensures ∙ head_deep c.args.in_run c.args.node.now c.args.depth
    (sym c.has_line.ensures ∙ c.if-not-has_line.false)

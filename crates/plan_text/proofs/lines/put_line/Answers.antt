use Rattle.std.proofs.lemmas.Result.{on_ok_weaker}
use Rattle.rel_algebra.specs.Plan.{unit_row}
use Rattle.rel_algebra.specs.PlanView.{with_node}
use Rattle.plan_text.specs.PlanLines.{node_text}
use Rattle.plan_text.proofs.Margins.{line_put}
use Rattle.plan_text.proofs.lines.put_line.Goals as goal

pub returns : goal.returns
returns c =
    on_ok_weaker c.put.result (λ ended. line_put c.args.depth
    (node_text (with_node c.args.node.now unit_row))
    c.args.text.now.items c.put_margin.new.text.items c.put_node.new.text.items c.put.new.text.items
    c.in_ok-put_margin.ensures c.in_ok-put_node.ensures ended) c.put.ensures

use Rattle.std.proofs.lemmas.Result.{on_ok_weaker}
use Rattle.rel_algebra.specs.PlanView.{leaf_of}
use Rattle.plan_text.specs.PlanLines.{node_text}
use Rattle.plan_text.proofs.Margins.{line_put}
use Rattle.plan_text.proofs.lines.put_leaf_line.Goals as goal

pub returns : goal.returns
returns c =
    on_ok_weaker c.put.result (λ ended. line_put c.args.depth
    (node_text (leaf_of c.args.leaf.now))
    c.args.text.now.items c.put_margin.new.text.items c.put_leaf.new.text.items c.put.new.text.items
    c.in_ok-put_margin.ensures c.in_ok-put_leaf.ensures ended) c.put.ensures

use Rattle.std.proofs.Common.{◌∙◌, ◌+◌, List, ap, suc}
use Rattle.std.proofs.lemmas.Result.{on_ok_weaker}
use Rattle.bound_trees.specs.declared.statement.BoundVariables.{BoundVariables}
use Rattle.rel_algebra.specs.BodyChain.{variable_count}
use Rattle.plan_steps.specs.Places.{variables_in}
use Rattle.plan_bodies.proofs.Blocks.{end_put}
use Rattle.plan_bodies.proofs.emit.put_end.Goals as goal

pub returns : goal.returns
returns c =
    on_ok_weaker c.join.result
    (λ puts known outer. end_put known outer c.args.block.now c.args.codes.now c.args.at
    c.in_ok-count.count c.in_ok-columns.columns c.in_ok-wide.wide c.args.draft.now
    c.join.new.draft (c.in_ok-count.ensures ∙ ap suc c.len.ensures)
    (c.in_ok-columns.ensures known ∙ ap (λ (vs : List BoundVariables). c.args.at.columns
    + variable_count (variables_in known vs)) c.as_slice.ensures)
    (c.in_ok-wide.ensures known outer) puts) c.join.ensures

use Rattle.std.proofs.Common.{◌+◌, ap, ◌∙◌}
use Rattle.plan_expressions.proofs.Laws.{if_ok}
use Rattle.plan_statements.proofs.compound.free_after.Goals as goal

pub returns : goal.returns
returns c =
    if_ok c.sum.result _ _ c.sum.ensures
    (λ n h known. h ∙ ap (λ m. c.args.next + m) (c.in_ok-handlers.ensures known))

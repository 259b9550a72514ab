use Rattle.std.proofs.Common.{sym, ◌∙◌}
use Rattle.plan_expressions.proofs.Nodes.{tree_of-parts}
use Rattle.plan_expressions.proofs.Running.{run_of_nodes, run_is}
use Rattle.plan_expressions.proofs.draft.Draft.into_nodes.Goals as goal

pub returns-clause-kept : goal.returns-clause-kept
returns-clause-kept c = λ a h.
    let p = c.into_plan.result in
    run_of_nodes p.leaf p.nodes a (sym (tree_of-parts p) ∙ c.into_plan.ensures ∙ h)

pub returns-clause-run : goal.returns-clause-run
returns-clause-run c = λ a h.
    let p = c.into_plan.result in
    run_is p.nodes a (run_of_nodes p.leaf p.nodes a (sym (tree_of-parts p) ∙ c.into_plan.ensures ∙
    h))

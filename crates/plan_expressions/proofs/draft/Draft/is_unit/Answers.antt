use Rattle.std.proofs.Common.{refl, sym, ap, ◌∙◌}
use Rattle.rel_algebra.specs.PlanView.{leaf_of, with_nodes}
use Rattle.plan_expressions.specs.Drafts.{is_unit_row}
use Rattle.plan_expressions.proofs.Nodes.{not_unit, unit_empty}
use Rattle.plan_expressions.proofs.draft.Draft.is_unit.Goals as goal

pub returns-in-Unit : goal.returns-in-Unit
returns-in-Unit c =
    let nodes = c.args.self.now.plan.nodes in
    unit_empty nodes c.is_empty.result c.is_empty.ensures.0 c.is_empty.ensures.1 ∙
    ap (λ l. is_unit_row (with_nodes nodes (leaf_of l))) (sym c.in-Unit.is)

pub returns-in-Scan : goal.returns-in-Scan
returns-in-Scan c =
    let nodes = c.args.self.now.plan.nodes in
    sym (not_unit nodes _ refl) ∙ ap (λ l. is_unit_row (with_nodes nodes (leaf_of l)))
    (sym c.in-Scan.is)

pub returns-in-Values : goal.returns-in-Values
returns-in-Values c =
    let nodes = c.args.self.now.plan.nodes in
    sym (not_unit nodes _ refl) ∙ ap (λ l. is_unit_row (with_nodes nodes (leaf_of l)))
    (sym c.in-Values.is)

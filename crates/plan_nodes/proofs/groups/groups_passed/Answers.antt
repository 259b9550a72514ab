use Rattle.std.proofs.Common.{ap, ◌∙◌}
use Rattle.row_types.specs.OuterRows.{outer_rows}
use Rattle.plan_nodes.specs.Grouping.{groups_rows}
use Rattle.plan_nodes.specs.Receiving.{received}
use Rattle.plan_nodes.specs.Ways.{way_rows}
use Rattle.plan_nodes.proofs.Paired.{way_passed}
use Rattle.plan_nodes.proofs.groups.groups_passed.Goals as goal

pub returns : goal.returns
returns c =
    let o = outer_rows c.args.outer.now in
    let args = c.args.args.now in
    c.in_ok-add_groups.ensures ∙
    (ap (λ r. received r (way_rows c.through-way.result o args (groups_rows c.args.groups.now)))
    c.in_ok-received.ensures
    ∙ ap (received c.args.into) (way_passed c.args.nodes.now c.through-way.result o args
    (groups_rows c.args.groups.now) (λ r. c.through-way.ensures r o args)))

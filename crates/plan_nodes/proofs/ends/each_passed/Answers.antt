use Rattle.std.proofs.Common.{ap, ◌∙◌}
use Rattle.row_types.specs.OuterRows.{outer_rows}
use Rattle.rel_algebra.specs.Plan.{shown_rows}
use Rattle.plan_nodes.specs.Receiving.{received}
use Rattle.plan_nodes.specs.Ways.{way_rows}
use Rattle.plan_nodes.proofs.Paired.{way_passed}
use Rattle.plan_nodes.proofs.ends.each_passed.Goals as goal

pub returns : goal.returns
returns c =
    let o = outer_rows c.args.outer.now in
    let args = c.args.args.now in
    c.in_ok-add_rows.ensures ∙
    (ap (λ r. received r (way_rows c.through-way.result o args (shown_rows c.args.rows.now)))
    c.in_ok-received.ensures
    ∙ ap (received c.args.into) (way_passed c.args.nodes.now c.through-way.result o args
    (shown_rows c.args.rows.now) (λ r. c.through-way.ensures r o args)))

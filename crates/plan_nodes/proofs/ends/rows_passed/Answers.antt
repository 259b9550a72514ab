use Rattle.row_types.specs.OuterRows.{outer_rows}
use Rattle.rel_algebra.specs.Plan.{shown_rows}
use Rattle.plan_nodes.proofs.Receiving.{given_whole}
use Rattle.plan_nodes.proofs.ends.rows_passed.Goals as goal

pub returns-then-takes_whole : goal.returns-then-takes_whole
returns-then-takes_whole c =
    given_whole c.args.nodes.now (outer_rows c.args.outer.now) c.args.args.now c.args.into
    c.in_ok-list.list (shown_rows c.args.rows)
    (c.takes_whole.ensures.nodes c.if-takes_whole.true)
    (c.takes_whole.ensures.list c.if-takes_whole.true) c.in_ok-list.ensures

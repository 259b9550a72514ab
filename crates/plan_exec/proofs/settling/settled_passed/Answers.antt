use Rattle.row_types.specs.OuterRows.{outer_rows}
use Rattle.rel_algebra.specs.Plan.{collected, finished}
use Rattle.plan_nodes.proofs.Laws.{given_whole}
use Rattle.plan_exec.proofs.settling.settled_passed.Goals as goal

pub returns-then-takes_whole-clause-rows : goal.returns-then-takes_whole-clause-rows
returns-then-takes_whole-clause-rows g c =
    given_whole c.args.nodes.now (outer_rows c.args.outer.now) c.args.args.now c.args.into
    c.in_ok-list.list (finished (collected c.args.rows))
    (c.takes_whole.ensures.nodes c.if-takes_whole.true)
    (c.takes_whole.ensures.list c.if-takes_whole.true) c.in_ok-list.ensures.rows

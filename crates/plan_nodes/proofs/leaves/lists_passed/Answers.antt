use Rattle.std.proofs.Common.{[]}
use Rattle.row_types.specs.OuterRows.{outer_rows}
use Rattle.rel_algebra.specs.Plan.{list_rows}
use Rattle.rel_algebra.specs.PlanView.{lists_of}
use Rattle.plan_scalars.specs.Sights.{sight_of}
use Rattle.plan_nodes.proofs.Receiving.{given_whole}
use Rattle.plan_nodes.proofs.leaves.lists_passed.Goals as goal

pub returns-then-takes_whole : goal.returns-then-takes_whole
returns-then-takes_whole c =
    let o = outer_rows c.args.outer.now in
    let args = c.args.args.now in
    given_whole c.args.nodes.now o args c.args.into c.in_ok-list.list
    (list_rows (lists_of c.args.lists.now) (sight_of [] o args))
    (c.takes_whole.ensures.nodes c.if-takes_whole.true)
    (c.takes_whole.ensures.list c.if-takes_whole.true) c.in_ok-list.ensures

use Rattle.std.proofs.Common.{◌≡◌, Ok, [], drop, ap, ◌∙◌, arith}
use Rattle.std.proofs.lemmas.Grind.{common_steps}
use Rattle.rel_algebra.specs.Plan.{cells_of, values_of}
use Rattle.rel_algebra.specs.PlanView.{scalars_of}
use Rattle.plan_scalars.specs.Sights.{sight_of}
use Rattle.plan_rows.proofs.Laws.{or_all_ends}
use Rattle.plan_scalars.proofs.Items.{one_compared}
use Rattle.plan_scalars.proofs.places.among_these.Goals as goal

pub returns : goal.returns
returns c outer =
    let none_left : drop c.loop-item.item-index c.args.list.now ≡ [] =
    grind (arith, common_steps) in
    ap Ok c.to_value.ensures
    ∙ (rw none_left at (c.loop-item.invariant outer)
    ∙ or_all_ends (values_of (cells_of (scalars_of c.args.list.now)
    (sight_of c.args.row.now outer c.args.args.now))) c.args.value.now)

pub loop-item-preserved : goal.loop-item-preserved
loop-item-preserved c outer =
    one_compared c.args.list.now c.loop-item.item-index c.item-item.result
    (sight_of c.args.row.now outer c.args.args.now) c.args.value.now c.loop-item.so_far
    c.in_ok-equal_in_place.field-0 c.or-so_far.result
    c.loop-item-test.true c.item-item.is (c.in_ok-equal_in_place.ensures outer) c.or-so_far.ensures
    ∙ c.loop-item.invariant outer

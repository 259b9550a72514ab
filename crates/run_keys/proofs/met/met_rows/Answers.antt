use Rattle.run_choices.specs.Sight.{seen}
use Rattle.run_expressions.specs.Content.{world_of}
use Rattle.run_keys.proofs.Meeting.{are_met}
use Rattle.run_keys.proofs.met.met_rows.Goals as goal

pub returns : goal.returns
returns c =
    are_met c.args.query.now c.as_slice.result.now c.as_slice-2.result.now (seen c.args.outer.now)
    c.args.frame.now (world_of c.args.world.now) c.in_ok-terms.terms c.as_slice-3.result.now
    c.in-Some.table.now.table.rows c.in_ok-rows_between.field-0 c.in_ok-places.places.from
    c.in_ok-places.places.to c.as_slice.ensures c.as_slice-2.ensures c.as_slice-3.ensures
    c.in-Some.ensures c.in_ok-terms.ensures c.in_ok-places.ensures.order
    c.in_ok-places.ensures.before c.in_ok-places.ensures.past c.in_ok-rows_between.ensures

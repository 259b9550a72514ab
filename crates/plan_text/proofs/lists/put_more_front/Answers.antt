use Rattle.std.proofs.Common.{◌++◌, ◌-◌, map}
use Rattle.std.specs.List.{flat_map}
use Rattle.rel_algebra.specs.Joins.{places}
use Rattle.plan_text.specs.ScalarText.{after, comma, place_text}
use Rattle.plan_text.proofs.Fronts.{front_put}
use Rattle.plan_text.proofs.lists.put_more_front.Goals as goal

pub loop-place-preserved : goal.loop-place-preserved
loop-place-preserved c =
    front_put c.loop-place.place c.args.count c.loop-place.text.items c.put.new.text.items
    c.put_place.new.text.items
    (c.args.text.now.items ++ flat_map (after comma) (map place_text (places 1 (c.args.count - 1))))
    c.loop-place-test.true c.in_ok-put.ensures c.in_ok-put_place.ensures c.loop-place.invariant

use Rattle.std.proofs.Common.{◌≡◌, ◌++◌, ◌-◌, map}
use Rattle.std.specs.List.{flat_map}
use Rattle.rel_algebra.specs.Joins.{places}
use Rattle.plan_text.specs.ScalarText.{after, comma, place_text}
use Rattle.plan_text.proofs.lists.put_more_front.Given as goal

abbrev pub invariant-loop-place : goal.invariant-loop-place
invariant-loop-place l =
    l.text.items ++ flat_map (after comma)
    (map place_text (places l.place (l.count - l.place))) ≡
    l.fn.text.items ++ flat_map (after comma) (map place_text (places 1 (l.count - 1)))

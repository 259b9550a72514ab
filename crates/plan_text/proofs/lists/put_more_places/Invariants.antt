use Rattle.std.proofs.Common.{◌≡◌, ◌++◌, map, drop}
use Rattle.std.specs.List.{flat_map}
use Rattle.plan_text.specs.ScalarText.{after, comma, place_text}
use Rattle.plan_text.proofs.lists.put_more_places.Given as goal

abbrev pub invariant-loop-place : goal.invariant-loop-place
invariant-loop-place l =
    l.text.items ++ flat_map (after comma) (map place_text (drop l.place-index l.places)) ≡
    l.fn.text.items ++ flat_map (after comma) (map place_text l.places)

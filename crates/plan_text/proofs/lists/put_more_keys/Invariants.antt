use Rattle.std.proofs.Common.{◌≡◌, ◌++◌, map, drop}
use Rattle.std.specs.List.{flat_map}
use Rattle.plan_text.specs.ScalarText.{after, comma}
use Rattle.plan_text.specs.PlanLines.{key_text}
use Rattle.plan_text.proofs.lists.put_more_keys.Given as goal

abbrev pub invariant-loop-key : goal.invariant-loop-key
invariant-loop-key l =
    l.text.items ++ flat_map (after comma) (map key_text (drop l.key-index l.keys)) ≡
    l.fn.text.items ++ flat_map (after comma) (map key_text l.keys)

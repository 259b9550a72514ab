use Rattle.std.proofs.Common.{◌≡◌, ◌++◌, map, drop}
use Rattle.std.specs.List.{flat_map}
use Rattle.rel_algebra.specs.PlanView.{aggregates_of}
use Rattle.plan_text.specs.ScalarText.{after, comma}
use Rattle.plan_text.specs.PlanLines.{aggregate_text}
use Rattle.plan_text.proofs.lists.put_more_aggregates.Given as goal

abbrev pub invariant-loop-aggregate : goal.invariant-loop-aggregate
invariant-loop-aggregate l =
    l.text.items ++ flat_map (after comma)
    (map aggregate_text (aggregates_of (drop l.aggregate-index l.aggregates))) ≡
    l.fn.text.items ++ flat_map (after comma) (map aggregate_text (aggregates_of l.aggregates))

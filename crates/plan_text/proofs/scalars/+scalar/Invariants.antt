use Rattle.std.proofs.Common.{◌≡◌, ◌++◌, map, drop}
use Rattle.std.specs.List.{flat_map}
use Rattle.rel_algebra.specs.PlanView.{link_of, scalars_of}
use Rattle.plan_text.specs.ScalarText.{comma, scalar_texts, separated}
use Rattle.plan_text.specs.Parts.{closing, rest_text}
use Rattle.plan_text.proofs.scalars.+scalar.Given as goal

abbrev pub invariant-put_closings-loop-link : goal.invariant-put_closings-loop-link
invariant-put_closings-loop-link l =
    l.text.items ++ flat_map closing (map link_of (drop l.link-index l.links)) ≡
    l.fn.text.items ++ flat_map closing (map link_of l.links)

abbrev pub invariant-put_scalars-loop-scalar : goal.invariant-put_scalars-loop-scalar
invariant-put_scalars-loop-scalar l =
    l.text.items ++ rest_text l.first (scalar_texts (scalars_of (drop l.scalar-index l.scalars))) ≡
    l.fn.text.items ++ separated comma (scalar_texts (scalars_of l.scalars))

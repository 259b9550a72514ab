use Rattle.std.proofs.Common.{◌≡◌, ◌++◌, map, drop}
use Rattle.rel_algebra.specs.Merged.{moved_scalars}
use Rattle.rel_algebra.specs.PlanView.{scalars_of, link_of}
use Rattle.plan_expressions.specs.Emission.{put}
use Rattle.plan_expressions.specs.Merging.{move_of, moved_link}
use Rattle.plan_expressions.proofs.moved.+moved.Given as goal

abbrev pub invariant-moved_links-loop-link : goal.invariant-moved_links-loop-link
invariant-moved_links-loop-link l =
    map link_of l.moved ++ map (moved_link (move_of l.shift) l.depth)
    (map link_of (drop l.link-index l.links)) ≡ map (moved_link (move_of l.fn.shift) l.fn.depth)
    (map link_of l.links)

abbrev pub invariant-moved_list-loop-scalar : goal.invariant-moved_list-loop-scalar
invariant-moved_list-loop-scalar l =
    put l.moved (moved_scalars (move_of l.shift) l.depth
    (scalars_of (drop l.scalar-index l.scalars))) ≡ moved_scalars (move_of l.fn.shift) l.fn.depth
    (scalars_of l.scalars)

use Rattle.std.proofs.Common.{◌≡◌, take}
use Rattle.plan_expressions.proofs.copied.+copied.Given as goal

abbrev pub invariant-copied_links-loop-link : goal.invariant-copied_links-loop-link
invariant-copied_links-loop-link l = l.copies ≡ take l.link-index l.links

abbrev pub invariant-copied_list-loop-scalar : goal.invariant-copied_list-loop-scalar
invariant-copied_list-loop-scalar l = l.copies ≡ take l.scalar-index l.scalars

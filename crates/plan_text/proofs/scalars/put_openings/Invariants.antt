use Rattle.std.proofs.Common.{◌≡◌, ◌≤◌, ◌++◌, map, drop, length}
use Rattle.rel_algebra.specs.PlanView.{link_of}
use Rattle.plan_text.specs.Parts.{openings}
use Rattle.plan_text.proofs.scalars.put_openings.Given as goal

-- what is written are the words of the operators that are passed
abbrev pub invariant-loop-left : goal.invariant-loop-left
invariant-loop-left l = record {
  text : l.text.items ≡ l.fn.text.items ++ openings (map link_of (drop l.left l.links));
  within : l.left ≤ length l.links;
}

abbrev pub decreases-loop-left : goal.decreases-loop-left
decreases-loop-left l = l.left

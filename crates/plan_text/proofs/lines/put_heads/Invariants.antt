use Rattle.std.proofs.Common.{◌≡◌, ◌≤◌, ◌+◌, ◌++◌, drop, length}
use Rattle.plan_text.specs.Parts.{all_parts, heads}
use Rattle.plan_text.proofs.lines.put_heads.Given as goal

-- what is written are the lines of the nodes that are passed
abbrev pub invariant-loop-left : goal.invariant-loop-left
invariant-loop-left l = record {
  text : l.text.items ≡ l.fn.text.items ++ heads (all_parts l.in_run (drop l.left l.nodes)) l.depth;
  deep : l.inside ≡ l.depth + length (all_parts l.in_run (drop l.left l.nodes));
  within : l.left ≤ length l.nodes;
}

abbrev pub decreases-loop-left : goal.decreases-loop-left
decreases-loop-left l = l.left

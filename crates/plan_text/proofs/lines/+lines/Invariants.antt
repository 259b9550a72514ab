use Rattle.std.proofs.Common.{◌≡◌, ◌++◌, drop}
use Rattle.plan_text.specs.Parts.{all_parts, tails}
use Rattle.plan_text.proofs.lines.+lines.Given as goal

-- what is left comes after what is written
abbrev pub invariant-put_tails-loop-node : goal.invariant-put_tails-loop-node
invariant-put_tails-loop-node l =
    l.text.items ++ tails (all_parts l.in_run (drop l.node-index l.nodes)) l.inside ≡
    l.fn.text.items ++ tails (all_parts l.in_run l.nodes) l.depth

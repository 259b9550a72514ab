use Rattle.std.proofs.Common.{◌≡◌, ◌++◌, map, drop, codes}
use Rattle.std.specs.List.{flat_map}
use Rattle.rel_algebra.specs.PlanView.{lists_of}
use Rattle.plan_text.specs.ScalarText.{after}
use Rattle.plan_text.specs.PlanLines.{row_text}
use Rattle.plan_text.proofs.lists.put_more_rows.Given as goal

abbrev pub invariant-loop-row : goal.invariant-loop-row
invariant-loop-row l =
    l.text.items ++ flat_map (after (codes "; "))
    (map row_text (lists_of (drop l.row-index l.rows))) ≡
    l.fn.text.items ++ flat_map (after (codes "; ")) (map row_text (lists_of l.rows))

use Rattle.std.proofs.Common.{◌≡◌, take}
use Rattle.bound_equality.proofs.same.+same.Given as goal

abbrev pub invariant-same_exprs-loop-i : goal.invariant-same_exprs-loop-i
invariant-same_exprs-loop-i l = take l.i l.one ≡ take l.i l.other

abbrev pub invariant-same_links-loop-i : goal.invariant-same_links-loop-i
invariant-same_links-loop-i l = take l.i l.one ≡ take l.i l.other

abbrev pub invariant-same_rows-loop-i : goal.invariant-same_rows-loop-i
invariant-same_rows-loop-i l = take l.i l.one ≡ take l.i l.other

abbrev pub invariant-same_items-loop-i : goal.invariant-same_items-loop-i
invariant-same_items-loop-i l = take l.i l.one ≡ take l.i l.other

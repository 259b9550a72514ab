use Rattle.std.proofs.Common.{◌≡◌, drop}
use Rattle.three_valued.specs.declared.truth.Truth.TheVariants.{False}
use Rattle.plan_rows.proofs.Among.{or_all}
use Rattle.plan_rows.proofs.cells.among.Given as goal

abbrev pub invariant-loop-item : goal.invariant-loop-item
invariant-loop-item l = or_all l.so_far l.value (drop l.item-index l.list) ≡
    or_all False l.value l.list

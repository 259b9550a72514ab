use Rattle.std.proofs.Common.{◌≡◌, drop, false}
use Rattle.sql_values.specs.declared.value.Value.TheVariants.{Bool as Truth}
use Rattle.rel_algebra.specs.Endings.{among}
use Rattle.run_choices.proofs.values.among.Given as goal

abbrev pub invariant-loop-item : goal.invariant-loop-item
invariant-loop-item l = among l.so_far l.value (drop l.item-index l.list) ≡ among
    (Truth false) l.value l.list

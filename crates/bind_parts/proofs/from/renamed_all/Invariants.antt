use Rattle.std.proofs.Common.{◌≡◌, length, ◌++◌}
use Rattle.bind_parts.specs.From.{renamed_all}
use Rattle.bind_parts.proofs.from.renamed_all.Given as goal

abbrev pub invariant-loop-names : goal.invariant-loop-names
invariant-loop-names l = l.found ++ renamed_all l.names l.columns ≡ renamed_all l.initial.names
    l.initial.columns

abbrev pub decreases-loop-names : goal.decreases-loop-names
decreases-loop-names l = length l.names

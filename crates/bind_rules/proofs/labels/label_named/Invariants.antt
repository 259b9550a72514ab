use Rattle.std.proofs.Common.{◌≡◌, drop, map}
use Rattle.bind_rules.specs.Labels.{label_from, label_named, label_by}
use Rattle.bind_rules.proofs.labels.label_named.Given as goal

abbrev pub invariant-loop-level : goal.invariant-loop-level
invariant-loop-level l = label_from l.level l.name (map label_by (drop l.level l.labels)) ≡
    label_named l.name (map label_by l.labels)

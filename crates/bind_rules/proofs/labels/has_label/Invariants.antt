use Rattle.std.proofs.Common.{◌≡◌, map, drop}
use Rattle.bind_rules.specs.Labels.{has_label, label_by}
use Rattle.bind_rules.proofs.labels.has_label.Given as goal

abbrev pub invariant-loop-label : goal.invariant-loop-label
invariant-loop-label l = has_label l.name (map label_by (drop l.label-index l.labels)) ≡
    has_label l.name (map label_by l.labels)

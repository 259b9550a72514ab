use Rattle.std.proofs.Common.{◌≡◌, drop}
use Rattle.std.specs.List.{flat_map}
use Rattle.bind_faults.specs.Faults.{noted}
use Rattle.bind_rules.specs.Names.{unknown_in}
use Rattle.bind_rules.proofs.names.note_unknown.Given as goal

abbrev pub invariant-loop-ident : goal.invariant-loop-ident
invariant-loop-ident l = noted l.least (flat_map (unknown_in l.columns)
    (drop l.ident-index l.idents)) ≡ noted l.initial.least
    (flat_map (unknown_in l.columns) l.idents)

use Rattle.std.proofs.Common.{◌≡◌, drop}
use Rattle.std.specs.List.{flat_map}
use Rattle.bind_faults.specs.Faults.{noted}
use Rattle.bind_definitions.specs.Tables.{type_faults_in}
use Rattle.bind_definitions.proofs.table.note_types.Given as goal

abbrev pub invariant-loop-element : goal.invariant-loop-element
invariant-loop-element l = noted l.least (flat_map type_faults_in (drop l.element-index l.elements))
    ≡ noted l.initial.least (flat_map type_faults_in l.elements)

use Rattle.std.proofs.Common.{◌≡◌, drop}
use Rattle.std.specs.List.{flat_map}
use Rattle.bind_faults.specs.Faults.{noted}
use Rattle.bind_definitions.specs.Tables.{key_list_faults}
use Rattle.bind_definitions.proofs.table.note_key_lists.Given as goal

abbrev pub invariant-loop-element : goal.invariant-loop-element
invariant-loop-element l = noted l.least (flat_map (key_list_faults l.names)
    (drop l.element-index l.elements)) ≡ noted l.initial.least
    (flat_map (key_list_faults l.names) l.elements)

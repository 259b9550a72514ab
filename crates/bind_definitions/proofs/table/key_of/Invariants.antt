use Rattle.std.proofs.Common.{◌≡◌, drop}
use Rattle.bind_definitions.specs.Tables.{key_of}
use Rattle.bind_definitions.proofs.table.key_of.Given as goal

abbrev pub invariant-loop-element : goal.invariant-loop-element
invariant-loop-element l = key_of l.names (drop l.element-index l.elements) ≡
    key_of l.names l.elements

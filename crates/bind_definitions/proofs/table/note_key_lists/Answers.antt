use Rattle.std.proofs.Common.{◌∙◌, arith}
use Rattle.bind_definitions.specs.Tables.{key_list_faults}
use Rattle.bind_definitions.proofs.Elements.{faults-more}
use Rattle.bind_definitions.proofs.table.note_key_lists.Goals as goal

pub loop-element-preserved : goal.loop-element-preserved
loop-element-preserved c =
    faults-more (key_list_faults c.args.names.now) c.args.elements.now c.loop-element.element-index
    c.element-item.result c.loop-element.least _
    (omega arith) c.element-item.is c.in_ok-note_key_list.ensures ∙ c.loop-element.invariant

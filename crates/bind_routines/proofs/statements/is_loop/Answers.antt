use Rattle.std.proofs.Common.{sym, ◌∙◌}
use Rattle.bind_routines.proofs.Layers.{loop_layer}
use Rattle.bind_routines.proofs.statements.is_loop.Goals as goal

pub returns : goal.returns
returns c = c.loops.ensures ∙ sym (loop_layer c.args.structure.now)

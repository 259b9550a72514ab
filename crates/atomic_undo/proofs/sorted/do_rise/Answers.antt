use Rattle.std.proofs.Common.{sym, ◌∙◌, arith}
use Rattle.row_types.specs.Rows.{by_key}
use Rattle.atomic_undo.proofs.Placing.{rises_end}
use Rattle.atomic_undo.proofs.sorted.do_rise.Goals as goal

pub returns : goal.returns
returns c = let t = c.loop-i-test.false in sym (c.loop-i.invariant.up ∙
    rises_end (by_key c.args.key.now) c.args.rows.now c.loop-i.i (omega arith))

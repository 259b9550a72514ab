use Rattle.std.proofs.Common.{arith, length, ap}
use Rattle.reply_text.specs.Writers.{written}
use Rattle.reply_text.proofs.Records.{row_written}
use Rattle.reply_text.proofs.reply.records_text.Goals as goal

pub loop-alloc-preserved-in-Continue-1 : goal.loop-alloc-preserved-in-Continue-1
loop-alloc-preserved-in-Continue-1 g c = (
  row_written c.in-Some.row c.take_first.new.self c.loop-alloc.rows (written c.loop-alloc.writer)
      (written c.write_row.new.writer) _ c.in-Some.ensures.row c.in_ok-write_row.ensures.text
      c.loop-alloc.invariant.0,
  omega (arith, c.loop-alloc.invariant.1, c.in-Some.ensures.step, ap length c.in-Some.ensures.row),
  c.in_ok-write_row.ensures.between,
)

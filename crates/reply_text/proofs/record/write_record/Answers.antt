use Rattle.reply_text.proofs.Fields.{within-start}
use Rattle.reply_text.proofs.record.write_record.Goals as goal

pub loop-value-init : goal.loop-value-init
loop-value-init c = within-start c.args.writer.now c.requires

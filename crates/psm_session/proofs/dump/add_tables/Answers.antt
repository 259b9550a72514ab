use Rattle.std.proofs.Common.{arith, ap, ◌++◌, ◌∙◌}
use Rattle.reply_text.specs.Texts.{table_text}
use Rattle.table_store.specs.Kept.{Kept}
use Rattle.psm_session.proofs.Dumped.{table_written}
use Rattle.psm_session.proofs.dump.add_tables.Goals as goal

pub loop-at-preserved : goal.loop-at-preserved
loop-at-preserved c = table_written c.args.tables.now.tables c.args.names.now c.loop-at.at
    c.index-names-at.result c.args.dump.now c.loop-at.dump c.add_table.new.dump (omega arith)
    c.requires c.index-names-at.is c.loop-at.invariant
    (c.in_ok-add_table.ensures ∙ ap (λ (k : Kept). c.loop-at.dump ++
    table_text c.index-names-at.result k.table.rows) c.table_at.ensures)

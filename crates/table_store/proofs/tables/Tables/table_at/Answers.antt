use Rattle.std.proofs.Common.{sym}
use Rattle.table_store.proofs.Memory.{kept_is}
use Rattle.table_store.proofs.tables.Tables.table_at.Goals as goal

pub returns : goal.returns
returns c = sym (kept_is c.self.inside.entries.entries c.args.self.now c.args.t c.index.result.now
    c.self.view_is c.index.ensures)

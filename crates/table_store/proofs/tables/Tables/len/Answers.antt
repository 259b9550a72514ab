use Rattle.std.proofs.Common.{length, ap, sym, ◌∙◌}
use Rattle.table_store.specs.Memory.{Memory}
use Rattle.table_store.proofs.Memory.{length-stored}
use Rattle.table_store.proofs.Named.{distinct_there}
use Rattle.table_store.proofs.WellKept.{AllWellKept-view}
use Rattle.table_store.proofs.tables.Tables.len.Goals as goal

pub returns-clause-value : goal.returns-clause-value
returns-clause-value c = c.len.ensures.len ∙ sym (length-stored c.self.inside.entries.entries) ∙
    ap (λ (m : Memory). length m.tables) c.self.view_is

pub returns-clause-names : goal.returns-clause-names
returns-clause-names c = distinct_there c.self.inside.entries.entries c.args.self.now c.self.view_is
    c.len.ensures.unique

pub returns-clause-rows : goal.returns-clause-rows
returns-clause-rows c = AllWellKept-view c.self.inside.entries.entries c.args.self.now
    c.self.view_is c.self.invariant

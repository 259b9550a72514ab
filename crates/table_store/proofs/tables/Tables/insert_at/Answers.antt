use Rattle.std.proofs.Common.{subst, insert}
use Rattle.table_store.specs.Kept.{Kept, CanInsert}
use Rattle.table_store.proofs.Memory.{kept_is, tables_are, no_less_is}
use Rattle.table_store.proofs.WellKept.{kept_with}
use Rattle.table_store.proofs.tables.Tables.insert_at.Goals as goal

pub insert_at-requires : goal.insert_at-requires
insert_at-requires c = subst (λ (k : Kept). CanInsert k c.args.at c.args.row)
    (kept_is c.self.inside.entries.entries c.args.self.now c.args.t c.index_mut.result.now
    c.self.view_is c.index_mut.ensures.value) c.requires.can

pub returns-clause-tables : goal.returns-clause-tables
returns-clause-tables c =
    tables_are (λ rows. insert rows c.args.at c.args.row) c.self.inside.entries.entries
    c.args.self.now c.args.t c.index_mut.result.now c.insert_at.new.self c.self.view_is
    c.index_mut.ensures.value
    c.insert_at.ensures.rows

pub returns-clause-capacities : goal.returns-clause-capacities
returns-clause-capacities c = no_less_is c.self.inside.entries.entries c.args.self.now c.args.t
    c.index_mut.result.now c.insert_at.new.self c.self.view_is c.index_mut.ensures.value
    c.insert_at.ensures.capacity

pub invariant_of-self : goal.invariant_of-self
invariant_of-self c =
    kept_with c.self.inside.entries.entries c.args.self.now c.args.t c.index_mut.result.now
    c.insert_at.new.self c.self.view_is c.index_mut.ensures.value c.self.invariant
    (λ rows. insert rows c.args.at c.args.row) c.insert_at.ensures.rows c.requires.can.kept

use Rattle.std.proofs.Common.{arith, subst}
use Rattle.table_store.specs.Kept.{Kept, CanInsertAll}
use Rattle.table_store.specs.Places.{inserted_all}
use Rattle.table_store.proofs.Memory.{kept_is, tables_are, no_less_is}
use Rattle.table_store.proofs.WellKept.{kept_with}
use Rattle.table_store.proofs.tables.Tables.insert_all.Goals as goal

pub insert_all-requires : goal.insert_all-requires
insert_all-requires c = subst (λ (k : Kept). CanInsertAll k c.args.new)
    (kept_is c.self.inside.entries.entries c.args.self.now c.args.t c.index_mut.result.now
    c.self.view_is c.index_mut.ensures.value) c.requires.can

pub returns-clause-tables : goal.returns-clause-tables
returns-clause-tables c =
    tables_are (λ rows. inserted_all c.args.new rows) c.self.inside.entries.entries c.args.self.now
    c.args.t c.index_mut.result.now c.insert_all.new.self c.self.view_is c.index_mut.ensures.value
    c.insert_all.ensures.rows

pub returns-clause-capacities : goal.returns-clause-capacities
returns-clause-capacities c = no_less_is c.self.inside.entries.entries c.args.self.now c.args.t
    c.index_mut.result.now c.insert_all.new.self c.self.view_is c.index_mut.ensures.value
    (let e = c.insert_all.ensures.capacity in omega arith)

pub invariant_of-self : goal.invariant_of-self
invariant_of-self c =
    kept_with c.self.inside.entries.entries c.args.self.now c.args.t c.index_mut.result.now
    c.insert_all.new.self c.self.view_is c.index_mut.ensures.value c.self.invariant
    (λ rows. inserted_all c.args.new rows) c.insert_all.ensures.rows c.requires.can.kept
